-- A text that grows event by event, and its length.
use Rattle.std.proofs.Common.{◌≡◌, ◌≤◌, List, [], ◌∷◌, ◌++◌, length, refl, append_assoc, length-append, arith, ◌∙◌}
use Rattle.cpp_output.specs.Layout.{Event, written, line_after, last_after, text_of_events}
use Rattle.cpp_output.specs.Laid.{Laid, after_event, after_events, finished}

-- what has grown, with the text of the events to come, is the same at each step
pub finished-after : (es : List Event) (s : Laid) → finished (after_events s es) ≡ s.text ++ text_of_events s.at s.last es
unfolding after_events after_event text_of_events
finished-after [] s = refl
finished-after (e ∷ es) s =
    finished-after es (after_event s e)
    ∙ append_assoc s.text (written s.at s.last e) (text_of_events (line_after s.at e) (last_after e) es)

-- a text never gets shorter
pub longer-after : (es : List Event) (s : Laid) → length s.text ≤ length (after_events s es).text
unfolding after_events after_event
longer-after [] s = omega arith
longer-after (e ∷ es) s =
    omega (arith, longer-after es (after_event s e), length-append s.text (written s.at s.last e))
