-- An output that grows event by event.
use Rattle.std.specs.Prelude.{ℕ, List, [], ◌∷◌, ◌++◌, pos}
use Rattle.cpp_output.specs.declared.last.Last.{Last}
use Rattle.cpp_output.specs.declared.last.Last.TheVariants.{Nothing}
use Rattle.cpp_output.specs.Layout.{Event, marker, written, line_after, last_after, fresh}

-- the text so far, the physical line that its last line stands for, and what stands last on that line
pub record Laid : Type 0 where
  pub text : List ℕ
  pub at : ℕ
  pub last : Last

-- the output of a source with this name, before its first event
unfoldable pub begun : List ℕ → Laid
begun name = record { text = marker (pos 1) name []; at = 1; last = Nothing }

-- one event more
unfoldable pub after_event : Laid → Event → Laid
after_event s e = record { text = s.text ++ written s.at s.last e; at = line_after s.at e; last = last_after e }

-- more events, in their order
unfoldable pub after_events : Laid → List Event → Laid
after_events s [] = s
after_events s (e ∷ es) = after_events (after_event s e) es

-- the text with its last line ended
abbrev pub finished : Laid → List ℕ
finished s = s.text ++ fresh s.last
