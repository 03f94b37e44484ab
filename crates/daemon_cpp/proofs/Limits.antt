-- More output, within the limit or past it.
use Rattle.std.proofs.Common.{◌≡◌, ◌≤◌, ◌<◌, [], ◌∷◌, length, refl, sym, ◌∙◌, ap}
use Rattle.std.proofs.lemmas.Bool.{le-leb, lt-leb}
use Rattle.base_types.specs.Limits.{text_limit}
use Rattle.cpp_output.specs.Layout.{Event}
use Rattle.cpp_output.specs.Laid.{Laid, after_event, after_events}
use Rattle.daemon_cpp.specs.Diagnostics.{TextLimit}
use Rattle.daemon_cpp.specs.Prep.{State, Go, limited, say, complain_of_job}

pub within : (s : State) → length s.output.text ≤ text_limit → limited s ≡ Go s
within s fits = rw (le-leb (length s.output.text) text_limit fits) refl

pub past : (s : State) → text_limit < length s.output.text → limited s ≡ complain_of_job TextLimit s
past s long = rw (lt-leb (length s.output.text) text_limit long) refl

-- no event, one event, and one that doesn't fit
pub say-none : (output : Laid) (s : State) → s.output ≡ output → length output.text ≤ text_limit → say [] s ≡ Go (record s { output = output })
unfolding after_events
say-none output s same fits =
    ap (λ (o : Laid). limited (record s { output = o })) same ∙ within (record s { output = output }) fits

pub say-one : (event : Event) (before after : Laid) (s : State) → s.output ≡ before → after ≡ after_event before event → length after.text ≤ text_limit → say (event ∷ []) s ≡ Go (record s { output = after })
unfolding after_events
say-one event before after s same grown fits =
    ap (λ (o : Laid). limited (record s { output = after_event o event })) same
    ∙ ap (λ (o : Laid). limited (record s { output = o })) (sym grown)
    ∙ within (record s { output = after }) fits

pub say-full : (event : Event) (before : Laid) (s : State) → s.output ≡ before → text_limit < length (after_event before event).text → say (event ∷ []) s ≡ complain_of_job TextLimit (record s { output = after_event before event })
unfolding after_events
say-full event before s same long =
    ap (λ (o : Laid). limited (record s { output = after_event o event })) same
    ∙ past (record s { output = after_event before event }) long
