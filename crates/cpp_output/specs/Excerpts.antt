-- An output and an excerpt of a file that isn't written yet. No definition beside this one rests on it.
use Rattle.std.specs.Prelude.{◌≡◌, ℕ, max, List, ◌∷◌, ◌++◌}
use Rattle.pp_tokens.specs.declared.Token.{Token}
use Rattle.pp_tokens.specs.Excerpts.{Excerpted}
use Rattle.cpp_output.specs.Layout.{put, gap, newlines_between, last_at, last_on_line}
use Rattle.cpp_output.specs.Laid.{Laid, after_event}

-- what stands in an output before its next token
abbrev pub before_token : Laid → Token → List ℕ
before_token s t = newlines_between s.at t.line ++ gap (last_at s.at s.last t.line) t

-- an output whose last token is this one, with this text
abbrev pub behind_token : List ℕ → Laid → Token → Laid
behind_token text s t = record { text = text; at = max s.at t.line; last = last_on_line t.text }

-- the output with what was taken
abbrev pub with_excerpt : Laid → Excerpted → Laid
with_excerpt s e = record { text = s.text ++ e.taken; at = s.at; last = s.last }

-- the first token of an excerpt is put behind what was taken before
abbrev pub TakesNext : Laid → Excerpted → Laid → Excerpted → Token → Type 0
TakesNext s e u f t = (with_excerpt u f ≡ after_event (with_excerpt s e) (put t)) × (e.rest ≡ t ∷ f.rest)
