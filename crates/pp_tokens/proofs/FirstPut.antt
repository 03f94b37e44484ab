-- What stands first at a place is gathered: what is left of the text begins behind it.
use Rattle.std.specs.Prelude.{◌≡◌, ℕ, ◌+◌, ◌≤◌, ◌<◌, ◌==◌, length, take, drop, List}
use Rattle.std.proofs.Common.{sym, arith, subst, length-drop}
use Rattle.std.proofs.lemmas.List.Sums.{count_by-le-length}
use Rattle.std.proofs.lemmas.List.{length-take-le}
use Rattle.pp_tokens.specs.declared.lexer.Gathering.{Gathering}
use Rattle.pp_tokens.specs.declared.unpaired.Unpaired.{Unpaired}
use Rattle.pp_tokens.specs.Lined.{spliced_up_to}
use Rattle.pp_tokens.specs.Lines.{LexedFile}
use Rattle.pp_tokens.specs.parts.Gathered.{newlines, IsGathered, Gathers, PutsFirst}
use Rattle.pp_tokens.specs.parts.Text.{is_due}
use Rattle.pp_tokens.specs.parts.Unpaired.{KnowsUnpaired}
use Rattle.pp_tokens.proofs.LaterPlaces.{known_later}
use Rattle.pp_tokens.proofs.LexSteps.{LexState, first_fits, lex_step}
use Rattle.pp_tokens.proofs.Splices.{up_to_later}

-- what holds of a loop over the parts of a text, behind one more of them
pub record PutOn (view : LexedFile → LexedFile) (text splices : List ℕ) (new : Gathering) (at passed : ℕ) (behind : ℕ × ℕ) : Type 0 where
  pub later : at < behind.0
  pub within : behind.0 ≤ length text
  pub counted : behind.1 ≤ behind.0 + 1
  pub passes : passed ≤ spliced_up_to splices behind.0
  pub few : length new.places.items ≤ behind.0
  pub gathered : IsGathered text new
  pub state : LexState view text splices new behind.0 behind.1

-- what is gathered of the part, on the line that the splices before it tell
pub gathers_at : (text splices : List ℕ) (old new : Gathering) (at base passed : ℕ) (behind : ℕ × ℕ) → passed ≡ spliced_up_to splices at
    → (put : PutsFirst text old new at base (base + passed) behind)
    → Gathers text old new put.part (take put.size (drop at text)) (base + spliced_up_to splices at)
gathers_at text splices old new at base passed behind up put =
    subst (λ m. Gathers text old new put.part (take put.size (drop at text)) (base + m)) up put.gathers

pub first_put : (view : LexedFile → LexedFile) (text splices : List ℕ) (old new : Gathering) (at base passed : ℕ) (behind : ℕ × ℕ) → at < length text → base ≤ at + 1 → length old.places.items ≤ at
    → passed ≡ spliced_up_to splices at → LexState view text splices old at base → PutsFirst text old new at base (base + passed) behind → PutOn view text splices new at passed behind
first_put view text splices old new at base passed behind below counted few up state put =
    let n = put.size in
    let word = take n (drop at text) in
    let fits = first_fits text at (is_due old.before) put.part n below put.first in
    let step = gathers_at text splices old new at base passed behind up put in
    let lines : newlines word ≤ n = omega (arith, count_by-le-length (λ b. b == 10) word, length-take-le n (drop at text) (omega (arith, fits.1, length-drop at text))) in
    let next : LexState view text splices new (at + n) (base + newlines word) = lex_step view text splices old new at base n put.part state below put.first step in
    record {
      later = omega (arith, fits.0, put.place);
      within = omega (arith, fits.1, put.place);
      counted = omega (arith, lines, put.place, put.counted, counted);
      passes = subst (λ i. passed ≤ spliced_up_to splices i) (sym put.place) (omega (arith, up, up_to_later splices at n));
      few = omega (arith, step.few, few, fits.0, put.place);
      gathered = step.gathered;
      state = subst (λ i. LexState view text splices new i behind.1) (sym put.place) (subst (λ m. LexState view text splices new (at + n) m) (sym put.counted) next);
    }

pub known_behind : (known : Unpaired) (text : List ℕ) (old new : Gathering) (at base line : ℕ) (behind : ℕ × ℕ) → KnowsUnpaired known text at → PutsFirst text old new at base line behind
    → KnowsUnpaired known text behind.0
known_behind known text old new at base line behind k put = subst (KnowsUnpaired known text) (sym put.place) (known_later known text at put.size k)
