use Rattle.std.proofs.Common.{◌≡◌, ◌-◌, List, ℕ, Some, None, take, length, refl, sym, ◌∙◌, ap}
use Rattle.std.specs.Option.{option_copied}
use Rattle.std.specs.List.{slice_get}
use Rattle.pp_tokens.specs.parts.Seen.{last_end}
use Rattle.pp_tokens.proofs.Places.{last_end_is, no_last}
use Rattle.pp_tokens.proofs.lexer.Gathering.drop_line.Goals as goal

pub returns-in-Some : goal.returns-in-Some
returns-in-Some c =
    let ends = c.args.self.now.ends.items in
    let last : slice_get ends (length ends - 1) ≡ Some c.in-Some.end.now =
    ap (λ (l : List ℕ). slice_get l (length l - 1)) (sym c.deref.ensures.value) ∙ sym c.last.ensures.value ∙ ap option_copied c.in-Some.is in
    record {
      places = c.truncate.ensures.items ∙ ap (λ n. take n c.args.self.now.places.items) (sym (last_end_is 0 ends c.in-Some.end.now last));
      ends = refl;
      unended = refl;
    }

pub returns-in-None : goal.returns-in-None
unfolding last_end
returns-in-None c =
    let ends = c.args.self.now.ends.items in
    let last : slice_get ends (length ends - 1) ≡ None =
    ap (λ (l : List ℕ). slice_get l (length l - 1)) (sym c.deref.ensures.value) ∙ sym c.last.ensures.value ∙ ap option_copied c.in-None.is in
    record {
      places = c.truncate-in-None.ensures.items ∙ ap (λ (l : List ℕ). take (last_end 0 l) c.args.self.now.places.items) (sym (no_last ends last));
      ends = refl;
      unended = refl;
    }
