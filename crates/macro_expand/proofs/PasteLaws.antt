-- How two tokens are pasted, and pieces joined one by one.
use mathlib.Core.Path.{fun_ext}
use Rattle.std.proofs.Common.{◌≡◌, ℕ, Bool, true, false, List, [], ◌∷◌, ◌++◌, ◌&&◌, map, refl, ap, sym, ◌∙◌, append_assoc, subst, Result, Ok, Err, Option, Some, None}
use Rattle.macro_expand.specs.declared.marked.Marked.{Marked as Kept}
use Rattle.macro_expand.specs.declared.outcome.RunError.{RunError}
use Rattle.macro_expand.specs.declared.outcome.RunError.TheVariants.{Count as CountError, Unclosed as UnclosedError, Paste as PasteError, Deep as DeepError, Work as WorkError, Presumed as PresumedError, Memory}
use Rattle.pp_tokens.specs.declared.Kind.{Kind}
use Rattle.pp_tokens.specs.Grammar.{kind_of}
use Rattle.macro_expand.specs.Sets.{names_in}
use Rattle.macro_expand.specs.Replacement.{Marked, PasteOperand, operand_tokens, common_names, Piece, Real, Placemarker, Joining, pasted, before_joined, joins_made}
use Rattle.macro_expand.specs.declared.paste.Joining.{Joining as Joiner}
use Rattle.macro_expand.specs.Seen.{ReportsPaste, marked_of, paste_operand, pasted_as}
use Rattle.macro_expand.specs.parts.Pasting.{tokens_in_front, joined_from}

-- Two tokens pasted (6.10.3.3).
abbrev pub Paste_of : Kept → Kept → List ℕ → Option Kind → Result PasteOperand (List ℕ × List ℕ)
Paste_of a b text None = Err (a.token.text, b.token.text)
Paste_of a b text (Some k) = Ok (Some (record {
  token = record { kind = k; text = text; line = a.token.line; space = a.token.space };
  hidden = common_names (names_in a.hidden) (names_in b.hidden);
}))

paste_is : (a b : Kept) (text : List ℕ) (o : Option Kind) → text ≡ a.token.text ++ b.token.text → o ≡ kind_of text →
    pasted (Some (marked_of a)) (Some (marked_of b)) ≡ Paste_of a b text o
unfolding pasted
paste_is a b text o is kind = go (kind_of (a.token.text ++ b.token.text))
    ∙ ap (Paste_of a b (a.token.text ++ b.token.text)) (ap kind_of (sym is) ∙ sym kind) ∙ ap (λ t. Paste_of a b t o) (sym is)
  where
    go : (o : Option Kind) → (elim o as (λ o. Result PasteOperand (List ℕ × List ℕ)) [
      | None ↦ Err (a.token.text, b.token.text)
      | Some kind ↦ Ok (Some (record {
        token = record { kind = kind; text = a.token.text ++ b.token.text; line = a.token.line; space = a.token.space };
        hidden = common_names (names_in a.hidden) (names_in b.hidden);
      }))
    ]) ≡ Paste_of a b (a.token.text ++ b.token.text) o
    go None = refl
    go (Some k) = refl

pub made_none : (a b : Kept) (text : List ℕ) (o : Option Kind) → text ≡ a.token.text ++ b.token.text → o ≡ kind_of text → o ≡ None →
    pasted (Some (marked_of a)) (Some (marked_of b)) ≡ pasted_as a b None
made_none a b text o is kind none = paste_is a b text o is kind ∙ ap (Paste_of a b text) none

pub made_some : (a b : Kept) (text : List ℕ) (o : Option Kind) (k : Kind) (hidden : List (List ℕ)) → text ≡ a.token.text ++ b.token.text →
    o ≡ kind_of text → o ≡ Some k → ((n : List ℕ) → names_in hidden n ≡ (names_in a.hidden n && names_in b.hidden n)) →
    pasted (Some (marked_of a)) (Some (marked_of b))
    ≡ pasted_as a b (Some (record { token = record { kind = k; text = text; line = a.token.line; space = a.token.space }; hidden = hidden; stamp = 0 }))
made_some a b text o k hidden is kind some both =
    paste_is a b text o is kind ∙ ap (Paste_of a b text) some
    ∙ ap (λ h. Ok (Some (record { token = record { kind = k; text = text; line = a.token.line; space = a.token.space }; hidden = h })))
    (sym (fun_ext both))

abbrev pub Joined : Type 0
Joined = Result (List Marked) (List ℕ × List ℕ)

pub tokens_in_front-nothing : (r : Joined) → tokens_in_front [] r ≡ r
unfolding tokens_in_front
tokens_in_front-nothing (Ok us) = refl
tokens_in_front-nothing (Err e) = refl

tokens_in_front-operand : (ts : List Marked) (left : PasteOperand) (r : Joined) →
    tokens_in_front ts (before_joined left r) ≡ tokens_in_front (ts ++ operand_tokens left) r
unfolding tokens_in_front
tokens_in_front-operand ts left (Ok us) = ap Ok (sym (append_assoc ts (operand_tokens left) us))
tokens_in_front-operand ts left (Err e) = refl

module _ (whole : Joined) (out : List Marked) (left : PasteOperand) (ps : List Piece) where
  pub keeps_joining : (b : Bool) → whole ≡ tokens_in_front out (joins_made left b (Joining ∷ ps)) → whole ≡ tokens_in_front out (joins_made left true ps)
  unfolding joins_made
  keeps_joining true h = h
  keeps_joining false h = h

  pub keeps_placemarker : (next : List Marked) → next ≡ out ++ operand_tokens left →
      whole ≡ tokens_in_front out (joins_made left false (Placemarker ∷ ps)) → whole ≡ tokens_in_front next (joins_made None false ps)
  unfolding joins_made
  keeps_placemarker next made h =
      h ∙ tokens_in_front-operand out left (joins_made None false ps) ∙ ap (λ w. tokens_in_front w (joins_made None false ps)) (sym made)

  pub keeps_joined_placemarker : whole ≡ tokens_in_front out (joins_made left true (Placemarker ∷ ps)) → whole ≡ tokens_in_front out (joins_made left false ps)
  unfolding joins_made
  keeps_joined_placemarker h = h

  pub keeps_real : (next : List Marked) (m : Marked) → next ≡ out ++ operand_tokens left →
      whole ≡ tokens_in_front out (joins_made left false (Real m ∷ ps)) → whole ≡ tokens_in_front next (joins_made (Some m) false ps)
  unfolding joins_made
  keeps_real next m made h =
      h ∙ tokens_in_front-operand out left (joins_made (Some m) false ps) ∙ ap (λ w. tokens_in_front w (joins_made (Some m) false ps)) (sym made)

  pub keeps_pasted : (m : Marked) (made : PasteOperand) → pasted left (Some m) ≡ Ok made →
      whole ≡ tokens_in_front out (joins_made left true (Real m ∷ ps)) → whole ≡ tokens_in_front out (joins_made made false ps)
  unfolding joins_made
  keeps_pasted m made e h =
      h ∙ ap (λ r. tokens_in_front out (elim r as (λ r. Joined) [ Ok made ↦ joins_made made false ps | Err e ↦ Err e ])) e

  pub paste_fails : (m : Marked) (e : RunError) (line : ℕ) → ReportsPaste e line (pasted left (Some m)) →
      whole ≡ tokens_in_front out (joins_made left true (Real m ∷ ps)) → ReportsPaste e line whole
  unfolding joins_made tokens_in_front
  paste_fails m (CountError name at) line r h = absurd r
  paste_fails m (UnclosedError name at) line r h = absurd r
  paste_fails m (PasteError a b at) line r h =
      (r.0, h ∙ ap (λ r. tokens_in_front out (elim r as (λ r. Joined) [ Ok made ↦ joins_made made false ps | Err e ↦ Err e ])) r.1)
  paste_fails m (DeepError at) line r h = absurd r
  paste_fails m WorkError line r h = absurd r
  paste_fails m PresumedError line r h = absurd r
  paste_fails m Memory line r h = tt

pub keeps_last : (whole : Joined) (out next : List Marked) (left : PasteOperand) (b : Bool) → next ≡ out ++ operand_tokens left →
    whole ≡ tokens_in_front out (joins_made left b []) → whole ≡ Ok next
unfolding joins_made tokens_in_front
keeps_last whole out next left true made h = h ∙ ap Ok (sym made)
keeps_last whole out next left false made h = h ∙ ap Ok (sym made)

-- The same over what code has joined.
module _ (j : Joiner) (ps : List Piece) where
  From : List Kept → Option Kept → Bool → List Piece → Joined
  From out left b qs = tokens_in_front (map marked_of out) (joins_made (paste_operand left) b qs)

  now_at : (left : Option Kept) (b : Bool) (qs : List Piece) → left ≡ j.left → j.joining ≡ b → joined_from j qs ≡ From j.out.items left b qs
  unfolding From
  now_at left b qs same is =
      ap (λ o. tokens_in_front (map marked_of j.out.items) (joins_made (paste_operand o) j.joining qs)) (sym same)
      ∙ ap (λ c. tokens_in_front (map marked_of j.out.items) (joins_made (paste_operand left) c qs)) is

  pub turn_joining : joined_from j (Joining ∷ ps) ≡ joined_from (record j { joining = true }) ps
  turn_joining = keeps_joining _ (map marked_of j.out.items) (paste_operand j.left) ps j.joining refl

  pub turn_joined_placemarker : j.joining ≡ true → joined_from j (Placemarker ∷ ps) ≡ joined_from (record j { joining = false }) ps
  unfolding From
  turn_joined_placemarker is = keeps_joined_placemarker _ (map marked_of j.out.items) (paste_operand j.left) ps (now_at j.left true (Placemarker ∷ ps) refl is)

  pub turn_placemarker : (next : List Kept) (taken after : Option Kept) → j.joining ≡ false → taken ≡ j.left → after ≡ None →
      map marked_of next ≡ map marked_of j.out.items ++ operand_tokens (paste_operand taken) →
      joined_from j (Placemarker ∷ ps) ≡ tokens_in_front (map marked_of next) (joins_made (paste_operand after) j.joining ps)
  unfolding From
  turn_placemarker next taken after is same none made =
      keeps_placemarker _ (map marked_of j.out.items) (paste_operand taken) ps (map marked_of next) made (now_at taken false (Placemarker ∷ ps) same is)
      ∙ ap (λ o. tokens_in_front (map marked_of next) (joins_made (paste_operand o) false ps)) (sym none)
      ∙ ap (λ b. tokens_in_front (map marked_of next) (joins_made (paste_operand after) b ps)) (sym is)

  pub turn_real : (next : List Kept) (taken after : Option Kept) (m : Kept) → j.joining ≡ false → taken ≡ j.left → after ≡ Some m →
      map marked_of next ≡ map marked_of j.out.items ++ operand_tokens (paste_operand taken) →
      joined_from j (Real (marked_of m) ∷ ps) ≡ tokens_in_front (map marked_of next) (joins_made (paste_operand after) j.joining ps)
  unfolding From
  turn_real next taken after m is same some made =
      keeps_real _ (map marked_of j.out.items) (paste_operand taken) ps (map marked_of next) (marked_of m) made (now_at taken false (Real (marked_of m) ∷ ps) same is)
      ∙ ap (λ o. tokens_in_front (map marked_of next) (joins_made (paste_operand o) false ps)) (sym some)
      ∙ ap (λ b. tokens_in_front (map marked_of next) (joins_made (paste_operand after) b ps)) (sym is)

  pub turn_pasted : (taken : Option Kept) (m made : Kept) → j.joining ≡ true → taken ≡ j.left →
      pasted (paste_operand taken) (Some (marked_of m)) ≡ Ok (Some (marked_of made)) →
      joined_from j (Real (marked_of m) ∷ ps) ≡ tokens_in_front (map marked_of j.out.items) (joins_made (Some (marked_of made)) false ps)
  unfolding From
  turn_pasted taken m made is same h =
      keeps_pasted _ (map marked_of j.out.items) (paste_operand taken) ps (marked_of m) (Some (marked_of made)) h (now_at taken true (Real (marked_of m) ∷ ps) same is)

  pub turn_fails : (taken : Option Kept) (m : Kept) (e : RunError) (line : ℕ) → j.joining ≡ true → taken ≡ j.left →
      ReportsPaste e line (pasted (paste_operand taken) (Some (marked_of m))) → ReportsPaste e line (joined_from j (Real (marked_of m) ∷ ps))
  unfolding From
  turn_fails taken m e line is same r =
      paste_fails _ (map marked_of j.out.items) (paste_operand taken) ps (marked_of m) e line r (now_at taken true (Real (marked_of m) ∷ ps) same is)

-- an error of what is left is one of the whole
pub Reports_whole : (e : RunError) (line : ℕ) (a b : Joined) → b ≡ a → ReportsPaste e line a → ReportsPaste e line b
Reports_whole e line a b is r = subst (λ q. ReportsPaste e line q) (sym is) r
