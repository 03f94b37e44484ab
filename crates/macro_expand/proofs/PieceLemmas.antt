-- How a replacement's pieces are made, part by part, and joined.
use Rattle.std.proofs.Common.{◌≡◌, ℕ, Vec, Global, IfOk, IfErr, ◌+◌, ◌<◌, ◌≤◌, List, [], ◌∷◌, ◌++◌, map, length, get_or, drop, ap, sym, ◌∙◌, subst, Option, Some, None, Result, Ok, Err, append-nil, drop_of_length-le, ◌&&◌, ◌||◌, bytes_eq, Bool, true, false, refl, if◌then◌else◌, arith}
use Rattle.std.specs.List.{list_any}
use Rattle.std.proofs.lemmas.Bool.{true≢false}
use mathlib.Core.Path.{fun_ext}
use Rattle.std.proofs.lemmas.List.{map-append}
use Rattle.pp_tokens.specs.declared.Token.{Token}
use Rattle.macro_defs.proofs.Fronts.{front_at}
use Rattle.macro_expand.specs.declared.marked.Marked.{Marked as Kept}
use Rattle.macro_expand.specs.declared.replace.Part.{Part as KeptPart}
use Rattle.macro_expand.specs.declared.outcome.RunError.{RunError}
use Rattle.macro_expand.specs.declared.outcome.RunError.TheVariants.{Count as CountError, Unclosed as UnclosedError, Paste as PasteError, Deep as DeepError, Work as WorkError, Presumed as PresumedError, Memory}
use Rattle.macro_expand.specs.Asking.{Failure, Paste}
use Rattle.macro_expand.specs.Replacement.{Marked, Names, unmarked, with_space, argument_at, is_join, first_body_part, with_name, common_names, BodyPart, Plain, Argument, Spelling, Join, Piece, Real, Arguments, PasteOperand, operand_tokens, before_joined, stringized, pieces_of_part, pieces_of, joins_made, put_in_for, replacement, object_parts}
use Rattle.macro_expand.specs.Expansion.{object_replacement, call_replacement}
use Rattle.macro_expand.specs.Sets.{names_in}
use Rattle.macro_expand.specs.Seen.{part_seen, parts_seen, marked_of, call_replaced_by, KeepsWritten, Reports, ReportsPaste}
use Rattle.macro_expand.specs.parts.Parts.{takes_written, joins}
use Rattle.macro_expand.specs.parts.Pieces.{tokens_of_part, tokens_of_parts}
use Rattle.macro_expand.proofs.PartLemmas.{object_part-plain}
use Rattle.pp_tokens.specs.Marks.{is_comma, is_pasting}
use Rattle.macro_expand.proofs.StringLemmas.{grows, nothing_left}

-- a turn of the loop: one part more, where `seen` are the parts behind it
pub pieces-turn : (args : Arguments) (parts seen : List KeptPart) (k : ℕ) (p : KeptPart) (left : Option BodyPart) (out next whole : List Piece) →
    k < length parts → p ≡ get_or parts k p → seen ≡ drop (k + 1) parts → next ≡ out ++ pieces_of_part args left (part_seen p) (parts_seen seen) →
    out ++ pieces_of args left (parts_seen (drop k parts)) ≡ whole →
    next ++ pieces_of args (Some (part_seen p)) (parts_seen (drop (k + 1) parts)) ≡ whole
unfolding pieces_of
pieces-turn args parts seen k p left out next whole below is behind made keeps =
    grows out next (pieces_of_part args left (part_seen p) (parts_seen seen)) (pieces_of args left (parts_seen (drop k parts)))
    (pieces_of args (Some (part_seen p)) (parts_seen (drop (k + 1) parts))) whole made
    (ap (λ ps. pieces_of args left (parts_seen ps)) (front_at parts k p below is)
    ∙ ap (λ ps. pieces_of_part args left (part_seen p) (parts_seen ps) ++ pieces_of args (Some (part_seen p)) (parts_seen (drop (k + 1) parts))) (sym behind))
    keeps

pub pieces-done : (args : Arguments) (parts : List KeptPart) (k : ℕ) (left : Option BodyPart) (out whole : List Piece) → length parts ≤ k →
    out ++ pieces_of args left (parts_seen (drop k parts)) ≡ whole → out ≡ whole
unfolding pieces_of
pieces-done args parts k left out whole past keeps =
    nothing_left out (pieces_of args left (parts_seen (drop k parts))) whole
    (ap (λ ps. pieces_of args left (parts_seen ps)) (drop_of_length-le parts past)) keeps

-- Where no `##` stands in the list, the pieces are the tokens of the parts.

no_first_join : (ps : List BodyPart) → list_any joins ps ≡ false → is_join (first_body_part ps) ≡ false
no_first_join [] none = refl
no_first_join (p ∷ ps) none = go (joins p) none
  where
    go : (b : Bool) → (b || list_any joins ps) ≡ false → b ≡ false
    go true is = is
    go false is = refl

kept_comma : {A : Type 0} (comma join variable empty : Bool) (x y : A) → join ≡ false →
    (if comma && join && variable && empty then x else y) ≡ y
kept_comma false join variable empty x y apart = refl
kept_comma true false variable empty x y apart = refl
kept_comma true true variable empty x y apart = absurd (true≢false apart)

expanded_alone : {A : Type 0} (left right : Bool) (x y : A) → left ≡ false → right ≡ false → (if left || right then x else y) ≡ y
expanded_alone false false x y l r = refl
expanded_alone true right x y l r = absurd (true≢false l)
expanded_alone false true x y l r = absurd (true≢false r)

pieces_of-unjoined : (args : Arguments) (left : Option BodyPart) (ps : List BodyPart) → is_join left ≡ false → list_any joins ps ≡ false →
    pieces_of args left ps ≡ map Real (tokens_of_parts args ps)
unfolding pieces_of
pieces_of-unjoined args left [] apart none = refl
pieces_of-unjoined args left (Plain t ∷ ps) apart none =
    ap (λ q. q ++ pieces_of args (Some (Plain t)) ps) (kept_comma (is_comma t) (is_join (first_body_part ps)) _ _ [] (Real (unmarked t) ∷ []) (no_first_join ps none))
    ∙ ap (λ q. Real (unmarked t) ∷ q) (pieces_of-unjoined args (Some (Plain t)) ps refl none)
pieces_of-unjoined args left (Argument i space ∷ ps) apart none =
    ap (λ q. q ++ pieces_of args (Some (Argument i space)) ps)
    (expanded_alone (is_join left) (is_join (first_body_part ps)) _ (map Real (with_space space (argument_at i args.expanded))) apart (no_first_join ps none))
    ∙ ap (λ q. map Real (with_space space (argument_at i args.expanded)) ++ q) (pieces_of-unjoined args (Some (Argument i space)) ps refl none)
    ∙ sym (map-append Real (with_space space (argument_at i args.expanded)) (tokens_of_parts args ps))
pieces_of-unjoined args left (Spelling i space ∷ ps) apart none =
    ap (λ q. Real (stringized space (argument_at i args.written)) ∷ q) (pieces_of-unjoined args (Some (Spelling i space)) ps refl none)
pieces_of-unjoined args left (Join ∷ ps) apart none = absurd (true≢false none)

joins_made-real : (left : PasteOperand) (ts : List Marked) → joins_made left false (map Real ts) ≡ Ok (operand_tokens left ++ ts)
unfolding joins_made
joins_made-real left [] = ap Ok (sym (append-nil (operand_tokens left)))
joins_made-real left (t ∷ ts) = ap (before_joined left) (joins_made-real (Some t) ts)

pub tokens-made : (args : Arguments) (ps : List BodyPart) (out : List Marked) → list_any joins ps ≡ false → out ≡ tokens_of_parts args ps →
    joins_made None false (pieces_of args None ps) ≡ Ok out
tokens-made args ps out none is =
    ap (joins_made None false) (pieces_of-unjoined args None ps refl none) ∙ joins_made-real None (tokens_of_parts args ps) ∙ ap Ok (sym is)

-- The whole replacement.

abbrev no_arguments : Arguments
no_arguments = record { written = []; expanded = []; variable = None }

abbrev Joined : Type 0
Joined = Result (List Marked) (List ℕ × List ℕ)

abbrev put_in : Token → Names → Joined → Result (List Marked) Failure
put_in t hidden r = elim r as (λ x. Result (List Marked) Failure) [ Ok ts ↦ Ok (put_in_for t hidden ts) | Err pair ↦ Err (Paste pair.0 pair.1 t.line) ]

module _ (t : Token) (hidden : Names) (parts : List BodyPart) (args : Arguments) (pieces : List Piece) (same : pieces ≡ pieces_of args None parts) where
  here : replacement t hidden parts args ≡ put_in t hidden (joins_made None false pieces)
  unfolding replacement
  here = ap (λ ps. put_in t hidden (joins_made None false ps)) (sym same)

  pub replacement-made : (made out : List Marked) → joins_made None false pieces ≡ Ok made → out ≡ put_in_for t hidden made → replacement t hidden parts args ≡ Ok out
  replacement-made made out is put = here ∙ ap (put_in t hidden) is ∙ ap Ok (sym put)

  pub replacement-fails : (e : RunError) → ReportsPaste e t.line (joins_made None false pieces) → Reports e (replacement t hidden parts args)
  replacement-fails (CountError name at) r = absurd r
  replacement-fails (UnclosedError name at) r = absurd r
  replacement-fails (PasteError a b at) r = here ∙ ap (put_in t hidden) r.1 ∙ ap (λ l. Err (Paste a b l)) (sym r.0)
  replacement-fails (DeepError at) r = absurd r
  replacement-fails WorkError r = absurd r
  replacement-fails PresumedError r = absurd r
  replacement-fails Memory r = tt

-- Where no part takes an argument as it is written, none is needed.

no_join : (ps : List BodyPart) → list_any takes_written ps ≡ false → is_join (first_body_part ps) ≡ false
no_join [] none = refl
no_join (Plain t ∷ ps) none = refl
no_join (Argument i space ∷ ps) none = refl
no_join (Spelling i space ∷ ps) none = absurd (true≢false none)
no_join (Join ∷ ps) none = absurd (true≢false none)

pieces_of-unwritten : (written written' expanded : List (List Marked)) (variable : Option ℕ) (left : Option BodyPart) (ps : List BodyPart) →
    is_join left ≡ false → list_any takes_written ps ≡ false →
    pieces_of (record { written = written; expanded = expanded; variable = variable }) left ps
    ≡ pieces_of (record { written = written'; expanded = expanded; variable = variable }) left ps
unfolding pieces_of
pieces_of-unwritten written written' expanded variable left [] apart none = refl
pieces_of-unwritten written written' expanded variable left (Plain t ∷ ps) apart none =
    ap (λ q. q ++ pieces_of (record { written = written; expanded = expanded; variable = variable }) (Some (Plain t)) ps)
    (kept_comma (is_comma t) (is_join (first_body_part ps)) _ _ [] (Real (unmarked t) ∷ []) (no_join ps none)
    ∙ sym (kept_comma (is_comma t) (is_join (first_body_part ps)) _ _ [] (Real (unmarked t) ∷ []) (no_join ps none)))
    ∙ ap (λ q. pieces_of_part (record { written = written'; expanded = expanded; variable = variable }) left (Plain t) ps ++ q)
    (pieces_of-unwritten written written' expanded variable (Some (Plain t)) ps refl none)
pieces_of-unwritten written written' expanded variable left (Argument i space ∷ ps) apart none =
    ap (λ q. q ++ pieces_of (record { written = written; expanded = expanded; variable = variable }) (Some (Argument i space)) ps)
    (expanded_alone (is_join left) (is_join (first_body_part ps)) _ (map Real (with_space space (argument_at i expanded))) apart (no_join ps none)
    ∙ sym (expanded_alone (is_join left) (is_join (first_body_part ps)) _ (map Real (with_space space (argument_at i expanded))) apart (no_join ps none)))
    ∙ ap (λ q. pieces_of_part (record { written = written'; expanded = expanded; variable = variable }) left (Argument i space) ps ++ q)
    (pieces_of-unwritten written written' expanded variable (Some (Argument i space)) ps refl none)
pieces_of-unwritten written written' expanded variable left (Spelling i space ∷ ps) apart none = absurd (true≢false none)
pieces_of-unwritten written written' expanded variable left (Join ∷ ps) apart none = absurd (true≢false none)

pub keeps_none : (parts : List BodyPart) (written : List (List Marked)) → list_any takes_written parts ≡ false → KeepsWritten parts written []
unfolding call_replacement replacement
keeps_none parts written none t variable close expanded =
    ap (λ ps. put_in t.token (with_name t.token.text (common_names (names_in t.hidden) close.hidden)) (joins_made None false ps))
    (pieces_of-unwritten [] written expanded variable None parts refl none)

-- what a name is replaced by, by a hide set that code keeps

pub object-same : (t : Kept) (body : List Token) (hidden : List (List ℕ)) (parts : List BodyPart) →
    ((n : List ℕ) → names_in hidden n ≡ (bytes_eq n t.token.text || names_in t.hidden n)) → parts ≡ object_parts body →
    replacement t.token (names_in hidden) parts (record { written = []; expanded = []; variable = None }) ≡ object_replacement (marked_of t) body
unfolding object_replacement
object-same t body hidden parts h same =
    ap (λ (names : Names). replacement t.token names parts (record { written = []; expanded = []; variable = None })) (fun_ext h)
    ∙ ap (λ ps. replacement t.token (with_name t.token.text (names_in t.hidden)) ps (record { written = []; expanded = []; variable = None })) same

-- where no `##` stands in the body, its tokens are put in
abbrev Unjoined : List Token → Type 0
Unjoined body = (list_any joins (object_parts body) ≡ false) × (tokens_of_parts no_arguments (object_parts body) ≡ map unmarked body)

unjoined : (body : List Token) → list_any is_pasting body ≡ false → Unjoined body
unjoined [] none = (refl, refl)
unjoined (t ∷ ts) none = go (is_pasting t) refl none (unjoined ts)
  where
    go : (b : Bool) → is_pasting t ≡ b → (b || list_any is_pasting ts) ≡ false → (list_any is_pasting ts ≡ false → Unjoined ts) → Unjoined (t ∷ ts)
    go true is rest others = absurd (true≢false rest)
    go false is rest others = (
      ap (λ p. joins p || list_any joins (object_parts ts)) (object_part-plain t is) ∙ (others rest).0,
      ap (λ p. tokens_of_part no_arguments p ++ tokens_of_parts no_arguments (object_parts ts)) (object_part-plain t is)
          ∙ ap (λ us. unmarked t ∷ us) (others rest).1,
    )

pub object-lent : (t : Kept) (body : List Token) (hidden : List (List ℕ)) (out : List Marked) →
    ((n : List ℕ) → names_in hidden n ≡ (bytes_eq n t.token.text || names_in t.hidden n)) → list_any is_pasting body ≡ false →
    out ≡ put_in_for t.token (names_in hidden) (map unmarked body) → object_replacement (marked_of t) body ≡ Ok out
object-lent t body hidden out h none is =
    sym (object-same t body hidden (object_parts body) h refl)
    ∙ replacement-made t.token (names_in hidden) (object_parts body) no_arguments (pieces_of no_arguments None (object_parts body)) refl (map unmarked body) out
    (tokens-made no_arguments (object_parts body) (map unmarked body) (unjoined body none).0 (sym (unjoined body none).1)) is

pub call-same : (t close : Kept) (parts : List BodyPart) (variable : Option ℕ) (written expanded : List (List Marked)) (hidden : List (List ℕ)) →
    ((n : List ℕ) → names_in hidden n ≡ with_name t.token.text (common_names (names_in t.hidden) (names_in close.hidden)) n) →
    replacement t.token (names_in hidden) parts (record { written = written; expanded = expanded; variable = variable })
    ≡ call_replaced_by t parts variable written (marked_of close) expanded
unfolding call_replacement
call-same t close parts variable written expanded hidden h =
    ap (λ (names : Names). replacement t.token names parts (record { written = written; expanded = expanded; variable = variable })) (fun_ext h)

-- an error that reports a result reports one that is the same
pub Reports-same : {A : Type 0} (e : RunError) (r s : Result A Failure) → r ≡ s → Reports e r → Reports e s
Reports-same {A = A} e r s same h = let P : Result A Failure → Type 0 = λ x. Reports e x in subst P same h

-- the same of the two clauses of a call
pub ok-same : (r : Result (Vec Kept Global) RunError) (a b : Result (List Marked) Failure) → a ≡ b →
    IfOk r (λ ts. a ≡ Ok (map marked_of ts.items)) → IfOk r (λ ts. b ≡ Ok (map marked_of ts.items))
ok-same (Ok ts) a b same h = sym same ∙ h
ok-same (Err e) a b same h = h

pub err-same : (r : Result (Vec Kept Global) RunError) (a b : Result (List Marked) Failure) → a ≡ b →
    IfErr r (λ e. Reports e a) → IfErr r (λ e. Reports e b)
err-same (Ok ts) a b same h = h
err-same (Err e) a b same h = Reports-same e a b same h

-- the name itself beside what both hide
pub call-hides : {E : Type 0} (r : Result (List (List ℕ)) E) (name text : List ℕ) (t close : Names) (both : List (List ℕ)) → name ≡ text →
    ((n : List ℕ) → names_in both n ≡ (t n && close n)) →
    IfOk r (λ h. (n : List ℕ) → names_in h n ≡ (bytes_eq n name || names_in both n)) →
    IfOk r (λ h. (n : List ℕ) → names_in h n ≡ with_name text (common_names t close) n)
call-hides (Ok h) name text t close both same common with = λ n. with n ∙ ap (λ w. bytes_eq n w || names_in both n) same ∙ ap (λ b. bytes_eq n text || b) (common n)
call-hides (Err e) name text t close both same common with = with

-- what is kept of the arguments as written gives what they give
pub written_is : (t : Kept) (parts : List BodyPart) (variable : Option ℕ) (written kept expanded : List (List Marked)) (close close' : Kept) →
    KeepsWritten parts written kept → close' ≡ close →
    call_replaced_by t parts variable kept (marked_of close') expanded ≡ call_replaced_by t parts variable written (marked_of close) expanded
written_is t parts variable written kept expanded close close' keeps same =
    ap (λ c. call_replaced_by t parts variable kept (marked_of c) expanded) same ∙ keeps t variable (marked_of close) expanded

-- An empty replacement list is replaced by nothing.

pub object-empty : (t : Marked) (body : List Token) → length body ≡ 0 → object_replacement t body ≡ Ok []
unfolding object_replacement replacement pieces_of joins_made
object-empty t [] none = refl
object-empty t (b ∷ bs) none = absurd (omega (arith, none))

pub call-empty : (t : Kept) (parts : List BodyPart) (variable : Option ℕ) (written : List (List Marked)) (close : Marked) (expanded : List (List Marked)) → parts ≡ [] →
    call_replaced_by t parts variable written close expanded ≡ Ok []
unfolding call_replacement replacement pieces_of joins_made
call-empty t parts variable written close expanded none = rw none refl
