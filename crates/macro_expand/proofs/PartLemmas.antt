-- How a replacement list is read, token by token.
use Rattle.std.proofs.Common.{◌≡◌, ℕ, ◌+◌, ◌<◌, ◌≤◌, Bool, true, false, ◌&&◌, ◌||◌, List, [], ◌∷◌, ◌++◌, map, length, get_or, slice_get, drop, zero, suc, arith, refl, ap, sym, ◌∙◌, subst, Option, Some, None, bytes_eq, codes, if◌then◌else◌, inl, inr, append_assoc, append-nil, drop_of_length-le}
use Rattle.std.specs.Option.{option_and_then}
use Rattle.std.proofs.lemmas.Slice.Eq.{bytes_eq-Decides}
use Rattle.std.proofs.lemmas.Bool.{or_cases}
use Rattle.std.proofs.Math.Bool.{or-false}
use Rattle.pp_tokens.specs.declared.Token.{Token}
use Rattle.macro_defs.specs.MacroDefinition.{without_line}
use Rattle.macro_defs.specs.Arguments.{argument_named}
use Rattle.macro_defs.proofs.Fronts.{front_at}
use Rattle.pp_tokens.specs.Marks.{is_punctuator, is_open, is_close, is_comma, is_hash, is_pasting, Mark, Opening, Closing, Comma, Hash, Pasting, NoMark, mark_of}
use Rattle.macro_expand.specs.declared.replace.Part.{Part as KeptPart}
use Rattle.macro_expand.specs.Replacement.{BodyPart, Plain, Argument, Spelling, Join, parts_after, one_joins, is_join, is_alone, stands_alone}
use Rattle.macro_expand.specs.parts.Parts.{operand_part, body_part, object_part, begins_spelling, Marks}
use Rattle.macro_expand.specs.Seen.{part_seen, parts_seen}

abbrev mark_by : Bool → Bool → Bool → Bool → Bool → Mark
mark_by o c m h p = if o then Opening else (if c then Closing else (if m then Comma else (if h then Hash else (if p then Pasting else NoMark))))

-- by the spelling of a punctuator
abbrev mark_at : Bool → List ℕ → Mark
mark_at q w =
    mark_by (q && bytes_eq w (codes "(")) (q && bytes_eq w (codes ")")) (q && bytes_eq w (codes ","))
    ((q && bytes_eq w (codes "#")) || (q && bytes_eq w (codes "%:"))) ((q && bytes_eq w (codes "##")) || (q && bytes_eq w (codes "%:%:")))

hash_at : (q : Bool) (w : List ℕ) → ((q && bytes_eq w (codes "#")) || (q && bytes_eq w (codes "%:"))) ≡ true → mark_at q w ≡ Hash
hash_at false w h = absurd (cc)
hash_at true w h =
    elim (or_cases (bytes_eq w (codes "#")) (bytes_eq w (codes "%:")) h) [
      | inl e ↦ ap (mark_at true) ((bytes_eq-Decides w (codes "#")).0 e)
      | inr e ↦ ap (mark_at true) ((bytes_eq-Decides w (codes "%:")).0 e)
    ]

pasting_at : (q : Bool) (w : List ℕ) → ((q && bytes_eq w (codes "##")) || (q && bytes_eq w (codes "%:%:"))) ≡ true → mark_at q w ≡ Pasting
pasting_at false w h = absurd (cc)
pasting_at true w h =
    elim (or_cases (bytes_eq w (codes "##")) (bytes_eq w (codes "%:%:")) h) [
      | inl e ↦ ap (mark_at true) ((bytes_eq-Decides w (codes "##")).0 e)
      | inr e ↦ ap (mark_at true) ((bytes_eq-Decides w (codes "%:%:")).0 e)
    ]

pub mark-hash : (t : Token) → is_hash t ≡ true → mark_of t ≡ Hash
unfolding mark_of
mark-hash t h = hash_at (is_punctuator t) t.text h

pub mark-pasting : (t : Token) → is_pasting t ≡ true → mark_of t ≡ Pasting
unfolding mark_of
mark-pasting t h = pasting_at (is_punctuator t) t.text h

no_pasting : {A : Type 0} (o c m h p : Bool) (x y : A) → p ≡ false →
    (elim (mark_by o c m h p) as (λ z. A) [ Pasting ↦ x | _ ↦ y ]) ≡ y
no_pasting true c m h p x y e = refl
no_pasting false true m h p x y e = refl
no_pasting false false true h p x y e = refl
no_pasting false false false true p x y e = refl
no_pasting false false false false true x y e = absurd (cc)
no_pasting false false false false false x y e = refl

pub mark-not_pasting : {A : Type 0} (t : Token) (x y : A) → is_pasting t ≡ false → (elim (mark_of t) as (λ z. A) [ Pasting ↦ x | _ ↦ y ]) ≡ y
unfolding mark_of
mark-not_pasting t x y e = no_pasting (is_open t) (is_close t) (is_comma t) (is_hash t) (is_pasting t) x y e

no_hash : (o c m h p : Bool) (j y : BodyPart) (x z : List BodyPart) → h ≡ false →
    (elim (mark_by o c m h p) as (λ u. List BodyPart) [ Pasting ↦ j ∷ z | Hash ↦ x | _ ↦ y ∷ z ])
    ≡ (elim (mark_by o c m h p) as (λ u. BodyPart) [ Pasting ↦ j | _ ↦ y ]) ∷ z
no_hash true c m h p j y x z e = refl
no_hash false true m h p j y x z e = refl
no_hash false false true h p j y x z e = refl
no_hash false false false true p j y x z e = absurd (cc)
no_hash false false false false true j y x z e = refl
no_hash false false false false false j y x z e = refl

-- One token.

pub object_part-join : (t : Token) → is_pasting t ≡ true → object_part t ≡ Join
object_part-join t h = ap (λ m. elim m as (λ x. BodyPart) [ Pasting ↦ Join | _ ↦ Plain t ]) (mark-pasting t h)

pub object_part-plain : (t : Token) → is_pasting t ≡ false → object_part t ≡ Plain t
object_part-plain t h = mark-not_pasting t Join (Plain t) h

pub body_part-join : (t : Token) (named : Option ℕ) → is_pasting t ≡ true → body_part None t named ≡ Join
body_part-join t named h = ap (λ m. elim m as (λ x. BodyPart) [ Pasting ↦ Join | _ ↦ operand_part None t named ]) (mark-pasting t h)

pub body_part-operand : (t : Token) (named : Option ℕ) → is_pasting t ≡ false → body_part None t named ≡ operand_part None t named
body_part-operand t named h = mark-not_pasting t Join (operand_part None t named) h

argument_or : (o : Option ℕ) (t : Token) → (elim o as (λ x. BodyPart) [ None ↦ Plain t | Some i ↦ Argument i t.space ]) ≡ operand_part None t o
argument_or None t = refl
argument_or (Some i) t = refl

spelling_or : (o : Option ℕ) (space : Bool) (t : Token) → (elim o as (λ x. BodyPart) [ None ↦ Plain t | Some i ↦ Spelling i space ]) ≡ operand_part (Some space) t o
spelling_or None space t = refl
spelling_or (Some i) space t = refl

pub parts_after-hash : (hash : Option Bool) (names : List (List ℕ)) (t : Token) (ts : List Token) → begins_spelling hash t ≡ true →
    parts_after hash names (t ∷ ts) ≡ parts_after (Some t.space) names ts
unfolding parts_after
parts_after-hash None names t ts h =
    ap (λ m. elim m as (λ x. List BodyPart) [
      | Pasting ↦ Join ∷ parts_after None names ts
      | Hash ↦ parts_after (Some t.space) names ts
      | _ ↦ (elim (argument_named names t) as (λ x. BodyPart) [ None ↦ Plain t | Some i ↦ Argument i t.space ]) ∷ parts_after None names ts
    ])
    (mark-hash t h)
parts_after-hash (Some space) names t ts h = absurd (cc)

pub parts_after-part : (hash : Option Bool) (names : List (List ℕ)) (t : Token) (ts : List Token) → begins_spelling hash t ≡ false →
    parts_after hash names (t ∷ ts) ≡ body_part hash t (argument_named names t) ∷ parts_after None names ts
unfolding parts_after mark_of
parts_after-part None names t ts h =
    no_hash (is_open t) (is_close t) (is_comma t) (is_hash t) (is_pasting t) Join (elim (argument_named names t) as (λ x. BodyPart) [ None ↦ Plain t | Some i ↦ Argument i t.space ])
    (parts_after (Some t.space) names ts) (parts_after None names ts) h
    ∙ ap (λ p. (elim (mark_of t) as (λ u. BodyPart) [ Pasting ↦ Join | _ ↦ p ]) ∷ parts_after None names ts) (argument_or (argument_named names t) t)
parts_after-part (Some space) names t ts h = ap (λ p. p ∷ parts_after None names ts) (spelling_or (argument_named names t) space t)

-- the argument that the token at a place names
pub named-at : (names : List (List ℕ)) (body : List Token) (i : ℕ) (t : Token) → i < length body → t ≡ get_or body i t →
    option_and_then (argument_named names) (slice_get (map without_line body) i) ≡ argument_named names (without_line t)
named-at names [] i t below is = absurd (omega (arith, below))
named-at names (u ∷ body) zero t below is = ap (λ v. argument_named names (without_line v)) (sym is)
named-at names (u ∷ body) (suc i) t below is = named-at names body i t (omega (arith, below)) is

-- The loop over a list: `parts` were read, `joined` says that the last is a `##`, and a `#` stands right before the token at `i`, or none.
module _ (names : List (List ℕ)) (body : List Token) (i : ℕ) (t : Token) (below : i < length body) (is : t ≡ get_or body i t)
    (hash : Option Bool) (joined : Bool) (parts : List KeptPart) (whole : List BodyPart)
    (keeps : parts_seen parts ++ one_joins joined (parts_after hash names (map without_line (drop i body))) ≡ whole) where
  here : parts_seen parts ++ one_joins joined (parts_after hash names (without_line t ∷ map without_line (drop (i + 1) body))) ≡ whole
  here = ap (λ ts. parts_seen parts ++ one_joins joined (parts_after hash names (map without_line ts))) (sym (front_at body i t below is)) ∙ keeps

  unlined : (hash : Option Bool) → begins_spelling hash (without_line t) ≡ begins_spelling hash t
  unlined None = refl
  unlined (Some space) = refl

  pub read-hash : begins_spelling hash t ≡ true → parts_seen parts ++ one_joins joined (parts_after (Some t.space) names (map without_line (drop (i + 1) body))) ≡ whole
  read-hash h =
      ap (λ ps. parts_seen parts ++ one_joins joined ps) (sym (parts_after-hash hash names (without_line t) (map without_line (drop (i + 1) body)) (unlined hash ∙ h)))
      ∙ here

  pub read-part : (p : KeptPart) (next : List KeptPart) (now : Bool) → begins_spelling hash t ≡ false →
      part_seen p ≡ body_part hash (without_line t) (argument_named names (without_line t)) →
      parts_seen next ≡ parts_seen parts ++ (if joined && is_join (Some (part_seen p)) then [] else part_seen p ∷ []) → now ≡ is_join (Some (part_seen p)) →
      parts_seen next ++ one_joins now (parts_after None names (map without_line (drop (i + 1) body))) ≡ whole
  unfolding one_joins
  read-part p next now h seen made last =
      ap (λ ps. ps ++ one_joins now rest) made
      ∙ append_assoc (parts_seen parts) (if joined && is_join (Some (part_seen p)) then [] else part_seen p ∷ []) (one_joins now rest)
      ∙ ap (λ b. parts_seen parts ++ ((if joined && is_join (Some (part_seen p)) then [] else part_seen p ∷ []) ++ one_joins b rest)) last
      ∙ ap (λ q. parts_seen parts ++ one_joins joined (q ∷ rest)) seen
      ∙ ap (λ ps. parts_seen parts ++ one_joins joined ps) (sym (parts_after-part hash names (without_line t) (map without_line (drop (i + 1) body)) (unlined hash ∙ h)))
      ∙ here
    where
      rest : List BodyPart
      rest = parts_after None names (map without_line (drop (i + 1) body))

pub read-done : (names : List (List ℕ)) (body : List Token) (i : ℕ) (hash : Option Bool) (joined : Bool) (parts : List BodyPart) (whole : List BodyPart) → length body ≤ i →
    parts ++ one_joins joined (parts_after hash names (map without_line (drop i body))) ≡ whole → parts ≡ whole
unfolding parts_after one_joins
read-done names body i hash joined parts whole past keeps =
    sym (append-nil parts) ∙ ap (λ ts. parts ++ one_joins joined (parts_after hash names (map without_line ts))) (sym (drop_of_length-le body past)) ∙ keeps

-- Arguments that stand alone (6.10.3.1).

abbrev pub part_before : Bool → Option BodyPart
part_before joined = if joined then Some Join else None

-- only whether a `##` stands before counts
pub alone-before : (i : ℕ) (p : BodyPart) (joined : Bool) (ps : List BodyPart) → joined ≡ is_join (Some p) → stands_alone i (part_before joined) ps ≡ stands_alone i (Some p) ps
unfolding stands_alone
alone-before i p joined [] e = refl
alone-before i p joined (q ∷ ps) e = ap (λ b. b || stands_alone i (Some q) ps) (same q p joined ps e)
  where
    same : (q p : BodyPart) (joined : Bool) (ps : List BodyPart) → joined ≡ is_join (Some p) → is_alone i (part_before joined) q ps ≡ is_alone i (Some p) q ps
    same (Plain t) p joined ps e = refl
    same (Argument j space) (Plain t) joined ps e = rw e refl
    same (Argument j space) (Argument k s) joined ps e = rw e refl
    same (Argument j space) (Spelling k s) joined ps e = rw e refl
    same (Argument j space) Join joined ps e = rw e refl
    same (Spelling j space) p joined ps e = refl
    same Join p joined ps e = refl

pub or_both : (a b c : Bool) → ((a || b) || c) ≡ (a || (b || c))
or_both true b c = refl
or_both false b c = refl

-- a turn of the loop: one part more, where `seen` are the parts behind it
pub alone-turn : (old new : List Bool) (count : ℕ) (joined next : Bool) (parts seen : List KeptPart) (k : ℕ) (p : KeptPart) (whole : ℕ → Bool) →
    k < length parts → p ≡ get_or parts k p → seen ≡ drop (k + 1) parts → next ≡ is_join (Some (part_seen p)) → length old ≡ count →
    Marks old new joined (part_seen p) (parts_seen seen) →
    ((i : ℕ) → i < count → (get_or old i false || stands_alone i (part_before joined) (parts_seen (drop k parts))) ≡ whole i) →
    (i : ℕ) → i < count → (get_or new i false || stands_alone i (part_before next) (parts_seen (drop (k + 1) parts))) ≡ whole i
unfolding stands_alone
alone-turn old new count joined next parts seen k p whole here is behind after same marks keeps i below =
    ap (λ ps. get_or new i false || stands_alone i (part_before next) (parts_seen ps)) (sym behind)
    ∙ ap (λ b. get_or new i false || b) (alone-before i (part_seen p) next (parts_seen seen) after)
    ∙ ap (λ b. b || stands_alone i (Some (part_seen p)) (parts_seen seen)) (marks.1 i (subst (λ n. i < n) (sym same) below))
    ∙ or_both (get_or old i false) (is_alone i (part_before joined) (part_seen p) (parts_seen seen)) (stands_alone i (Some (part_seen p)) (parts_seen seen))
    ∙ ap (λ ps. get_or old i false || stands_alone i (part_before joined) (parts_seen ps)) (ap (λ ps. p ∷ ps) behind ∙ sym (front_at parts k p here is))
    ∙ keeps i below

pub alone-done : (alone : List Bool) (count : ℕ) (left : Option BodyPart) (parts : List KeptPart) (k : ℕ) (whole : ℕ → Bool) → length parts ≤ k →
    ((i : ℕ) → i < count → (get_or alone i false || stands_alone i left (parts_seen (drop k parts))) ≡ whole i) →
    (i : ℕ) → i < count → get_or alone i false ≡ whole i
unfolding stands_alone
alone-done alone count left parts k whole past keeps i below =
    sym (or-false (get_or alone i false))
    ∙ ap (λ ps. get_or alone i false || stands_alone i left (parts_seen ps)) (sym (drop_of_length-le parts past))
    ∙ keeps i below
