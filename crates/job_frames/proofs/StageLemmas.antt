-- What a field of a request or an image that is due, and what is due behind it, are.
use Rattle.std.proofs.Common.{◌≡◌, ℕ, ◌+◌, ◌-◌, ◌*◌, ◌<◌, arith, List, [], ◌∷◌, ◌++◌, length, refl, sym, ◌∙◌, ap, subst, Option, Some, None, cond, true, false, Bool}
use Rattle.std.specs.Prelude.{◌==◌, ◌&&◌, nat_le, nat_eq, Result, Ok, Err}
use Rattle.std.specs.List.{list_all}
use Rattle.std.proofs.lemmas.Bool.{and_from, and_parts, eqb-true}
use Rattle.std.proofs.lemmas.List.Folds.{list_all-append}
use lib.Pointwise.{pointwise}
use Rattle.tree_model.specs.Paths.{spelled, path_of, is_name, names_of}
use Rattle.tree_model.specs.declared.entry.Entry.{Entry}
use Rattle.tree_model.specs.declared.mem_tree.MirrorError.{MirrorError}
use Rattle.tree_model.specs.declared.mem_tree.MirrorError.TheVariants as mirror
use Rattle.tree_model.specs.Entries.{Entries, below, comes_behind, is_increasing, Increasing, judged_path, has_parent, with_parent}
use Rattle.job_frames.specs.declared.field.Field.{Field}
use Rattle.job_frames.specs.declared.field.Field.TheVariants as field
use Rattle.job_frames.specs.declared.request_due.Token.{Token}
use Rattle.job_frames.specs.declared.request_due.Token.TheVariants as token
use Rattle.job_frames.specs.declared.request_due.Body.{Body}
use Rattle.job_frames.specs.declared.request_due.Body.TheVariants as body
use Rattle.job_frames.specs.declared.request_due.Due.{Due}
use Rattle.job_frames.specs.declared.request_due.Due.TheVariants as due
use Rattle.job_frames.specs.declared.request_frame.Read.{Read}
use Rattle.job_frames.specs.Formats.{Format}
use Rattle.job_frames.specs.Request.{Got, entries_from, name_then, path_then, node_then, dir_then, link_then, target_then, file_then, file_body_then, image_from, words_from, word_then, word_body_then, count_from, place_body_from, place_from, request_from}
use Rattle.job_frames.specs.Fields.{room_behind}
use Rattle.job_frames.specs.parts.Dues.{due_of, is_token_due, passed, behind_token, at_letter}
use Rattle.job_frames.specs.parts.Stages.{at_path, token_format, body_format, format_of, letters_of, judge_of, length_of, field_of, node_token_of, token_next, token_rank, PathReady, TokenReady, Ready}

-- AT A PATH

abbrev Names : Type 0
Names = List (List ℕ)

at_path_due : (es : Entries) (o : Option Names) (next : Names → Format Got) (field : Field) → PathReady es o → ((p : Names) → due_of (next p) ≡ Some field) → due_of (at_path o next) ≡ Some field
at_path_due es None next field ready h = absurd ready
at_path_due es (Some p) next field ready h = h p

at_path_token : (es : Entries) (o : Option Names) (next then : Names → Format Got) (n : ℕ) (judged : Option ℕ) → PathReady es o → ((p : Names) → behind_token (next p) n ≡ passed judged (then p)) → behind_token (at_path o next) n ≡ passed judged (at_path o then)
at_path_token es None next then n judged ready h = absurd ready
at_path_token es (Some p) next then n judged ready h = h p

-- FIELDS

pub field_is : (d : Due) (r : Read) → Ready d r → due_of (format_of d r) ≡ Some (field_of d)
unfolding token_format body_format letters_of request_from place_from count_from word_then image_from name_then dir_then link_then file_then place_body_from word_body_then path_then target_then file_body_then node_then
field_is (due.Token token.Version) r ready = refl
field_is (due.Token token.Place) r ready = refl
field_is (due.Token token.Argc) r ready = refl
field_is (due.Token (token.Word k)) r ready = refl
field_is (due.Token token.Count) r ready = refl
field_is (due.Token (token.Name k)) r ready = refl
field_is (due.Token (token.Dir k)) r ready = at_path_due r.entries r.path _ _ ready (λ p. refl)
field_is (due.Token (token.Link k)) r ready = at_path_due r.entries r.path _ _ ready (λ p. refl)
field_is (due.Token (token.File k)) r ready = at_path_due r.entries r.path _ _ ready (λ p. refl)
field_is (due.Body body.Place n) r ready = refl
field_is (due.Body (body.Word k) n) r ready = refl
field_is (due.Body (body.Path k) n) r ready = refl
field_is (due.Body (body.Target k) n) r ready = at_path_due r.entries r.path _ _ ready (λ p. refl)
field_is (due.Body (body.File k) n) r ready = at_path_due r.entries r.path _ _ ready (λ p. refl)
field_is (due.Kind k) r ready = at_path_due r.entries r.path _ _ ready (λ p. refl)
field_is due.Whole r ready = refl

-- what is due behind a token's number
pub number_goes : (t : Token) (r : Read) (n : ℕ) → TokenReady t r → behind_token (token_format t r) n ≡ passed (judge_of t r n) (token_next t (record r { room = r.room - (12 + length_of t n) }) n)
unfolding token_format body_format judge_of length_of token_next request_from place_from count_from word_then image_from name_then dir_then link_then file_then
number_goes token.Version r n ready = refl
number_goes token.Place r n ready = refl
number_goes token.Argc r n ready = ap (λ (ws : List (List ℕ)). passed (judge_of token.Argc r n) (words_from n (room_behind r.room 0) r.cwd ws)) (sym ready.0)
number_goes (token.Word k) r n ready = refl
number_goes token.Count r n ready = ap (λ (es : Entries). passed (judge_of token.Count r n) (entries_from r.job n (room_behind r.room 0) es)) (sym ready)
number_goes (token.Name k) r n ready = refl
number_goes (token.Dir k) r n ready = at_path_token r.entries r.path _ _ n (judge_of (token.Dir k) r n) ready (λ p. refl)
number_goes (token.Link k) r n ready = at_path_token r.entries r.path _ _ n (judge_of (token.Link k) r n) ready (λ p. refl)
number_goes (token.File k) r n ready = at_path_token r.entries r.path _ _ n (judge_of (token.File k) r n) ready (λ p. refl)

-- what is due at the first letter of a node's token
pub node_goes : (k c : ℕ) (r : Read) → PathReady r.entries r.path → at_letter (format_of (due.Kind k) r) c ≡ token_format (node_token_of c k) r
unfolding token_format node_then
node_goes k c r ready = by_path r.path ready
  where
    by_letter : (a b : Bool) (p : Names) → cond {A = Format Got} a (dir_then (entries_from r.job k) r.room r.entries p) (cond b (link_then (entries_from r.job k) r.room r.entries p) (file_then (entries_from r.job k) r.room r.entries p))
        ≡ token_format (cond a (token.Dir k) (cond b (token.Link k) (token.File k))) (record r { path = Some p })
    by_letter true b p = refl
    by_letter false true p = refl
    by_letter false false p = refl

    by_path : (o : Option Names) → PathReady r.entries o → at_letter (at_path o (λ p. node_then (entries_from r.job k) r.room r.entries p)) c ≡ token_format (node_token_of c k) (record r { path = o })
    by_path None ready = absurd ready
    by_path (Some p) ready = by_letter (c == 77) (c == 76) p

pub node_ready : (k c : ℕ) (r : Read) → PathReady r.entries r.path → TokenReady (node_token_of c k) r
node_ready k c r ready = by_letter (c == 77) (c == 76)
  where
    by_letter : (a b : Bool) → TokenReady (cond a (token.Dir k) (cond b (token.Link k) (token.File k))) r
    by_letter true b = ready
    by_letter false true = ready
    by_letter false false = ready

pub node_falls : (k c : ℕ) → token_rank (node_token_of c k) < 4 + 6 * k
unfolding token_rank
node_falls k c = by_letter (c == 77) (c == 76)
  where
    by_letter : (a b : Bool) → token_rank (cond a (token.Dir k) (cond b (token.Link k) (token.File k))) < 4 + 6 * k
    by_letter true b = omega arith
    by_letter false true = omega arith
    by_letter false false = omega arith

-- which stage has a field
pub only_token : (d : Due) (o : Option Field) → o ≡ Some (field_of d) → is_token_due o ≡ true → ((t : Token) → d ≡ due.Token t → ⊥) → ⊥
only_token (due.Token t) o e h none = none t refl
only_token (due.Body b n) o e h none = absurd (cc)
only_token (due.Kind k) o e h none = absurd (cc)
only_token due.Whole o e h none = absurd (cc)

pub only_body : (d : Due) (o : Option Field) (n : ℕ) → o ≡ Some (field_of d) → o ≡ Some (field.Body n) → ((b : Body) (m : ℕ) → d ≡ due.Body b m → ⊥) → ⊥
only_body (due.Token t) o n e h none = absurd (cc)
only_body (due.Body b m) o n e h none = none b m refl
only_body (due.Kind k) o n e h none = absurd (cc)
only_body due.Whole o n e h none = absurd (cc)

pub only_kind : (d : Due) (o : Option Field) → o ≡ Some (field_of d) → o ≡ Some field.Letter → ((k : ℕ) → d ≡ due.Kind k → ⊥) → ⊥
only_kind (due.Token t) o e h none = absurd (cc)
only_kind (due.Body b n) o e h none = absurd (cc)
only_kind (due.Kind k) o e h none = none k refl
only_kind due.Whole o e h none = absurd (cc)

pub only_whole : (d : Due) (o : Option Field) → o ≡ Some (field_of d) → o ≡ Some field.Whole → d ≡ due.Whole
only_whole (due.Token t) o e h = absurd (cc)
only_whole (due.Body b n) o e h = absurd (cc)
only_whole (due.Kind k) o e h = absurd (cc)
only_whole due.Whole o e h = refl

-- ENTRIES

push_all : (t : List (List ℕ) × Entry → Bool) (es : List (List (List ℕ) × Entry)) (e : List (List ℕ) × Entry) → list_all t es ≡ true → t e ≡ true → list_all t (es ++ e ∷ []) ≡ true
push_all t es e h k = rw (list_all-append t es (e ∷ []), h, k) refl

pub increasing_push : (es : List (List (List ℕ) × Entry)) (p : List (List ℕ)) (e : Entry) → Increasing es → comes_behind es (spelled p) ≡ true → Increasing (es ++ (p, e) ∷ [])
increasing_push [] p e h k = refl
increasing_push (f ∷ es) p e h k =
    let pair : (below (spelled f.0) (spelled p) ≡ true) × (comes_behind es (spelled p) ≡ true) = and_parts (below (spelled f.0) (spelled p)) (comes_behind es (spelled p)) k in
    let first : (list_all (λ g. below (spelled f.0) (spelled g.0)) es ≡ true) × (is_increasing es ≡ true) = and_parts (list_all (λ g. below (spelled f.0) (spelled g.0)) es) (is_increasing es) h in
    and_from _ _ (push_all (λ g. below (spelled f.0) (spelled g.0)) es (p, e) first.0 pair.0) (increasing_push es p e first.1 pair.1)

-- PATHS

pub pointwise_same : (a b : List ℕ) → pointwise nat_eq a b ≡ true → a ≡ b
pointwise_same [] [] h = refl
pointwise_same [] (y ∷ b) h = absurd (cc)
pointwise_same (x ∷ a) [] h = absurd (cc)
pointwise_same (x ∷ a) (y ∷ b) h =
    let pair : (nat_eq x y ≡ true) × (pointwise nat_eq a b ≡ true) = and_parts (nat_eq x y) (pointwise nat_eq a b) h in
    rw (eqb-true x y pair.0, pointwise_same a b pair.1) refl

pub path_spelled : (text : List ℕ) (p : List (List ℕ)) → path_of text ≡ Some p → spelled p ≡ text
unfolding path_of
path_spelled text p h = by_test (list_all is_name (names_of text)) (nat_le (length text) 4096) (pointwise nat_eq (spelled (names_of text)) text) refl h
  where
    by_test : (a b c : Bool) → pointwise nat_eq (spelled (names_of text)) text ≡ c → cond {A = Option (List (List ℕ))} (a && (b && c)) (Some (names_of text)) None ≡ Some p → spelled p ≡ text
    by_test true true true e h = let same : names_of text ≡ p = cc in ap spelled (sym same) ∙ pointwise_same (spelled (names_of text)) text e
    by_test true true false e h = absurd (cc)
    by_test true false c e h = absurd (cc)
    by_test false b c e h = absurd (cc)

-- a path that was judged good comes behind the entries, and is the text's
pub judged_good : (es : List (List (List ℕ) × Entry)) (text : List ℕ) (p : List (List ℕ)) → judged_path es text ≡ Ok p
    → (comes_behind es text ≡ true) × (path_of text ≡ Some p) × (has_parent es p ≡ true)
unfolding judged_path
judged_good es text p h = by_order (comes_behind es text) refl h
  where
    by_parent : (q : List (List ℕ)) (b : Bool) → has_parent es q ≡ b → cond {A = Result (List (List ℕ)) MirrorError} b (Ok q) (Err mirror.Parent) ≡ Ok p → (q ≡ p) × (has_parent es p ≡ true)
    by_parent q true e h = let same : q ≡ p = cc in (same, subst (λ (x : List (List ℕ)). has_parent es x ≡ true) same e)
    by_parent q false e h = absurd (cc)

    by_path : (o : Option (List (List ℕ))) → with_parent es o ≡ Ok p → (o ≡ Some p) × (has_parent es p ≡ true)
    by_path None h = absurd (cc)
    by_path (Some q) h = let r = by_parent q (has_parent es q) refl h in (ap Some r.0, r.1)

    by_order : (b : Bool) → comes_behind es text ≡ b → cond {A = Result (List (List ℕ)) MirrorError} b (with_parent es (path_of text)) (Err mirror.Order) ≡ Ok p
        → (comes_behind es text ≡ true) × (path_of text ≡ Some p) × (has_parent es p ≡ true)
    by_order true e h = let r = by_path (path_of text) h in (e, r.0, r.1)
    by_order false e h = absurd (cc)

pub judged_ready : (es : List (List (List ℕ) × Entry)) (text : List ℕ) (p : List (List ℕ)) → judged_path es text ≡ Ok p → comes_behind es (spelled p) ≡ true
judged_ready es text p h =
    let good = judged_good es text p h in
    ap (comes_behind es) (path_spelled text p good.1) ∙ good.0
