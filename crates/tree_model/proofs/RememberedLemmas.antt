-- Answers that are remembered, after one more.
use Rattle.std.proofs.Common.{◌≡◌, ◌⊎◌, ℕ, inl, inr, sym, ◌∙◌, ap, subst, cond, nat_eq, Bool, true, false, Option, None, Some, Result, Ok, Err, OnOk, OnErr, IfSome, refl}
use Rattle.std.specs.HashMap.{HashMap, Updates, IsUnchanged, get}
use Rattle.std.specs.Bool.{Decides}
use Rattle.std.specs.Map.{lookup}
use Rattle.std.specs.Option.{unwrap_or}
use Rattle.std.proofs.lemmas.Bool.{false_from_ne_true}
use lib.Pointwise.{pointwise, bytes_decides}
use Rattle.tree_model.specs.Paths.{Text, Path}
use Rattle.tree_model.specs.Reached.{reached}
use Rattle.tree_model.specs.declared.reached.Reached.{Reached}
use Rattle.tree_model.specs.Trees.{FileTree, node_at, IsNode}
use Rattle.tree_model.specs.parts.Remembered.{RememberedNodes, IsTrueOf, AreTrueWalks, number_of, kept_of}
use Rattle.tree_model.specs.declared.entry.Node.{Node}
use Rattle.tree_model.proofs.StepLemmas.{node_told}

-- what is remembered now was remembered before, or is what was put there
abbrev pub OneMore : {K V : Type 0} → (K → Option V) → (K → Option V) → K → V → Type 0
OneMore {K} {V} before now at got = (other : K) (answer : V) → now other ≡ Some answer → (before other ≡ Some answer) ⊎ ((other ≡ at) × (answer ≡ got))

-- one that is put into a map, whose keys are told apart by a test
module _ {K V : Type 0} (test : K → K → Bool) (decides : (one other : K) → Decides (test one other) (one ≡ other)) where
  -- changes no other
  pub others_stay : {S W E : Type 0} (before now : HashMap K V S) (at key : K) (copy : V) (result : Result W E) → key ≡ at → OnOk result (Updates test before now key (Some copy)) → OnErr result (IsUnchanged before now) → (other : K) → (other ≡ at → ⊥) → get test now other ≡ get test before other
  others_stay before now at key copy (Ok v) here put same other apart =
      put.2 other (false_from_ne_true _ (λ yes. apart (sym ((decides key other).0 yes) ∙ here)))
  others_stay before now at key copy (Err e) here put same other apart = ap (lookup (test other)) same

  found_or_put : (key other : K) (copy answer : V) (left : Option V) (same : Bool) → test key other ≡ same → cond same (Some copy) left ≡ Some answer → (left ≡ Some answer) ⊎ ((other ≡ key) × (answer ≡ copy))
  found_or_put key other copy answer left true is found = inr (sym ((decides key other).0 is), ap (λ a. unwrap_or a answer) (sym found))
  found_or_put key other copy answer left false is found = inl found

  along : (at key other : K) (got copy answer : V) (left : Option V) → key ≡ at → copy ≡ got → (left ≡ Some answer) ⊎ ((other ≡ key) × (answer ≡ copy)) → (left ≡ Some answer) ⊎ ((other ≡ at) × (answer ≡ got))
  along at key other got copy answer left here is (inl old) = inl old
  along at key other got copy answer left here is (inr (there, new)) = inr (there ∙ here, new ∙ is)

  pub one_more : {S W E : Type 0} (before now : HashMap K V S) (at key : K) (got copy : V) (result : Result W E) → key ≡ at → copy ≡ got → OnOk result (Updates test before now key (Some copy)) → OnErr result (IsUnchanged before now) → OneMore (get test before) (get test now) at got
  one_more before now at key got copy (Ok v) here is put same other answer found =
      along at key other got copy answer (get test before other) here is
      (found_or_put key other copy answer (get test before other) (test key other) refl (sym (put.0 other) ∙ found))
  one_more before now at key got copy (Err e) here is put same other answer found =
      inl (sym (ap (lookup (test other)) same) ∙ found)

-- what is kept of a text is of it
told_apart : (other : Text) (answer : Reached) (known : Text) (kept : Reached) (same : Bool) → pointwise nat_eq known other ≡ same → cond same (Some kept) None ≡ Some answer
    → (known ≡ other) × (kept ≡ answer)
told_apart other answer known kept true is found = ((bytes_decides known other).0 is, ap (λ o. unwrap_or o kept) found)
told_apart other answer known kept false is found = absurd (cc)

one_text : (before : Option (Text × Reached)) (text : Text) (it : Reached) (other : Text) (answer : Reached) (now : Option (Text × Reached))
    → ((got : Text × Reached) → now ≡ Some got → (before ≡ Some got) ⊎ ((number_of other ≡ number_of text) × (got ≡ (text, it)))) → kept_of other now ≡ Some answer
    → (kept_of other before ≡ Some answer) ⊎ ((other ≡ text) × (answer ≡ it))
one_text before text it other answer None more found = absurd (cc)
one_text before text it other answer (Some (known, kept)) more found =
    either (told_apart other answer known kept (pointwise nat_eq known other) refl found) (more (known, kept) refl)
  where
    either : (known ≡ other) × (kept ≡ answer) → (before ≡ Some (known, kept)) ⊎ ((number_of other ≡ number_of text) × (◌≡◌ {A = Text × Reached} (known, kept) (text, it)))
        → (kept_of other before ≡ Some answer) ⊎ ((other ≡ text) × (answer ≡ it))
    either same (inl old) = inl (ap (kept_of other) old ∙ found)
    either same (inr (there, new)) = inr (sym same.0 ∙ ap (λ (p : Text × Reached). p.0) new, sym same.1 ∙ ap (λ (p : Text × Reached). p.1) new)

-- one more by the texts' numbers is one more by the texts
pub one_text_more : (before now : ℕ → Option (Text × Reached)) (text : Text) (it : Reached) → OneMore before now (number_of text) (text, it)
    → OneMore (λ other. kept_of other (before (number_of other))) (λ other. kept_of other (now (number_of other))) text it
one_text_more before now text it more other answer found =
    one_text (before (number_of other)) text it other answer (now (number_of other)) (more (number_of other)) found

-- with one true answer more of a walk, all are true
pub walks_still_true : (told : Option FileTree) (before now : Text → Option Reached) (text : Text) (it : Reached) → OneMore before now text it → AreTrueWalks told before
    → IfSome told (λ tree. it ≡ reached tree text) → AreTrueWalks told now
walks_still_true told before now text it more true_of right =
    record { same = λ other answer found. told_so other answer (more other answer found) }
  where
    told_so : (other : Text) (answer : Reached) → (before other ≡ Some answer) ⊎ ((other ≡ text) × (answer ≡ it)) → (tree : FileTree) → told ≡ Some tree → answer ≡ reached tree other
    told_so other answer (inl old) tree is = true_of.same other answer old tree is
    told_so other answer (inr (at, new)) tree is =
        new ∙ subst (λ (o : Option FileTree). IfSome o (λ tree. it ≡ reached tree text)) is right ∙ ap (reached tree) (sym at)

-- with one true answer more, all are true
pub still_true : (told told' : Option FileTree) (before now : RememberedNodes) (path : Path) (got : Option Node) → OneMore before now path got → IsTrueOf told before → told' ≡ told → IsNode got → IfSome told (λ tree. got ≡ node_at tree path) → IsTrueOf told' now
still_true told told' before now path got more true_of same node right =
    record { form = λ other answer found. shown other answer (more other answer found); same = λ other answer found. told_so other answer (more other answer found) }
  where
    shown : (other : Path) (answer : Option Node) → (before other ≡ Some answer) ⊎ ((other ≡ path) × (answer ≡ got)) → IsNode answer
    shown other answer (inl old) = true_of.form other answer old
    shown other answer (inr (at, new)) = subst IsNode (sym new) node

    told_so : (other : Path) (answer : Option Node) → (before other ≡ Some answer) ⊎ ((other ≡ path) × (answer ≡ got)) → (tree : FileTree) → told' ≡ Some tree → answer ≡ node_at tree other
    told_so other answer (inl old) tree is = true_of.same other answer old tree (sym same ∙ is)
    told_so other answer (inr (at, new)) tree is = new ∙ node_told told tree got path (sym same ∙ is) right ∙ ap (node_at tree) (sym at)
