-- The first ends, at which clients did jobs, and the ends behind them.
use Rattle.std.proofs.Common.{◌≡◌, ◌≤◌, ℕ, zero, suc, arith, List, [], ◌∷◌, ◌++◌, length, map, take, drop, false, Option, refl, sym, ap, ◌∙◌, subst}
use Rattle.std.specs.List.{All, AllByRecursion}
use Rattle.std.proofs.lemmas.List.Elements.{recursion_from_All}
use Rattle.std.proofs.lemmas.List.{take-map, drop-map, length-take-le}
use Rattle.tree_model.specs.Trees.{FileTree}
use Rattle.job_words.specs.declared.job.Job.{Job}
use Rattle.io_edges.specs.declared.wire.Host.{Host}
use Rattle.io_edges.specs.Talk.{EachAnswered}
use Rattle.job_ends.specs.declared.record.Done.{Done}
use Rattle.job_ends.specs.Outside.{EndSeen}
use Rattle.job_ends.specs.Record.{known}
use Rattle.job_ends.specs.Works.{IsFresh}
use Rattle.client_order.specs.Ran.{ClientsRan}
use Rattle.client_order.specs.declared.totals.Totals.{Totals}
use Rattle.pump_run.specs.Run.{EachAnsweredBy}
use Rattle.pump_run.specs.parts.Steps.{ClientsDid}
use Rattle.pump_run.proofs.Still.{fresh-answered}

take-front : {X Y : Type 0} (f : X → Y) (xs ys : List X) → take (length xs) (map f (xs ++ ys)) ≡ map f xs
take-front f [] ys = refl
take-front f (x ∷ xs) ys = ap (λ zs. f x ∷ zs) (take-front f xs ys)

drop-front : {X Y : Type 0} (f : X → Y) (xs ys : List X) → drop (length xs) (map f (xs ++ ys)) ≡ map f ys
drop-front f [] ys = refl
drop-front f (x ∷ xs) ys = drop-front f xs ys

mapped-parts : {X Y : Type 0} (f : X → Y) (n : ℕ) (xs : List X) → map f (take n xs ++ drop n xs) ≡ map f xs
mapped-parts f zero xs = refl
mapped-parts f (suc n) [] = refl
mapped-parts f (suc n) (x ∷ xs) = ap (λ ys. f x ∷ ys) (mapped-parts f n xs)

mapped-front : {X Y : Type 0} (f : X → Y) (xs ys zs : List X) → map f xs ≡ map f ys → map f (xs ++ zs) ≡ map f (ys ++ zs)
mapped-front f xs ys zs same = map-joined f xs zs ∙ ap (λ l. l ++ map f zs) same ∙ sym (map-joined f ys zs)
  where
    map-joined : {X Y : Type 0} (f : X → Y) (xs ys : List X) → map f (xs ++ ys) ≡ map f xs ++ map f ys
    map-joined f [] ys = refl
    map-joined f (x ∷ xs) ys = ap (λ zs. f x ∷ zs) (map-joined f xs ys)

module _ {E : Type 0} (seen : E → EndSeen) (n : ℕ) (olds firsts : List E) where
  -- the ends after the first ones changed
  abbrev pub now : List E
  now = firsts ++ drop n olds

  fresh-behind : (m : ℕ) (ends : List E) → AllByRecursion IsFresh (map seen ends) → AllByRecursion IsFresh (map seen (drop m ends))
  fresh-behind zero ends fresh = fresh
  fresh-behind (suc m) [] fresh = tt
  fresh-behind (suc m) (e ∷ ends) fresh = fresh-behind m ends fresh.1

  answered-parts : (peer : List ℕ → List ℕ → Type 0) (front back : List E) → AllByRecursion (λ (e : E). EachAnswered peer (seen e).talk) front → EachAnsweredBy peer (map seen back)
      → EachAnsweredBy peer (map seen (front ++ back))
  answered-parts peer [] back of_front of_back = of_back
  answered-parts peer (e ∷ front) back of_front of_back = (of_front.0, answered-parts peer front back of_front.1 of_back)

  clients-did : (named : Option FileTree) (peer : List ℕ → List ℕ → Type 0) (budget : ℕ) (jobs : List Job) (hosts : List Host) (records : List Done) (totals : Totals)
      → length firsts ≡ n → AllByRecursion IsFresh (map seen olds) → All (λ (e : E). EachAnswered peer (seen e).talk) firsts
      → ClientsRan (known named budget) jobs hosts n false (map seen (take n olds)) (map seen firsts) records totals
      → ClientsDid named peer budget n jobs hosts records totals (map seen olds) (map seen now)
  clients-did named peer budget jobs hosts records totals number fresh answered ran = record {
    ran = subst (λ (before : List EndSeen). ClientsRan (known named budget) jobs hosts n false before (take n (map seen now)) records totals) (sym (take-map seen n olds))
        (subst (λ (after : List EndSeen). ClientsRan (known named budget) jobs hosts n false (map seen (take n olds)) after records totals)
        (sym (ap (λ m. take m (map seen now)) (sym number) ∙ take-front seen firsts (drop n olds))) ran);
    rest = ap (λ m. drop m (map seen now)) (sym number) ∙ drop-front seen firsts (drop n olds) ∙ sym (drop-map seen n olds);
    answered = answered-parts peer firsts (drop n olds) (recursion_from_All (λ (e : E). EachAnswered peer (seen e).talk) firsts answered) (fresh-answered peer (map seen (drop n olds)) (fresh-behind n olds fresh));
  }

  -- where the first ones are seen as before, so are all
  pub all-stayed : map seen firsts ≡ map seen (take n olds) → map seen now ≡ map seen olds
  all-stayed same = mapped-front seen firsts (take n olds) (drop n olds) same ∙ mapped-parts seen n olds

-- other ones in front leave as many
pub as-many : {X : Type 0} (n : ℕ) (xs front : List X) → n ≤ length xs → length front ≡ length (take n xs) → length (front ++ drop n xs) ≡ length xs
as-many zero xs [] few same = refl
as-many zero xs (y ∷ front) few same = absurd (omega (arith, same))
as-many (suc n) [] front few same = absurd (omega (arith, few))
as-many (suc n) (x ∷ xs) [] few same = absurd (omega (arith, same))
as-many (suc n) (x ∷ xs) (y ∷ front) few same = ap (λ m. suc m) (as-many n xs front (omega (arith, few)) (omega (arith, same)))

-- a list that is written back whole
pub written-back : {X : Type 0} (size : ℕ) (xs shown new : List X) → shown ≡ xs → length shown ≡ size → length new ≡ length shown → take size (new ++ drop (length new) xs) ≡ new
written-back size xs shown new same is number = ap (λ m. take m (new ++ drop (length new) xs)) (sym (number ∙ is)) ∙ front new (drop (length new) xs)
  where
    front : {X : Type 0} (ys zs : List X) → take (length ys) (ys ++ zs) ≡ ys
    front [] zs = refl
    front (y ∷ ys) zs = ap (λ l. y ∷ l) (front ys zs)

-- where the first ends were written
module _ {E : Type 0} (seen : E → EndSeen) (n : ℕ) (olds firsts : List E) (few : n ≤ length olds) (number : length firsts ≡ length (take n olds)) where
  pub did-first : (named : Option FileTree) (peer : List ℕ → List ℕ → Type 0) (budget : ℕ) (jobs : List Job) (hosts named_hosts : List Host) (records : List Done) (totals : Totals)
      → hosts ≡ named_hosts → AllByRecursion IsFresh (map seen olds) → All (λ (e : E). EachAnswered peer (seen e).talk) firsts
      → ClientsRan (known named budget) jobs hosts (length (take n olds)) false (map seen (take n olds)) (map seen firsts) records totals
      → ClientsDid named peer budget n jobs named_hosts records totals (map seen olds) (map seen (firsts ++ drop n olds))
  did-first named peer budget jobs hosts named_hosts records totals hosts_are fresh answered ran =
      let of_n : ClientsRan (known named budget) jobs hosts n false (map seen (take n olds)) (map seen firsts) records totals =
      subst (λ (m : ℕ). ClientsRan (known named budget) jobs hosts m false (map seen (take n olds)) (map seen firsts) records totals) (length-take-le n olds few) ran in
      let of_hosts : ClientsRan (known named budget) jobs named_hosts n false (map seen (take n olds)) (map seen firsts) records totals =
      subst (λ (hs : List Host). ClientsRan (known named budget) jobs hs n false (map seen (take n olds)) (map seen firsts) records totals) hosts_are of_n in
      clients-did seen n olds firsts named peer budget jobs named_hosts records totals (number ∙ length-take-le n olds few) fresh answered of_hosts

-- the first of fresh ends are fresh
pub fresh-first : {E : Type 0} (seen : E → EndSeen) (n : ℕ) (ends : List E) → AllByRecursion IsFresh (map seen ends) → AllByRecursion IsFresh (map seen (take n ends))
fresh-first seen zero ends fresh = tt
fresh-first seen (suc n) [] fresh = tt
fresh-first seen (suc n) (e ∷ ends) fresh = (fresh.0, fresh-first seen n ends fresh.1)
