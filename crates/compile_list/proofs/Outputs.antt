-- The outputs of jobs, in a set.
use Rattle.std.proofs.Common.{◌≡◌, ◌||◌, Bool, true, false, cond, bytes_eq, not, List, [], ◌∷◌, ◌++◌, refl, sym, ap, ◌∙◌}
use Rattle.std.specs.HashSet.{HashSet, contains_by}
use Rattle.std.proofs.lemmas.Bool.{not-false}
use Rattle.std.proofs.lemmas.Cmp.{nat_list_eq_equiv}
use Rattle.std.proofs.lemmas.List.Folds.{list_any-append}
use Rattle.tree_model.specs.Paths.{Text}
use Rattle.job_words.specs.declared.job.Job.{Job}
use Rattle.compile_list.specs.Listed.{is_taken}
use Rattle.compile_list.specs.parts.Steps.{HasOutputs}

either : (a b : Bool) → cond a true b ≡ (b || (a || false))
either true true = refl
either true false = refl
either false true = refl
either false false = refl

-- one job more, of whose output the set has the name
pub output-more : {S : Type 0} (old new : HashSet Text S) (job : Job) (jobs all : List Job) (key : Text) → key ≡ job.output → all ≡ jobs ++ job ∷ [] → HasOutputs old jobs
    → ((q : Text) → contains_by (λ other. bytes_eq q other) new ≡ cond (bytes_eq key q) true (contains_by (λ other. bytes_eq q other) old))
    → HasOutputs new all
output-more old new job jobs all key is added has updates text =
    updates text
    ∙ ap (λ k. cond (bytes_eq k text) true (contains_by (λ other. bytes_eq text other) old)) is
    ∙ (ap (λ b. cond (bytes_eq job.output text) true b) (has text) ∙ ap (λ b. cond b true (is_taken text jobs)) (nat_list_eq_equiv.symm job.output text))
    ∙ (either (bytes_eq text job.output) (is_taken text jobs) ∙ sym (list_any-append (λ (other : Job). bytes_eq text other.output) jobs (job ∷ [])))
    ∙ ap (λ (l : List Job). is_taken text l) (sym added)

-- a name that isn't new is that of an earlier output
pub taken : {S : Type 0} (outputs : HashSet Text S) (jobs : List Job) (key output : Text) (new : Bool) → HasOutputs outputs jobs → key ≡ output
    → new ≡ not (contains_by (λ other. bytes_eq key other) outputs) → new ≡ false → is_taken output jobs ≡ true
taken outputs jobs key output new has is added not_new =
    sym (ap (λ k. is_taken k jobs) is) ∙ (sym (has key) ∙ not-false (contains_by (λ other. bytes_eq key other) outputs) (sym added ∙ not_new))
