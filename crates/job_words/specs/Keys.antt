-- Jobs as keys of tables: which are the same.
use Rattle.std.specs.Prelude.{◌≡◌, Bool, true, nat_eq, [], ◌∷◌, ◌++◌, ◌&&◌}
use Rattle.std.specs.Bool.{Decides}
use Rattle.std.specs.Cmp.{IsEquivalence, decided, first_so, second_so}
use Rattle.std.specs.Hash as fed
use Rattle.std.specs.Hash.{HashWrites}
use lib.Pointwise.{pointwise, pointwise_decides, bytes_decides}
use mathlib.Core.Bool.{true≢false}
use mathlib.Core.Path.{refl, sym, ap, subst}
use Rattle.macro_defs.specs.Sameness.{is_same_definition, is_same_definition-Decides}
use Rattle.search_path.specs.Keys.{are_same_texts, is_same_setup, is_same_setup-Decides, setup_writes}
use Rattle.job_words.specs.JobOf.{JobData}
use Rattle.job_words.specs.declared.macro_word.MacroWord.{MacroWord}
use Rattle.job_words.specs.declared.macro_word.MacroWord.TheVariants.{Define, Undef}
use Rattle.job_words.specs.contracts.macro_word.MacroWordPartialEq.TheImpl as macro_eq

-- what `==` answers at two words of macros
abbrev pub is_same_macro : MacroWord → MacroWord → Bool
is_same_macro = (macro_eq.ghosts).eq

same_macro : (one other : MacroWord) → is_same_macro one other ≡ true → one ≡ other
same_macro (Define one a) (Define other b) h =
    let name = first_so (pointwise nat_eq one other) (is_same_definition a b) h in
    let definition = second_so (pointwise nat_eq one other) (is_same_definition a b) h in
    λ i. Define ((bytes_decides one other).0 name i) ((is_same_definition-Decides a b).0 definition i)
same_macro (Define one a) (Undef other) h = absurd (true≢false (sym h))
same_macro (Undef one) (Define other b) h = absurd (true≢false (sym h))
same_macro (Undef one) (Undef other) h = ap Undef ((bytes_decides one other).0 h)

own_macro : (word : MacroWord) → is_same_macro word word ≡ true
own_macro (Define name a) = λ i. (bytes_decides name name).1 refl i && (is_same_definition-Decides a a).1 refl i
own_macro (Undef name) = (bytes_decides name name).1 refl

pub is_same_macro-Decides : (one other : MacroWord) → Decides (is_same_macro one other) (one ≡ other)
is_same_macro-Decides one other = (same_macro one other, λ e. subst (λ word. is_same_macro one word ≡ true) e (own_macro one))

-- the test whether two jobs are the same
abbrev pub is_same_job : JobData → JobData → Bool
is_same_job one other =
    are_same_texts one.words other.words
    && (pointwise nat_eq one.source other.source
    && (is_same_setup one.setup other.setup
    && (pointwise is_same_macro one.macros other.macros
    && (are_same_texts one.forced other.forced && pointwise nat_eq one.output other.output))))

-- what a job hands to a hasher: its macros are left out, since its words decide them
abbrev pub job_writes : JobData → HashWrites
job_writes job =
    fed.slice (λ text. text ∷ []) job.words
    ++ ((job.source ∷ [])
    ++ (setup_writes job.setup ++ (fed.slice (λ text. text ∷ []) job.forced ++ (job.output ∷ []))))

same_job_parts : (one other : JobData) (a b c d e f : Bool) → Decides a (one.words ≡ other.words) → Decides b (one.source ≡ other.source) → Decides c (one.setup ≡ other.setup) → Decides d (one.macros ≡ other.macros)
    → Decides e (one.forced ≡ other.forced) → Decides f (one.output ≡ other.output) → (a && (b && (c && (d && (e && f))))) ≡ true → one ≡ other
same_job_parts one other a b c d e f words source setup macros forced output all i =
    let behind_a = second_so a (b && (c && (d && (e && f)))) all in
    let behind_b = second_so b (c && (d && (e && f))) behind_a in
    let behind_c = second_so c (d && (e && f)) behind_b in
    let behind_d = second_so d (e && f) behind_c in
    record {
      words = words.0 (first_so a (b && (c && (d && (e && f)))) all) i;
      source = source.0 (first_so b (c && (d && (e && f))) behind_a) i;
      setup = setup.0 (first_so c (d && (e && f)) behind_b) i;
      macros = macros.0 (first_so d (e && f) behind_c) i;
      forced = forced.0 (first_so e f behind_d) i;
      output = output.0 (second_so e f behind_d) i;
    }

is_own_job : (job : JobData) → is_same_job job job ≡ true
is_own_job job i =
    (pointwise_decides bytes_decides job.words job.words).1 refl i
    && ((bytes_decides job.source job.source).1 refl i
    && ((is_same_setup-Decides job.setup job.setup).1 refl i
    && ((pointwise_decides is_same_macro-Decides job.macros job.macros).1 refl i
    && ((pointwise_decides bytes_decides job.forced job.forced).1 refl i && (bytes_decides job.output job.output).1 refl i))))

-- what `==` answers at two jobs
abbrev pub JobsDecide : Type 0
JobsDecide = (one other : JobData) → Decides (is_same_job one other) (one ≡ other)

pub is_same_job-Decides : JobsDecide
is_same_job-Decides one other = (
  same_job_parts one other _ _ _ _ _ _ (pointwise_decides bytes_decides one.words other.words) (bytes_decides one.source other.source) (is_same_setup-Decides one.setup other.setup)
      (pointwise_decides is_same_macro-Decides one.macros other.macros) (pointwise_decides bytes_decides one.forced other.forced) (bytes_decides one.output other.output),
  λ e. subst (λ job. is_same_job one job ≡ true) e (is_own_job one),
)

pub same_job_equiv : IsEquivalence is_same_job
same_job_equiv = decided is_same_job is_same_job-Decides
