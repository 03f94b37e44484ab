-- Definitions, as steps.
use Rattle.std.proofs.Common.{◌≡◌, ℕ, true, List, [], ◌∷◌, Option, None, Some, Result, Ok, Err, OnOk, IfErr, ◌<◌, ◌≤◌, ◌+◌, length, drop, get_or, refl, sym, ◌∙◌, ap, subst, arith}
use Rattle.tree_model.specs.Paths.{Text, Path}
use Rattle.pp_tokens.specs.declared.token.Token.{Token}
use Rattle.macro_defs.specs.MacroDefinition.{MacroDefinition}
use Rattle.macro_defs.specs.declared.definition.DefineError.{DefineError}
use Rattle.macro_defs.specs.Defining.{Named, defined_by, names_macro}
use Rattle.macro_defs.specs.Table.{TableEntries, lookup, SetsDefinition}
use Rattle.macro_expand.specs.Expansion.{Table}
use Rattle.daemon_cpp.specs.declared.kept.Kept.{Kept}
use Rattle.daemon_cpp.specs.declared.stop.Stop.{Stop}
use Rattle.daemon_cpp.specs.declared.stop.Stop.TheVariants as stop
use Rattle.daemon_cpp.specs.Prep.{Here, State, PrepStep, Go, with_macro, with_word, with_words, define_step, undef_step}
use Rattle.daemon_cpp.specs.parts.Showing.{Shows, Goes}
use Rattle.job_words.specs.declared.MacroWord.{MacroWord}
use Rattle.std.proofs.lemmas.List.{drop_more, drop_all}

-- a table that sets a name is, as a function, the one with it
pub sets-table : (old new : TableEntries) (name : Text) (definition : Option MacroDefinition) → SetsDefinition old name definition new →
    with_macro (lookup old) name definition ≡ lookup new
sets-table old new name definition sets = λ i. λ n. sym (sets n) i

-- a state whose macros are those of another table
macros-shown : (old : Kept) (macros : TableEntries) (main : Path) (file : Here) (state : State) (table : Table) → Shows old main file state → table ≡ lookup macros →
    Shows (record old { macros = macros }) main file (record state { macros = table })
macros-shown old macros main file state table shows same = record {
  source = shows.source;
  output = shows.output;
  within = shows.within;
  left = shows.left;
  opened = shows.opened;
  macros = same;
  once = shows.once;
  here = shows.here;
}

-- a name that has another definition now, or none
pub sets-goes : (old : Kept) (macros : TableEntries) (main : Path) (file : Here) (name : Text) (definition : Option MacroDefinition) (f : State → PrepStep) →
    ((state : State) → f state ≡ Go (record state { macros = with_macro state.macros name definition })) → SetsDefinition old.macros name definition macros →
    Goes old (record old { macros = macros }) main file {A = Unit {0}} f (Ok tt)
sets-goes old macros main file name definition f step sets state shows = (
  record state { macros = with_macro state.macros name definition },
  (
    step state,
    macros-shown old macros main file state (with_macro state.macros name definition) shows
        (ap (λ (t : Table). with_macro t name definition) shows.macros ∙ sets-table old.macros macros name definition sets),
  ),
)

-- a definition that was read
pub define-goes : (old : Kept) (macros : TableEntries) (main : Path) (file : Here) (at : ℕ) (tokens : List Token) (name : Text) (definition : MacroDefinition) →
    defined_by tokens ≡ Ok (record { name = name; definition = definition }) → SetsDefinition old.macros name (Some definition) macros →
    Goes old (record old { macros = macros }) main file {A = Unit {0}} (λ state. define_step at (defined_by tokens) state) (Ok tt)
define-goes old macros main file at tokens name definition read sets =
    sets-goes old macros main file name (Some definition) (λ state. define_step at (defined_by tokens) state)
    (λ state. ap (λ (r : Result Named DefineError). define_step at r state) read) sets

-- the table took it, or has no memory for it
pub define-sets : (old : Kept) (macros : TableEntries) (main : Path) (file : Here) (at : ℕ) (tokens : List Token) (name : Text) (definition : MacroDefinition) (r : Result (Unit {0}) Stop) →
    defined_by tokens ≡ Ok (record { name = name; definition = definition }) → OnOk r (SetsDefinition old.macros name (Some definition) macros) → IfErr r (λ e. e ≡ stop.Memory) →
    Goes old (record old { macros = macros }) main file (λ state. define_step at (defined_by tokens) state) r
define-sets old macros main file at tokens name definition (Ok done) read sets memory = define-goes old macros main file at tokens name definition read sets
define-sets old macros main file at tokens name definition (Err e) read sets memory =
    subst (λ (t : Stop). Goes old (record old { macros = macros }) main file {A = Unit {0}} (λ state. define_step at (defined_by tokens) state) (Err t)) (sym memory) tt

-- a name that is undefined
pub undef-goes : (old : Kept) (macros : TableEntries) (main : Path) (file : Here) (at : ℕ) (t : Token) (ts : List Token) → names_macro t ≡ true → SetsDefinition old.macros t.text None macros →
    Goes old (record old { macros = macros }) main file {A = Unit {0}} (λ state. undef_step at (t ∷ ts) state) (Ok tt)
undef-goes old macros main file at t ts names sets =
    sets-goes old macros main file t.text None (λ state. undef_step at (t ∷ ts) state) (λ state. rw names refl) sets

-- the same where the token is the first of the line
pub undef-first : (old : Kept) (macros : TableEntries) (main : Path) (file : Here) (at : ℕ) (tokens : List Token) (t d : Token) → 1 ≤ length tokens → t ≡ get_or tokens 0 d →
    names_macro t ≡ true → SetsDefinition old.macros t.text None macros →
    Goes old (record old { macros = macros }) main file {A = Unit {0}} (λ state. undef_step at tokens state) (Ok tt)
undef-first old macros main file at [] t d some is names sets = absurd (omega (arith, some))
undef-first old macros main file at (u ∷ us) t d some is names sets =
    undef-goes old macros main file at u us (ap names_macro (sym is) ∙ names) (subst (λ (v : Token). SetsDefinition old.macros v.text None macros) is sets)

-- ---- the job's words ----

-- the next word
pub words-turn : (words : List MacroWord) (i : ℕ) (w d : MacroWord) (table next whole : Table) → i < length words → w ≡ get_or words i d → next ≡ with_word w table →
    with_words (drop i words) table ≡ whole → with_words (drop (i + 1) words) next ≡ whole
unfolding with_words
words-turn words i w d table next whole below is same kept =
    ap (λ (t : Table). with_words (drop (i + 1) words) t) same
    ∙ ap (λ (v : MacroWord). with_words (drop (i + 1) words) (with_word v table)) is
    ∙ sym (ap (λ (ws : List MacroWord). with_words ws table) (drop_more words i d below))
    ∙ kept

-- no word is left
pub words-end : (words : List MacroWord) (i : ℕ) (table whole : Table) → length words ≤ i → with_words (drop i words) table ≡ whole → table ≡ whole
unfolding with_words
words-end words i table whole behind kept = sym (ap (λ (ws : List MacroWord). with_words ws table) (drop_all i words behind)) ∙ kept
