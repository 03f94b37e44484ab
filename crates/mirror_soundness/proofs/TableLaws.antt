-- The macros of a table are among a list of definitions, and so among its sets.
use Rattle.std.proofs.Common.{◌≡◌, ◌∷◌, [], List, Option, Some, None, Bool, true, false, inl, inr, refl, sym, ap, subst, cond}
use Rattle.std.specs.Prelude.{bytes_eq}
use Rattle.std.specs.List.{filter_map}
use Rattle.std.proofs.lemmas.Slice.Eq.{bytes_eq-Decides}
use Rattle.base_types.specs.Members.{Member}
use Rattle.tree_model.specs.Paths.{Text}
use Rattle.tree_model.proofs.MemberLemmas.{Member-append_left, Member-append_right, Member-filter_map}
use Rattle.macro_defs.specs.MacroDefinition.{MacroDefinition}
use Rattle.macro_defs.specs.Defining.{Named}
use Rattle.macro_defs.specs.Table.{TableEntries, lookup, initial_entries}
use Rattle.macro_expand.specs.Expansion.{Table}
use Rattle.macro_expand.specs.Choice.{IsWithin}
use Rattle.job_words.specs.JobOf.{JobData}
use Rattle.job_words.specs.declared.MacroWord.{MacroWord}
use Rattle.job_words.specs.declared.MacroWord.TheVariants as word
use Rattle.daemon_cpp.specs.Prep.{with_macro, with_word, with_words, first_table}
use Rattle.closure_fixpoint.specs.Closure.{initial_definition, word_definition, first_definitions, of_name, definition_sets}
use Rattle.closure_fixpoint.proofs.MemberLaws.{Contains-from_Member}
use Rattle.closure_fixpoint.proofs.DistinctLaws.{distinct_there}

same_text : (a b : Text) → bytes_eq a b ≡ true → a ≡ b
same_text a b e = (bytes_eq-Decides a b).0 e

-- a definition of a name stands in a list
abbrev pub Has : List Named → Text → MacroDefinition → Type 0
Has definitions name d = Member (record { name = name; definition = d }) definitions

-- what a table has is among definitions
abbrev pub IsAmong : Table → List Named → Type 0
IsAmong table definitions = (name : Text) (d : MacroDefinition) → table name ≡ Some d → Has definitions name d

-- a table with a change, whose definition is among them if it is one
changed_among : (table : Table) (definitions : List Named) (name : Text) (new : Option MacroDefinition) → IsAmong table definitions
    → ((d : MacroDefinition) → new ≡ Some d → Has definitions name d) → IsAmong (with_macro table name new) definitions
changed_among table definitions name new among there n d e = go (bytes_eq name n) refl e
  where
    go : (b : Bool) → bytes_eq name n ≡ b → cond b new (table n) ≡ Some d → Has definitions n d
    go true is e = subst (λ (x : Text). Has definitions x d) (same_text name n is) (there d e)
    go false is e = among n d e

-- a table with one definition more, which is among them
pub defined_among : (table : Table) (definitions : List Named) (x : Named) → IsAmong table definitions → Member x definitions
    → IsAmong (with_macro table x.name (Some x.definition)) definitions
defined_among table definitions x among m =
    changed_among table definitions x.name (Some x.definition) among
    (λ d e. let is : x.definition ≡ d = cc in subst (λ (y : MacroDefinition). Has definitions x.name y) is m)

-- and one where a name was undefined
pub undefined_among : (table : Table) (definitions : List Named) (name : Text) → IsAmong table definitions → IsAmong (with_macro table name None) definitions
undefined_among table definitions name among = changed_among table definitions name None among (λ d e. absurd (cc))

-- the first table
word_among : (w : MacroWord) (table : Table) (definitions : List Named) → IsAmong table definitions
    → ((x : Named) → word_definition w ≡ Some x → Member x definitions) → IsAmong (with_word w table) definitions
word_among (word.Define name definition) table definitions among there = defined_among table definitions (record { name = name; definition = definition }) among (there (record { name = name; definition = definition }) refl)
word_among (word.Undef name) table definitions among there = undefined_among table definitions name among

words_among : (words : List MacroWord) (table : Table) (definitions : List Named) → IsAmong table definitions
    → ((w : MacroWord) → Member w words → (x : Named) → word_definition w ≡ Some x → Member x definitions)
    → IsAmong (with_words words table) definitions
unfolding with_words
words_among [] table definitions among there = among
words_among (w ∷ words) table definitions among there =
    words_among words (with_word w table) definitions (word_among w table definitions among (there w (inl refl)))
    (λ other m. there other (inr m))

-- what a table has stands in it
listed : (table : TableEntries) (name : Text) (d : MacroDefinition) → lookup table name ≡ Some d → Member (name, Some d) table
unfolding lookup
listed [] name d e = absurd (cc)
listed (entry ∷ table) name d e = go (bytes_eq name entry.0) refl e (listed table name d)
  where
    go : (b : Bool) → bytes_eq name entry.0 ≡ b → cond b entry.1 (lookup table name) ≡ Some d
        → (lookup table name ≡ Some d → Member (name, Some d) table) → Member (name, Some d) (entry ∷ table)
    go true is e rest = let same : name ≡ entry.0 = same_text name entry.0 is in inl (λ i. (sym same i, e i))
    go false is e rest = inr (rest e)

-- the first table of a job is among its first definitions
pub first_among : (job : JobData) → IsAmong (first_table job.macros) (first_definitions job)
first_among job =
    words_among job.macros (lookup initial_entries) (first_definitions job)
    (λ name d e.
    Member-append_left (record { name = name; definition = d }) (filter_map initial_definition initial_entries) (filter_map word_definition job.macros)
    (Member-filter_map initial_definition (name, Some d) (record { name = name; definition = d }) initial_entries (listed initial_entries name d e) refl))
    (λ w m x is.
    Member-append_right x (filter_map initial_definition initial_entries) (filter_map word_definition job.macros)
    (Member-filter_map word_definition w x job.macros m is))

-- SETS

own_name : (name : Text) (d : MacroDefinition) → of_name name (record { name = name; definition = d }) ≡ Some d
own_name name d = ap (λ (b : Bool). cond b (Some d) None) ((bytes_eq-Decides name name).1 refl)

-- a definition of a name is in the name's set
in_set : (definitions : List Named) (name : Text) (d : MacroDefinition) → Has definitions name d → Member d (definition_sets definitions name)
in_set definitions name d m =
    distinct_there d (filter_map (of_name name) definitions)
    (Member-filter_map (of_name name) (record { name = name; definition = d }) d definitions m (own_name name d))

-- a table that is among definitions lies within their sets
pub among_within : (table : Table) (definitions : List Named) → IsAmong table definitions → IsWithin table (definition_sets definitions)
among_within table definitions among name d e = Contains-from_Member d (definition_sets definitions name) (in_set definitions name d (among name d e))
