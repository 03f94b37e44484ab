-- Which definition each name has (ISO C 6.10.3.5), and which names are defined (6.10.1).
use Rattle.std.specs.Prelude.{◌≡◌, ℕ, Bool, true, ◌||◌, List, [], ◌∷◌, map, if◌then◌else◌, Option, Some, None, is_some, codes, bytes_eq}
use Rattle.pp_tokens.specs.declared.Kind.{Kind}
use Rattle.pp_tokens.specs.declared.Kind.TheVariants.{Number, Str}
use Rattle.macro_defs.specs.declared.definition.Shape.TheVariants.{Object}
use Rattle.macro_defs.specs.MacroDefinition.{MacroDefinition}

-- A table as contracts see it: each name that was ever defined, in the order of the first definitions, with its definition,
-- or None where it was undefined since.
abbrev pub TableEntries : Type 0
TableEntries = List (List ℕ × Option MacroDefinition)

-- the names that were ever defined, in the order of the first definitions
abbrev pub names_ever_defined : TableEntries → List (List ℕ)
names_ever_defined entries = map (λ e. e.0) entries

-- the definition of a name, unless it was undefined since
unfoldable pub lookup : TableEntries → List ℕ → Option MacroDefinition
lookup [] name = None
lookup (e ∷ es) name = if bytes_eq name e.0 then e.1 else lookup es name

-- the names that are defined in every table, though a `#define` gives them nothing (6.10.1, 6.10.8.1)
abbrev pub is_always_defined : List ℕ → Bool
is_always_defined name = bytes_eq name (codes "__FILE__") || (bytes_eq name (codes "__LINE__") || bytes_eq name (codes "__has_include"))

-- whether a name is defined, as `#ifdef`, `#ifndef` and the operator `defined` ask (6.10.1)
abbrev pub is_defined_in : TableEntries → List ℕ → Bool
is_defined_in entries name = is_some (lookup entries name) || is_always_defined name

-- a table is another one with this for a name
abbrev pub SetsDefinition : TableEntries → List ℕ → Option MacroDefinition → TableEntries → Type 0
SetsDefinition old name definition new = (n : List ℕ) → lookup new n ≡ (if bytes_eq name n then definition else lookup old n)

-- the table after a definition: a name that stands there keeps its place, and another goes last
abbrev pub with_definition : TableEntries → List ℕ → Option MacroDefinition → TableEntries
with_definition [] name definition = (name, definition) ∷ []
with_definition (e ∷ es) name definition = if bytes_eq name e.0 then (e.0, definition) ∷ es else e ∷ with_definition es name definition

-- a macro whose replacement list is one token, written behind white space
abbrev pub one_token : Kind → List ℕ → Option MacroDefinition
one_token kind spelling = Some (record {
  shape = Object;
  body = (record { kind = kind; text = spelling; line = 0; space = true }) ∷ [];
})

-- the macros that every translation begins with (6.10.8.1); date and time are those of the epoch, so that a text depends on
-- its files alone
abbrev pub initial_entries : TableEntries
initial_entries =
    (codes "__STDC__", one_token Number (codes "1"))
    ∷ (codes "__STDC_VERSION__", one_token Number (codes "201710L"))
    ∷ (codes "__STDC_HOSTED__", one_token Number (codes "1"))
    ∷ (codes "__DATE__", one_token Str (codes "\"Jan  1 1970\""))
    ∷ (codes "__TIME__", one_token Str (codes "\"00:00:00\""))
    ∷ []
