-- Who answers in one choice run.
use Rattle.std.specs.Prelude.{ℕ, suc, List, [], ◌∷◌, ◌++◌, length, Option, None, codes}
use Rattle.macro_defs.specs.MacroDefinition.{MacroDefinition}
use Rattle.macro_expand.specs.Answered.{Reply, Answerer}
use Rattle.macro_expand.specs.Choice.{Sets}
use Rattle.symbolic_expand.specs.parts.Enumeration.{choices_of, choice_at}
use Rattle.symbolic_expand.specs.Texts.{text_inserted}

-- The state of a run: the numbers still to take, those taken with how many there were, the presumed name where it is known, and
-- the names met.
pub record Choosing : Type 0 where
  pub ahead : List ℕ
  pub taken : List (ℕ × ℕ)
  pub file : Option (List ℕ)
  pub met : List (List ℕ)

abbrev pub first_number : List ℕ → ℕ
first_number [] = 0
first_number (k ∷ ks) = k

abbrev pub other_numbers : List ℕ → List ℕ
other_numbers [] = []
other_numbers (k ∷ ks) = ks

-- the answer for a name with these definitions: the next number takes one of them, or leaves the name
abbrev pub chosen : List MacroDefinition → Choosing → Reply (Option MacroDefinition) Choosing
chosen [] s = record { answer = None; state = s }
chosen (d ∷ ds) s = record {
  answer = choice_at (choices_of (d ∷ ds)) (first_number s.ahead);
  state = record { ahead = other_numbers s.ahead; taken = s.taken ++ (first_number s.ahead, suc (length (d ∷ ds))) ∷ []; file = s.file; met = s.met };
}

-- a name that is met
abbrev pub meeting : List ℕ → Choosing → Choosing
meeting name s = record { ahead = s.ahead; taken = s.taken; file = s.file; met = text_inserted name s.met }

abbrev pub choosing_answerer : Sets → Answerer Choosing
choosing_answerer sets = record {
  definition = λ s name. chosen (sets name) (meeting name s);
  file = λ s. record { answer = s.file; state = meeting (codes "__FILE__") s };
  line = λ s line. record { answer = None; state = meeting (codes "__LINE__") s };
}
