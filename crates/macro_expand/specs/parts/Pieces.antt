-- What code's values mean where a replacement's pieces are made.
use Rattle.std.specs.Prelude.{Bool, true, false, List, [], ◌∷◌, ◌++◌}
use Rattle.macro_expand.specs.declared.pieces.Arguments.{Arguments as KeptArguments}
use Rattle.macro_expand.specs.Replacement.{Marked, Arguments, BodyPart, Plain, Argument, Spelling, Join, unmarked, with_space, argument_at, stringized}
use Rattle.macro_expand.specs.Seen.{lists_of}

-- the arguments of a call that code keeps
abbrev pub arguments_seen : KeptArguments → Arguments
arguments_seen a = record { written = lists_of a.written.now; expanded = lists_of a.expanded.now; variable = a.variable }

-- the tokens that are left of an argument, the first of which still gets the parameter's space
abbrev pub spaced_from : Bool → Bool → List Marked → List Marked
spaced_from true space ts = with_space space ts
spaced_from false space ts = ts

-- a token, which gets this space where it is the first
abbrev pub spaced_at : Bool → Bool → Marked → Marked
spaced_at true space t = record t { token = record t.token { space = space } }
spaced_at false space t = t

-- the tokens of a part where no `##` stands in the list
abbrev pub tokens_of_part : Arguments → BodyPart → List Marked
tokens_of_part args (Plain t) = unmarked t ∷ []
tokens_of_part args (Argument i space) = with_space space (argument_at i args.expanded)
tokens_of_part args (Spelling i space) = stringized space (argument_at i args.written) ∷ []
tokens_of_part args Join = []

-- the tokens of the parts of a list without `##`, one after another
abbrev pub tokens_of_parts : Arguments → List BodyPart → List Marked
tokens_of_parts args [] = []
tokens_of_parts args (p ∷ ps) = tokens_of_part args p ++ tokens_of_parts args ps
