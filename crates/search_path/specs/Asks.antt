-- What is asked for: by a header name in a file, by a word of `-include`, and by the source's name.
use Rattle.std.specs.Prelude.{Bool, true, false, None, Some}
use Rattle.tree_model.specs.Paths.{Text}
use Rattle.search_path.specs.declared.asking.Visit.{Visit}
use Rattle.search_path.specs.declared.asking.Form.{Form}
use Rattle.search_path.specs.declared.asking.Form.TheVariants.{Source, Forced, Quote, Angle, NextQuote, NextAngle}
use Rattle.search_path.specs.declared.asking.Ask.{Ask}

-- the form of an include, and of an include_next; in angles or else in quotes
abbrev pub form_of : (next : Bool) → (angle : Bool) → Form
form_of false false = Quote
form_of false true = Angle
form_of true false = NextQuote
form_of true true = NextAngle

-- what a file asks for by a header name
abbrev pub header_ask : Visit → (next : Bool) → (angle : Bool) → Text → Ask
header_ask visit next angle name = record { form = form_of next angle; from = Some visit; name = name }

-- what a file of the job's words asks for
abbrev pub forced_ask : Text → Ask
forced_ask name = record { form = Forced; from = None; name = name }

-- the source
abbrev pub source_ask : Text → Ask
source_ask name = record { form = Source; from = None; name = name }
