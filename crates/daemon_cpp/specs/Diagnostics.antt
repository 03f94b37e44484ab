-- Diagnostics: `PLACE:LINE: error: WORDS`, in the form of GCC's.
use Rattle.std.specs.Prelude.{ℕ, List, [], ◌∷◌, ◌++◌, take, Bool, true, false, if◌then◌else◌, codes}
use Rattle.std.specs.List.{flat_map}
use Rattle.std.specs.Fmt.{decimal}
use Rattle.base_types.specs.Limits.{diagnostic_limit}
use Rattle.base_types.specs.Ascii as ascii
use Rattle.pp_tokens.specs.declared.Token.{Token}
use Rattle.tree_model.specs.Paths.{Text}
use Rattle.tree_model.specs.Shown.{shown}
use Rattle.directive_scan.specs.declared.BranchName.{BranchName}
use Rattle.directive_scan.specs.declared.BranchName.TheVariants.{Elif, Else, Endif}

-- what is wrong
pub data Complaint : Type 0 where
  NoSource : Complaint
  TooLarge : Complaint
  OpenComment : Complaint
  WithoutIf : BranchName → Complaint
  AfterElse : BranchName → Complaint
  Unended : Complaint
  NotFound : Bool → Text → Complaint
  TooNested : Complaint
  NoHeaderName : Complaint
  ErrorLine : List Token → Complaint
  UnknownDirective : Complaint
  BadName : Complaint
  BadParameters : Complaint
  PasteAtEnd : Complaint
  LoneHash : Complaint
  BadLine : Complaint
  NoIdentifier : Complaint
  BadProbe : Complaint
  BadExpression : Complaint
  ZeroDivisor : Complaint
  NotInteger : Complaint
  TooWide : Complaint
  TooDeep : Complaint
  WrongCount : Text → Complaint
  UnendedCall : Text → Complaint
  BadPaste : Text → Text → Complaint
  DeepArguments : Complaint
  WorkLimit : Complaint
  TextLimit : Complaint

-- what is wrong, and where: a place and a physical line, 0 where it is the file as a whole
pub record Diagnostic : Type 0 where
  pub place : Text
  pub at : ℕ
  pub complaint : Complaint

-- the name of a directive that goes on with a conditional or ends it (6.10.1)
abbrev pub branch_spelling : BranchName → Text
branch_spelling Elif = codes "elif"
branch_spelling Else = codes "else"
branch_spelling Endif = codes "endif"

-- a token of an error directive, with a space in front where white space stands before it
abbrev pub error_token : Token → Text
error_token t = (if t.space then ascii.space ∷ [] else []) ++ shown t.text

-- the name of a header as it is asked for, in angles or else in quotes (6.4.7)
abbrev pub header_shown : Bool → Text → Text
header_shown true name = codes "<" ++ (shown name ++ codes ">")
header_shown false name = codes "\"" ++ (shown name ++ codes "\"")

-- a spelling between quotes
abbrev pub quoted : Text → Text
quoted text = codes "'" ++ (shown text ++ codes "'")

abbrev pub words_of : Complaint → Text
words_of NoSource = codes "cannot find source"
words_of TooLarge = codes "file too large"
words_of OpenComment = codes "unterminated comment"
words_of (WithoutIf name) = codes "#" ++ (branch_spelling name ++ codes " without #if")
words_of (AfterElse name) = codes "#" ++ (branch_spelling name ++ codes " after #else")
words_of Unended = codes "unterminated conditional"
words_of (NotFound angle name) = codes "cannot find " ++ header_shown angle name
words_of TooNested = codes "includes nested more than 200 deep"
words_of NoHeaderName = codes "no header name"
words_of (ErrorLine tokens) = codes "#error" ++ flat_map error_token tokens
words_of UnknownDirective = codes "unknown directive"
words_of BadName = codes "bad macro name"
words_of BadParameters = codes "bad macro parameters"
words_of PasteAtEnd = codes "'##' at an end of a replacement"
words_of LoneHash = codes "'#' without a parameter"
words_of BadLine = codes "bad #line"
words_of NoIdentifier = codes "no identifier"
words_of BadProbe = codes "bad __has_include"
words_of BadExpression = codes "bad expression"
words_of ZeroDivisor = codes "division by zero"
words_of NotInteger = codes "not an integer constant"
words_of TooWide = codes "integer constant too wide"
words_of TooDeep = codes "expression nested too deep"
words_of (WrongCount name) = codes "wrong number of arguments to " ++ quoted name
words_of (UnendedCall name) = codes "unterminated call of " ++ quoted name
words_of (BadPaste left right) = codes "bad paste of " ++ (quoted left ++ (codes " and " ++ quoted right))
words_of DeepArguments = codes "arguments nested too deep"
words_of WorkLimit = codes "work limit"
words_of TextLimit = codes "text limit"

-- the text of a diagnostic, cut to 65,536 bytes
unfoldable pub diagnostic_text : Diagnostic → Text
diagnostic_text d = take diagnostic_limit (shown d.place ++ (codes ":" ++ (decimal d.at ++ (codes ": error: " ++ words_of d.complaint))))
