-- What a file that was lexed is read as. No public contract rests on it.
use Rattle.std.specs.Prelude.{◌≡◌, ◌≤◌, ◌+◌, suc, length}
use Rattle.pp_tokens.specs.Lines.{LexedFile}
use Rattle.directive_scan.specs.Directives.{pieces}
use Rattle.directive_scan.specs.Groups.{malformed_by, outline, role_of}
use Rattle.daemon_cpp.specs.declared.file_text.FileText.{FileText}
use Rattle.daemon_cpp.specs.parts.Reading.{token_count}

-- it is read as a lexed file is
pub record IsTextOf (file : LexedFile) (text : FileText) : Type 0 where
  pub pieces : text.pieces ≡ pieces file.lines
  pub tokens : text.tokens ≡ token_count file.lines
  pub open_comment : text.open_comment ≡ file.unended
  pub malformed : text.malformed ≡ malformed_by (outline role_of text.pieces)

-- each piece but one has a token, or stands before one that has
abbrev pub HasFewPieces : FileText → Type 0
HasFewPieces text = length text.pieces ≤ suc (text.tokens + text.tokens)

-- its conditionals are judged, and its pieces are few
abbrev pub IsJudged : FileText → Type 0
IsJudged text = (text.malformed ≡ malformed_by (outline role_of text.pieces)) × HasFewPieces text
