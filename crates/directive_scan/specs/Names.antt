-- What a directive is by its name, which is told before its tokens are read (ISO C 6.10).
use Rattle.std.specs.Arc.{arc_value}
use Rattle.std.specs.Prelude.{List, drop}
use Rattle.pp_tokens.specs.declared.Token.{Token}
use Rattle.directive_scan.specs.declared.directive.Directive.{Directive}
use Rattle.directive_scan.specs.declared.directive.Directive.TheVariants as directive
use Rattle.directive_scan.specs.declared.name.DirectiveName.{DirectiveName}
use Rattle.directive_scan.specs.declared.name.DirectiveName.TheVariants as name
use Rattle.directive_scan.specs.declared.pieces.DirectiveRef.{DirectiveRef}
use Rattle.directive_scan.specs.Directives.{target_of, pragma_of}
use Rattle.directive_scan.specs.Gathered.{tokens_at_line}

-- the directive with a name, by the tokens behind it
abbrev pub directive_told : DirectiveName → List Token → Directive
directive_told name.Include ts = directive.Include (target_of ts)
directive_told name.Next ts = directive.Next (target_of ts)
directive_told name.Define ts = directive.Define ts
directive_told name.Undef ts = directive.Undef ts
directive_told name.If ts = directive.If ts
directive_told name.Ifdef ts = directive.Ifdef ts
directive_told name.Ifndef ts = directive.Ifndef ts
directive_told name.Elif ts = directive.Elif ts
directive_told name.Else ts = directive.Else
directive_told name.Endif ts = directive.Endif
directive_told name.Line ts = directive.Line ts
directive_told name.Error ts = directive.Error ts
directive_told name.Warning ts = directive.Warning
directive_told name.Pragma ts = pragma_of ts
directive_told name.Null ts = directive.Null
directive_told name.Unknown ts = directive.Unknown

-- the tokens of a lent directive behind its name
abbrev pub tokens_behind : DirectiveRef → List Token
tokens_behind line = drop 2 (tokens_at_line (arc_value line.lexed.now) line.line)
