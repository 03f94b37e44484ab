use Rattle.std.proofs.Common.{ap, ◌∙◌, ◌∷◌}
use Rattle.macro_expand.specs.parts.Pasting.{joined_from}
use Rattle.macro_expand.specs.Seen.{piece_of}
use Rattle.macro_expand.proofs.PasteLaws.{turn_joining}
use Rattle.macro_expand.proofs.paste.Joining.take.Goals as goal

pub returns-in-Joining-clause-ok : goal.returns-in-Joining-clause-ok
returns-in-Joining-clause-ok c =
    λ ps. ap (λ p. joined_from c.args.self.now (piece_of p ∷ ps)) c.in-Joining.is ∙ turn_joining c.args.self.now ps
