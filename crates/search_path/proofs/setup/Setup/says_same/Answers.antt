use Rattle.std.proofs.Common.{sym, ◌∙◌}
use Rattle.search_path.specs.Keys.{is_same_setup-Decides}
use Rattle.search_path.proofs.setup.Setup.says_same.Goals as goal

pub returns : goal.returns
returns c =
    let decides = is_same_setup-Decides c.args.self.now c.args.other.now in
    (λ e. decides.0 (sym c.eq.ensures ∙ e), λ e. c.eq.ensures ∙ decides.1 e)
