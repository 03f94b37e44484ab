use Rattle.std.proofs.Common.{sym, ◌∙◌}
use Rattle.macro_expand.proofs.StreamLemmas.{first_taken}
use Rattle.macro_expand.proofs.stream.first_of.Goals as goal

pub returns : goal.returns
returns c =
    first_taken c.args.out.now.items c.pop.new.self.items c.pop.result _ _ (sym c.reverse.ensures.items ∙ c.pop.ensures.items) c.pop.new.self.ok.0 c.pop.ensures.cases
