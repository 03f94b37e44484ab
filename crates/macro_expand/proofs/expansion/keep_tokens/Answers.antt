use Rattle.std.proofs.Common.{◌∙◌}
use Rattle.macro_expand.proofs.StreamLemmas.{moved_first}
use Rattle.macro_expand.proofs.expansion.keep_tokens.Goals as goal

pub loop-m-preserved : goal.loop-m-preserved
loop-m-preserved c =
    moved_first c.loop-m.out.items c.keep_token.new.out.items c.loop-m.list.items c.pop.new.self.items c.in-Some.m c.in-Some.ensures.items c.in-Ok.ensures
    ∙ c.loop-m.invariant
