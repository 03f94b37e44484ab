use Rattle.macro_defs.specs.parts.Stored.{number_named}
use Rattle.macro_defs.proofs.Places.{mapped-more}
use Rattle.macro_defs.proofs.numbers.each_looked_up.Goals as goal

pub loop-token-preserved : goal.loop-token-preserved
loop-token-preserved c =
    mapped-more (number_named c.args.numbers.now) c.args.body.now c.loop-token.token-index c.token-item.result c.loop-token.named.items
    c.looked_up.result c.push.new.self.items c.loop-token-test.true c.token-item.is c.loop-token.invariant c.looked_up.ensures c.in_ok-push.ensures.items
