use Rattle.std.proofs.Common.{ap, ◌∙◌}
use Rattle.symbolic_expand.specs.parts.Stored.{seen}
use Rattle.symbolic_expand.proofs.DefinedLaws.{seen_more, seen_same}
use Rattle.symbolic_expand.proofs.sets.add_to.Goals as goal

pub returns-in-Ok-clause-ok : goal.returns-in-Ok-clause-ok
returns-in-Ok-clause-ok c =
    ap seen (c.get_mut.follows.holds c.push.new.self).0
    ∙ seen_more c.args.names.now.entries c.args.name.now c.in-Some.definitions.now c.push.new.self c.args.definition c.in-Some.ensures.value c.in-Ok.ensures.items

pub returns-in-Err-clause-err : goal.returns-in-Err-clause-err
returns-in-Err-clause-err c =
    ap seen (c.get_mut.follows.holds c.push.new.self).0
    ∙ seen_same c.args.names.now.entries c.args.name.now c.in-Some.definitions.now c.push.new.self c.in-Some.ensures.value c.in-Err.ensures.items
