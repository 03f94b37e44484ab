use Rattle.std.proofs.Common.{arith}
use Rattle.tree_gen.proofs.Paths.{header_is_canonical}
use Rattle.tree_gen.proofs.numbered.header.Goals as goal

pub child-requires : goal.child-requires
child-requires c = rw (c.as_bytes.ensures.value, c.in_ok-name.ensures.ok, c.requires.dir) (header_is_canonical c.args.number (omega (arith, c.requires.small)))
