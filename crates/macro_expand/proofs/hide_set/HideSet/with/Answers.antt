use Rattle.std.proofs.Common.{refl}
use Rattle.macro_expand.specs.parts.Tries.{trie_of}
use Rattle.macro_expand.proofs.TrieLaws.{with-ordered, with-names}
use Rattle.macro_expand.proofs.hide_set.HideSet.with.Goals as goal

pub invariant_of-result : goal.invariant_of-result
invariant_of-result c =
    with-ordered (trie_of c.self.inside.names) (trie_of c.in_ok-linked.field-0) c.args.self.now c.args.name.now c.args.name.now c.hash_of-hash.result
    refl c.hash_of-hash.ensures c.in_ok-linked.ensures c.self.invariant

pub returns : goal.returns
returns c =
    with-names (trie_of c.self.inside.names) (trie_of c.in_ok-linked.field-0) c.args.self.now c.args.name.now c.args.name.now c.hash_of-hash.result
    refl c.hash_of-hash.ensures c.in_ok-linked.ensures c.self.view_is
