use Rattle.std.proofs.Common.{◌∙◌}
use Rattle.macro_expand.specs.parts.Tries.{trie_of}
use Rattle.macro_expand.proofs.TrieLaws.{found-with}
use Rattle.macro_expand.proofs.hide_set.+has_name.Goals as goal

pub returns-in-Fork : goal.returns-in-Fork
returns-in-Fork t c = c.finds.ensures ∙ found-with (trie_of c.args.trie.now) c.args.name.now c.hash_of-hash.result c.hash_of-hash.ensures c.requires
