use Rattle.std.proofs.Common.{◌∙◌, sym}
use Rattle.macro_expand.specs.parts.Tries.{trie_of}
use Rattle.macro_expand.proofs.TrieLaws.{is_same-names}
use Rattle.macro_expand.proofs.hide_set.HideSet.is_same.Goals as goal

pub returns : goal.returns
returns c = λ same.
    sym c.self.view_is
    ∙ is_same-names (trie_of c.self.inside.names) (trie_of c.other.inside.names) (sym c.is_same.ensures ∙ same)
    ∙ c.other.view_is
