use Rattle.std.proofs.Common.{◌∙◌, sym}
use Rattle.macro_expand.specs.parts.Tries.{trie_of}
use Rattle.macro_expand.proofs.TrieLaws.{all-ordered, all-names, standing-all, if_ok-map}
use Rattle.macro_expand.proofs.hide_set.HideSet.with_all.Goals as goal

pub invariant_of-result : goal.invariant_of-result
invariant_of-result c =
    all-ordered (trie_of c.self.inside.names) (trie_of c.in_ok-shared.field-0) (trie_of c.smaller.inside.names) (trie_of c.in_ok-made.made.names)
    c.in_ok-shared.ensures c.in_ok-made.ensures c.self.invariant c.smaller.invariant

pub returns : goal.returns
returns c =
    all-names (trie_of c.self.inside.names) (trie_of c.in_ok-shared.field-0) (trie_of c.smaller.inside.names) (trie_of c.in_ok-made.made.names)
    c.in_ok-shared.ensures c.in_ok-made.ensures c.self.invariant c.smaller.invariant c.args.self.now c.args.smaller.now c.self.view_is c.smaller.view_is

pub returns-then-stands_in : goal.returns-then-stands_in
returns-then-stands_in c =
    if_ok-map c.copy.result
    (λ kept same n. standing-all (trie_of c.smaller.inside.names) (trie_of c.self.inside.names) c.smaller.invariant c.self.invariant
    c.args.smaller.now c.args.self.now c.smaller.view_is c.self.view_is (sym c.stands_in.ensures ∙ c.if-stands_in.true) n kept same) c.copy.ensures
