use Rattle.std.proofs.Common.{◌∙◌, sym}
use Rattle.macro_expand.specs.parts.Tries.{trie_of}
use Rattle.macro_expand.proofs.TrieLaws.{common-ordered, common-names, whole-names, standing-common, if_ok-map}
use Rattle.macro_expand.proofs.hide_set.HideSet.kept_by.Goals as goal

pub returns-then-stands_in : goal.returns-then-stands_in
returns-then-stands_in c =
    if_ok-map c.copy.result
    (λ kept same n. standing-common (trie_of c.self.inside.names) (trie_of c.larger.inside.names) c.self.invariant c.larger.invariant
    c.args.self.now c.args.larger.now c.self.view_is c.larger.view_is (sym c.stands_in.ensures ∙ c.if-stands_in.true) n kept same) c.copy.ensures

pub returns-then-has_all : goal.returns-then-has_all
returns-then-has_all c =
    if_ok-map c.copy-then-has_all.result
    (λ kept same n. whole-names (trie_of c.self.inside.names) (trie_of c.larger.inside.names) c.self.invariant c.larger.invariant
    c.args.self.now c.args.larger.now c.self.view_is c.larger.view_is kept same n (sym c.has_all.ensures ∙ c.if-has_all.true)) c.copy-then-has_all.ensures

pub invariant_of-result : goal.invariant_of-result
invariant_of-result c = common-ordered (trie_of c.self.inside.names) (trie_of c.larger.inside.names) (trie_of c.in_ok-made.made.names) c.self.invariant c.in_ok-made.ensures

pub returns : goal.returns
returns c =
    common-names (trie_of c.self.inside.names) (trie_of c.larger.inside.names) (trie_of c.in_ok-made.made.names) c.self.invariant c.in_ok-made.ensures c.larger.invariant
    c.args.self.now c.args.larger.now c.self.view_is c.larger.view_is
