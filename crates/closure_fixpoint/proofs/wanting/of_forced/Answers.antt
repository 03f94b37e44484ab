use Rattle.std.proofs.Common.{◌≡◌, ◌∙◌, sym, ap, subst, inl, inr, None, Some, true}
use Rattle.tree_model.specs.Paths.{Text}
use Rattle.tree_model.proofs.MemberLemmas.{Member-map}
use Rattle.search_path.specs.declared.asking.Ask.{Ask}
use Rattle.search_path.specs.Asks.{forced_ask}
use Rattle.closure_fixpoint.specs.Progress.{SearchIsMade}
use Rattle.closure_fixpoint.proofs.MemberLaws.{MappedBy, map-Member}
use Rattle.closure_fixpoint.proofs.LoopLaws.{item_there, so_far, all_so_far}
use Rattle.closure_fixpoint.proofs.WantingLaws.{wanted_as}
use Rattle.closure_fixpoint.proofs.wanting.of_forced.Goals as goal

pub returns-in-Some : goal.returns-in-Some
returns-in-Some c =
    let named : forced_ask c.in_ok-copy_of.field-0 ≡ forced_ask c.name-item.result = ap forced_ask (c.in_ok-copy_of.ensures ∙ c.as_slice.ensures) in (
      forced_ask c.name-item.result,
      Member-map forced_ask c.name-item.result c.args.names.now
          (item_there c.args.names.now c.loop-name.name-index c.name-item.result c.loop-name-test.true c.name-item.is),
      wanted_as c.args.searches.now c.args.found.now (forced_ask c.in_ok-copy_of.field-0) (forced_ask c.name-item.result) true c.in_ok-want.field-0 (Some c.in-Some.want) named c.in-Some.is
          c.in_ok-want.ensures,
    )

pub loop-name-preserved : goal.loop-name-preserved
loop-name-preserved c name m =
    let named : forced_ask c.in_ok-copy_of.field-0 ≡ forced_ask c.name-item.result = ap forced_ask (c.in_ok-copy_of.ensures ∙ c.as_slice.ensures) in
    elim (so_far c.args.names.now c.loop-name.name-index c.name-item.result name c.loop-name-test.true c.name-item.is m) [
      | inl before ↦ c.loop-name.invariant name before
      | inr same ↦
          subst (λ (n : Text). SearchIsMade c.args.searches.now c.args.found.now (forced_ask n) true) (sym same)
          (wanted_as c.args.searches.now c.args.found.now (forced_ask c.in_ok-copy_of.field-0) (forced_ask c.name-item.result) true c.in_ok-want.field-0 None named c.in-None.is
          c.in_ok-want.ensures)
    ]

pub returns : goal.returns
returns c ask m =
    let by : MappedBy forced_ask c.args.names.now ask = map-Member forced_ask ask c.args.names.now m in
    subst (λ (a : Ask). SearchIsMade c.args.searches.now c.args.found.now a true) by.gives
    (c.loop-name.invariant by.by (all_so_far c.args.names.now c.loop-name.name-index by.by c.loop-name-test.false by.member))
