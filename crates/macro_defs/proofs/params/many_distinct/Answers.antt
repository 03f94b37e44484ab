use Rattle.std.proofs.Common.{◌≡◌, ◌+◌, take, ◌++◌, ◌∷◌, [], sym, ap, ◌∙◌, refl}
use Rattle.std.specs.Prelude.{bytes_eq}
use Rattle.std.specs.List.{list_any}
use Rattle.std.proofs.lemmas.List.{take_more}
use Rattle.macro_defs.specs.parts.Stored.{spellings_of}
use Rattle.macro_defs.specs.Defining.{are_distinct}
use Rattle.macro_defs.proofs.Names.{repeated, still_distinct, still_tells}
use Rattle.macro_defs.proofs.params.many_distinct.Goals as goal

pub loop-name-init : goal.loop-name-init
unfolding are_distinct
loop-name-init c = record {
  known = λ other. ap (λ ks. list_any (bytes_eq other) (spellings_of ks)) c.new-known.ensures.empty;
  distinct = refl;
}

pub returns-then-not-branch : goal.returns-then-not-branch
returns-then-not-branch c =
    sym (repeated c.args.names.now (spellings_of c.loop-name.known.keys) c.loop-name.name-index c.name-item.result c.loop-name-test.true c.name-item.is c.loop-name.invariant.known
    (sym c.if-not-branch.true ∙ c.in_ok-add_name.ensures.new))

pub loop-name-preserved : goal.loop-name-preserved
loop-name-preserved c =
    let step : take (c.loop-name.name-index + 1) c.args.names.now ≡ take c.loop-name.name-index c.args.names.now ++ c.name-item.result ∷ [] =
    take_more c.args.names.now c.loop-name.name-index c.name-item.result c.loop-name-test.true ∙ ap (λ n. take c.loop-name.name-index c.args.names.now ++ n ∷ []) (sym c.name-item.is) in
    record {
      known = still_tells c.args.names.now (spellings_of c.loop-name.known.keys) (spellings_of c.add_name.new.known.keys) c.loop-name.name-index c.name-item.result step c.loop-name.invariant.known
          c.in_ok-add_name.ensures.known;
      distinct = still_distinct c.args.names.now (spellings_of c.loop-name.known.keys) c.loop-name.name-index c.name-item.result step c.loop-name.invariant.distinct c.loop-name.invariant.known
          (sym c.if-not-branch.false ∙ c.in_ok-add_name.ensures.new);
    }
