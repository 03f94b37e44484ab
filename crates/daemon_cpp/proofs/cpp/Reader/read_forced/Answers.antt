use Rattle.std.proofs.Common.{◌≡◌, ◌<◌, ◌+◌, List, [], ◌∷◌, length, drop, get_or, Result, Err, ◌∙◌, subst, arith}
use Rattle.tree_model.specs.Paths.{Text}
use Rattle.search_path.specs.SetupOf.{SetupData}
use Rattle.daemon_cpp.specs.declared.stop.Stop.{Stop}
use Rattle.daemon_cpp.specs.Prep.{world_of}
use Rattle.daemon_cpp.specs.parts.Files.{ComesTo, Brings, source_behind}
use Rattle.daemon_cpp.proofs.Readers.{next-name, brings-before, brings-stop}
use Rattle.daemon_cpp.proofs.cpp.Reader.read_forced.Goals as goal

pub returns-in-Err-clause-brings : goal.returns-in-Err-clause-brings
returns-in-Err-clause-brings g c = λ told is source.
    let forced : List Text = c.args.job.now.forced in
    let rest : List Text = drop (c.loop-name.name-index + 1) forced in
    let item : c.name-item.result ≡ get_or forced c.loop-name.name-index c.name-item.result = rw c.forced-name-items.ensures at c.name-item.is in
    let below : c.loop-name.name-index < length forced = rw c.forced-name-items.ensures at c.loop-name-test.true in
    let brings = subst (λ (r : Result (Unit {0}) Stop). Brings (ComesTo (world_of told c.args.job.now.setup) (source_behind (world_of told c.args.job.now.setup) source (c.as_slice.result.now ∷ rest)) c.loop-name.self) c.read_named.new.self (λ done. ComesTo (world_of told c.args.job.now.setup) (source_behind (world_of told c.args.job.now.setup) source rest) c.read_named.new.self) r) c.in-Err.is
    (subst (λ (setup : SetupData). Brings (ComesTo (world_of told setup) (source_behind (world_of told setup) source (c.as_slice.result.now ∷ rest)) c.loop-name.self) c.read_named.new.self (λ (done : Unit {0}). ComesTo (world_of told setup) (source_behind (world_of told setup) source rest) c.read_named.new.self) c.read_named.result) c.setup.ensures
    (c.read_named.ensures.brings told (c.loop-name.invariant.same ∙ is) source rest)) in
    brings-before (ComesTo (world_of told c.args.job.now.setup) (source_behind (world_of told c.args.job.now.setup) source forced) c.args.self.now) (ComesTo (world_of told c.args.job.now.setup) (source_behind (world_of told c.args.job.now.setup) source (c.as_slice.result.now ∷ rest)) c.loop-name.self) c.read_named.new.self (λ (done : Unit {0}). ComesTo (world_of told c.args.job.now.setup) (source_behind (world_of told c.args.job.now.setup) source []) c.read_named.new.self) (Err c.in-Err.stop)
    (λ whole comes. next-name (world_of told c.args.job.now.setup) source forced c.loop-name.name-index c.name-item.result c.as_slice.result.now c.loop-name.self whole below item c.as_slice.ensures (c.loop-name.invariant.comes told is source whole comes))
    (brings-stop {A = Unit {0}} {B = Unit {0}} (ComesTo (world_of told c.args.job.now.setup) (source_behind (world_of told c.args.job.now.setup) source (c.as_slice.result.now ∷ rest)) c.loop-name.self) c.read_named.new.self (λ done. ComesTo (world_of told c.args.job.now.setup) (source_behind (world_of told c.args.job.now.setup) source rest) c.read_named.new.self) (λ done. ComesTo (world_of told c.args.job.now.setup) (source_behind (world_of told c.args.job.now.setup) source []) c.read_named.new.self) c.in-Err.stop brings)

pub loop-name-preserved : goal.loop-name-preserved
loop-name-preserved g c =
    record {
      same = c.in-Ok.ensures.same ∙ c.loop-name.invariant.same;
      later = omega (arith, c.loop-name.invariant.later, c.in-Ok.ensures.cause.later);
      read = c.in-Ok.ensures.read;
      comes = λ told is source whole comes.
          let forced : List Text = c.args.job.now.forced in
          let rest : List Text = drop (c.loop-name.name-index + 1) forced in
          let item : c.name-item.result ≡ get_or forced c.loop-name.name-index c.name-item.result = rw c.forced-name-items.ensures at c.name-item.is in
          let below : c.loop-name.name-index < length forced = rw c.forced-name-items.ensures at c.loop-name-test.true in
          let brings = subst (λ (r : Result (Unit {0}) Stop). Brings (ComesTo (world_of told c.args.job.now.setup) (source_behind (world_of told c.args.job.now.setup) source (c.as_slice.result.now ∷ rest)) c.loop-name.self) c.read_named.new.self (λ done. ComesTo (world_of told c.args.job.now.setup) (source_behind (world_of told c.args.job.now.setup) source rest) c.read_named.new.self) r) c.in-Ok.is
          (subst (λ (setup : SetupData). Brings (ComesTo (world_of told setup) (source_behind (world_of told setup) source (c.as_slice.result.now ∷ rest)) c.loop-name.self) c.read_named.new.self (λ (done : Unit {0}). ComesTo (world_of told setup) (source_behind (world_of told setup) source rest) c.read_named.new.self) c.read_named.result) c.setup.ensures
          (c.read_named.ensures.brings told (c.loop-name.invariant.same ∙ is) source rest)) in
          brings whole (next-name (world_of told c.args.job.now.setup) source forced c.loop-name.name-index c.name-item.result c.as_slice.result.now c.loop-name.self whole below item c.as_slice.ensures (c.loop-name.invariant.comes told is source whole comes));
    }
