use Rattle.std.proofs.Common.{List, [], Result, sym, subst}
use Rattle.directive_scan.specs.declared.Piece.{Piece}
use Rattle.daemon_cpp.specs.declared.stop.Stop.{Stop}
use Rattle.daemon_cpp.specs.declared.cpp.Reader.{Reader}
use Rattle.daemon_cpp.specs.declared.cpp.OpenFile.{OpenFile}
use Rattle.daemon_cpp.specs.Prep.{Go, world_of}
use Rattle.daemon_cpp.specs.parts.Files.{RestLeadsTo, ComesTo, Brings, opened_file, source_behind}
use Rattle.daemon_cpp.proofs.Readers.{source-brings, brings-stop}
use Rattle.daemon_cpp.proofs.cpp.Reader.enter_source.Goals as goal

pub returns-in_ok-self-in-Ok-clause-brings : goal.returns-in_ok-self-in-Ok-clause-brings
returns-in_ok-self-in-Ok-clause-brings g c = λ told is whole comes.
    let mid : Reader = record c.args.self.now { kept = c.open_file.new.kept; lexed = c.open_file.new.lexed } in
    let opened = subst (λ (r : Result (List Piece) Stop). Brings (ComesTo (world_of told c.args.setup.now) (source_behind (world_of told c.args.setup.now) c.args.source.now []) c.args.self.now) mid (λ pieces w. RestLeadsTo (world_of told c.args.setup.now) (λ state. Go state) (record mid { file = opened_file c.args.source.now pieces }) w) r) c.in-Ok.is
    (source-brings (world_of told c.args.setup.now) c.args.source.now c.args.self.now c.open_file.new.kept c.open_file.new.lexed c.requires (c.open_file.ensures.knows told is) c.open_file.result (c.open_file.ensures.opens told is)) in
    subst (λ (f : OpenFile). RestLeadsTo (world_of told c.args.setup.now) (λ state. Go state) (record mid { file = f }) whole) (sym c.in_ok-self-in-Ok.ensures) (opened whole comes)

pub returns-in-Err-clause-brings : goal.returns-in-Err-clause-brings
returns-in-Err-clause-brings g c = λ told is.
    let mid : Reader = record c.args.self.now { kept = c.open_file.new.kept; lexed = c.open_file.new.lexed } in
    brings-stop {B = Unit {0}} (ComesTo (world_of told c.args.setup.now) (source_behind (world_of told c.args.setup.now) c.args.source.now []) c.args.self.now) mid (λ pieces w. RestLeadsTo (world_of told c.args.setup.now) (λ state. Go state) (record mid { file = opened_file c.args.source.now pieces }) w) (λ done. RestLeadsTo (world_of told c.args.setup.now) (λ state. Go state) mid) c.in-Err.stop
    (subst (λ (r : Result (List Piece) Stop). Brings (ComesTo (world_of told c.args.setup.now) (source_behind (world_of told c.args.setup.now) c.args.source.now []) c.args.self.now) mid (λ pieces w. RestLeadsTo (world_of told c.args.setup.now) (λ state. Go state) (record mid { file = opened_file c.args.source.now pieces }) w) r) c.in-Err.is
    (source-brings (world_of told c.args.setup.now) c.args.source.now c.args.self.now c.open_file.new.kept c.open_file.new.lexed c.requires (c.open_file.ensures.knows told is) c.open_file.result (c.open_file.ensures.opens told is)))
