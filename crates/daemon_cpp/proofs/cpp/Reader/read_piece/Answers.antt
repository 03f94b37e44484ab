use Rattle.std.proofs.Common.{◌+◌, ℕ, drop, Result, Ok, refl, ◌∙◌, ap, subst}
use Rattle.macro_expand.specs.declared.answers.Presumed.{Presumed}
use Rattle.directive_scan.specs.declared.Piece.{Piece}
use Rattle.directive_scan.specs.Groups.{role_of}
use Rattle.directive_scan.specs.Spots.{piece_seen}
use Rattle.daemon_cpp.specs.declared.stop.Stop.{Stop}
use Rattle.daemon_cpp.specs.declared.pieces.Move.{Move}
use Rattle.daemon_cpp.specs.declared.pieces.Move.TheVariants.{Enter, Renumber}
use Rattle.daemon_cpp.specs.declared.cpp.Reader.{Reader}
use Rattle.daemon_cpp.specs.Prep.{world_of, line_set, piece_step}
use Rattle.daemon_cpp.specs.parts.Showing.{Moves}
use Rattle.daemon_cpp.specs.parts.Files.{here_of, RestLeadsTo, Brings, behind_piece, MoveLeadsTo}
use Rattle.daemon_cpp.proofs.Readers.{piece-brings, turns-brings, brings-then, brings-stop}
use Rattle.daemon_cpp.proofs.cpp.Reader.read_piece.Goals as goal

pub returns-in-Ok-Onward-clause-brings : goal.returns-in-Ok-Onward-clause-brings
returns-in-Ok-Onward-clause-brings g c = λ told is behind whole left.
    let piece : Piece = piece_seen c.piece-piece.result in
    let moves = subst (λ (p : Presumed). Moves c.args.self.now.kept c.run_piece-moved.new.kept c.args.self.now.source (record { place = c.args.self.now.file.visit.place; found = c.args.self.now.file.visit.found; real = c.args.self.now.file.real; name = p.name; shift = p.shift })
    (λ entering state. piece_step (world_of told c.args.setup.now) entering piece state) c.run_piece-moved.result) c.presumed.ensures (c.run_piece-moved.ensures.moves told is) in
    let mid : Reader = behind_piece c.args.self.now c.run_piece-moved.new.kept in
    let brings = subst (λ (r : Result Move Stop). Brings (RestLeadsTo (world_of told c.args.setup.now) behind c.args.self.now) mid (λ move w. MoveLeadsTo (world_of told c.args.setup.now) behind mid move w) r) (c.in-Ok-Onward.is ∙ ap Ok c.in-Ok-Onward.field-0-is)
    (piece-brings (world_of told c.args.setup.now) behind c.args.self.now c.run_piece-moved.new.kept piece c.piece-piece.ensures.shown c.requires.below (ap role_of c.piece-piece.ensures.shown ∙ c.requires.role piece) c.run_piece-moved.result moves) in
    brings whole left

pub returns-in-Ok-Enter-clause-brings : goal.returns-in-Ok-Enter-clause-brings
returns-in-Ok-Enter-clause-brings g c = λ told is behind.
    let piece : Piece = piece_seen c.piece-piece.result in
    let moves = subst (λ (p : Presumed). Moves c.args.self.now.kept c.run_piece-moved.new.kept c.args.self.now.source (record { place = c.args.self.now.file.visit.place; found = c.args.self.now.file.visit.found; real = c.args.self.now.file.real; name = p.name; shift = p.shift })
    (λ entering state. piece_step (world_of told c.args.setup.now) entering piece state) c.run_piece-moved.result) c.presumed.ensures (c.run_piece-moved.ensures.moves told is) in
    let mid : Reader = behind_piece c.args.self.now c.run_piece-moved.new.kept in
    let brings = subst (λ (r : Result Move Stop). Brings (RestLeadsTo (world_of told c.args.setup.now) behind c.args.self.now) mid (λ move w. MoveLeadsTo (world_of told c.args.setup.now) behind mid move w) r) (c.in-Ok-Enter.is ∙ ap Ok c.in-Ok-Enter.field-0-is)
    (piece-brings (world_of told c.args.setup.now) behind c.args.self.now c.run_piece-moved.new.kept piece c.piece-piece.ensures.shown c.requires.below (ap role_of c.piece-piece.ensures.shown ∙ c.requires.role piece) c.run_piece-moved.result moves) in
    brings-then (RestLeadsTo (world_of told c.args.setup.now) behind c.args.self.now) mid c.enter.new.self (λ move w. MoveLeadsTo (world_of told c.args.setup.now) behind mid move w) (λ done. RestLeadsTo (world_of told c.args.setup.now) behind c.enter.new.self) (Enter c.in-Ok-Enter.at c.in-Ok-Enter.file) c.enter.result
    brings (rw c.into_inner.ensures at (c.enter.ensures.brings told (c.in-Ok-Enter.ensures.same ∙ is) behind))

pub returns-in-Ok-Renumber-clause-brings : goal.returns-in-Ok-Renumber-clause-brings
returns-in-Ok-Renumber-clause-brings g c = λ told is behind.
    let piece : Piece = piece_seen c.piece-piece.result in
    let moves = subst (λ (p : Presumed). Moves c.args.self.now.kept c.run_piece-moved.new.kept c.args.self.now.source (record { place = c.args.self.now.file.visit.place; found = c.args.self.now.file.visit.found; real = c.args.self.now.file.real; name = p.name; shift = p.shift })
    (λ entering state. piece_step (world_of told c.args.setup.now) entering piece state) c.run_piece-moved.result) c.presumed.ensures (c.run_piece-moved.ensures.moves told is) in
    let mid : Reader = behind_piece c.args.self.now c.run_piece-moved.new.kept in
    let brings = subst (λ (r : Result Move Stop). Brings (RestLeadsTo (world_of told c.args.setup.now) behind c.args.self.now) mid (λ move w. MoveLeadsTo (world_of told c.args.setup.now) behind mid move w) r) (c.in-Ok-Renumber.is ∙ ap Ok c.in-Ok-Renumber.field-0-is)
    (piece-brings (world_of told c.args.setup.now) behind c.args.self.now c.run_piece-moved.new.kept piece c.piece-piece.ensures.shown c.requires.below (ap role_of c.piece-piece.ensures.shown ∙ c.requires.role piece) c.run_piece-moved.result moves) in
    let after : Reader = record mid { kept = c.renumber.new.kept; file = c.renumber.new.file } in
    brings-then (RestLeadsTo (world_of told c.args.setup.now) behind c.args.self.now) mid after (λ move w. MoveLeadsTo (world_of told c.args.setup.now) behind mid move w) (λ done. RestLeadsTo (world_of told c.args.setup.now) behind after) (Renumber c.in-Ok-Renumber.at c.in-Ok-Renumber.new) c.renumber.result
    brings
    (turns-brings (world_of told c.args.setup.now) behind mid after (here_of c.args.self.now.file) (λ state. line_set c.in-Ok-Renumber.at c.in-Ok-Renumber.new state) c.renumber.result refl refl refl
    (ap (λ (n : ℕ). drop n c.renumber.new.file.pieces) c.renumber.ensures.rest.1 ∙ ap (drop (c.args.self.now.file.next + 1)) c.renumber.ensures.rest.0) (rw c.into_inner-in-Ok-Renumber.ensures at c.renumber.ensures.turns))

pub returns-in-Err-clause-brings : goal.returns-in-Err-clause-brings
returns-in-Err-clause-brings g c = λ told is behind.
    let piece : Piece = piece_seen c.piece-piece.result in
    let moves = subst (λ (p : Presumed). Moves c.args.self.now.kept c.run_piece-moved.new.kept c.args.self.now.source (record { place = c.args.self.now.file.visit.place; found = c.args.self.now.file.visit.found; real = c.args.self.now.file.real; name = p.name; shift = p.shift })
    (λ entering state. piece_step (world_of told c.args.setup.now) entering piece state) c.run_piece-moved.result) c.presumed.ensures (c.run_piece-moved.ensures.moves told is) in
    let mid : Reader = behind_piece c.args.self.now c.run_piece-moved.new.kept in
    let brings = subst (λ (r : Result Move Stop). Brings (RestLeadsTo (world_of told c.args.setup.now) behind c.args.self.now) mid (λ move w. MoveLeadsTo (world_of told c.args.setup.now) behind mid move w) r) (c.in-Err.is)
    (piece-brings (world_of told c.args.setup.now) behind c.args.self.now c.run_piece-moved.new.kept piece c.piece-piece.ensures.shown c.requires.below (ap role_of c.piece-piece.ensures.shown ∙ c.requires.role piece) c.run_piece-moved.result moves) in
    brings-stop {B = Unit {0}} (RestLeadsTo (world_of told c.args.setup.now) behind c.args.self.now) mid (λ move w. MoveLeadsTo (world_of told c.args.setup.now) behind mid move w) (λ done. RestLeadsTo (world_of told c.args.setup.now) behind mid) c.in-Err.stop brings
