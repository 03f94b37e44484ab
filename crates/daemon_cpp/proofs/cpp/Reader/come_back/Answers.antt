use Rattle.std.proofs.Common.{refl}
use Rattle.daemon_cpp.specs.declared.cpp.Reader.{Reader}
use Rattle.daemon_cpp.specs.Prep.{back_in}
use Rattle.daemon_cpp.specs.parts.Files.{here_of, RestLeadsTo, StepsTo}
use Rattle.daemon_cpp.proofs.Readers.{came-back, turns-brings, brings-before}
use Rattle.daemon_cpp.proofs.cpp.Reader.come_back.Goals as goal

pub returns-clause-brings : goal.returns-clause-brings
returns-clause-brings c = λ world behind.
    let mid : Reader = record c.args.self.now { file = c.in-Some.outer.file; around = c.pop.new.self } in
    let after : Reader = record mid { kept = c.mark_return.new.kept } in
    brings-before (RestLeadsTo world behind c.args.self.now) (StepsTo world behind mid (here_of c.args.self.now.file) (λ state. back_in (here_of c.in-Some.outer.file) c.in-Some.outer.at state)) after (λ done. RestLeadsTo world behind after) c.mark_return.result
    (λ whole left. came-back world behind c.args.self.now mid c.in-Some.outer whole c.requires.ended c.in-Some.ensures.items refl refl refl refl left)
    (turns-brings world behind mid after (here_of c.args.self.now.file) (λ state. back_in (here_of c.in-Some.outer.file) c.in-Some.outer.at state) c.mark_return.result refl refl refl refl (c.mark_return.ensures.turns (here_of c.args.self.now.file)))
