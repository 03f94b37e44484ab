use Rattle.std.proofs.Common.{◌∙◌, ap, subst, arith}
use Rattle.tree_model.specs.Entries.{Entries}
use Rattle.job_frames.specs.Spelling.{request_bytes}
use Rattle.closure_fixpoint.specs.declared.entries.Gathered.{Gathered}
use Rattle.closure_fixpoint.specs.declared.entries.Gathered.TheVariants as variant
use Rattle.closure_fixpoint.specs.Gathering.{GathersNodes, ReadsFiles}
use Rattle.closure_fixpoint.specs.parts.Bodies.{bodies_known}
use Rattle.closure_fixpoint.proofs.GatherLaws.{unknown-few}
use Rattle.closure_fixpoint.proofs.AnalysisLaws.{are, gathered-refused, gathered-holds}
use Rattle.closure_fixpoint.proofs.job_analysis.request_with.Goals as goal

pub returns-in-Refused-clause-answer : goal.returns-in-Refused-clause-answer
returns-in-Refused-clause-answer g c told is budget done =
    gathered-refused c.more_definitions.ensures.headers c.more_definitions.ensures.long c.more_definitions.ensures.presumed c.more_definitions.ensures.many
    c.walked_law.ensures c.searches_locate.ensures told (g.met.T.Tree.whole c.args.tree.now told is) c.args.job.now budget c.args.closure.now.visits c.args.closure.now.nodes done
    c.in-Refused.refusal
    (subst (λ (got : Gathered). GathersNodes told c.args.job.now c.args.closure.now.nodes got) c.in-Refused.is (c.in_ok-entries.ensures.gathered told is))

pub returns-clause-answer : goal.returns-clause-answer
returns-clause-answer g c told is budget done =
    let gathered : GathersNodes told c.args.job.now c.args.closure.now.nodes (variant.Entries c.in-Entries.entries) =
    subst (λ (got : Gathered). GathersNodes told c.args.job.now c.args.closure.now.nodes got) c.in-Entries.is (c.in_ok-entries.ensures.gathered told is) in
    gathered-holds c.more_definitions.ensures.headers c.more_definitions.ensures.long c.more_definitions.ensures.presumed c.more_definitions.ensures.many
    c.walked_law.ensures c.searches_locate.ensures told (g.met.T.Tree.whole c.args.tree.now told is) c.args.job.now budget c.args.closure.now.visits c.args.closure.now.nodes done
    c.in-Entries.entries.items gathered.0 gathered.1 gathered.2
    c.in_ok-write_request.field-0 (c.in_ok-write_request.ensures ∙ ap (λ (es : Entries). request_bytes c.args.job.now es) c.deref.ensures.value)

pub returns-clause-reads : goal.returns-clause-reads
returns-clause-reads g c told is budget done =
    let gathered : GathersNodes told c.args.job.now c.args.closure.now.nodes (variant.Entries c.in-Entries.entries) =
    subst (λ (got : Gathered). GathersNodes told c.args.job.now c.args.closure.now.nodes got) c.in-Entries.is (c.in_ok-entries.ensures.gathered told is) in
    let known = bodies_known c.args.bodies.now in
    let read : ReadsFiles known (g.T.Tree.reads c.args.tree.now) (g.T.Tree.reads c.gather.new.tree) (variant.Entries c.in-Entries.entries) =
    subst (λ (got : Gathered). ReadsFiles known (g.T.Tree.reads c.args.tree.now) (g.T.Tree.reads c.gather.new.tree) got) c.in-Entries.is c.in_ok-entries.ensures.reads in (
      c.in-Entries.entries.items,
      are c.more_definitions.ensures.headers c.more_definitions.ensures.long c.more_definitions.ensures.presumed c.more_definitions.ensures.many
          c.walked_law.ensures c.searches_locate.ensures told (g.met.T.Tree.whole c.args.tree.now told is) c.args.job.now budget c.args.closure.now.visits c.args.closure.now.nodes done
          c.in-Entries.entries.items gathered.0,
      omega (arith, read, unknown-few known c.in-Entries.entries.items),
    )
