use Rattle.std.proofs.Common.{rules, refl, sym, ap, ◌∙◌, Err}
use Rattle.search_path.specs.Search as searches
use Rattle.search_path.specs.SetupOf.{SetupData}
use Rattle.job_ends.specs.Record.{known}
use Rattle.job_ends.specs.declared.record.Cause.TheVariants as cause
use Rattle.client_steps.proofs.Ends.{used-by, at-some, some-host}
use Rattle.client_steps.proofs.Going.{settled-so, broken-so, phase_after-at, going-starved, going-fault, searched}
use Rattle.client_steps.proofs.analysing.searched.Goals as goal

pub returns-in-Ok-clause-keeps : goal.returns-in-Ok-clause-keeps
returns-in-Ok-clause-keeps g c = λ was calls from h.
    let K = known g.T.Of.Frozen.named c.args.budget in
    let of = c.index-jobs-job.result in
    let at = phase_after-at K c.args.jobs.now c.args.job of was c.args.fixpoint _ calls from _ c.requires.job c.index-jobs-job.is h in (
      of,
      at.0,
      searched K of was c.args.fixpoint c.put_search.new.self c.args.ask c.in-Ok.got calls from _ _ at.1 h.whole h.large h.means c.put_search.ensures.told
          (λ tree named. ap (λ (setup : SetupData). searches.search tree setup c.args.ask) (sym c.setup.ensures) ∙ sym (at-some _ _ tree (g.met.T.Tree.tells _ tree named) c.in-Ok.ensures.found))
          (used-by _ _ _ _ c.search.ensures.same c.search.ensures.cause.later) c.search.ensures.no_read,
    )

pub returns-in-Err-Fault-clause-keeps : goal.returns-in-Err-Fault-clause-keeps
returns-in-Err-Fault-clause-keeps g c = λ was calls from h.
    let K = known g.T.Of.Frozen.named c.args.budget in
    let some = some-host c.args.hosts.now c.requires.some_host in
    broken-so K _ _ c.args.job c.args.client calls from _ _ c.broken.ensures
    (going-fault K h.job c.args.jobs.now c.args.hosts.now c.args.job c.args.client was calls from _ _ h.listed h.going (used-by _ _ _ _ c.search.ensures.same c.search.ensures.cause.later) (c.in-Err-Fault.ensures.cause.rose (ap Err c.in-Err-Fault.field-0-is)) some.0 some.1)

pub returns-in-Err-Large : goal.returns-in-Err-Large
returns-in-Err-Large g c = record {
  advances = search rules;
  wire = refl;
  right = search rules;
  keeps = λ was calls from h.
      let K = known g.T.Of.Frozen.named c.args.budget in
      let some = some-host c.args.hosts.now c.requires.some_host in
      settled-so K _ _ _ c.args.job cause.Memory h.job calls from _ _ c.settled.ensures h.listed (going-starved K h.job was calls from _ _ h.going (used-by _ _ _ _ c.search.ensures.same c.search.ensures.cause.later) c.args.hosts.now some.0 some.1);
}
