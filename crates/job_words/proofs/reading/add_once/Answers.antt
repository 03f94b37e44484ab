use Rattle.job_words.proofs.EachOnce.{one-more}
use Rattle.job_words.proofs.reading.add_once.Goals as goal

pub returns-in_ok-push-clause-seen : goal.returns-in_ok-push-clause-seen
returns-in_ok-push-clause-seen c =
    rw (c.in_ok-push.ensures.ok, c.in_ok-copy_of.ensures)
    (one-more c.args.seen.now c.insert.new.self c.args.text c.args.list.now c.requires c.in_ok-insert.ensures.updates.0)
