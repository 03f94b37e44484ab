use Rattle.std.proofs.Common.{refl, arith, []}
use Rattle.daemon_cpp.specs.declared.outcome.Outcome.TheVariants.{Text, Diag}
use Rattle.job_ends.proofs.Deeds.{added-nil, given-named, local-text}
use Rattle.job_ends.proofs.steps.do_locally.Goals as goal

pub returns-in-Ok-Diag-clause-does : goal.returns-in-Ok-Diag-clause-does
returns-in-Ok-Diag-clause-does g c =
    record {
      put = [];
      did = record {
        talk = added-nil (g.W.Wire.talk c.args.end.now.wire);
        kept = added-nil (g.O.Outs.kept c.args.end.now.outs);
        told = c.preprocess.ensures.same;
        tree = c.preprocess.ensures.cause.later;
        wire = omega arith;
        outs = omega arith;
      };
      outcome_is = (refl, given-named (g.T.Tree.told c.args.end.now.tree) g.T.Of.Frozen.named c.args.job.now c.in-Ok-Diag.field-0 (Diag c.in-Ok-Diag.words) c.in-Ok-Diag.field-0-is (λ tree named. g.met.T.Tree.tells c.args.end.now.tree tree named) c.in-Ok-Diag.ensures.outcome);
    }

pub returns-in-Ok-Text-clause-does : goal.returns-in-Ok-Text-clause-does
returns-in-Ok-Text-clause-does g c =
    local-text g.T.Of.Frozen.named c.args.job.now c.in-Ok-Text.text _ _ _ c.put_text.result
    (record {
      talk = added-nil (g.W.Wire.talk c.args.end.now.wire);
      kept = added-nil (g.O.Outs.kept c.args.end.now.outs);
      told = c.preprocess.ensures.same;
      tree = c.preprocess.ensures.cause.later;
      wire = omega arith;
      outs = omega arith;
    })
    (given-named (g.T.Tree.told c.args.end.now.tree) g.T.Of.Frozen.named c.args.job.now c.in-Ok-Text.field-0 (Text c.in-Ok-Text.text) c.in-Ok-Text.field-0-is (λ tree named. g.met.T.Tree.tells c.args.end.now.tree tree named) c.in-Ok-Text.ensures.outcome)
    c.put_text.ensures.puts
