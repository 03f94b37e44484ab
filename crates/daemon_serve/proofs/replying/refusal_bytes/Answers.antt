use Rattle.job_frames.specs.declared.FrameError.TheVariants as why
use Rattle.daemon_serve.proofs.ReplyPuts.{refusal-of}
use Rattle.daemon_serve.proofs.replying.refusal_bytes.Goals as goal

pub returns-in-Memory : goal.returns-in-Memory
returns-in-Memory c = refusal-of c.args.why why.Memory c.in-Memory.is

pub returns-in-Version : goal.returns-in-Version
returns-in-Version c = refusal-of c.args.why why.Version c.in-Version.is

pub returns-in-Token : goal.returns-in-Token
returns-in-Token c = refusal-of c.args.why why.Token c.in-Token.is

pub returns-in-Digits : goal.returns-in-Digits
returns-in-Digits c = refusal-of c.args.why why.Digits c.in-Digits.is

pub returns-in-Limit : goal.returns-in-Limit
returns-in-Limit c = refusal-of c.args.why why.Limit c.in-Limit.is

pub returns-in-Order : goal.returns-in-Order
returns-in-Order c = refusal-of c.args.why why.Order c.in-Order.is

pub returns-in-Parent : goal.returns-in-Parent
returns-in-Parent c = refusal-of c.args.why why.Parent c.in-Parent.is

pub returns-in-Words : goal.returns-in-Words
returns-in-Words c = refusal-of c.args.why why.Words c.in-Words.is

pub returns-in-Cut : goal.returns-in-Cut
returns-in-Cut c = refusal-of c.args.why why.Cut c.in-Cut.is
