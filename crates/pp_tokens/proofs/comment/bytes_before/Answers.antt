use Rattle.std.proofs.Common.{Some, None}
use Rattle.pp_tokens.proofs.ByteRuns.{search_is}
use Rattle.pp_tokens.proofs.comment.bytes_before.Goals as goal

pub returns-in-Some-clause-run : goal.returns-in-Some-clause-run
returns-in-Some-clause-run c = search_is c.args.stop c.args.bytes.now (Some c.in-Some.place) c.in-Some.ensures

pub returns-in-None-clause-run : goal.returns-in-None-clause-run
returns-in-None-clause-run c = search_is c.args.stop c.args.bytes.now None c.in-None.ensures
