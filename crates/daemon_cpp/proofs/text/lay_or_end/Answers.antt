use Rattle.std.proofs.Common.{map, refl}
use Rattle.macro_expand.specs.Stream.{to_come, lent_tokens}
use Rattle.cpp_output.specs.Layout.{put}
use Rattle.cpp_output.specs.Laid.{after_events}
use Rattle.daemon_cpp.proofs.Texts.{too-long}
use Rattle.daemon_cpp.proofs.text.lay_or_end.Goals as goal

pub returns-in-Ok-expand_rest-clause-err : goal.returns-in-Ok-expand_rest-clause-err
returns-in-Ok-expand_rest-clause-err c =
    too-long (after_events c.args.layout.now (map put (lent_tokens c.args.lent))) (to_come c.args.stream.now c.args.work.now.left) c.in-Ok-expand_rest.ensures.ok
    (c.in-Err-Full.ensures.full (rw c.in-Err-Full.field-0-is refl))
