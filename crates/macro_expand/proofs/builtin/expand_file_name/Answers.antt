use Rattle.std.proofs.lemmas.Result.{err_from_is_err_and}
use Rattle.macro_expand.proofs.LoopLaws.{on_ok-both, if_err-map, file_unknown, file_work, goes_on-file}
use Rattle.macro_expand.proofs.builtin.expand_file_name.Goals as goal

pub returns-in_err-text-clause-err : goal.returns-in_err-text-clause-err
returns-in_err-text-clause-err g c =
    let p = err_from_is_err_and c.from_residual.result c.from_residual.ensures.1 in
    rw (p.1, p.2)
    (file_unknown (g.A.Answers.answerer c.args.source.now) c.args.mode c.args.depth c.args.answers.now c.file_name_text.new.answers c.args.work.now.left
    c.args.t c.args.pending.now c.requires.role _ c.in_err-text.ensures.err)

pub returns-clause-ok : goal.returns-clause-ok
returns-clause-ok g c =
    on_ok-both c.put_in_place.result
    (goes_on-file (g.A.Answers.answerer c.args.source.now) c.args.mode c.args.depth c.args.answers.now c.file_name_text.new.answers c.args.work.now.left
    c.args.t c.args.pending.now c.requires.role c.in_ok-text.ensures.state c.in_ok-text.text c.in_ok-text.ensures.ok c.put_in_place.new.work.left
    c.args.out.now.items c.put_in_place.new.out.items) c.put_in_place.ensures.paid c.put_in_place.ensures.ok

pub returns-clause-err : goal.returns-clause-err
returns-clause-err g c =
    if_err-map c.put_in_place.result
    (file_work (g.A.Answers.answerer c.args.source.now) c.args.mode c.args.depth c.args.answers.now c.file_name_text.new.answers c.args.work.now.left
    c.args.t c.args.pending.now c.requires.role c.in_ok-text.ensures.state c.in_ok-text.text c.in_ok-text.ensures.ok) c.put_in_place.ensures.err
