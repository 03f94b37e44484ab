use Rattle.std.specs.Prelude.{codes}
use Rattle.std.proofs.Common.{ℕ, ◌++◌, ap, sym, ◌∙◌}
use Rattle.job_frames.specs.Spelling.{token, reply_bytes}
use Rattle.job_frames.proofs.WriterLemmas.{four_before}
use Rattle.job_frames.proofs.writers.text_front.Goals as goal

pub returns : goal.returns
unfolding reply_bytes
returns c = λ text same.
    four_before c.new-front.result.items c.push_token.new.out.items c.push_token-2.new.out.items c.push_token-3.new.out.items c.push_token-4.new.out.items (token (codes "DONE") 0x103) (token (codes "STAT") 0) (token (codes "SERR") 0) (token (codes "DOTI") c.args.size) text
    c.new-front.ensures.items c.in_ok-push_token.ensures c.in_ok-push_token-2.ensures c.in_ok-push_token-3.ensures c.in_ok-push_token-4.ensures
    ∙ ap (λ (n : ℕ). token (codes "DONE") 0x103 ++ (token (codes "STAT") 0 ++ (token (codes "SERR") 0 ++ (token (codes "DOTI") n ++ text)))) (sym same)
