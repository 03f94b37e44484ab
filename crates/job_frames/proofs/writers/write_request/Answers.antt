use Rattle.std.proofs.Common.{◌∙◌, ap, ◌++◌, length, List, ℕ}
use Rattle.std.specs.Prelude.{codes}
use Rattle.std.specs.List.{flat_map}
use Rattle.search_path.specs.SetupOf.{SetupData}
use Rattle.job_frames.specs.Spelling.{token, field, image_bytes, request_bytes, words_bytes}
use Rattle.job_frames.proofs.WriterLemmas.{chained}
use Rattle.job_frames.proofs.writers.write_request.Goals as goal

pub returns : goal.returns
unfolding request_bytes
returns c =
    let job = c.args.job.now in
    c.of.ensures
    ∙ chained c.in_ok-out.out.items c.push_token.new.out.items c.push_field.new.out.items c.push_words.new.out.items c.push_entries.new.out.items
    (token (codes "DIST") 0x103) (field (codes "CDIR") job.setup.cwd) (token (codes "ARGC") (length job.words)) (flat_map (field (codes "ARGV")) job.words) (image_bytes c.args.entries.now)
    c.in_ok-out.ensures.items
    c.in_ok-push_token.ensures
    (c.in_ok-push_field.ensures ∙ ap (λ (b : List ℕ). c.push_token.new.out.items ++ field (codes "CDIR") b) (c.cwd.ensures ∙ ap (λ (s : SetupData). s.cwd) c.setup.ensures))
    (c.in_ok-push_words.ensures ∙ ap (λ (ws : List (List ℕ)). c.push_field.new.out.items ++ words_bytes ws) c.words.ensures)
    c.in_ok-push_entries.ensures
