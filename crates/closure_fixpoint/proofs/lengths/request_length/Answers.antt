use Rattle.std.proofs.Common.{◌∙◌, ap, length, List, ℕ}
use Rattle.search_path.specs.SetupOf.{SetupData}
use Rattle.job_frames.specs.Spelling.{words_bytes}
use Rattle.closure_fixpoint.proofs.LengthLaws.{request-length}
use Rattle.closure_fixpoint.proofs.lengths.request_length.Goals as goal

pub returns : goal.returns
returns c =
    request-length c.args.job.now c.args.entries.now c.cwd.result.now c.words_length.result c.entries_length.result
    (c.cwd.ensures ∙ ap (λ (s : SetupData). s.cwd) c.setup.ensures)
    (c.words_length.ensures.value ∙ ap (λ (ws : List (List ℕ)). length (words_bytes ws)) c.words.ensures)
    c.entries_length.ensures.value
