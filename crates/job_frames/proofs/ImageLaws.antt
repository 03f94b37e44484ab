-- Images are read from their spellings, and spelled as they are read.
use Rattle.std.proofs.Common.{◌≡◌, ℕ, List, ◌++◌, sym, ◌∙◌, ap, subst, None}
use Rattle.tree_model.specs.Entries.{Entries}
use Rattle.job_frames.specs.Fields.{taken}
use Rattle.base_types.specs.Limits.{request_limit}
use Rattle.job_frames.specs.Spelling.{image_bytes, IsImage}
use Rattle.job_frames.specs.Request.{Got, image_from}
use Rattle.job_frames.specs.Images.{image_at}
use Rattle.job_frames.proofs.FormatLemmas.{spelling_reads, reads_spelling, apart}
use Rattle.job_frames.proofs.FirmLemmas.{image_sound}
use Rattle.job_frames.proofs.SpellingLemmas.{image_spells}
use Rattle.job_frames.proofs.SpelledLemmas.{image_spelled}

pub images_read : (es : Entries) (rest : List ℕ) → IsImage es → image_at (image_bytes es ++ rest) ≡ taken (record { job = None; entries = es }) rest
images_read es rest is = spelling_reads (image_from None request_limit) (record { job = None; entries = es }) (image_bytes es) rest (image_spells None es request_limit is.few is.follow is.small)

pub images_spelled : (bytes : List ℕ) (got : Got) (rest : List ℕ) → image_at bytes ≡ taken got rest → IsImage got.entries × (bytes ≡ image_bytes got.entries ++ rest)
images_spelled bytes got rest h =
    let front = reads_spelling (image_from None request_limit) got bytes rest (image_sound None request_limit) h in
    let m = image_spelled None request_limit front.text got front.spells in
    let same : got.entries ≡ m.es = ap (λ (g : Got). g.entries) m.got_is in (
      subst (λ (es : Entries). IsImage es) (sym same) (record { few = m.few; follow = m.follow; small = m.small }),
      front.is ∙ ap (λ (t : List ℕ). t ++ rest) m.is ∙ ap (λ (es : Entries). image_bytes es ++ rest) (sym same),
    )

pub images_one : (es fs : Entries) (x y : List ℕ) → IsImage es → IsImage fs → image_bytes es ++ x ≡ image_bytes fs ++ y → (es ≡ fs) × (x ≡ y)
images_one es fs x y p q e =
    let one = apart (image_from None request_limit) (record { job = None; entries = es }) (record { job = None; entries = fs }) (image_bytes es) (image_bytes fs) x y
    (image_spells None es request_limit p.few p.follow p.small) (image_spells None fs request_limit q.few q.follow q.small) e in
    (ap (λ (g : Got). g.entries) one.0, one.1)
