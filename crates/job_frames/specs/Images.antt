-- Images: the entries of a tree alone, spelled and read as a request's are.
use Rattle.std.specs.Prelude.{◌≡◌, ◌⊎◌, ℕ, List, Some, None, Result, Ok, Err}
use Rattle.std.specs.Option.{option_map}
use Rattle.tree_model.specs.Entries.{Entries}
use Rattle.job_frames.specs.declared.FrameError.{FrameError}
use Rattle.job_frames.specs.declared.FrameError.TheVariants.{Memory}
use Rattle.job_frames.specs.Fields.{Step}
use Rattle.job_frames.specs.Formats.{reading}
use Rattle.job_frames.specs.Outcomes.{Verdict, reason, frame_ended, nothing_follows, number_of, value_of}
use Rattle.base_types.specs.Limits.{request_limit}
use Rattle.job_frames.specs.Request.{Got, image_from}

-- an image at the front of a text
abbrev pub image_at : List ℕ → Step Got
image_at bytes = reading (image_from None request_limit) bytes

-- the verdict on a whole image, behind which no byte may follow
abbrev pub image_verdict : List ℕ → Verdict Got
image_verdict bytes = nothing_follows (image_at bytes)

-- reading an image gives its entries, or the reason; only want of memory is no verdict
abbrev pub IsImageRead : Result Entries FrameError → Verdict Got → Type 0
IsImageRead (Ok es) v = option_map (λ got. got.entries) (value_of v) ≡ Some es
IsImageRead (Err e) v = (e ≡ Memory) ⊎ (frame_ended v ≡ reason (number_of e))
