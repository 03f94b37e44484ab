-- A request is refused by the reasons 2 to 8, and a verdict on its front stays.
use Rattle.std.proofs.Common.{◌≡◌, ℕ, zero, suc, ◌+◌, List, [], ◌∷◌, ◌++◌, arith, refl, Option, Some, None, cond, true, false, Bool}
use Rattle.std.specs.Prelude.{◌==◌, ◌≤◌, nat_le, ◌&&◌, Result, Ok, Err}
use Rattle.std.specs.List.{list_any}
use Rattle.tree_model.specs.Paths.{Text, Path}
use Rattle.tree_model.specs.Entries.{Entries, judged_path}
use Rattle.tree_model.specs.declared.entry.Entry.TheVariants.{Dir, File, Link}
use Rattle.tree_model.specs.declared.mem_tree.MirrorError.{MirrorError}
use Rattle.tree_model.specs.declared.mem_tree.MirrorError.TheVariants as mirror
use Rattle.job_words.specs.declared.job.Job.{Job}
use Rattle.job_words.specs.Words.{job_of}
use Rattle.job_frames.specs.Fields.{within, fits, bare, room_behind, only}
use Rattle.job_frames.specs.Formats.{Format, refuses}
use Rattle.job_frames.specs.Outcomes.{going, reason, whatever_follows}
use Rattle.base_types.specs.Limits.{request_limit}
use Rattle.job_frames.specs.Request.{Got, Onward, dir_then, target_then, link_then, file_body_then, file_then, node_then, judged_then, path_then, name_then, entries_from, image_from, with_job, word_body_then, word_then, words_from, count_from, place_body_from, place_from, request_from, request_at}
use Rattle.job_frames.specs.parts.Dues.{due_of, is_token_due}
use Rattle.job_frames.proofs.FormatLemmas.{IsReason, IsJudge, Sound, format_firm, firm_verdict, reason_verdict}

-- JUDGES

chosen_judge : (test : Bool) (why : ℕ) → IsReason why → IsJudge (cond test None (Some why))
chosen_judge true why is = tt
chosen_judge false why is = is

pub five : IsReason 5
five = (omega arith, omega arith)

pub within_judge : (low high n : ℕ) → IsJudge (within low high n)
within_judge low high n = chosen_judge (nat_le low n && nat_le n high) 5 five

fits_judge : (room low high n : ℕ) → IsJudge (fits room low high n)
fits_judge room low high n = chosen_judge (nat_le low n && (nat_le n high && nat_le (12 + n) room)) 5 five

bare_judge : (room : ℕ) (o : Option ℕ) → IsJudge o → IsJudge (bare room o)
bare_judge room None is = chosen_judge (nat_le 12 room) 5 five
bare_judge room (Some why) is = is

pub only_judge : (wanted why n : ℕ) → IsReason why → IsJudge (only wanted why n)
only_judge wanted why n is = chosen_judge (n == wanted) why is

chosen_sound : (test : Bool) (f g : Format Got) → Sound f → Sound g → Sound (cond test f g)
chosen_sound true f g a b = a
chosen_sound false f g a b = b

chosen_token : (test : Bool) (f g : Format Got) → is_token_due (due_of f) ≡ true → is_token_due (due_of g) ≡ true → is_token_due (due_of (cond test f g)) ≡ true
chosen_token true f g a b = a
chosen_token false f g a b = b

-- ENTRIES

abbrev AreSound : Onward → Type 0
AreSound next = (room : ℕ) (es : Entries) → Sound (next room es)

module _ (next : Onward) (has : AreSound next) where
  dir_sound : (room : ℕ) (es : Entries) (path : Path) → Sound (dir_then next room es path)
  unfolding dir_then
  dir_sound room es path n = (bare_judge room (only 0 5 n) (only_judge 0 5 n five), has (room_behind room 0) (es ++ (path, Dir) ∷ []))

  link_sound : (room : ℕ) (es : Entries) (path : Path) → Sound (link_then next room es path)
  unfolding link_then target_then
  link_sound room es path n = (fits_judge room 1 4095 n, λ text. chosen_sound (list_any (λ c. c == 0) text) (refuses 5) (next (room_behind room n) (es ++ (path, Link text) ∷ [])) five (has (room_behind room n) (es ++ (path, Link text) ∷ [])))

  file_sound : (room : ℕ) (es : Entries) (path : Path) → Sound (file_then next room es path)
  unfolding file_then file_body_then
  file_sound room es path n = (fits_judge room 0 16777216 n, λ body. has (room_behind room n) (es ++ (path, File body) ∷ []))

  node_sound : (room : ℕ) (es : Entries) (path : Path) → Sound (node_then next room es path)
  unfolding node_then dir_then link_then file_then
  node_sound room es path b = (
    chosen_token (b == 77) (dir_then next room es path) (cond (b == 76) (link_then next room es path) (file_then next room es path)) refl (chosen_token (b == 76) (link_then next room es path) (file_then next room es path) refl refl),
    chosen_sound (b == 77) (dir_then next room es path) (cond (b == 76) (link_then next room es path) (file_then next room es path)) (dir_sound room es path)
        (chosen_sound (b == 76) (link_then next room es path) (file_then next room es path) (link_sound room es path) (file_sound room es path)),
  )

  judged_sound : (room : ℕ) (es : Entries) (v : Result Path MirrorError) → Sound (judged_then next room es v)
  judged_sound room es (Err mirror.Order) = (omega arith, omega arith)
  judged_sound room es (Err mirror.Parent) = (omega arith, omega arith)
  judged_sound room es (Ok path) = node_sound room es path

  name_sound : (room : ℕ) (es : Entries) → Sound (name_then next room es)
  unfolding name_then path_then
  name_sound room es n = (fits_judge room 2 4096 n, λ text. judged_sound (room_behind room n) es (judged_path es text))

entries_sound : (job : Option Job) (k : ℕ) → AreSound (entries_from job k)
unfolding entries_from
entries_sound job zero room es = tt
entries_sound job (suc k) room es = name_sound (entries_from job k) (entries_sound job k) room es

pub image_sound : (job : Option Job) (room : ℕ) → Sound (image_from job room)
unfolding image_from
image_sound job room n = (bare_judge room (within 0 100000 n) (within_judge 0 100000 n), entries_sound job n (room_behind room 0) [])

-- WORDS

job_sound : (o : Option Job) (room : ℕ) → Sound (with_job o room)
job_sound None room = (omega arith, omega arith)
job_sound (Some job) room = image_sound (Some job) room

words_sound : (k room : ℕ) (cwd : Text) (words : List Text) → Sound (words_from k room cwd words)
unfolding words_from word_then word_body_then
words_sound zero room cwd words = job_sound (job_of cwd words) room
words_sound (suc k) room cwd words = λ n. (fits_judge room 1 4096 n, λ word. words_sound k (room_behind room n) cwd (words ++ word ∷ []))

pub request_sound : Sound (request_from 0x103 request_limit)
unfolding request_from place_from place_body_from count_from
request_sound v = (
  bare_judge request_limit (only 0x103 2 v) (only_judge 0x103 2 v (omega arith, omega arith)),
  λ n. (
    fits_judge (room_behind request_limit 0) 1 4096 n,
    λ cwd k. (
      bare_judge (room_behind (room_behind request_limit 0) n) (within 0 1000 k) (within_judge 0 1000 k),
      words_sound k (room_behind (room_behind (room_behind request_limit 0) n) 0) cwd [],
    ),
  ),
)

-- THE VERDICT

pub request_firm : (bytes more : Text) → (whatever_follows (request_at bytes) ≡ going → ⊥) → whatever_follows (request_at (bytes ++ more)) ≡ whatever_follows (request_at bytes)
request_firm bytes more due = firm_verdict more (request_at bytes) (request_at (bytes ++ more)) (format_firm (request_from 0x103 request_limit) request_sound bytes more) due

pub request_reason : (bytes : Text) (n : ℕ) → whatever_follows (request_at bytes) ≡ reason n → (2 ≤ n) × (n ≤ 8)
request_reason bytes n is = reason_verdict [] (request_at bytes) (request_at (bytes ++ [])) n (format_firm (request_from 0x103 request_limit) request_sound bytes []) is
