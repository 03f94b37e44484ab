-- Requests: their format, from its last field to its first.
use Rattle.std.specs.Prelude.{ℕ, zero, suc, ◌-◌, List, [], ◌∷◌, ◌++◌, if◌then◌else◌, ◌==◌, Option, Some, None, codes, Result, Ok, Err}
use Rattle.std.specs.List.{list_any}
use Rattle.base_types.specs.Ascii as ascii
use Rattle.base_types.specs.Limits.{body_limit, entry_limit, job_words_limit, path_limit, request_limit, word_limit}
use Rattle.tree_model.specs.Paths.{Text, Path}
use Rattle.tree_model.specs.Entries.{Entries, judged_path}
use Rattle.tree_model.specs.declared.entry.Entry.TheVariants.{Dir, File, Link}
use Rattle.tree_model.specs.declared.mem_tree.MirrorError.{MirrorError}
use Rattle.tree_model.specs.declared.mem_tree.MirrorError.TheVariants as mirror
use Rattle.job_words.specs.declared.job.Job.{Job}
use Rattle.job_words.specs.Words.{job_of}
use Rattle.job_frames.specs.Fields.{Step, version_reason, limit_reason, order_reason, parent_reason, words_reason, within, only, fits, bare, room_behind}
use Rattle.job_frames.specs.Formats.{Format, gives, refuses, due_token, due_body, due_letter, reading}

-- what is read: a job, where words were read before, and the entries
pub record Got : Type 0 where
  pub job : Option Job
  pub entries : Entries

-- what is due behind an entry, in the room left, with the entries so far
abbrev pub Onward : Type 0
Onward = ℕ → Entries → Format Got

unfoldable pub dir_then : Onward → ℕ → Entries → Path → Format Got
dir_then next room es path = due_token (codes "MDIR") (λ n. bare room (only 0 limit_reason n)) (λ n. next (room_behind room 0) (es ++ (path, Dir) ∷ []))

-- a link's text has no byte 0
unfoldable pub target_then : Onward → ℕ → Entries → Path → ℕ → Format Got
target_then next room es path n = due_body n (λ text. if list_any (λ c. c == 0) text then refuses limit_reason else next room (es ++ (path, Link text) ∷ []))

unfoldable pub link_then : Onward → ℕ → Entries → Path → Format Got
link_then next room es path = due_token (codes "LINK") (fits room 1 (path_limit - 1)) (λ n. target_then next (room_behind room n) es path n)

unfoldable pub file_body_then : Onward → ℕ → Entries → Path → ℕ → Format Got
file_body_then next room es path n = due_body n (λ body. next room (es ++ (path, File body) ∷ []))

unfoldable pub file_then : Onward → ℕ → Entries → Path → Format Got
file_then next room es path = due_token (codes "FILE") (fits room 0 body_limit) (λ n. file_body_then next (room_behind room n) es path n)

-- the first letter of a node's token tells which one is due
unfoldable pub node_then : Onward → ℕ → Entries → Path → Format Got
node_then next room es path =
    due_letter (λ c. if c == ascii.upper_m then dir_then next room es path else (if c == ascii.upper_l then link_then next room es path else file_then next room es path))

-- the reason of a path that may not stand where it stands
abbrev pub path_reason : MirrorError → ℕ
path_reason mirror.Order = order_reason
path_reason mirror.Parent = parent_reason

abbrev pub judged_then : Onward → ℕ → Entries → Result Path MirrorError → Format Got
judged_then next room es (Err why) = refuses (path_reason why)
judged_then next room es (Ok path) = node_then next room es path

unfoldable pub path_then : Onward → ℕ → Entries → ℕ → Format Got
path_then next room es n = due_body n (λ text. judged_then next room es (judged_path es text))

unfoldable pub name_then : Onward → ℕ → Entries → Format Got
name_then next room es = due_token (codes "NAME") (fits room 2 path_limit) (λ n. path_then next (room_behind room n) es n)

-- this many entries, behind those so far
unfoldable pub entries_from : Option Job → ℕ → Onward
entries_from job zero room es = gives (record { job = job; entries = es })
entries_from job (suc k) room es = name_then (entries_from job k) room es

-- the entries behind a job
unfoldable pub image_from : Option Job → ℕ → Format Got
image_from job room = due_token (codes "NFIL") (λ n. bare room (within 0 entry_limit n)) (λ n. entries_from job n (room_behind room 0) [])

-- the words are judged behind the last of them
abbrev pub with_job : Option Job → ℕ → Format Got
with_job None room = refuses words_reason
with_job (Some job) room = image_from (Some job) room

-- what is due behind a word, in the room left, with the words so far
abbrev pub WordsOnward : Type 0
WordsOnward = ℕ → Text → List Text → Format Got

unfoldable pub word_body_then : WordsOnward → ℕ → Text → List Text → ℕ → Format Got
word_body_then next room cwd words n = due_body n (λ word. next room cwd (words ++ word ∷ []))

unfoldable pub word_then : WordsOnward → ℕ → Text → List Text → Format Got
word_then next room cwd words = due_token (codes "ARGV") (fits room 1 word_limit) (λ n. word_body_then next (room_behind room n) cwd words n)

-- this many words, behind those so far
unfoldable pub words_from : ℕ → WordsOnward
words_from zero room cwd words = with_job (job_of cwd words) room
words_from (suc k) room cwd words = word_then (words_from k) room cwd words

unfoldable pub count_from : ℕ → Text → Format Got
count_from room cwd = due_token (codes "ARGC") (λ n. bare room (within 0 job_words_limit n)) (λ n. words_from n (room_behind room 0) cwd [])

unfoldable pub place_body_from : ℕ → ℕ → Format Got
place_body_from room n = due_body n (λ cwd. count_from room cwd)

unfoldable pub place_from : ℕ → Format Got
place_from room = due_token (codes "CDIR") (fits room 1 word_limit) (λ n. place_body_from (room_behind room n) n)

-- a request of this version
unfoldable pub request_from : ℕ → ℕ → Format Got
request_from version room = due_token (codes "DIST") (λ n. bare room (only version version_reason n)) (λ n. place_from (room_behind room 0))

-- a request at the front of a text
abbrev pub request_at : Text → Step Got
request_at bytes = reading (request_from 0x103 request_limit) bytes
