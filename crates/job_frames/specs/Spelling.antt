-- The spelling of frames: of tokens and fields, requests, images and replies; and what has one. What the bytes of a stream read as stands in
-- the other files.
use Rattle.std.specs.Prelude.{◌≡◌, ℕ, zero, suc, ◌+◌, ◌-◌, ◌*◌, ◌/◌, ◌%◌, ◌≤◌, false, List, [], ◌∷◌, ◌++◌, length, ◌==◌, if◌then◌else◌, nat_lt, Some, Ok, codes, IsTrue}
use Rattle.std.specs.List.{list_any, flat_map, AllByRecursion}
use Rattle.base_types.specs.Ascii as ascii
use Rattle.base_types.specs.Limits.{body_limit, diagnostic_limit, entry_limit, job_words_limit, path_limit, request_limit, text_limit, word_limit}
use Rattle.tree_model.specs.Paths.{Path, spelled}
use Rattle.tree_model.specs.Entries.{Entries, judged_path, makes_tree}
use Rattle.tree_model.specs.declared.entry.Entry.{Entry}
use Rattle.tree_model.specs.declared.entry.Entry.TheVariants.{Dir, File, Link}
use Rattle.job_words.specs.declared.job.Job.{Job}
use Rattle.job_words.specs.Words.{job_of, IsWord}
use Rattle.job_frames.specs.declared.answer.Answer.{Answer}
use Rattle.job_frames.specs.declared.answer.Answer.TheVariants as answer

-- ---- tokens and fields ----

-- the spelling of a digit, of the last k digits of a number, and of a token
abbrev pub digit : ℕ → ℕ
digit d = if nat_lt d 10 then ascii.zero_digit + d else 87 + d

unfoldable pub digits : ℕ → ℕ → List ℕ
digits zero n = []
digits (suc k) n = digits k (n / 16) ++ (digit (n % 16) ∷ [])

abbrev pub token : List ℕ → ℕ → List ℕ
token letters n = letters ++ digits 8 n

-- a token with a body
abbrev pub field : List ℕ → List ℕ → List ℕ
field letters body = token letters (length body) ++ body

-- ---- requests, images and replies ----

-- the spelling of a node, of an entry, and of all entries
abbrev pub node_bytes : Entry → List ℕ
node_bytes Dir = token (codes "MDIR") 0
node_bytes (File body) = field (codes "FILE") body
node_bytes (Link text) = field (codes "LINK") text

abbrev pub entry_bytes : Path × Entry → List ℕ
entry_bytes e = field (codes "NAME") (spelled e.0) ++ node_bytes e.1

unfoldable pub image_bytes : Entries → List ℕ
image_bytes es = token (codes "NFIL") (length es) ++ flat_map entry_bytes es

-- the one spelling of a request
unfoldable pub request_bytes : Job → Entries → List ℕ
request_bytes job es =
    token (codes "DIST") 0x103 ++ (field (codes "CDIR") job.setup.cwd ++ (token (codes "ARGC") (length job.words)
    ++ (flat_map (field (codes "ARGV")) job.words ++ image_bytes es)))

-- the spelling of words
abbrev pub words_bytes : List (List ℕ) → List ℕ
words_bytes words = token (codes "ARGC") (length words) ++ flat_map (field (codes "ARGV")) words

-- the one spelling of an answer
unfoldable pub reply_bytes : Answer → List ℕ
reply_bytes (answer.Text text) = token (codes "DONE") 0x103 ++ (token (codes "STAT") 0 ++ (token (codes "SERR") 0 ++ field (codes "DOTI") text))
reply_bytes (answer.Diag words) = token (codes "DONE") 0x103 ++ (token (codes "STAT") 0x100 ++ (field (codes "SERR") words ++ token (codes "DOTI") 0))
reply_bytes (answer.Refused n) = token (codes "RFSE") n

-- ---- what has a spelling ----

-- a node within the limits of its token
abbrev pub IsSpellable : Entry → Type 0
IsSpellable Dir = Unit {0}
IsSpellable (File body) = length body ≤ body_limit
IsSpellable (Link text) = (1 ≤ length text) × (length text ≤ path_limit - 1) × (list_any (λ c. c == 0) text ≡ false)

-- entries may stand behind others, one after another
abbrev pub MayFollow : Entries → Entries → Type 0
MayFollow before [] = Unit {0}
MayFollow before (e ∷ es) =
    ((judged_path before (spelled e.0) ≡ Ok e.0) × (2 ≤ length (spelled e.0)) × (length (spelled e.0) ≤ path_limit)) × IsSpellable e.1 × MayFollow (before ++ e ∷ []) es

abbrev pub AreWords : List (List ℕ) → Type 0
AreWords words = AllByRecursion IsWord words

-- what a request may be: a job that is the reading of its own working directory and words, entries that may stand one
-- behind another, and a spelling within the room
pub record IsRequest (job : Job) (es : Entries) : Type 0 where
  pub is_job : job_of job.setup.cwd job.words ≡ Some job
  pub place : (1 ≤ length job.setup.cwd) × (length job.setup.cwd ≤ word_limit)
  pub few_words : length job.words ≤ job_words_limit
  pub words : AreWords job.words
  pub few : length es ≤ entry_limit
  pub follow : MayFollow [] es
  pub small : length (request_bytes job es) ≤ request_limit

-- a body within the limit of a file
abbrev pub IsSmall : Entry → Type 0
IsSmall Dir = Unit {0}
IsSmall (File body) = length body ≤ body_limit
IsSmall (Link text) = Unit {0}

-- a job and a list of entries that makes a tree, each part within the limits of a request
pub record FitsRequest (job : Job) (es : Entries) : Type 0 where
  pub is_job : job_of job.setup.cwd job.words ≡ Some job
  pub place : (1 ≤ length job.setup.cwd) × (length job.setup.cwd ≤ word_limit)
  pub few_words : length job.words ≤ job_words_limit
  pub words : AreWords job.words
  pub tree : IsTrue (makes_tree es)
  pub few : length es ≤ entry_limit
  pub bodies : AllByRecursion (λ e. IsSmall e.1) es

-- an entry whose path and node have spellings
abbrev pub HasSpelling : Path × Entry → Type 0
HasSpelling e = (length (spelled e.0) ≤ path_limit) × IsSpellable e.1

-- what an image may be: entries that may stand one behind another, and a spelling within the room
pub record IsImage (es : Entries) : Type 0 where
  pub few : length es ≤ entry_limit
  pub follow : MayFollow [] es
  pub small : length (image_bytes es) ≤ request_limit

-- what an answer may be
abbrev pub IsAnswer : Answer → Type 0
IsAnswer (answer.Text text) = length text ≤ text_limit
IsAnswer (answer.Diag words) = (1 ≤ length words) × (length words ≤ diagnostic_limit)
IsAnswer (answer.Refused n) = (1 ≤ n) × (n ≤ 9)

-- how many bytes a reply has at most: four tokens and the longest text
abbrev pub longest_reply : ℕ
longest_reply = 4 * 12 + text_limit
