-- Where a reader of requests or images stands: which field is due, and the format from there on.
use Rattle.std.specs.Prelude.{◌≡◌, ◌⊎◌, ℕ, ◌+◌, ◌-◌, ◌*◌, List, [], ◌∷◌, ◌++◌, Option, Some, None, codes, true, ◌==◌, if◌then◌else◌, Result, Ok, Err}
use Rattle.std.specs.List.{list_any}
use Rattle.base_types.specs.Ascii as ascii
use Rattle.base_types.specs.Limits.{body_limit, entry_limit, job_words_limit, path_limit, request_limit, word_limit}
use Rattle.tree_model.specs.Entries.{Entries, comes_behind, Increasing}
use Rattle.tree_model.specs.Paths.{spelled}
use Rattle.tree_model.specs.Paths as path
use Rattle.tree_model.specs.declared.entry.Entry.{Entry}
use Rattle.tree_model.specs.declared.entry.Entry.TheVariants as node
use Rattle.tree_model.specs.declared.mem_tree.MirrorError.{MirrorError}
use Rattle.job_frames.specs.declared.FrameError.{FrameError}
use Rattle.job_frames.specs.declared.FrameError.TheVariants as why
use Rattle.job_frames.specs.declared.field.Field.{Field}
use Rattle.job_frames.specs.declared.field.Field.TheVariants as field
use Rattle.job_frames.specs.declared.request_due.Token.{Token}
use Rattle.job_frames.specs.declared.request_due.Token.TheVariants as token
use Rattle.job_frames.specs.declared.request_due.Body.{Body}
use Rattle.job_frames.specs.declared.request_due.Body.TheVariants as body
use Rattle.job_frames.specs.declared.request_due.Due.{Due}
use Rattle.job_frames.specs.declared.request_due.Due.TheVariants as due
use Rattle.job_frames.specs.declared.request_frame.Read.{Read}
use Rattle.job_frames.specs.declared.request_frame.RequestFrame.{RequestFrame}
use Rattle.job_frames.specs.Fields.{limit_reason, parent_reason, version_reason, within, only, fits, bare}
use Rattle.job_frames.specs.Formats.{Format, gives, refuses}
use Rattle.job_frames.specs.Outcomes.{number_of}
use Rattle.job_frames.specs.Request.{Got, path_reason, entries_from, name_then, path_then, node_then, dir_then, link_then, target_then, file_then, file_body_then, image_from, words_from, word_then, word_body_then, count_from, place_body_from, place_from, request_from}
use Rattle.job_frames.specs.parts.Dues.{Went}

-- at the path that came before, where there is one
abbrev pub at_path : Option path.Path → (path.Path → Format Got) → Format Got
at_path None next = refuses parent_reason
at_path (Some p) next = next p

-- the format where a token is due, and where a body is
unfoldable pub token_format : Token → Read → Format Got
token_format token.Version r = request_from r.version r.room
token_format token.Place r = place_from r.room
token_format token.Argc r = count_from r.room r.cwd
token_format (token.Word k) r = word_then (words_from k) r.room r.cwd r.words
token_format token.Count r = image_from r.job r.room
token_format (token.Name k) r = name_then (entries_from r.job k) r.room r.entries
token_format (token.Dir k) r = at_path r.path (λ p. dir_then (entries_from r.job k) r.room r.entries p)
token_format (token.Link k) r = at_path r.path (λ p. link_then (entries_from r.job k) r.room r.entries p)
token_format (token.File k) r = at_path r.path (λ p. file_then (entries_from r.job k) r.room r.entries p)

unfoldable pub body_format : Body → ℕ → Read → Format Got
body_format body.Place n r = place_body_from r.room n
body_format (body.Word k) n r = word_body_then (words_from k) r.room r.cwd r.words n
body_format (body.Path k) n r = path_then (entries_from r.job k) r.room r.entries n
body_format (body.Target k) n r = at_path r.path (λ p. target_then (entries_from r.job k) r.room r.entries p n)
body_format (body.File k) n r = at_path r.path (λ p. file_body_then (entries_from r.job k) r.room r.entries p n)

abbrev pub format_of : Due → Read → Format Got
format_of (due.Token t) r = token_format t r
format_of (due.Body b n) r = body_format b n r
format_of (due.Kind k) r = at_path r.path (λ p. node_then (entries_from r.job k) r.room r.entries p)
format_of due.Whole r = gives (record { job = r.job; entries = r.entries })

-- the letters of a token, what its number may be, and how long a body it announces
unfoldable pub letters_of : Token → List ℕ
letters_of token.Version = codes "DIST"
letters_of token.Place = codes "CDIR"
letters_of token.Argc = codes "ARGC"
letters_of (token.Word k) = codes "ARGV"
letters_of token.Count = codes "NFIL"
letters_of (token.Name k) = codes "NAME"
letters_of (token.Dir k) = codes "MDIR"
letters_of (token.Link k) = codes "LINK"
letters_of (token.File k) = codes "FILE"

unfoldable pub judge_of : Token → Read → ℕ → Option ℕ
judge_of token.Version r n = bare r.room (only r.version version_reason n)
judge_of token.Place r n = fits r.room 1 word_limit n
judge_of token.Argc r n = bare r.room (within 0 job_words_limit n)
judge_of (token.Word k) r n = fits r.room 1 word_limit n
judge_of token.Count r n = bare r.room (within 0 entry_limit n)
judge_of (token.Name k) r n = fits r.room 2 path_limit n
judge_of (token.Dir k) r n = bare r.room (only 0 limit_reason n)
judge_of (token.Link k) r n = fits r.room 1 (path_limit - 1) n
judge_of (token.File k) r n = fits r.room 0 body_limit n

unfoldable pub length_of : Token → ℕ → ℕ
length_of token.Place n = n
length_of (token.Word k) n = n
length_of (token.Name k) n = n
length_of (token.Link k) n = n
length_of (token.File k) n = n
length_of _ n = 0

-- how many words or entries a token's number may announce
unfoldable pub most_of : Token → ℕ
most_of token.Argc = job_words_limit
most_of token.Count = entry_limit
most_of _ = 4294967295

-- the token of a node, by its first letter
abbrev pub node_token_of : ℕ → ℕ → Token
node_token_of c k = if c == ascii.upper_m then token.Dir k else (if c == ascii.upper_l then token.Link k else token.File k)

-- the field that is due
abbrev pub field_of : Due → Field
field_of (due.Token t) = field.Token (letters_of t)
field_of (due.Body b n) = field.Body n
field_of (due.Kind k) = field.Letter
field_of due.Whole = field.Whole

-- what is due behind a word and behind an entry, by how many are left
abbrev pub words_due : ℕ → Read → Format Got
words_due k r = words_from k r.room r.cwd r.words

abbrev pub names_due : ℕ → Read → Format Got
names_due k r = entries_from r.job k r.room r.entries

-- an entry with this node at the path that came before, and what is due behind it
abbrev pub node_due : Entry → ℕ → Read → Format Got
node_due entry k r = at_path r.path (λ p. entries_from r.job k r.room (r.entries ++ (p, entry) ∷ []))

-- what is due behind a link's text
abbrev pub target_due : List ℕ → ℕ → Read → Format Got
target_due text k r = if list_any (λ c. c == 0) text then refuses limit_reason else node_due (node.Link text) k r

-- what is due behind a token's number
unfoldable pub token_next : Token → Read → ℕ → Format Got
token_next token.Version r n = token_format token.Place r
token_next token.Place r n = body_format body.Place n r
token_next token.Argc r n = words_due n r
token_next (token.Word k) r n = body_format (body.Word k) n r
token_next token.Count r n = names_due n r
token_next (token.Name k) r n = body_format (body.Path k) n r
token_next (token.Dir k) r n = node_due node.Dir k r
token_next (token.Link k) r n = body_format (body.Target k) n r
token_next (token.File k) r n = body_format (body.File k) n r

-- how many fields may be due yet
abbrev pub words_rank : ℕ → ℕ
words_rank k = 2000003 + 2 * k

abbrev pub names_rank : ℕ → ℕ
names_rank k = 2 + 6 * k

unfoldable pub token_rank : Token → ℕ
token_rank token.Version = 3000010
token_rank token.Place = 3000009
token_rank token.Argc = 3000007
token_rank (token.Word k) = 2000004 + 2 * k
token_rank token.Count = 2000000
token_rank (token.Name k) = 6 + 6 * k
token_rank (token.Dir k) = 3 + 6 * k
token_rank (token.Link k) = 3 + 6 * k
token_rank (token.File k) = 3 + 6 * k

unfoldable pub body_rank : Body → ℕ
body_rank body.Place = 3000008
body_rank (body.Word k) = words_rank k
body_rank (body.Path k) = 5 + 6 * k
body_rank (body.Target k) = names_rank k
body_rank (body.File k) = names_rank k

abbrev pub rank : Due → ℕ
rank (due.Token t) = token_rank t
rank (due.Body b n) = body_rank b
rank (due.Kind k) = 4 + 6 * k
rank due.Whole = 0

-- the path of an entry that is to come, which comes behind all entries so far
abbrev pub PathReady : Entries → Option path.Path → Type 0
PathReady es None = ⊥
PathReady es (Some p) = comes_behind es (spelled p) ≡ true

-- how the parts are where a field is due
abbrev pub TokenReady : Token → Read → Type 0
TokenReady token.Version r = (r.words ≡ []) × (r.entries ≡ [])
TokenReady token.Place r = (r.words ≡ []) × (r.entries ≡ [])
TokenReady token.Argc r = (r.words ≡ []) × (r.entries ≡ [])
TokenReady (token.Word k) r = r.entries ≡ []
TokenReady token.Count r = r.entries ≡ []
TokenReady (token.Name k) r = Unit {0}
TokenReady _ r = PathReady r.entries r.path

abbrev pub BodyReady : Body → Read → Type 0
BodyReady body.Place r = (r.words ≡ []) × (r.entries ≡ [])
BodyReady (body.Word k) r = r.entries ≡ []
BodyReady (body.Path k) r = Unit {0}
BodyReady _ r = PathReady r.entries r.path

abbrev pub Ready : Due → Read → Type 0
Ready (due.Token t) r = TokenReady t r
Ready (due.Body b n) r = BodyReady b r
Ready (due.Kind k) r = PathReady r.entries r.path
Ready due.Whole r = Unit {0}

pub record Keeps (d : Due) (r : Read) : Type 0 where
  pub ready : Ready d r
  pub increasing : Increasing r.entries

-- the frame went on to where this is due
abbrev pub Goes : Format Got → ℕ → RequestFrame → Result (Unit {0}) FrameError → Type 0
Goes next bound new result = Went (λ (f : RequestFrame). format_of f.due f.read) (λ (f : RequestFrame). rank f.due) (λ (f : RequestFrame). Keeps f.due f.read) next bound new result

-- the answer tells the judgement; only want of memory tells nothing
abbrev pub IsJudged : Result path.Path FrameError → Result path.Path MirrorError → Type 0
IsJudged (Ok p) judged = judged ≡ Ok p
IsJudged (Err e) judged = (e ≡ why.Memory) ⊎ ((fault : MirrorError) × (judged ≡ Err fault) × (number_of e ≡ path_reason fault))

-- a frame of which nothing was read yet, where this token is due
pub record Begins (t : Token) (f : RequestFrame) : Type 0 where
  pub due_is : f.due ≡ due.Token t
  pub version : f.read.version ≡ 0x103
  pub room : f.read.room ≡ request_limit
  pub words : f.read.words ≡ []
  pub job : f.read.job ≡ None
  pub entries : f.read.entries ≡ []
