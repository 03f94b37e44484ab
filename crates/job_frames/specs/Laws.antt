-- The laws of spellings and readings.
use Rattle.std.specs.Prelude.{◌≡◌, ℕ, ◌<◌, ◌≤◌, List, ◌++◌, length, All, Some, None, IsTrue}
use Rattle.tree_model.specs.Entries.{Entries, makes_tree, bodies_fit}
use Rattle.job_words.specs.declared.job.Job.{Job}
use Rattle.job_frames.specs.Fields.{taken}
use Rattle.job_frames.specs.Outcomes.{going, done, reason, whatever_follows, nothing_follows, value_of}
use Rattle.base_types.specs.Limits.{request_limit, word_limit}
use Rattle.job_frames.specs.Spelling.{request_bytes, image_bytes, IsRequest, FitsRequest, HasSpelling, IsImage, IsAnswer, reply_bytes, longest_reply}
use Rattle.job_frames.specs.Request.{Got, request_at}
use Rattle.job_frames.specs.Images.{image_at}
use Rattle.job_frames.specs.Reply.{reply_at}
use Rattle.job_frames.specs.declared.answer.Answer.{Answer}

-- a request is read from its spelling, whatever follows
abbrev pub RequestsAreRead : Type 0
RequestsAreRead = (job : Job) (es : Entries) (rest : List ℕ) → IsRequest job es → request_at (request_bytes job es ++ rest) ≡ taken (record { job = Some job; entries = es }) rest

-- what a request was read from is its spelling, with what follows
abbrev pub RequestsAreSpelled : Type 0
RequestsAreSpelled = (bytes : List ℕ) (got : Got) (rest : List ℕ) → request_at bytes ≡ taken got rest
    → (job : Job) × (got.job ≡ Some job) × IsRequest job got.entries × (bytes ≡ request_bytes job got.entries ++ rest)

-- no request has two spellings, and no spelling begins another one
abbrev pub RequestsAreApart : Type 0
RequestsAreApart = (job other : Job) (es fs : Entries) (x y : List ℕ) → IsRequest job es → IsRequest other fs → request_bytes job es ++ x ≡ request_bytes other fs ++ y
    → (job ≡ other) × (es ≡ fs) × (x ≡ y)

-- the verdict on a request's spelling is the request
abbrev pub RequestsAreWhole : Type 0
RequestsAreWhole = (job : Job) (es : Entries) (sent : List ℕ) → IsRequest job es → sent ≡ request_bytes job es
    → whatever_follows (request_at sent) ≡ done (record { job = Some job; entries = es })

-- a verdict on the bytes so far stays, whatever follows
abbrev pub RequestsAreFirm : Type 0
RequestsAreFirm = (bytes more : List ℕ) → (whatever_follows (request_at bytes) ≡ going → ⊥) → whatever_follows (request_at (bytes ++ more)) ≡ whatever_follows (request_at bytes)

-- bytes are refused by the reasons 2 to 8
abbrev pub RequestsHaveReasons : Type 0
RequestsHaveReasons = (bytes : List ℕ) (n : ℕ) → whatever_follows (request_at bytes) ≡ reason n → (2 ≤ n) × (n ≤ 8)

-- the entries of a request make a tree
abbrev pub RequestsMakeTrees : Type 0
RequestsMakeTrees = (job : Job) (es : Entries) → IsRequest job es → IsTrue (makes_tree es)

-- the files of a request are small
abbrev pub RequestsHaveSmallBodies : Type 0
RequestsHaveSmallBodies = (job : Job) (es : Entries) → IsRequest job es → IsTrue (bodies_fit es)

-- a job and the entries of a tree within the limits are a request, where their spelling is within the room
abbrev pub TreesMakeRequests : Type 0
TreesMakeRequests = (job : Job) (es : Entries) → FitsRequest job es → length (request_bytes job es) ≤ request_limit → IsRequest job es

-- and they may be written
abbrev pub TreesMayBeWritten : Type 0
TreesMayBeWritten = (job : Job) (es : Entries) → FitsRequest job es → All (λ word. length word ≤ word_limit) job.words × All HasSpelling es

-- an image is read from its spelling, whatever follows
abbrev pub ImagesAreRead : Type 0
ImagesAreRead = (es : Entries) (rest : List ℕ) → IsImage es → image_at (image_bytes es ++ rest) ≡ taken (record { job = None; entries = es }) rest

-- what an image was read from is its spelling, with what follows
abbrev pub ImagesAreSpelled : Type 0
ImagesAreSpelled = (bytes : List ℕ) (got : Got) (rest : List ℕ) → image_at bytes ≡ taken got rest → IsImage got.entries × (bytes ≡ image_bytes got.entries ++ rest)

-- no entries have two spellings, and no spelling begins another one
abbrev pub ImagesAreApart : Type 0
ImagesAreApart = (es fs : Entries) (x y : List ℕ) → IsImage es → IsImage fs → image_bytes es ++ x ≡ image_bytes fs ++ y → (es ≡ fs) × (x ≡ y)

-- the same of replies
abbrev pub RepliesAreRead : Type 0
RepliesAreRead = (a : Answer) (rest : List ℕ) → IsAnswer a → reply_at (reply_bytes a ++ rest) ≡ taken a rest

abbrev pub RepliesAreSpelled : Type 0
RepliesAreSpelled = (bytes : List ℕ) (a : Answer) (rest : List ℕ) → reply_at bytes ≡ taken a rest → IsAnswer a × (bytes ≡ reply_bytes a ++ rest)

abbrev pub RepliesAreApart : Type 0
RepliesAreApart = (a b : Answer) (x y : List ℕ) → IsAnswer a → IsAnswer b → reply_bytes a ++ x ≡ reply_bytes b ++ y → (a ≡ b) × (x ≡ y)

-- bytes that don't give an answer as a whole are the spelling of none
abbrev pub OthersAreNoReplies : Type 0
OthersAreNoReplies = (bytes : List ℕ) (a : Answer) → value_of (nothing_follows (reply_at bytes)) ≡ None → IsAnswer a → bytes ≡ reply_bytes a → ⊥

-- bytes that are longer than every reply begin none
abbrev pub RepliesHaveEnds : Type 0
RepliesHaveEnds = (received rest : List ℕ) (a : Answer) → IsAnswer a → longest_reply < length received → received ++ rest ≡ reply_bytes a → ⊥
