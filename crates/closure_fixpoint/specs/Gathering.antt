-- The parts of a request: the paths of the nodes of files, and their entries.
use Rattle.std.specs.Prelude.{◌≡◌, ◌⊎◌, ◌<◌, ℕ, ◌+◌, All, IsTrue, Bool, true, false, not, ◌&&◌, ◌||◌, ◌≤◌, List, [], ◌∷◌, ◌++◌, length, cond, nat_lt, Option, None, Some}
use Rattle.std.specs.List.{list_all, flat_map}
use Rattle.base_types.specs.Members.{Member}
use Rattle.base_types.specs.Limits.{entry_limit, body_limit, request_limit}
use Rattle.tree_model.specs.Paths.{Text, Path, spelled}
use Rattle.tree_model.specs.Entries.{Entries, Increasing, IsLinkText, below, has_parent, makes_tree}
use Rattle.tree_model.specs.Trees.{FileTree, entry_at}
use Rattle.tree_model.specs.declared.walk.Located.{Located}
use Rattle.tree_model.specs.declared.entry.Entry.{Entry}
use Rattle.tree_model.specs.declared.entry.Entry.TheVariants.{Dir, File, Link}
use Rattle.search_path.specs.Search.{Hit}
use Rattle.search_path.specs.declared.asking.Visit.{Visit}
use Rattle.search_path.specs.declared.asking.Ask.{Ask}
use Rattle.sheet_build.specs.Sheet.{SheetData}
use Rattle.job_words.specs.JobOf.{JobData}
use Rattle.job_frames.specs.Spelling.{HasSpelling, request_bytes}
use Rattle.closure_fixpoint.specs.declared.job_analysis.Refusal.TheVariants as refusal
use Rattle.closure_fixpoint.specs.declared.entries.Gathered.{Gathered}
use Rattle.closure_fixpoint.specs.declared.entries.Gathered.TheVariants as gathered

-- ---- the nodes ----

-- a path and those above it, without the root, from the inside out
abbrev pub upward : Path → List Path
upward [] = []
upward (name ∷ path) = (name ∷ path) ∷ upward path

abbrev pub all_upward : List Path → List Path
all_upward paths = flat_map upward paths

-- what the searches for files walked
abbrev pub walked_of : List Located → List Path
walked_of files = flat_map (λ file. file.walked) files

-- the same of what a search found, of all searches, of the files of visits, and of those of sheets
abbrev pub found_walked : Option Hit → List Path
found_walked None = []
found_walked (Some hit) = hit.1.walked

abbrev pub searched_walked : List (Ask × Option Hit) → List Path
searched_walked searches = flat_map (λ told. found_walked told.1) searches

abbrev pub hits_walked : List Hit → List Path
hits_walked hits = flat_map (λ hit. hit.1.walked) hits

abbrev pub sheets_walked : List (Visit × SheetData) → List Path
sheets_walked sheets = flat_map (λ told. hits_walked told.1.plain ++ walked_of told.1.probes) sheets

-- the order of spellings
abbrev pub comes_before : Path → Path → Bool
comes_before a b = below (spelled a) (spelled b)

-- each path comes before all behind it
abbrev pub are_rising : List Path → Bool
are_rising [] = true
are_rising (path ∷ paths) = list_all (λ other. comes_before path other) paths && are_rising paths

-- behind a path in order stands no path that it comes before
abbrev pub is_repeated : Path → List Path → Bool
is_repeated path [] = false
is_repeated path (next ∷ paths) = not (comes_before path next)

-- a path, where it isn't repeated
abbrev pub unless_repeated : Path → List Path → List Path
unless_repeated path behind = cond (is_repeated path behind) [] (path ∷ [])

-- of paths in order each once
abbrev pub paths_once : List Path → List Path
paths_once [] = []
paths_once (path ∷ paths) = unless_repeated path paths ++ paths_once paths

-- ---- the entries ----

-- the entries gathered of nodes: what the tree has at each whose parent is the root or a directory among them, and nothing
-- else, in order of their paths' bytes
pub record AreGathered (tree : FileTree) (nodes : List Path) (entries : Entries) : Type 0 where
  pub increasing : Increasing entries
  pub inside : (path : Path) (entry : Entry) → Member (path, entry) entries → Member path nodes
  pub parents : (path : Path) (entry : Entry) → Member (path, entry) entries → IsTrue (has_parent entries path)
  pub same : (path : Path) (entry : Entry) → Member (path, entry) entries → entry_at tree path ≡ Some entry
  pub whole : (path : Path) (entry : Entry) → Member path nodes → entry_at tree path ≡ Some entry → IsTrue (has_parent entries path) → Member (path, entry) entries

-- a file among entries has more bytes than are read
abbrev pub HasLarge : Entries → Type 0
HasLarge entries = (path : Path) × (body : Text) × Member (path, File body) entries × (body_limit < length body)

-- entries are too many, or their request has too many bytes
abbrev pub is_over : JobData → Entries → Bool
is_over job entries = nat_lt entry_limit (length entries) || nat_lt request_limit (length (request_bytes job entries))

-- what is gathered of nodes: their entries, or `Large` where a file among these is too large, else `Request` where they are
-- over the limits
abbrev pub GathersNodes : FileTree → JobData → List Path → Gathered → Type 0
GathersNodes tree job nodes (gathered.Entries entries) =
    AreGathered tree nodes entries.items × (HasLarge entries.items → ⊥) × (is_over job entries.items ≡ false)
GathersNodes tree job nodes (gathered.Refused refusal.Large) = (entries : Entries) × AreGathered tree nodes entries × HasLarge entries
GathersNodes tree job nodes (gathered.Refused refusal.Request) =
    (entries : Entries) × AreGathered tree nodes entries × (HasLarge entries → ⊥) × (is_over job entries ≡ true)
GathersNodes tree job nodes (gathered.Refused _) = ⊥

-- what is gathered of any tree has a request
abbrev pub GatheredFits : JobData → Gathered → Type 0
GatheredFits job (gathered.Entries entries) = IsTrue (makes_tree entries.items) × All HasSpelling entries.items × (is_over job entries.items ≡ false)
GatheredFits job (gathered.Refused why) = Unit {0}

-- how many files there are
abbrev pub files_there : Option Entry → ℕ
files_there None = 0
files_there (Some Dir) = 0
files_there (Some (File body)) = 1
files_there (Some (Link text)) = 0

abbrev pub files_among : Entries → ℕ
files_among [] = 0
files_among (e ∷ es) = files_there (Some e.1) + files_among es

-- how many of these there are whose bytes aren't known
abbrev pub unknown_there : Option Text → Option Entry → ℕ
unknown_there None entry = files_there entry
unknown_there (Some body) entry = 0

abbrev pub unknown_among : (Path → Option Text) → Entries → ℕ
unknown_among known [] = 0
unknown_among known (e ∷ es) = unknown_there (known e.0) (Some e.1) + unknown_among known es

-- the count of reads rose by the number of files among the entries at most, without those whose bytes were known
abbrev pub ReadsFiles : (Path → Option Text) → ℕ → ℕ → Gathered → Type 0
ReadsFiles known before now (gathered.Entries entries) = now ≤ before + unknown_among known entries.items
ReadsFiles known before now (gathered.Refused why) = Unit {0}

-- ---- how they are gathered ----

-- what a tree has at a path, behind entries that have its parent
abbrev pub with_path : Path → Option Entry → Entries
with_path path None = []
with_path path (Some entry) = (path, entry) ∷ []

abbrev pub kept_at : FileTree → Entries → Path → Entries
kept_at tree before path = cond (has_parent before path) (with_path path (entry_at tree path)) []

-- the entries of paths in order, behind those before them
abbrev pub gathered_from : FileTree → Entries → List Path → Entries
gathered_from tree before [] = before
gathered_from tree before (path ∷ paths) = gathered_from tree (before ++ kept_at tree before path) paths

-- entries of some nodes, in order, with their parents
pub record AreKept (nodes : List Path) (entries : Entries) : Type 0 where
  pub increasing : Increasing entries
  pub inside : (path : Path) (entry : Entry) → Member (path, entry) entries → Member path nodes
  pub parents : (path : Path) (entry : Entry) → Member (path, entry) entries → IsTrue (has_parent entries path)

-- an entry at a path was added behind entries that have its parent, or none was
abbrev pub AddsAt : Path → Entries → Entries → Type 0
AddsAt path before now =
    (now ≡ before) ⊎ ((entry : Entry) × IsTrue (has_parent before path) × HasSpelling (path, entry) × (now ≡ before ++ (path, entry) ∷ []))

-- a node that a request may carry
abbrev pub IsSendable : Entry → Type 0
IsSendable Dir = Unit {0}
IsSendable (File body) = length body ≤ body_limit
IsSendable (Link text) = IsLinkText text
