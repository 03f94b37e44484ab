-- The lengths of spellings.
use Rattle.std.proofs.Common.{◌≡◌, ◌<◌, ◌+◌, ℕ, zero, suc, List, [], ◌∷◌, ◌++◌, length, take, get_or, refl, sym, ap, arith, add-one}
use Rattle.std.specs.Prelude.{codes}
use Rattle.std.specs.List.{flat_map}
use Rattle.std.proofs.lemmas.List.{length-append}
use Rattle.tree_model.specs.Paths.{Text, Path, spelled}
use Rattle.tree_model.specs.Entries.{Entries}
use Rattle.tree_model.specs.declared.entry.Entry.{Entry}
use Rattle.tree_model.specs.declared.entry.Entry.TheVariants.{Dir, File, Link}
use Rattle.job_words.specs.declared.job.Job.{Job}
use Rattle.job_frames.specs.Spelling.{token, field, node_bytes, entry_bytes, image_bytes, words_bytes, request_bytes}
use Rattle.job_frames.proofs.SpellingLemmas.{token_length, field_length}

pub dir-length : 12 ≡ length (node_bytes Dir)
dir-length = sym (token_length (codes "MDIR") 0 refl)

pub file-length : (body : Text) → 12 + length body ≡ length (node_bytes (File body))
file-length body = sym (field_length (codes "FILE") body refl)

pub link-length : (text : Text) → 12 + length text ≡ length (node_bytes (Link text))
link-length text = sym (field_length (codes "LINK") text refl)

pub entry-length : (e : Path × Entry) (path : Text) (node : ℕ) → path ≡ spelled e.0 → node ≡ length (node_bytes e.1) → 12 + length path + node ≡ length (entry_bytes e)
entry-length e path node is counted =
    let joined = length-append (field (codes "NAME") (spelled e.0)) (node_bytes e.1) in
    let name : length (field (codes "NAME") (spelled e.0)) ≡ 12 + length (spelled e.0) = field_length (codes "NAME") (spelled e.0) refl in
    let same : length path ≡ length (spelled e.0) = ap length is in
    omega (arith, joined, name, same, counted)

-- one element more
pub flat-next : {X : Type 0} (f : X → List ℕ) (xs : List X) (i : ℕ) (x : X) → i < length xs → x ≡ get_or xs i x → length (flat_map f (take (i + 1) xs)) ≡ length (flat_map f (take i xs)) + length (f x)
flat-next {X = X} f xs i x below is = rw (add-one i) (by_suc xs i below is)
  where
    by_suc : (xs : List X) (i : ℕ) → i < length xs → x ≡ get_or xs i x → length (flat_map f (take (suc i) xs)) ≡ length (flat_map f (take i xs)) + length (f x)
    by_suc [] i below is = absurd (omega (arith, below))
    by_suc (y ∷ xs) zero below is =
        let joined = length-append (f y) [] in
        let same : length (f x) ≡ length (f y) = ap (λ z. length (f z)) is in
        omega (arith, joined, same)
    by_suc (y ∷ xs) (suc i) below is =
        let more = length-append (f y) (flat_map f (take (suc i) xs)) in
        let less = length-append (f y) (flat_map f (take i xs)) in
        let rest : length (flat_map f (take (suc i) xs)) ≡ length (flat_map f (take i xs)) + length (f x) = by_suc xs i (omega (arith, below)) is in
        omega (arith, more, less, rest)

pub words-length : (words : List Text) → length (words_bytes words) ≡ 12 + length (flat_map (field (codes "ARGV")) words)
words-length words =
    let joined = length-append (token (codes "ARGC") (length words)) (flat_map (field (codes "ARGV")) words) in
    let twelve : length (token (codes "ARGC") (length words)) ≡ 12 = token_length (codes "ARGC") (length words) refl in
    omega (arith, joined, twelve)

pub image-length : (entries : Entries) → length (image_bytes entries) ≡ 12 + length (flat_map entry_bytes entries)
unfolding image_bytes
image-length entries =
    let joined = length-append (token (codes "NFIL") (length entries)) (flat_map entry_bytes entries) in
    let twelve : length (token (codes "NFIL") (length entries)) ≡ 12 = token_length (codes "NFIL") (length entries) refl in
    omega (arith, joined, twelve)

pub request-length : (job : Job) (entries : Entries) (cwd : Text) (words image : ℕ) → cwd ≡ job.setup.cwd → words ≡ length (words_bytes job.words) → image ≡ length (image_bytes entries)
    → 12 + (12 + length cwd) + words + image ≡ length (request_bytes job entries)
unfolding request_bytes
request-length job entries cwd words image cwd_is words_are image_is =
    let head : List ℕ = token (codes "DIST") 0x103 in
    let place : List ℕ = field (codes "CDIR") job.setup.cwd in
    let count : List ℕ = token (codes "ARGC") (length job.words) in
    let list : List ℕ = flat_map (field (codes "ARGV")) job.words in
    let a = length-append head (place ++ (count ++ (list ++ image_bytes entries))) in
    let b = length-append place (count ++ (list ++ image_bytes entries)) in
    let c = length-append count (list ++ image_bytes entries) in
    let d = length-append list (image_bytes entries) in
    let e = length-append count list in
    let f : length head ≡ 12 = token_length (codes "DIST") 0x103 refl in
    let g : length place ≡ 12 + length job.setup.cwd = field_length (codes "CDIR") job.setup.cwd refl in
    let h : length cwd ≡ length job.setup.cwd = ap length cwd_is in
    omega (arith, a, b, c, d, e, f, g, h, words_are, image_is)
