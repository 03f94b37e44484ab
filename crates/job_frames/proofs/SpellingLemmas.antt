-- A request's and an image's spelling are spellings of their formats.
use Rattle.std.proofs.Common.{◌≡◌, ℕ, ◌+◌, ◌-◌, ◌≤◌, List, [], ◌∷◌, ◌++◌, length, refl, sym, ◌∙◌, ap, subst, arith, Option, Some, None, append_assoc, length-append}
use Rattle.std.proofs.lemmas.List.{append-nil}
use Rattle.std.specs.Prelude.{◌==◌, codes, cond, Bool, Result, Ok}
use Rattle.std.specs.List.{list_any, flat_map}
use Rattle.std.proofs.lemmas.Bool.{le-leb}
use Rattle.tree_model.specs.Paths.{Path, spelled}
use Rattle.tree_model.specs.declared.entry.Entry.{Entry}
use Rattle.tree_model.specs.declared.entry.Entry.TheVariants.{Dir, File, Link}
use Rattle.tree_model.specs.declared.mem_tree.MirrorError.{MirrorError}
use Rattle.tree_model.specs.Entries.{Entries, judged_path}
use Rattle.job_words.specs.declared.job.Job.{Job}
use Rattle.job_words.specs.Words.{job_of}
use Rattle.job_frames.specs.Spelling.{token, field, digits, node_bytes, entry_bytes, image_bytes, request_bytes, IsSpellable, MayFollow, AreWords, IsRequest}
use Rattle.job_frames.specs.Fields.{taken, within, fits, bare, room_behind}
use Rattle.job_frames.specs.Formats.{refuses}
use Rattle.job_frames.specs.Outcomes.{done, whatever_follows}
use Rattle.base_types.specs.Limits.{request_limit}
use Rattle.job_frames.specs.Request.{Got, Onward, node_then, dir_then, link_then, target_then, file_then, file_body_then, judged_then, path_then, name_then, entries_from, image_from, with_job, word_body_then, word_then, words_from, count_from, place_body_from, place_from, request_from, request_at}
use Rattle.job_frames.proofs.DigitLemmas.{digits_length}
use Rattle.job_frames.proofs.FormatLemmas.{Spells, spelling_reads, apart, field_spells}

pub token_length : (letters : List ℕ) (n : ℕ) → length letters ≡ 4 → length (token letters n) ≡ 12
token_length letters n h = omega (arith, length-append letters (digits 8 n), digits_length 8 n)

pub field_length : (letters body : List ℕ) → length letters ≡ 4 → length (field letters body) ≡ 12 + length body
field_length letters body h = omega (arith, length-append (token letters (length body)) body, token_length letters (length body) h)

fits_there : (room low high n : ℕ) → low ≤ n → n ≤ high → 12 + n ≤ room → fits room low high n ≡ None
fits_there room low high n a b c = rw (le-leb low n a, le-leb n high b, le-leb (12 + n) room c) refl

within_there : (room high n : ℕ) → n ≤ high → 12 ≤ room → bare room (within 0 high n) ≡ None
within_there room high n h k = rw (le-leb 0 n (omega arith), le-leb n high h) (rw (le-leb 12 room k) refl)

node_spells : (next : Onward) (room : ℕ) (es : Entries) (path : Path) (e : Entry) (got : Got) (rest : List ℕ) → IsSpellable e → length (node_bytes e) ≤ room
    → Spells (next (room - length (node_bytes e)) (es ++ (path, e) ∷ [])) got rest → Spells (node_then next room es path) got (node_bytes e ++ rest)
unfolding node_then dir_then link_then target_then file_then file_body_then
node_spells next room es path Dir got rest is h s =
    let long = token_length (codes "MDIR") 0 refl in
    record { n = 0; r = rest; is = refl; small = omega arith; passes = rw (le-leb 12 room (omega (arith, long))) refl; then = subst (λ k. Spells (next (room - k) (es ++ (path, Dir) ∷ [])) got rest) long s }
node_spells next room es path (File body) got rest is h s =
    let long = field_length (codes "FILE") body refl in
    field_spells (codes "FILE") body rest (fits room 0 16777216) (λ n b. next (room_behind room n) (es ++ (path, File b) ∷ [])) got (omega (arith, is))
    (fits_there room 0 16777216 (length body) (omega arith) is (omega (arith, long))) (subst (λ k. Spells (next (room - k) (es ++ (path, File body) ∷ [])) got rest) long s)
node_spells next room es path (Link text) got rest is h s =
    let long = field_length (codes "LINK") text refl in
    field_spells (codes "LINK") text rest (fits room 1 4095) (λ n b. cond (list_any (λ c. c == 0) b) (refuses 5) (next (room_behind room n) (es ++ (path, Link b) ∷ []))) got (omega (arith, is.1))
    (fits_there room 1 4095 (length text) is.0 is.1 (omega (arith, long)))
    (subst (λ (z : Bool). Spells (cond z (refuses 5) (next (room_behind room (length text)) (es ++ (path, Link text) ∷ []))) got rest) (sym is.2)
    (subst (λ k. Spells (next (room - k) (es ++ (path, Link text) ∷ [])) got rest) long s))

entry_spells : (next : Onward) (room : ℕ) (es : Entries) (e : Path × Entry) (got : Got) (rest : List ℕ) → judged_path es (spelled e.0) ≡ Ok e.0 → 2 ≤ length (spelled e.0) → length (spelled e.0) ≤ 4096 → IsSpellable e.1
    → length (entry_bytes e) ≤ room → Spells (next (room - length (entry_bytes e)) (es ++ e ∷ [])) got rest → Spells (name_then next room es) got (entry_bytes e ++ rest)
unfolding name_then path_then
entry_spells next room es e got rest j low high is h s =
    let name = field_length (codes "NAME") (spelled e.0) refl in
    let both = length-append (field (codes "NAME") (spelled e.0)) (node_bytes e.1) in
    let behind = room_behind room (length (spelled e.0)) in
    let gone : room - length (entry_bytes e) ≡ behind - length (node_bytes e.1) = omega (arith, name, both) in
    subst (λ (t : List ℕ). Spells (name_then next room es) got t) (sym (append_assoc (field (codes "NAME") (spelled e.0)) (node_bytes e.1) rest))
    (field_spells (codes "NAME") (spelled e.0) (node_bytes e.1 ++ rest) (fits room 2 4096) (λ n text. judged_then next (room_behind room n) es (judged_path es text)) got (omega (arith, high))
    (fits_there room 2 4096 (length (spelled e.0)) low high (omega (arith, name, both)))
    (subst (λ (v : Result Path MirrorError). Spells (judged_then next behind es v) got (node_bytes e.1 ++ rest)) (sym j)
    (node_spells next behind es e.0 e.1 got rest is (omega (arith, name, both)) (subst (λ k. Spells (next k (es ++ e ∷ [])) got rest) gone s))))

entries_spell : (job : Option Job) (fs es : Entries) (room : ℕ) → MayFollow es fs → length (flat_map entry_bytes fs) ≤ room
    → Spells (entries_from job (length fs) room es) (record { job = job; entries = es ++ fs }) (flat_map entry_bytes fs)
unfolding entries_from
entries_spell job [] es room m h = (ap (λ (x : Entries). record { job = job; entries = x }) (sym (append-nil es)), refl)
entries_spell job (f ∷ fs) es room m h =
    let both = length-append (entry_bytes f) (flat_map entry_bytes fs) in
    entry_spells (entries_from job (length fs)) room es f (record { job = job; entries = es ++ f ∷ fs }) (flat_map entry_bytes fs) m.0.0 m.0.1 m.0.2 m.1 (omega (arith, both))
    (subst (λ (x : Entries). Spells (entries_from job (length fs) (room - length (entry_bytes f)) (es ++ f ∷ [])) (record { job = job; entries = x }) (flat_map entry_bytes fs)) (append_assoc es (f ∷ []) fs)
    (entries_spell job fs (es ++ f ∷ []) (room - length (entry_bytes f)) m.2 (omega (arith, both))))

pub image_spells : (job : Option Job) (es : Entries) (room : ℕ) → length es ≤ 100000 → MayFollow [] es → length (image_bytes es) ≤ room → Spells (image_from job room) (record { job = job; entries = es }) (image_bytes es)
unfolding image_from image_bytes
image_spells job es room few m h =
    let both = length-append (token (codes "NFIL") (length es)) (flat_map entry_bytes es) in
    let long = token_length (codes "NFIL") (length es) refl in
    record {
      n = length es;
      r = flat_map entry_bytes es;
      is = refl;
      small = omega (arith, few);
      passes = within_there room 100000 (length es) few (omega (arith, both, long));
      then = entries_spell job es [] (room_behind room 0) m (omega (arith, both, long));
    }

all_left : (n : ℕ) → n - 0 ≡ n
all_left n = omega arith

words_spell : (words before : List (List ℕ)) (room : ℕ) (cwd : List ℕ) (got : Got) (rest : List ℕ) → AreWords words → length (flat_map (field (codes "ARGV")) words) ≤ room
    → Spells (with_job (job_of cwd (before ++ words)) (room - length (flat_map (field (codes "ARGV")) words))) got rest
    → Spells (words_from (length words) room cwd before) got (flat_map (field (codes "ARGV")) words ++ rest)
unfolding words_from word_then word_body_then
words_spell [] before room cwd got rest are h s =
    subst (λ (ws : List (List ℕ)). Spells (with_job (job_of cwd ws) room) got rest) (append-nil before) (subst (λ k. Spells (with_job (job_of cwd (before ++ [])) k) got rest) (all_left room) s)
words_spell (w ∷ words) before room cwd got rest are h s =
    let more = flat_map (field (codes "ARGV")) words in
    let both = length-append (field (codes "ARGV") w) more in
    let long = field_length (codes "ARGV") w refl in
    let gone : room - length (flat_map (field (codes "ARGV")) (w ∷ words)) ≡ (room - (12 + length w)) - length more = omega (arith, both, long) in
    subst (λ (t : List ℕ). Spells (words_from (length (w ∷ words)) room cwd before) got t) (sym (append_assoc (field (codes "ARGV") w) more rest))
    (field_spells (codes "ARGV") w (more ++ rest) (fits room 1 4096) (λ n b. words_from (length words) (room_behind room n) cwd (before ++ b ∷ [])) got (omega (arith, are.0.1))
    (fits_there room 1 4096 (length w) are.0.0 are.0.1 (omega (arith, both, long)))
    (words_spell words (before ++ w ∷ []) (room_behind room (length w)) cwd got rest are.1 (omega (arith, both, long))
    (subst (λ (ws : List (List ℕ)). Spells (with_job (job_of cwd ws) ((room - (12 + length w)) - length more)) got rest) (sym (append_assoc before (w ∷ []) words))
    (subst (λ k. Spells (with_job (job_of cwd (before ++ w ∷ words)) k) got rest) gone s))))

pub request_spells : (job : Job) (es : Entries) → IsRequest job es → Spells (request_from 0x103 request_limit) (record { job = Some job; entries = es }) (request_bytes job es)
unfolding request_from place_from place_body_from count_from request_bytes
request_spells job es is =
    let got : Got = record { job = Some job; entries = es } in
    let ws = flat_map (field (codes "ARGV")) job.words in
    let image = image_bytes es in
    let version = token_length (codes "DIST") 0x103 refl in
    let place = field_length (codes "CDIR") job.setup.cwd refl in
    let count = token_length (codes "ARGC") (length job.words) refl in
    let l1 = length-append (token (codes "DIST") 0x103) (field (codes "CDIR") job.setup.cwd ++ (token (codes "ARGC") (length job.words) ++ (ws ++ image))) in
    let l2 = length-append (field (codes "CDIR") job.setup.cwd) (token (codes "ARGC") (length job.words) ++ (ws ++ image)) in
    let l3 = length-append (token (codes "ARGC") (length job.words)) (ws ++ image) in
    let l4 = length-append ws image in
    let small = is.small in
    let room1 = room_behind request_limit 0 in
    let room2 = room_behind room1 (length job.setup.cwd) in
    let room3 = room_behind room2 0 in
    record {
      n = 0x103;
      r = field (codes "CDIR") job.setup.cwd ++ (token (codes "ARGC") (length job.words) ++ (ws ++ image));
      is = refl;
      small = omega arith;
      passes = refl;
      then = field_spells (codes "CDIR") job.setup.cwd (token (codes "ARGC") (length job.words) ++ (ws ++ image)) (fits room1 1 4096) (λ n cwd. count_from (room_behind room1 n) cwd) got (omega (arith, is.place.1))
          (fits_there room1 1 4096 (length job.setup.cwd) is.place.0 is.place.1 (omega (arith, small, l1, l2, version, place)))
          (record {
            n = length job.words;
            r = ws ++ image;
            is = refl;
            small = omega (arith, is.few_words);
            passes = within_there room2 1000 (length job.words) is.few_words (omega (arith, small, l1, l2, l3, version, place, count));
            then = words_spell job.words [] room3 job.setup.cwd got image is.words (omega (arith, small, l1, l2, l3, l4, version, place, count))
                (subst (λ (o : Option Job). Spells (with_job o (room3 - length ws)) got image) (sym is.is_job)
                (image_spells (Some job) es (room3 - length ws) is.few is.follow (omega (arith, small, l1, l2, l3, l4, version, place, count))));
          });
    }

pub request_read : (job : Job) (es : Entries) (rest : List ℕ) → IsRequest job es → request_at (request_bytes job es ++ rest) ≡ taken (record { job = Some job; entries = es }) rest
request_read job es rest is = spelling_reads (request_from 0x103 request_limit) (record { job = Some job; entries = es }) (request_bytes job es) rest (request_spells job es is)

-- what two values have in common, where one's spelling begins the other's, with what follows
pub request_one : (job other : Job) (es fs : Entries) (x y : List ℕ) → IsRequest job es → IsRequest other fs → request_bytes job es ++ x ≡ request_bytes other fs ++ y
    → (job ≡ other) × (es ≡ fs) × (x ≡ y)
request_one job other es fs x y a b e =
    let one = apart (request_from 0x103 request_limit) (record { job = Some job; entries = es }) (record { job = Some other; entries = fs }) (request_bytes job es) (request_bytes other fs) x y (request_spells job es a) (request_spells other fs b) e in
    let jobs : Some job ≡ Some other = ap (λ (g : Got). g.job) one.0 in
    (cc, ap (λ (g : Got). g.entries) one.0, one.1)

-- the verdict on a spelling is the request
pub request_whole : (job : Job) (es : Entries) (sent : List ℕ) → IsRequest job es → sent ≡ request_bytes job es → whatever_follows (request_at sent) ≡ done (record { job = Some job; entries = es })
request_whole job es sent is e = ap (λ (x : List ℕ). whatever_follows (request_at x)) (e ∙ sym (append-nil (request_bytes job es))) ∙ ap whatever_follows (request_read job es [] is)
