-- What spells a value in the format of requests is its spelling.
use Rattle.std.proofs.Common.{◌≡◌, ℕ, zero, suc, ◌+◌, ◌-◌, ◌≤◌, List, [], ◌∷◌, ◌++◌, length, refl, sym, ◌∙◌, ap, subst, arith, Option, Some, None, cond, true, false, Bool, append_assoc, length-append}
use Rattle.std.specs.Prelude.{◌==◌, nat_le, ◌&&◌, codes, Result, Ok, Err}
use Rattle.std.specs.List.{list_any, flat_map}
use Rattle.std.proofs.lemmas.Bool.{leb-true, eqb-true}
use Rattle.std.proofs.lemmas.List.{append-nil}
use Rattle.tree_model.specs.Paths.{Path, spelled}
use Rattle.tree_model.specs.declared.entry.Entry.{Entry}
use Rattle.tree_model.specs.declared.entry.Entry.TheVariants.{Dir, File, Link}
use Rattle.tree_model.specs.declared.mem_tree.MirrorError.{MirrorError}
use Rattle.tree_model.specs.Entries.{Entries, judged_path}
use Rattle.job_words.specs.declared.job.Job.{Job}
use Rattle.job_words.specs.Words.{job_of, JobsKeepWords}
use Rattle.job_frames.specs.Spelling.{token, field, node_bytes, entry_bytes, image_bytes, request_bytes, IsSpellable, MayFollow, AreWords, IsRequest}
use Rattle.job_frames.specs.Fields.{taken, within, only, fits, bare, room_behind}
use Rattle.job_frames.specs.Formats.{refuses}
use Rattle.base_types.specs.Limits.{request_limit}
use Rattle.job_frames.specs.Request.{Got, Onward, node_then, dir_then, link_then, target_then, file_then, file_body_then, judged_then, path_then, name_then, entries_from, image_from, with_job, word_body_then, word_then, words_from, count_from, place_body_from, place_from, request_from, request_at}
use Rattle.job_frames.proofs.StageLemmas.{path_spelled, judged_good}
use Rattle.job_frames.proofs.FormatLemmas.{TokenFront, BodyFront, Spells, reads_spelling, field_is}
use Rattle.job_frames.proofs.FirmLemmas.{request_sound}
use Rattle.job_frames.proofs.SpellingLemmas.{token_length, field_length}

record InLimits (room low high n : ℕ) : Type 0 where
  low_is : low ≤ n
  high_is : n ≤ high
  fits_is : 12 + n ≤ room

fits_passes : (room low high n : ℕ) → fits room low high n ≡ None → InLimits room low high n
fits_passes room low high n h = by_tests (nat_le low n) (nat_le n high) (nat_le (12 + n) room) refl refl refl h
  where
    by_tests : (a b c : Bool) → nat_le low n ≡ a → nat_le n high ≡ b → nat_le (12 + n) room ≡ c → cond {A = Option ℕ} (a && (b && c)) None (Some 5) ≡ None → InLimits room low high n
    by_tests true true true e f g h = record { low_is = leb-true low n e; high_is = leb-true n high f; fits_is = leb-true (12 + n) room g }
    by_tests true true false e f g h = absurd (cc)
    by_tests true false c e f g h = absurd (cc)
    by_tests false b c e f g h = absurd (cc)

bare_passes : (room : ℕ) (o : Option ℕ) → bare room o ≡ None → (o ≡ None) × (12 ≤ room)
bare_passes room (Some why) h = absurd (cc)
bare_passes room None h = by_test (nat_le 12 room) refl h
  where
    by_test : (t : Bool) → nat_le 12 room ≡ t → cond {A = Option ℕ} t None (Some 5) ≡ None → (◌≡◌ {A = Option ℕ} None None) × (12 ≤ room)
    by_test true e h = (refl, leb-true 12 room e)
    by_test false e h = absurd (cc)

within_passes : (high n : ℕ) → within 0 high n ≡ None → n ≤ high
within_passes high n h = by_tests (nat_le 0 n) (nat_le n high) refl h
  where
    by_tests : (a b : Bool) → nat_le n high ≡ b → cond {A = Option ℕ} (a && b) None (Some 5) ≡ None → n ≤ high
    by_tests true true e h = leb-true n high e
    by_tests true false e h = absurd (cc)
    by_tests false b e h = absurd (cc)

pub only_passes : (wanted why n : ℕ) → only wanted why n ≡ None → n ≡ wanted
only_passes wanted why n h = by_test (n == wanted) refl h
  where
    by_test : (t : Bool) → (n == wanted) ≡ t → cond {A = Option ℕ} t None (Some why) ≡ None → n ≡ wanted
    by_test true e h = eqb-true n wanted e
    by_test false e h = absurd (cc)

record NodeRead (next : Onward) (room : ℕ) (es : Entries) (path : Path) (text : List ℕ) (got : Got) : Type 0 where
  e : Entry
  r : List ℕ
  is : text ≡ node_bytes e ++ r
  node : IsSpellable e
  small : length (node_bytes e) ≤ room
  then : Spells (next (room - length (node_bytes e)) (es ++ (path, e) ∷ [])) got r

dir_read : (next : Onward) (room : ℕ) (es : Entries) (path : Path) (text : List ℕ) (got : Got) → Spells (dir_then next room es path) got text → NodeRead next room es path text got
unfolding dir_then
dir_read next room es path text got t =
    let passes = bare_passes room (only 0 5 t.n) t.passes in
    let zero_is : t.n ≡ 0 = only_passes 0 5 t.n passes.0 in
    let long = token_length (codes "MDIR") 0 refl in
    record {
      e = Dir;
      r = t.r;
      is = t.is ∙ ap (λ (k : ℕ). token (codes "MDIR") k ++ t.r) zero_is;
      node = tt;
      small = omega (arith, long, passes.1);
      then = subst (λ (k : ℕ). Spells (next (room - k) (es ++ (path, Dir) ∷ [])) got t.r) (sym long) t.then;
    }

file_read : (next : Onward) (room : ℕ) (es : Entries) (path : Path) (text : List ℕ) (got : Got) → Spells (file_then next room es path) got text → NodeRead next room es path text got
unfolding file_then file_body_then
file_read next room es path text got t =
    let b = t.then in
    let passes = fits_passes room 0 16777216 t.n t.passes in
    let long = field_length (codes "FILE") b.body refl in
    let same = b.long in
    record {
      e = File b.body;
      r = b.r;
      is = field_is (codes "FILE") text b.body t.r b.r t.n t.is b.is b.long;
      node = omega (arith, same, passes.high_is);
      small = omega (arith, long, same, passes.fits_is);
      then = subst (λ (k : ℕ). Spells (next (room - k) (es ++ (path, File b.body) ∷ [])) got b.r) (sym (long ∙ ap (λ (k : ℕ). 12 + k) same)) b.then;
    }

link_read : (next : Onward) (room : ℕ) (es : Entries) (path : Path) (text : List ℕ) (got : Got) → Spells (link_then next room es path) got text → NodeRead next room es path text got
unfolding link_then target_then
link_read next room es path text got t = by_text (list_any (λ c. c == 0) t.then.body) refl t.then.then
  where
    by_text : (z : Bool) → list_any (λ c. c == 0) t.then.body ≡ z → Spells (cond z (refuses 5) (next (room_behind room t.n) (es ++ (path, Link t.then.body) ∷ []))) got t.then.r → NodeRead next room es path text got
    by_text true e g = absurd g
    by_text false e g =
        let b = t.then in
        let passes = fits_passes room 1 4095 t.n t.passes in
        let long = field_length (codes "LINK") b.body refl in
        let same = b.long in
        record {
          e = Link b.body;
          r = b.r;
          is = field_is (codes "LINK") text b.body t.r b.r t.n t.is b.is b.long;
          node = (omega (arith, same, passes.low_is), omega (arith, same, passes.high_is), e);
          small = omega (arith, long, same, passes.fits_is);
          then = subst (λ (k : ℕ). Spells (next (room - k) (es ++ (path, Link b.body) ∷ [])) got b.r) (sym (long ∙ ap (λ (k : ℕ). 12 + k) same)) g;
        }

node_read : (next : Onward) (room : ℕ) (es : Entries) (path : Path) (text : List ℕ) (got : Got) → Spells (node_then next room es path) got text → NodeRead next room es path text got
unfolding node_then
node_read next room es path [] got h = absurd h
node_read next room es path (x ∷ text) got h = by_letter (x == 77) (x == 76) h
  where
    by_letter : (a b : Bool) → Spells (cond a (dir_then next room es path) (cond b (link_then next room es path) (file_then next room es path))) got (x ∷ text) → NodeRead next room es path (x ∷ text) got
    by_letter true b g = dir_read next room es path (x ∷ text) got g
    by_letter false true g = link_read next room es path (x ∷ text) got g
    by_letter false false g = file_read next room es path (x ∷ text) got g

record EntryRead (next : Onward) (room : ℕ) (es : Entries) (text : List ℕ) (got : Got) : Type 0 where
  e : Path × Entry
  r : List ℕ
  is : text ≡ entry_bytes e ++ r
  follows : MayFollow es (e ∷ [])
  small : length (entry_bytes e) ≤ room
  then : Spells (next (room - length (entry_bytes e)) (es ++ e ∷ [])) got r

entry_read : (next : Onward) (room : ℕ) (es : Entries) (text : List ℕ) (got : Got) → Spells (name_then next room es) got text → EntryRead next room es text got
unfolding name_then path_then
entry_read next room es text got t = by_path (judged_path es t.then.body) refl t.then.then
  where
    by_path : (v : Result Path MirrorError) → judged_path es t.then.body ≡ v → Spells (judged_then next (room_behind room t.n) es v) got t.then.r → EntryRead next room es text got
    by_path (Err why) e g = absurd g
    by_path (Ok path) e g =
        let b = t.then in
        let m = node_read next (room_behind room t.n) es path b.r got g in
        let spelling : spelled path ≡ b.body = path_spelled b.body path (judged_good es b.body path e).1 in
        let size : length (spelled path) ≡ t.n = ap length spelling ∙ b.long in
        let passes = fits_passes room 2 4096 t.n t.passes in
        let name = field_length (codes "NAME") (spelled path) refl in
        let whole = length-append (field (codes "NAME") (spelled path)) (node_bytes m.e) in
        let fits_node = m.small in
        let gone : (room - (12 + t.n)) - length (node_bytes m.e) ≡ room - length (entry_bytes (path, m.e)) = omega (arith, name, whole, size) in
        record {
          e = (path, m.e);
          r = m.r;
          is = field_is (codes "NAME") text b.body t.r b.r t.n t.is b.is b.long
              ∙ ap (λ (x : List ℕ). field (codes "NAME") x ++ b.r) (sym spelling)
              ∙ ap (λ (x : List ℕ). field (codes "NAME") (spelled path) ++ x) m.is
              ∙ sym (append_assoc (field (codes "NAME") (spelled path)) (node_bytes m.e) m.r);
          follows = ((ap (judged_path es) spelling ∙ e, omega (arith, size, passes.low_is), omega (arith, size, passes.high_is)), m.node, tt);
          small = omega (arith, name, whole, size, passes.fits_is, fits_node);
          then = subst (λ (k : ℕ). Spells (next k (es ++ (path, m.e) ∷ [])) got m.r) gone m.then;
        }

record EntriesRead (job : Option Job) (k room : ℕ) (es : Entries) (text : List ℕ) (got : Got) : Type 0 where
  fs : Entries
  got_is : got ≡ record { job = job; entries = es ++ fs }
  count : length fs ≡ k
  follow : MayFollow es fs
  is : text ≡ flat_map entry_bytes fs
  small : length (flat_map entry_bytes fs) ≤ room

entries_read : (job : Option Job) (k room : ℕ) (es : Entries) (text : List ℕ) (got : Got) → Spells (entries_from job k room es) got text → EntriesRead job k room es text got
unfolding entries_from
entries_read job zero room es text got h =
    record { fs = []; got_is = sym h.0 ∙ ap (λ (x : Entries). record { job = job; entries = x }) (sym (append-nil es)); count = refl; follow = tt; is = h.1; small = omega arith }
entries_read job (suc k) room es text got h =
    let m = entry_read (entries_from job k) room es text got h in
    let more = entries_read job k (room - length (entry_bytes m.e)) (es ++ m.e ∷ []) m.r got m.then in
    let counted = more.count in
    let whole = length-append (entry_bytes m.e) (flat_map entry_bytes more.fs) in
    let first = m.small in
    let later = more.small in
    record {
      fs = m.e ∷ more.fs;
      got_is = more.got_is ∙ ap (λ (x : Entries). record { job = job; entries = x }) (append_assoc es (m.e ∷ []) more.fs);
      count = omega (arith, counted);
      follow = (m.follows.0, m.follows.1, more.follow);
      is = m.is ∙ ap (λ (x : List ℕ). entry_bytes m.e ++ x) more.is;
      small = omega (arith, whole, first, later);
    }

pub record ImageRead (job : Option Job) (room : ℕ) (text : List ℕ) (got : Got) : Type 0 where
  pub es : Entries
  pub got_is : got ≡ record { job = job; entries = es }
  pub few : length es ≤ 100000
  pub follow : MayFollow [] es
  pub is : text ≡ image_bytes es
  pub small : length (image_bytes es) ≤ room

pub image_spelled : (job : Option Job) (room : ℕ) (text : List ℕ) (got : Got) → Spells (image_from job room) got text → ImageRead job room text got
unfolding image_from image_bytes
image_spelled job room text got t =
    let passes = bare_passes room (within 0 100000 t.n) t.passes in
    let m = entries_read job t.n (room_behind room 0) [] t.r got t.then in
    let counted = m.count in
    let long = token_length (codes "NFIL") (length m.fs) refl in
    let whole = length-append (token (codes "NFIL") (length m.fs)) (flat_map entry_bytes m.fs) in
    let later = m.small in
    record {
      es = m.fs;
      got_is = m.got_is;
      few = subst (λ k. k ≤ 100000) (sym m.count) (within_passes 100000 t.n passes.0);
      follow = m.follow;
      is = t.is ∙ ap (λ (k : ℕ). token (codes "NFIL") k ++ t.r) (sym counted) ∙ ap (λ (x : List ℕ). token (codes "NFIL") (length m.fs) ++ x) m.is;
      small = omega (arith, long, whole, later, passes.1);
    }

-- what the words and all behind them spell
record WordsRead (k room : ℕ) (cwd : List ℕ) (before : List (List ℕ)) (text : List ℕ) (got : Got) : Type 0 where
  words : List (List ℕ)
  r : List ℕ
  count : length words ≡ k
  are : AreWords words
  is : text ≡ flat_map (field (codes "ARGV")) words ++ r
  small : length (flat_map (field (codes "ARGV")) words) ≤ room
  then : Spells (with_job (job_of cwd (before ++ words)) (room - length (flat_map (field (codes "ARGV")) words))) got r

words_read : (k room : ℕ) (cwd : List ℕ) (before : List (List ℕ)) (text : List ℕ) (got : Got) → Spells (words_from k room cwd before) got text → WordsRead k room cwd before text got
unfolding words_from word_then word_body_then
words_read zero room cwd before text got h =
    record {
      words = [];
      r = text;
      count = refl;
      are = tt;
      is = refl;
      small = omega arith;
      then = subst (λ (ws : List (List ℕ)). Spells (with_job (job_of cwd ws) (room - 0)) got text) (sym (append-nil before)) (subst (λ (n : ℕ). Spells (with_job (job_of cwd before) n) got text) (nothing_less room) h);
    }
  where
    nothing_less : (n : ℕ) → n ≡ n - 0
    nothing_less n = omega arith
words_read (suc k) room cwd before text got t =
    let b = t.then in
    let passes = fits_passes room 1 4096 t.n t.passes in
    let m = words_read k (room_behind room t.n) cwd (before ++ b.body ∷ []) b.r got b.then in
    let counted = m.count in
    let size = b.long in
    let long = field_length (codes "ARGV") b.body refl in
    let whole = length-append (field (codes "ARGV") b.body) (flat_map (field (codes "ARGV")) m.words) in
    let later = m.small in
    let gone : (room - (12 + t.n)) - length (flat_map (field (codes "ARGV")) m.words) ≡ room - length (flat_map (field (codes "ARGV")) (b.body ∷ m.words)) = omega (arith, long, whole, size) in
    record {
      words = b.body ∷ m.words;
      r = m.r;
      count = omega (arith, counted);
      are = ((omega (arith, size, passes.low_is), omega (arith, size, passes.high_is)), m.are);
      is = field_is (codes "ARGV") text b.body t.r b.r t.n t.is b.is b.long
          ∙ ap (λ (x : List ℕ). field (codes "ARGV") b.body ++ x) m.is ∙ sym (append_assoc (field (codes "ARGV") b.body) (flat_map (field (codes "ARGV")) m.words) m.r);
      small = omega (arith, long, whole, size, later, passes.fits_is);
      then = subst (λ (k : ℕ). Spells (with_job (job_of cwd (before ++ b.body ∷ m.words)) k) got m.r) gone
          (subst (λ (ws : List (List ℕ)). Spells (with_job (job_of cwd ws) ((room - (12 + t.n)) - length (flat_map (field (codes "ARGV")) m.words))) got m.r) (append_assoc before (b.body ∷ []) m.words) m.then);
    }

pub record RequestRead (text : List ℕ) (got : Got) : Type 0 where
  pub job : Job
  pub got_job : got.job ≡ Some job
  pub request : IsRequest job got.entries
  pub is : text ≡ request_bytes job got.entries

-- all parts of a request, put together
assembled : (text cwd vr pr ar wr : List ℕ) (words : List (List ℕ)) (job : Job) (got : Got) → JobsKeepWords → job_of cwd words ≡ Some job
    → text ≡ token (codes "DIST") 0x103 ++ vr → vr ≡ field (codes "CDIR") cwd ++ pr → InLimits (room_behind request_limit 0) 1 4096 (length cwd)
    → pr ≡ token (codes "ARGC") (length words) ++ ar → length words ≤ 1000 → 12 ≤ room_behind (room_behind request_limit 0) (length cwd)
    → ar ≡ flat_map (field (codes "ARGV")) words ++ wr → AreWords words → length (flat_map (field (codes "ARGV")) words) ≤ room_behind (room_behind (room_behind request_limit 0) (length cwd)) 0
    → ImageRead (Some job) (room_behind (room_behind (room_behind request_limit 0) (length cwd)) 0 - length (flat_map (field (codes "ARGV")) words)) wr got
    → RequestRead text got
unfolding request_bytes
assembled text cwd vr pr ar wr words job got keeps is_job e1 e2 limits e3 few room e4 are small_words m =
    let parts = keeps cwd words job is_job in
    let entries : got.entries ≡ m.es = ap (λ (g : Got). g.entries) m.got_is in
    let version = token_length (codes "DIST") 0x103 refl in
    let place = field_length (codes "CDIR") cwd refl in
    let count = token_length (codes "ARGC") (length words) refl in
    let ws = flat_map (field (codes "ARGV")) words in
    let image = image_bytes m.es in
    let l1 = length-append (token (codes "DIST") 0x103) (field (codes "CDIR") cwd ++ (token (codes "ARGC") (length words) ++ (ws ++ image))) in
    let l2 = length-append (field (codes "CDIR") cwd) (token (codes "ARGC") (length words) ++ (ws ++ image)) in
    let l3 = length-append (token (codes "ARGC") (length words)) (ws ++ image) in
    let l4 = length-append ws image in
    let inside = limits.fits_is in
    let last = m.small in
    let small : length (token (codes "DIST") 0x103 ++ (field (codes "CDIR") cwd ++ (token (codes "ARGC") (length words) ++ (ws ++ image)))) ≤ request_limit = omega (arith, l1, l2, l3, l4, version, place, count, inside, room, small_words, last) in
    let request : IsRequest job m.es =
    record {
      is_job = ap (λ (x : List ℕ). job_of x job.words) parts.0 ∙ ap (job_of cwd) parts.1 ∙ is_job;
      place = subst (λ (x : List ℕ). (1 ≤ length x) × (length x ≤ 4096)) (sym parts.0) (limits.low_is, limits.high_is);
      few_words = subst (λ (ws : List (List ℕ)). length ws ≤ 1000) (sym parts.1) few;
      words = subst AreWords (sym parts.1) are;
      few = m.few;
      follow = m.follow;
      small = subst (λ (k : ℕ). k ≤ request_limit) (ap length (spelling parts.0 parts.1)) small;
    } in
    record {
      job = job;
      got_job = ap (λ (g : Got). g.job) m.got_is;
      request = subst (λ (es : Entries). IsRequest job es) (sym entries) request;
      is = e1 ∙ ap (λ (x : List ℕ). token (codes "DIST") 0x103 ++ x) (e2 ∙ ap (λ (x : List ℕ). field (codes "CDIR") cwd ++ x) (e3 ∙ ap (λ (x : List ℕ). token (codes "ARGC") (length words) ++ x) (e4 ∙ ap (λ (x : List ℕ). ws ++ x) m.is)))
          ∙ spelling parts.0 parts.1 ∙ ap (request_bytes job) (sym entries);
    }
  where
    spelling : job.setup.cwd ≡ cwd → job.words ≡ words
        → (token (codes "DIST") 0x103 ++ (field (codes "CDIR") cwd ++ (token (codes "ARGC") (length words) ++ (flat_map (field (codes "ARGV")) words ++ image_bytes m.es)))) ≡ request_bytes job m.es
    spelling c w = ap (λ (x : List ℕ). token (codes "DIST") 0x103 ++ (field (codes "CDIR") x ++ (token (codes "ARGC") (length words) ++ (flat_map (field (codes "ARGV")) words ++ image_bytes m.es)))) (sym c)
        ∙ ap (λ (ws : List (List ℕ)). token (codes "DIST") 0x103 ++ (field (codes "CDIR") job.setup.cwd ++ (token (codes "ARGC") (length ws) ++ (flat_map (field (codes "ARGV")) ws ++ image_bytes m.es)))) (sym w)

pub request_spelled : JobsKeepWords → (text : List ℕ) (got : Got) → Spells (request_from 0x103 request_limit) got text → RequestRead text got
unfolding request_from place_from place_body_from count_from request_bytes
request_spelled keeps text got v = by_job (job_of p.body w.words) refl w.then
  where
    t : TokenFront (codes "CDIR") (fits (room_behind request_limit 0) 1 4096) (λ n r. Spells (place_body_from (room_behind (room_behind request_limit 0) n) n) got r) v.r
    t = v.then

    p : BodyFront t.n (λ cwd r. Spells (count_from (room_behind (room_behind request_limit 0) t.n) cwd) got r) t.r
    p = t.then

    a : TokenFront (codes "ARGC") (λ n. bare (room_behind (room_behind request_limit 0) t.n) (within 0 1000 n)) (λ n r. Spells (words_from n (room_behind (room_behind (room_behind request_limit 0) t.n) 0) p.body []) got r) p.r
    a = p.then

    w : WordsRead a.n (room_behind (room_behind (room_behind request_limit 0) t.n) 0) p.body [] a.r got
    w = words_read a.n (room_behind (room_behind (room_behind request_limit 0) t.n) 0) p.body [] a.r got a.then

    by_job : (o : Option Job) → job_of p.body w.words ≡ o → Spells (with_job o (room_behind (room_behind (room_behind request_limit 0) t.n) 0 - length (flat_map (field (codes "ARGV")) w.words))) got w.r → RequestRead text got
    by_job None e g = absurd g
    by_job (Some job) e g =
        let passes = bare_passes request_limit (only 0x103 2 v.n) v.passes in
        let version : v.n ≡ 0x103 = only_passes 0x103 2 v.n passes.0 in
        let counts = bare_passes (room_behind (room_behind request_limit 0) t.n) (within 0 1000 a.n) a.passes in
        let limits = fits_passes (room_behind request_limit 0) 1 4096 t.n t.passes in
        let size = p.long in
        let m = image_spelled (Some job) (room_behind (room_behind (room_behind request_limit 0) t.n) 0 - length (flat_map (field (codes "ARGV")) w.words)) w.r got g in
        assembled text p.body v.r p.r a.r w.r w.words job got keeps e
        (v.is ∙ ap (λ (k : ℕ). token (codes "DIST") k ++ v.r) version)
        (field_is (codes "CDIR") v.r p.body t.r p.r t.n t.is p.is p.long)
        (subst (InLimits (room_behind request_limit 0) 1 4096) (sym size) limits)
        (a.is ∙ ap (λ (k : ℕ). token (codes "ARGC") k ++ a.r) (sym w.count))
        (subst (λ (k : ℕ). k ≤ 1000) (sym w.count) (within_passes 1000 a.n counts.0))
        (subst (λ (k : ℕ). 12 ≤ room_behind (room_behind request_limit 0) k) (sym size) counts.1)
        w.is w.are
        (subst (λ (k : ℕ). length (flat_map (field (codes "ARGV")) w.words) ≤ room_behind (room_behind (room_behind request_limit 0) k) 0) (sym size) w.small)
        (subst (λ (k : ℕ). ImageRead (Some job) (room_behind (room_behind (room_behind request_limit 0) k) 0 - length (flat_map (field (codes "ARGV")) w.words)) w.r got) (sym size) m)

-- what a request was read from is its spelling, with what follows
pub requests_spelled : JobsKeepWords → (bytes : List ℕ) (got : Got) (rest : List ℕ) → request_at bytes ≡ taken got rest → (job : Job) × (got.job ≡ Some job) × IsRequest job got.entries × (bytes ≡ request_bytes job got.entries ++ rest)
requests_spelled keeps bytes got rest h =
    let front = reads_spelling (request_from 0x103 request_limit) got bytes rest request_sound h in
    let m = request_spelled keeps front.text got front.spells in
    (m.job, m.got_job, m.request, front.is ∙ ap (λ (t : List ℕ). t ++ rest) m.is)
