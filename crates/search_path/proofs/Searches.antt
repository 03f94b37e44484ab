-- The search of an ask by what it is found by.
use Rattle.std.proofs.Common.{◌≡◌, ◌∷◌, [], Option, None, Some, Result, Ok, Err, refl, sym, ◌∙◌, ap, cond, Bool, true, false}
use Rattle.std.specs.Prelude.{IfOk, IfSome}
use Rattle.std.specs.Option.{ForSome}
use Rattle.tree_model.specs.Trees.{FileTree}
use Rattle.tree_model.specs.Walk.{is_absolute}
use Rattle.tree_model.specs.declared.tree.TreeError.{TreeError}
use Rattle.search_path.specs.SetupOf.{SetupData}
use Rattle.tree_model.specs.Paths.{Text}
use Rattle.search_path.specs.Search.{Hit, from_root, found_absolute, next_candidates, quote_candidates, relative_candidates, first_located, search}
use Rattle.search_path.specs.declared.asking.Ask.{Ask}
use Rattle.search_path.specs.declared.asking.Form.{Form}
use Rattle.search_path.specs.declared.asking.Form.TheVariants.{NextQuote}
use Rattle.search_path.specs.declared.asking.Found.{Found}
use Rattle.search_path.specs.declared.asking.Visit.{Visit}

pub search-absolute : (told : FileTree) (setup : SetupData) (ask : Ask) → is_absolute ask.name ≡ true
    → first_located told (from_root (found_absolute ask.form) ask.name ∷ []) ≡ search told setup ask
unfolding search
search-absolute told setup ask is =
    sym (ap (λ (b : Bool). first_located told (cond b (from_root (found_absolute ask.form) ask.name ∷ []) (relative_candidates setup ask.form ask.from ask.name))) is)

pub search-relative : (told : FileTree) (setup : SetupData) (ask : Ask) → is_absolute ask.name ≡ false
    → first_located told (relative_candidates setup ask.form ask.from ask.name) ≡ search told setup ask
unfolding search
search-relative told setup ask is =
    sym (ap (λ (b : Bool). first_located told (cond b (from_root (found_absolute ask.form) ask.name ∷ []) (relative_candidates setup ask.form ask.from ask.name))) is)

-- what is found in a tree, if one is told
pub found-told : (tree : Option FileTree) (result : Result (Option Hit) TreeError) (one other : FileTree → Option Hit) → ForSome tree (λ told. IfOk result (λ hit. hit ≡ one told))
    → ((told : FileTree) → one told ≡ other told) → IfOk result (λ hit. IfSome tree (λ told. hit ≡ other told))
found-told None (Ok hit) one other found same = tt
found-told (Some told) (Ok hit) one other found same = found told refl ∙ same told
found-told tree (Err error) one other found same = tt

-- what a name that begins with `/` is found by
pub found-absolute : (told : FileTree) (setup : SetupData) (ask : Ask) (found : Found) (text : Text) → found ≡ found_absolute ask.form → text ≡ ask.name → true ≡ is_absolute text
    → first_located told (from_root found text ∷ []) ≡ search told setup ask
found-absolute told setup ask found text how named is =
    ap (λ f. first_located told (from_root f text ∷ [])) how
    ∙ ap (λ t. first_located told (from_root (found_absolute ask.form) t ∷ [])) named
    ∙ search-absolute told setup ask (sym (is ∙ ap is_absolute named))

-- the candidates of `#include_next` with a quoted name
pub next-quote : (setup : SetupData) (form : Form) (from : Option Visit) (visit : Visit) (text name : Text) → form ≡ NextQuote → from ≡ Some visit → text ≡ name
    → next_candidates setup visit.found text (quote_candidates setup visit text) ≡ relative_candidates setup form from name
next-quote setup form from visit text name is_next is_from named =
    ap (λ t. relative_candidates setup NextQuote (Some visit) t) named
    ∙ sym (ap (λ f. relative_candidates setup f from name) is_next ∙ ap (λ v. relative_candidates setup NextQuote v name) is_from)
