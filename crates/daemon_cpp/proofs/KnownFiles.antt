-- What is kept of the files that were lexed, after one more.
use Rattle.std.proofs.Common.{◌≡◌, sym, ◌∙◌, ap, subst, cond, ℕ, Bool, true, false, Option, None, Some, refl}
use Rattle.std.specs.HashMap.{HashMap, Updates, get}
use Rattle.std.specs.Option.{unwrap_or}
use Rattle.tree_model.specs.Paths.{Path, is_same_path, is_same_path-Decides}
use Rattle.daemon_cpp.specs.declared.file_text.FileText.{FileText}
use Rattle.daemon_cpp.specs.declared.lexed_files.LexedFiles.{LexedFiles}
use Rattle.daemon_cpp.specs.Prep.{World}
use Rattle.daemon_cpp.specs.parts.KnownTexts.{IsTextAt, KnowsTexts, text_kept}

pub one-more : (world : World) (old new : LexedFiles) (path : Path) (text : FileText) → Updates is_same_path old.known new.known path (Some text) →
    IsTextAt world path text → KnowsTexts world old → KnowsTexts world new
one-more world old new path text put is known = record { each = each }
  where
    by : (other : Path) (got : FileText) (same : Bool) → is_same_path path other ≡ same → cond same (Some text) (text_kept old other) ≡ Some got → IsTextAt world other got
    by other got true there found =
        subst (λ (p : Path). IsTextAt world p got) ((is_same_path-Decides path other).0 there)
        (subst (λ (t : FileText). IsTextAt world path t) (ap (λ (o : Option FileText). unwrap_or o text) found) is)
    by other got false there found = known.each other got found

    each : (other : Path) (got : FileText) → text_kept new other ≡ Some got → IsTextAt world other got
    each other got found = by other got (is_same_path path other) refl (sym (put.0 other) ∙ found)
