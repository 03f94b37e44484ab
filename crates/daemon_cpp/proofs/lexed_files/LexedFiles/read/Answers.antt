use Rattle.std.proofs.Common.{Bool, sym, subst}
use Rattle.pp_tokens.specs.Lines.{lexed}
use Rattle.daemon_cpp.specs.parts.FileTexts.{IsTextOf}
use Rattle.daemon_cpp.specs.parts.KnownTexts.{IsTextAt}
use Rattle.daemon_cpp.proofs.lexed_files.LexedFiles.read.Goals as goal

pub returns-clause-knows : goal.returns-clause-knows
returns-clause-knows c = λ world trigraphs read known.
    let at_path : IsTextAt world c.args.path.now c.in_ok-text.text = record {
      body = c.args.body;
      read = read;
      is = subst (λ (t : Bool). IsTextOf (lexed t c.args.body) c.in_ok-text.text) (sym trigraphs) c.in_ok-text.ensures.text;
    } in
    c.in_ok-keep.ensures world (rw (c.in_ok-path.ensures, c.in_ok-kept.ensures) at_path) (record { each = known.each })
