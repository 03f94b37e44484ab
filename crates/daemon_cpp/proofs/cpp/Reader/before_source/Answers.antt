use Rattle.std.proofs.Common.{◌≤◌, length, sym, ◌∙◌, ap, subst}
use Rattle.base_types.specs.Limits.{text_limit}
use Rattle.cpp_output.specs.Laid.{Laid}
use Rattle.macro_defs.specs.Table.{lookup}
use Rattle.std.specs.List.{list_any}
use Rattle.tree_model.specs.Paths.{is_same_path}
use Rattle.daemon_cpp.specs.parts.Files.{here_of}
use Rattle.daemon_cpp.proofs.Jobs.{begins-told}
use Rattle.daemon_cpp.proofs.cpp.Reader.before_source.Goals as goal

pub returns-clause-comes : goal.returns-clause-comes
returns-clause-comes c = λ world forced.
    begins-told world c.args.macros.now c.args.source.now forced c.alone.result (subst (λ (o : Laid). length o.text ≤ text_limit) c.requires.begun c.requires.within)
    (record {
      source = sym (c.alone.ensures.source ∙ c.in_ok-place.ensures);
      output = sym (c.alone.ensures.layout ∙ c.requires.begun);
      within = subst (λ (o : Laid). length o.text ≤ text_limit) (sym c.alone.ensures.layout) c.requires.within;
      left = sym c.alone.ensures.work;
      opened = sym c.alone.ensures.opened;
      macros = sym (ap lookup c.alone.ensures.macros ∙ c.in_ok-macros.ensures);
      once = λ path. ap (list_any (is_same_path path)) (sym c.alone.ensures.once);
      here = ap here_of (sym (c.alone.ensures.file ∙ c.in_ok-file.ensures));
    })
    (c.alone.ensures.knows world)
