use Rattle.std.proofs.Common.{ap, ◌∙◌}
use Rattle.symbolic_expand.specs.Texts.{text_inserted, texts_of}
use Rattle.symbolic_expand.proofs.TextLaws.{texts_of-insert}
use Rattle.symbolic_expand.proofs.texts.TextSet.insert.Goals as goal

pub returns : goal.returns
returns c = record {
  ok =
      ap texts_of c.in_ok-insert.ensures.entries ∙ texts_of-insert c.self.inside.kept.entries c.args.text _ ∙ ap (text_inserted c.args.text.items) c.self.view_is;
}
