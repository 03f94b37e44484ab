use Rattle.std.proofs.Common.{Option, Err, refl, sym, subst}
use Rattle.pp_tokens.specs.Lines.{lexed}
use Rattle.daemon_cpp.specs.Prep.{world_of, here_at, open_file}
use Rattle.daemon_cpp.specs.parts.Reading.{front_events, run_body}
use Rattle.daemon_cpp.specs.parts.Showing.{Opens, BeginsFile}
use Rattle.daemon_cpp.specs.declared.kept.Kept.{Kept}
use Rattle.daemon_cpp.specs.declared.file_text.FileText.{FileText}
use Rattle.daemon_cpp.specs.parts.KnownTexts.{IsTextAt, IsReadAt}
use Rattle.daemon_cpp.proofs.Openings.{opens-body, opens-large, opens-nothing}
use Rattle.daemon_cpp.proofs.opening.open_file.Goals as goal

pub returns-in-Ok-Some-clause-opens : goal.returns-in-Ok-Some-clause-opens
returns-in-Ok-Some-clause-opens g c = λ told is known.
    let world = world_of told c.args.setup.now in
    let events = front_events c.args.included c.args.file.now.0.place in
    let at : IsTextAt world c.args.file.now.1.real c.in-Ok-Some.text = subst (λ (o : Option FileText). IsReadAt world c.args.file.now.1.real o) c.in-Ok-Some.field-0-is (c.in-Ok-Some.ensures.text told is known) in
    opens-body c.args.kept.now c.open_paid.new.kept c.args.source.now world c.args.file.now events at.body c.open_paid.result at.read
    (subst (λ (k : Kept). BeginsFile k c.open_paid.new.kept c.args.source.now (here_at c.args.file.now) world (λ entering state. run_body world entering events (lexed world.trigraphs at.body) state) c.open_paid.result) c.in_ok-note_opened.ensures
    (c.open_paid.ensures.begins world (here_at c.args.file.now) (lexed world.trigraphs at.body) refl at.is))

pub returns-in-Ok-None-clause-opens : goal.returns-in-Ok-None-clause-opens
returns-in-Ok-None-clause-opens g c = λ told is known.
    let world = world_of told c.args.setup.now in
    subst (λ (k : Kept). Opens c.args.kept.now k c.args.source.now world c.args.file.now (λ entering state. open_file world entering (front_events c.args.included c.args.file.now.0.place) c.args.file.now state) (Err c.refused.result)) (sym c.in_ok-note_opened.ensures)
    (opens-large c.args.kept.now c.args.source.now world c.args.file.now (front_events c.args.included c.args.file.now.0.place) c.refused.result
    (subst (λ (o : Option FileText). IsReadAt world c.args.file.now.1.real o) c.in-Ok-None.field-0-is (c.in-Ok-None.ensures.text told is known)) c.refused.ensures)

pub returns-in-Err-clause-opens : goal.returns-in-Err-clause-opens
returns-in-Err-clause-opens g c = λ told is known.
    opens-nothing c.args.kept.now c.note_opened.new.kept c.args.source.now (world_of told c.args.setup.now) c.args.file.now (λ entering state. open_file (world_of told c.args.setup.now) entering (front_events c.args.included c.args.file.now.0.place) c.args.file.now state) c.in-Err.stop c.in-Err.ensures.silent
