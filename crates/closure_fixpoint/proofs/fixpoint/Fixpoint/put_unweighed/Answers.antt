use Rattle.std.proofs.Common.{◌≡◌, ◌∙◌, refl, sym, ap, subst, true}
use Rattle.closure_fixpoint.specs.declared.fixpoint.Wait.{Wait}
use Rattle.closure_fixpoint.specs.declared.fixpoint.Wait.TheVariants as wait
use Rattle.closure_fixpoint.specs.Progress.{Heard}
use Rattle.closure_fixpoint.specs.Told.{Progress, StandsBy}
use Rattle.closure_fixpoint.specs.parts.Seen.{pending_of, ended_of}
use Rattle.closure_fixpoint.proofs.StandsLaws.{by_sheet, by_untold}
use Rattle.closure_fixpoint.proofs.fixpoint.Fixpoint.put_unweighed.Goals as goal

pub invariant_of-self : goal.invariant_of-self
invariant_of-self c =
    let heard : Heard = record { searches = c.self.inside.searches; sheets = c.self.inside.sheets.items; large = c.self.inside.large } in
    let was : c.self.inside.wait ≡ wait.Sheet c.in-Sheet.visit = sym c.replace.ensures.value ∙ c.in-Sheet.is in
    let p : Progress = record {
      job = c.self.inside.job;
      budget = c.self.inside.budget;
      heard = heard;
      found = c.self.inside.found;
      pending = pending_of c.self.inside.wait;
      ended = ended_of c.self.inside.ended;
      broken = c.self.inside.broken;
    } in
    subst (λ (w : Wait). StandsBy c.self.inside.naming (record p { heard = record heard { sheets = c.tell_sheet.new.sheets.items }; found = c.tell_sheet.new.found; pending = pending_of w; broken = true }))
    (sym c.replace.ensures.after)
    (by_untold c.self.inside.naming p c.in-Sheet.visit c.args.got c.tell_sheet.new.sheets.items c.tell_sheet.new.found c.self.invariant (ap pending_of was)
    c.more_definitions.ensures.headers true refl c.in-Err.ensures.err)

pub invariant_of-self-in_default-tell_sheet : goal.invariant_of-self-in_default-tell_sheet
invariant_of-self-in_default-tell_sheet c =
    let heard : Heard = record { searches = c.self.inside.searches; sheets = c.self.inside.sheets.items; large = c.self.inside.large } in
    let was : c.self.inside.wait ≡ wait.Sheet c.in-Sheet.visit = sym c.replace.ensures.value ∙ c.in-Sheet.is in
    let p : Progress = record {
      job = c.self.inside.job;
      budget = c.self.inside.budget;
      heard = heard;
      found = c.self.inside.found;
      pending = pending_of c.self.inside.wait;
      ended = ended_of c.self.inside.ended;
      broken = c.self.inside.broken;
    } in
    subst (λ (w : Wait). StandsBy c.self.inside.naming (record p { heard = record heard { sheets = c.tell_sheet.new.sheets.items }; found = c.tell_sheet.new.found; pending = pending_of w }))
    (sym c.replace.ensures.after)
    (by_sheet c.self.inside.naming p c.in-Sheet.visit c.args.got c.tell_sheet.new.sheets.items c.tell_sheet.new.found c.self.invariant (ap pending_of was)
    c.more_definitions.ensures.headers c.in_default-tell_sheet.ensures.sheets c.in_default-tell_sheet.ensures.found)
