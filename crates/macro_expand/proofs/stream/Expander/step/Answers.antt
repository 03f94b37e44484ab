use Rattle.std.proofs.Common.{is_some, map, ◌∷◌, [], reverse, sym, ap, ◌∙◌, refl}
use Rattle.macro_defs.specs.Table.{lookup}
use Rattle.macro_expand.specs.Seen.{kept_token, place_of}
use Rattle.macro_expand.specs.Stream.{Stream, to_come}
use Rattle.macro_expand.proofs.GivesLaws.{Reports_from}
use Rattle.macro_expand.proofs.StreamLemmas.{given_before-both, stream_turn, stream_end, reports_given}
use Rattle.macro_expand.proofs.stream.Expander.step.Goals as goal

pub returns-in-Ok-Some-clause-gives : goal.returns-in-Ok-Some-clause-gives
returns-in-Ok-Some-clause-gives c =
    rw c.bare.ensures
    (ap (λ (s : Stream). to_come s c.args.work.now.left) (sym c.self.view_is)
    ∙ stream_turn (lookup c.self.inside.table.now) (λ s. place_of s.here.now) c.self.inside.mode c.self.inside.answers c.advance.new.answers c.args.work.now.left
    c.advance.new.work.left c.self.inside.pending (c.in-Ok-Some.m ∷ reverse c.advance.new.out.items) c.advance.new.pending (reverse c.self.inside.ready.items)
    (c.in-Ok-Some.m ∷ reverse c.advance.new.out.items) (ap (λ (s : Stream). s.ready) c.self.view_is ∙ c.requires.empty) refl (rw c.in-Ok-Some.field-0-is at c.in-Ok-Some.ensures.some)
    ∙ given_before-both (c.in-Ok-Some.m.token ∷ []) (map kept_token (reverse c.advance.new.out.items)) _)

pub returns-in-Ok-None-clause-gives : goal.returns-in-Ok-None-clause-gives
returns-in-Ok-None-clause-gives c =
    ap (λ (s : Stream). to_come s c.args.work.now.left) (sym c.self.view_is)
    ∙ stream_turn (lookup c.self.inside.table.now) (λ s. place_of s.here.now) c.self.inside.mode c.self.inside.answers c.advance.new.answers c.args.work.now.left
    c.advance.new.work.left c.self.inside.pending [] [] (reverse c.self.inside.ready.items) [] (ap (λ (s : Stream). s.ready) c.self.view_is ∙ c.requires.empty) refl
    (c.in-Ok-None.ensures.none (ap is_some c.in-Ok-None.field-0-is))
    ∙ stream_end (lookup c.self.inside.table.now) (λ s. place_of s.here.now) c.self.inside.mode c.advance.new.answers c.advance.new.work.left [] [] refl refl

pub returns-in-Err-clause-err : goal.returns-in-Err-clause-err
returns-in-Err-clause-err c =
    rw (c.public_error-e.ensures, sym c.self.view_is)
    (reports_given _ _ _
    (Reports_from (lookup c.self.inside.table.now) (λ s. place_of s.here.now) c.self.inside.answers c.self.inside.mode c.args.work.now.left _ c.in-Err.e c.advance.new.answers
    c.in-Err.ensures.err))
