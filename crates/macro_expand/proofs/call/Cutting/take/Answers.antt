use Rattle.std.proofs.Common.{◌≡◌, ◌∙◌, sym, refl, ap, subst, arith}
use Rattle.macro_expand.specs.parts.Reading.{is_cut, nesting_after}
use Rattle.macro_expand.proofs.CallLaws.{cut_turn, grow_turn, cut-level, cut-outside}
use Rattle.macro_expand.specs.parts.Stamps.{Stamped, AllStamped, EachStamped}
use Rattle.macro_expand.proofs.StampLaws.{each-push}
use Rattle.macro_expand.proofs.LoopLaws.{on_ok-map, on_ok-both, on_ok-three}
use Rattle.macro_expand.proofs.call.Cutting.take.Goals as goal

pub returns-then-is_cut-clause-ok : goal.returns-then-is_cut-clause-ok
returns-then-is_cut-clause-ok c =
    let self = c.args.self.now in
    let made = c.cut.new.self in
    on_ok-three c.cut.result
    (λ pushed piece less. cut_turn self.pieces.items self.piece.items self.cuts self.nesting c.args.t
    (ap (is_cut self.cuts self.nesting) (sym c.requires.mark) ∙ sym c.is_cut.ensures ∙ c.if-is_cut.true)
    made.pieces.items self.piece pushed refl made.piece.items piece made.cuts made.nesting less c.cut.ensures.same)
    c.cut.ensures.pieces c.cut.ensures.piece c.cut.ensures.cuts

pub returns-then-is_cut-clause-nesting : goal.returns-then-is_cut-clause-nesting
returns-then-is_cut-clause-nesting c =
    let self = c.args.self.now in
    on_ok-map c.cut.result (λ _. c.cut.ensures.same ∙ cut-level self.cuts self.nesting c.args.mark (sym c.is_cut.ensures ∙ c.if-is_cut.true)) c.cut.ensures.piece

pub returns-then-is_cut-clause-deep : goal.returns-then-is_cut-clause-deep
returns-then-is_cut-clause-deep c =
    let self = c.args.self.now in
    let none : self.nesting ≡ 0 = cut-outside self.cuts self.nesting c.args.mark (sym c.is_cut.ensures ∙ c.if-is_cut.true) in
    on_ok-map c.cut.result (λ piece. let same = c.cut.ensures.same in omega arith) c.cut.ensures.piece

pub returns-clause-ok : goal.returns-clause-ok
returns-clause-ok c =
    let self = c.args.self.now in
    grow_turn self.pieces.items self.piece.items self.cuts self.nesting c.args.t
    (ap (is_cut self.cuts self.nesting) (sym c.requires.mark) ∙ sym c.is_cut.ensures ∙ c.if-is_cut.false)
    c.push.new.self.items c.in_ok-push.ensures.items c.nesting_after-self.result
    (c.nesting_after-self.ensures.value ∙ ap (nesting_after self.nesting) c.requires.mark)

pub returns-then-is_cut-clause-stamped : goal.returns-then-is_cut-clause-stamped
returns-then-is_cut-clause-stamped c sets next all t =
    on_ok-both c.cut.result
    (λ pushed piece. (subst (EachStamped sets next) (sym pushed) (each-push (Stamped sets next) c.args.self.now.pieces.items c.args.self.now.piece all.0 all.1), subst (AllStamped sets next) (sym piece) tt))
    c.cut.ensures.pieces c.cut.ensures.piece
