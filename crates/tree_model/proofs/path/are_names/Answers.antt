use Rattle.std.proofs.Common.{◌+◌, ◌-◌, arith, sym, ◌∙◌, ap, subst, drop, take, Bool, List, ℕ, true, ◌≡◌}
use Rattle.std.specs.Prelude.{◌&&◌}
use Rattle.std.specs.List.{list_all}
use Rattle.std.proofs.lemmas.List.{take_rest}
use Rattle.tree_model.specs.Paths.{is_name, is_file_name_byte}
use Rattle.tree_model.proofs.PathLemmas.{parts_of, part_bytes, names_turn, plain_none, plain_turn, plain_end, zero_turn, names_end}
use Rattle.tree_model.proofs.path.are_names.Goals as goal
use Rattle.tree_model.proofs.path.are_names.Goals.{then-b-eq47+else-not-is_part_name, else-b-eq47+else-b-eq0}

pub returns-then-not-is_part_name : goal.returns-then-not-is_part_name
returns-then-not-is_part_name c =
    sym (c.loop-i.invariant.left ∙ names_turn c.args.text.now c.loop-i.start c.loop-i.i c.loop-i.invariant.within c.loop-i-test.true c.if-b-eq47.true
    (part_bytes (take (c.loop-i.i - c.loop-i.start) (drop c.loop-i.start c.args.text.now)) c.loop-i.invariant.plain)
    ∙ ap (λ (b : Bool). b && list_all is_name (parts_of (drop (c.loop-i.i + 1) c.args.text.now))) (sym c.if-not-is_part_name.ensures))

pub returns-then-b-eq0 : goal.returns-then-b-eq0
returns-then-b-eq0 c =
    zero_turn c.args.text.now c.loop-i.start c.loop-i.i c.loop-i.invariant.within c.loop-i-test.true c.if-b-eq0.true c.loop-i.invariant.plain
    ∙ sym c.loop-i.invariant.left

pub loop-i-preserved : goal.loop-i-preserved
loop-i-preserved c =
    elim c.if-b-eq47.branch [
      | then-b-eq47+else-not-is_part_name w ↦ rw w.start-is (record {
        within = omega arith;
        plain = plain_none (drop (c.loop-i.i + 1) c.args.text.now) (c.loop-i.i + 1);
        left = c.loop-i.invariant.left ∙ names_turn c.args.text.now c.loop-i.start c.loop-i.i c.loop-i.invariant.within c.loop-i-test.true w.if-b-eq47.true
            (part_bytes (take (c.loop-i.i - c.loop-i.start) (drop c.loop-i.start c.args.text.now)) c.loop-i.invariant.plain)
            ∙ ap (λ (b : Bool). b && list_all is_name (parts_of (drop (c.loop-i.i + 1) c.args.text.now))) (sym w.if-not-is_part_name.ensures);
      })
      | else-b-eq47+else-b-eq0 w ↦ rw w.start-is (record {
        within = omega arith;
        plain = plain_turn c.args.text.now c.loop-i.start c.loop-i.i c.loop-i.invariant.within c.loop-i-test.true w.if-b-eq47.false w.if-b-eq0.false c.loop-i.invariant.plain;
        left = c.loop-i.invariant.left;
      })
    ]

pub is_part_name-requires-2 : goal.is_part_name-requires-2
is_part_name-requires-2 c =
    subst (λ (t : List ℕ). list_all is_file_name_byte t ≡ true) (sym (take_rest c.args.text.now c.loop-i.start))
    (plain_end c.args.text.now c.loop-i.start c.loop-i.i c.loop-i-test.false c.loop-i.invariant.plain)

pub returns : goal.returns
returns c =
    c.is_part_name-2.ensures ∙ ap is_name (take_rest c.args.text.now c.loop-i.start)
    ∙ sym (c.loop-i.invariant.left ∙ names_end c.args.text.now c.loop-i.start c.loop-i.i c.loop-i-test.false
    (part_bytes (take (c.loop-i.i - c.loop-i.start) (drop c.loop-i.start c.args.text.now)) c.loop-i.invariant.plain))
