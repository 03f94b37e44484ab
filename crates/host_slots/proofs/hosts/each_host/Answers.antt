use Rattle.std.proofs.Common.{rules, ◌+◌, ◌∷◌, [], map, drop, ap, sym, ◌∙◌}
use Rattle.std.proofs.lemmas.Result.{err_from_is_err_and}
use Rattle.std.proofs.lemmas.List.Elements.{All-append}
use Rattle.host_slots.specs.Hosts.{each_host}
use Rattle.host_slots.specs.Slots.{HasSlots}
use Rattle.host_slots.proofs.Words.{hosts_behind, slots-one, host-at, error-of-all, at-end}
use Rattle.host_slots.proofs.hosts.each_host.Goals as goal

pub returns-in_err-host-clause-why : goal.returns-in_err-host-clause-why
returns-in_err-host-clause-why c =
    let p = err_from_is_err_and c.from_residual-in_err-host.result c.from_residual-in_err-host.ensures.1 in
    rw (p.1, p.2) (error-of-all (λ word. word.now) c.args.words.now c.loop-word.word-index _ c.loop-word.hosts.items _ _ c.loop-word.invariant.read c.loop-word-test.true c.in_err-host.ensures.why)

pub loop-word-preserved : goal.loop-word-preserved
loop-word-preserved c = record {
  read =
      c.loop-word.invariant.read
      ∙ host-at (λ word. word.now) c.args.words.now c.loop-word.word-index _ c.loop-word.hosts.items c.in_ok-host.host c.loop-word-test.true c.in_ok-host.ensures.host
      ∙ ap (λ hosts. hosts_behind hosts (each_host (map (λ word. word.now) (drop (c.loop-word.word-index + 1) c.args.words.now)))) (sym c.push_reserved.ensures.items);
  each = search rules;
  slots = rw c.push_reserved.ensures.items (All-append HasSlots c.loop-word.hosts.items (c.in_ok-host.host ∷ []) c.loop-word.invariant.slots (slots-one c.in_ok-host.host c.in_ok-host.ensures.slots));
  room = search rules;
}

pub returns-clause-hosts : goal.returns-clause-hosts
returns-clause-hosts c = c.loop-word.invariant.read ∙ at-end (λ word. word.now) c.args.words.now c.loop-word.word-index c.loop-word.hosts.items c.loop-word-test.false
