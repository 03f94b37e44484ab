use Rattle.std.proofs.Common.{◌≡◌, ◌≤◌, length, map, drop}
use Rattle.std.specs.Prelude.{vec_capacity}
use Rattle.std.specs.List.{All}
use Rattle.host_slots.specs.Hosts.{each_host}
use Rattle.host_slots.specs.Slots.{HasSlots}
use Rattle.host_slots.proofs.Words.{hosts_behind}
use Rattle.host_slots.proofs.hosts.each_host.Given as goal

abbrev pub invariant-loop-word : goal.invariant-loop-word
invariant-loop-word l = record {
  read : each_host (map (λ word. word.now) l.words) ≡ hosts_behind l.hosts.items (each_host (map (λ word. word.now) (drop l.word-index l.words)));
  each : length l.hosts.items ≡ l.word-index;
  slots : All HasSlots l.hosts.items;
  room : length l.words ≤ vec_capacity l.hosts;
}
