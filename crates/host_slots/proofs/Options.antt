-- Options behind their first `,`.
use Rattle.std.proofs.Common.{◌≡◌, ◌≤◌, ◌-◌, ◌==◌, ◌∷◌, [], take, drop, length, ap, arith}
use Rattle.std.specs.List.{list_all, slice_split}
use Rattle.std.proofs.lemmas.List.{take_rest}
use Rattle.host_slots.specs.Hosts.{Text, are_options, is_option}

pub behind_comma : (text : Text) → 1 ≤ length text → list_all is_option (slice_split (λ b. b == 44) (take (length text - 1) (drop 1 text))) ≡ are_options text
behind_comma [] some = absurd (omega arith)
behind_comma (b ∷ text) some = ap (λ options. list_all is_option (slice_split (λ b. b == 44) options)) (take_rest (b ∷ text) 1)
