-- Helpers of reading a number digit by digit.
use Rattle.std.specs.Prelude.{ℕ, ◌+◌, ◌-◌, ◌*◌, ◌&&◌, if◌then◌else◌, nat_le, Option, Some, None}
use Rattle.std.specs.List.{list_all}
use Rattle.host_slots.specs.Hosts.{Text, is_digit, decimal_behind}

-- the number that digits spell behind those of n; none where one is no digit, or the number is above the limit
unfoldable pub number_behind : ℕ → ℕ → Text → Option ℕ
number_behind most n digits = if list_all is_digit digits && nat_le (decimal_behind n digits) most then Some (decimal_behind n digits) else None

-- the same for one digit
abbrev pub digit_behind : ℕ → ℕ → ℕ → Option ℕ
digit_behind most n b = if is_digit b && nat_le (n * 10 + (b - 48)) most then Some (n * 10 + (b - 48)) else None
