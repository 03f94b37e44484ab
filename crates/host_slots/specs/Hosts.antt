-- The hosts that a text names, or the first reason why it names none.
use Rattle.std.specs.Prelude.{ℕ, ◌+◌, ◌-◌, ◌*◌, List, [], ◌∷◌, length, drop, Bool, true, false, not, ◌&&◌, ◌||◌, ◌==◌, if◌then◌else◌, nat_le, nat_lt, bytes_eq, codes, Option, Some, None, Result, Ok, Err}
use Rattle.std.specs.List.{list_any, list_all, filter, slice_split, position_or_len, before_first}
use Rattle.base_types.specs.Limits.{slot_limit, host_limit}
use Rattle.base_types.specs.Ascii as ascii
use Rattle.io_edges.specs.declared.wire.Host.{Host}
use Rattle.host_slots.specs.declared.hosts.HostError.{HostError}
use Rattle.host_slots.specs.declared.hosts.HostError.TheVariants as refused

abbrev pub Text : Type 0
Text = List ℕ

-- ---- bytes ----

-- white space of ASCII: tab, line feed, vertical tab, form feed, carriage return, space
abbrev pub is_space : ℕ → Bool
is_space b = (b == ascii.space) || (nat_le ascii.tab b && nat_le b ascii.carriage_return)

abbrev pub is_digit : ℕ → Bool
is_digit b = nat_le ascii.zero_digit b && nat_le b ascii.nine_digit

-- a letter, a digit, `.` or `-`
abbrev pub is_host_name_byte : ℕ → Bool
is_host_name_byte b = (nat_le ascii.lower_a b && nat_le b ascii.lower_z) || ((nat_le ascii.upper_a b && nat_le b ascii.upper_z) || (is_digit b || (nat_le ascii.minus b && nat_le b ascii.dot)))

abbrev pub is_one_of : Text → ℕ → Bool
is_one_of marks b = list_any (λ mark. b == mark) marks

-- ---- numbers ----

-- the number that digits spell behind those of n
abbrev pub decimal_behind : ℕ → Text → ℕ
decimal_behind n [] = n
decimal_behind n (b ∷ digits) = decimal_behind (n * 10 + (b - 48)) digits

-- one digit or more, and no zero in front
abbrev pub is_positive_decimal : Text → Bool
is_positive_decimal [] = false
is_positive_decimal (b ∷ digits) = not (b == ascii.zero_digit) && list_all is_digit (b ∷ digits)

-- the number that a text spells in decimal; none where it spells no number, or one above the limit
unfoldable pub number_in : ℕ → Text → Option ℕ
number_in most text = if is_positive_decimal text && nat_le (decimal_behind 0 text) most then Some (decimal_behind 0 text) else None

-- ---- a word: HOST, then `:` and PORT, `/` and LIMIT, `,` and OPTION, each of which may be missing ----

-- 1 to 255 bytes of a name
unfoldable pub is_host_name : Text → Bool
is_host_name name = nat_le 1 (length name) && (nat_le (length name) 255 && list_all is_host_name_byte name)

-- The number behind a mark, up to a byte that ends it; the default where the text doesn't begin with the mark.
abbrev pub number_behind_mark : ℕ → Text → ℕ → ℕ → Text → Option ℕ
number_behind_mark mark ends default most [] = Some default
number_behind_mark mark ends default most (b ∷ text) = if b == mark then number_in most (before_first (is_one_of ends) text) else Some default

-- what stands behind that number
abbrev pub rest_at : ℕ → Text → Text → Text
rest_at mark ends [] = []
rest_at mark ends (b ∷ text) = if b == mark then drop (position_or_len (is_one_of ends) text) text else b ∷ text

abbrev pub is_option : Text → Bool
is_option text = bytes_eq text (codes "cpp") || bytes_eq text (codes "lzo")

-- nothing, or options with a `,` in front of each
abbrev pub are_options : Text → Bool
are_options [] = true
are_options (b ∷ text) = list_all is_option (slice_split (λ b. b == ascii.comma) text)

-- the own machine has two slots, any other four, where the word doesn't say how many
abbrev pub default_limit : Text → ℕ
default_limit name = if bytes_eq name (codes "localhost") then 2 else 4

abbrev pub host_with_limit : Text → ℕ → Option ℕ → Text → Result Host HostError
host_with_limit name port None rest = Err refused.Limit
host_with_limit name port (Some limit) rest = if are_options rest then Ok (record { name = name; port = port; limit = limit }) else Err refused.Option

abbrev pub host_with_port : Text → Option ℕ → Text → Result Host HostError
host_with_port name None rest = Err refused.Port
host_with_port name (Some port) rest = host_with_limit name port (number_behind_mark ascii.slash (codes ",") (default_limit name) slot_limit rest) (rest_at ascii.slash (codes ",") rest)

abbrev pub host_with_name : Text → Text → Result Host HostError
host_with_name name rest = if is_host_name name then host_with_port name (number_behind_mark ascii.colon (codes "/,") 3632 65535 rest) (rest_at ascii.colon (codes "/,") rest) else Err refused.Name

-- The host of a word: the name ends at the first `:`, `/` or `,`, the port at the first `/` or `,` behind it, the limit at the
-- first `,` behind that. What is wrong further left comes first.
unfoldable pub host_of : Text → Result Host HostError
host_of word = host_with_name (before_first (is_one_of (codes ":/,")) word) (drop (position_or_len (is_one_of (codes ":/,")) word) word)

-- ---- all words ----

-- the words of a text: its parts between white space that aren't empty
abbrev pub host_words : Text → List Text
host_words text = filter (λ part. nat_lt 0 (length part)) (slice_split is_space text)

abbrev pub hosts_with : Result Host HostError → Result (List Host) HostError → Result (List Host) HostError
hosts_with (Err why) hosts = Err why
hosts_with (Ok host) (Err why) = Err why
hosts_with (Ok host) (Ok hosts) = Ok (host ∷ hosts)

-- the host of each word, or what is wrong with the first word that is no host
unfoldable pub each_host : List Text → Result (List Host) HostError
each_host [] = Ok []
each_host (word ∷ words) = hosts_with (host_of word) (each_host words)

-- 1 to 64 words
abbrev pub hosts_of_words : List Text → Result (List Host) HostError
hosts_of_words [] = Err refused.Empty
hosts_of_words (word ∷ words) = if nat_le (length (word ∷ words)) host_limit then each_host (word ∷ words) else Err refused.Many

-- The hosts that a text names, in its order.
unfoldable pub hosts_of : Text → Result (List Host) HostError
hosts_of text = hosts_of_words (host_words text)
