-- Names for bytes (ASCII), as texts of C, of paths, of words and of frames have them. Cited as `ascii.newline`.
use Rattle.std.specs.Prelude.{ℕ}

abbrev pub tab : ℕ
tab = 9

abbrev pub newline : ℕ
newline = 10

abbrev pub vertical_tab : ℕ
vertical_tab = 11

abbrev pub form_feed : ℕ
form_feed = 12

abbrev pub carriage_return : ℕ
carriage_return = 13

abbrev pub space : ℕ
space = 32

-- `!`
abbrev pub exclamation : ℕ
exclamation = 33

-- `"`
abbrev pub quote : ℕ
quote = 34

-- `#`
abbrev pub hash : ℕ
hash = 35

-- `$`
abbrev pub dollar : ℕ
dollar = 36

-- `%`
abbrev pub percent : ℕ
percent = 37

-- `'`
abbrev pub apostrophe : ℕ
apostrophe = 39

-- `(`
abbrev pub open_parenthesis : ℕ
open_parenthesis = 40

-- `)`
abbrev pub close_parenthesis : ℕ
close_parenthesis = 41

-- `*`
abbrev pub star : ℕ
star = 42

-- `+`
abbrev pub plus : ℕ
plus = 43

-- `,`
abbrev pub comma : ℕ
comma = 44

-- `-`
abbrev pub minus : ℕ
minus = 45

-- `.`
abbrev pub dot : ℕ
dot = 46

-- `/`
abbrev pub slash : ℕ
slash = 47

-- `0`, the first of the digits
abbrev pub zero_digit : ℕ
zero_digit = 48

-- `9`, the last of the digits
abbrev pub nine_digit : ℕ
nine_digit = 57

-- `:`
abbrev pub colon : ℕ
colon = 58

-- `<`
abbrev pub less : ℕ
less = 60

-- `=`
abbrev pub equals : ℕ
equals = 61

-- `>`
abbrev pub greater : ℕ
greater = 62

-- `?`
abbrev pub question : ℕ
question = 63

abbrev pub upper_a : ℕ
upper_a = 65

abbrev pub upper_b : ℕ
upper_b = 66

abbrev pub upper_d : ℕ
upper_d = 68

abbrev pub upper_e : ℕ
upper_e = 69

abbrev pub upper_f : ℕ
upper_f = 70

abbrev pub upper_l : ℕ
upper_l = 76

abbrev pub upper_m : ℕ
upper_m = 77

abbrev pub upper_p : ℕ
upper_p = 80

abbrev pub upper_r : ℕ
upper_r = 82

abbrev pub upper_u : ℕ
upper_u = 85

abbrev pub upper_x : ℕ
upper_x = 88

abbrev pub upper_z : ℕ
upper_z = 90

-- `[`
abbrev pub open_bracket : ℕ
open_bracket = 91

-- `\`
abbrev pub backslash : ℕ
backslash = 92

-- `]`
abbrev pub close_bracket : ℕ
close_bracket = 93

-- `^`
abbrev pub caret : ℕ
caret = 94

-- `_`
abbrev pub underscore : ℕ
underscore = 95

abbrev pub lower_a : ℕ
lower_a = 97

abbrev pub lower_b : ℕ
lower_b = 98

abbrev pub lower_e : ℕ
lower_e = 101

abbrev pub lower_f : ℕ
lower_f = 102

abbrev pub lower_l : ℕ
lower_l = 108

abbrev pub lower_n : ℕ
lower_n = 110

abbrev pub lower_p : ℕ
lower_p = 112

abbrev pub lower_r : ℕ
lower_r = 114

abbrev pub lower_t : ℕ
lower_t = 116

abbrev pub lower_u : ℕ
lower_u = 117

abbrev pub lower_v : ℕ
lower_v = 118

abbrev pub lower_x : ℕ
lower_x = 120

abbrev pub lower_z : ℕ
lower_z = 122

-- `{`
abbrev pub open_brace : ℕ
open_brace = 123

-- `|`
abbrev pub bar : ℕ
bar = 124

-- `}`
abbrev pub close_brace : ℕ
close_brace = 125

-- `~`
abbrev pub tilde : ℕ
tilde = 126
