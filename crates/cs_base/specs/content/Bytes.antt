-- Bytes by their names: those that end lines, part columns or are signs. As characters they have the same numbers.
--
-- Source: ASCII (RFC 20); the byte order mark is U+FEFF in UTF-8 (RFC 3629, section 6).
--
--   tab, line_feed, carriage_return, space     what parts columns, ends lines and parts words
--   double_quote, dollar, apostrophe, comma    " $ ' ,
--   dash, dot, colon, semicolon, equals_sign   - . : ; =
--   open_bracket, backslash, close_bracket     [ \ ]
--   low_line, bar, tilde                       _ | ~
--   digit_0, digit_9, letter_a, letter_z       the first and the last digit, and small letter
--   ascii_end                                  the first number that is no character of ASCII
--   byte_order_mark                            the bytes EF BB BF
use Rattle.std.specs.Prelude.{ℕ, List, [], ◌∷◌}

abbrev pub tab : ℕ
tab = 9

abbrev pub line_feed : ℕ
line_feed = 10

abbrev pub carriage_return : ℕ
carriage_return = 13

abbrev pub space : ℕ
space = 32

abbrev pub double_quote : ℕ
double_quote = 34

abbrev pub dollar : ℕ
dollar = 36

abbrev pub apostrophe : ℕ
apostrophe = 39

abbrev pub comma : ℕ
comma = 44

abbrev pub dash : ℕ
dash = 45

abbrev pub dot : ℕ
dot = 46

abbrev pub digit_0 : ℕ
digit_0 = 48

abbrev pub digit_9 : ℕ
digit_9 = 57

abbrev pub colon : ℕ
colon = 58

abbrev pub semicolon : ℕ
semicolon = 59

abbrev pub equals_sign : ℕ
equals_sign = 61

abbrev pub open_bracket : ℕ
open_bracket = 91

abbrev pub backslash : ℕ
backslash = 92

abbrev pub close_bracket : ℕ
close_bracket = 93

abbrev pub low_line : ℕ
low_line = 95

abbrev pub letter_a : ℕ
letter_a = 97

abbrev pub letter_z : ℕ
letter_z = 122

abbrev pub bar : ℕ
bar = 124

abbrev pub tilde : ℕ
tilde = 126

-- 128, behind the last character of ASCII
abbrev pub ascii_end : ℕ
ascii_end = 128

abbrev pub byte_order_mark : List ℕ
byte_order_mark = 239 ∷ 187 ∷ 191 ∷ []
