-- The table is held against the definition at each of the 256 bytes, by computing.
use Rattle.std.proofs.Common.{◌≡◌, ℕ, ◌==◌, ◌<◌, Bool, false, not, map, get_or, refl, sym, ap, ◌∙◌, arith}
use Rattle.std.specs.Char.{is_ascii_alphanumeric}
use Rattle.std.specs.List.{range_with_len}
use Rattle.std.proofs.lemmas.List.{get_or-map}
use Rattle.std.proofs.lemmas.List.FromFn.{get_or-map-range_with_len}
use Rattle.cs_text.specs.declared.ascii.TheConstants.{LETTERS_AND_DIGITS}
use Rattle.cs_text.proofs.ascii.is_word_byte.Goals as goal

abbrev is_no_comma : ℕ → Bool
is_no_comma c = not (c == 44)

tests_are : map is_no_comma LETTERS_AND_DIGITS ≡ map is_ascii_alphanumeric (range_with_len 0 256)
tests_are = refl

byte_is : (b : ℕ) → b < 256 → is_no_comma (get_or LETTERS_AND_DIGITS b 0) ≡ is_ascii_alphanumeric b
byte_is b h =
    sym (get_or-map is_no_comma LETTERS_AND_DIGITS b 0 false h)
    ∙ ap (λ tests. get_or tests b false) tests_are
    ∙ get_or-map-range_with_len is_ascii_alphanumeric 0 256 b b false h (omega arith)

pub returns : goal.returns
returns c = byte_is c.args.b (omega arith)
