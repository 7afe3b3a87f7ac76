-- Key texts and words of texts that are written out.
use Rattle.std.proofs.Common.{◌≡◌, [], ◌∷◌, ◌++◌, refl, codes}
use Rattle.std.specs.Str.{chars}
use Rattle.std.specs.Prelude.{Some, None, replicate}
use Rattle.caseless.proofs.Computing.{caseless}
use Rattle.ucd_category.proofs.Computing.{ucd_category}
use Rattle.unicode.specs.GeneralCategory.{general_category}
use Rattle.cs_model.specs.KeyText.{norm}
use Rattle.cs_model.specs.Words.{is_word_char, cut, words, slug}
use lib.Utf8

-- a letter with its accent and one that carries it have one key text: `École`, and E, U+0301, `cole`
key_of-composed : norm (195 ∷ 137 ∷ codes "cole") ≡ 101 ∷ 204 ∷ 129 ∷ codes "cole"
unfolding norm chars caseless lib.Utf8.encode
key_of-composed = refl

-- `Straße` has the key text of `STRASSE`
key_of-sharp_s : norm (codes "Stra" ++ 195 ∷ 159 ∷ codes "e") ≡ norm (codes "STRASSE")
unfolding norm chars caseless lib.Utf8.encode
key_of-sharp_s = refl

-- `café_A`: an underscore stands between words
words_of-cafe : words (codes "caf" ++ 195 ∷ 169 ∷ codes "_A") ≡ (codes "cafe" ++ 204 ∷ 129 ∷ []) ∷ codes "a" ∷ []
unfolding words norm chars cut caseless is_word_char general_category ucd_category lib.Utf8.encode
words_of-cafe = refl

-- a value without a word has no slug
slug_of-dashes : slug (codes "--") ≡ None
unfolding words norm chars cut caseless is_word_char general_category ucd_category lib.Utf8.encode
slug_of-dashes = refl

-- of two words the slug has `_` between them
slug_of-two : slug (codes "A b") ≡ Some (codes "a_b")
unfolding words norm chars cut caseless is_word_char general_category ucd_category lib.Utf8.encode
slug_of-two = refl

-- and so with signs between and behind the words
slug_of-signs : slug (codes "O'Reilly & Co.") ≡ Some (codes "o_reilly_co")
unfolding words norm chars cut caseless is_word_char general_category ucd_category lib.Utf8.encode
slug_of-signs = refl

-- of 121 letters 120 are kept
cut-long : cut (replicate 121 97) ≡ replicate 120 97
unfolding cut lib.Utf8.encode
cut-long = refl

-- a letter of two bytes that begins with the last byte there is room for is left out whole
cut-whole : cut (replicate 119 97 ++ 233 ∷ 98 ∷ []) ≡ replicate 119 97
unfolding cut lib.Utf8.encode
cut-whole = refl

-- a run of 121 letters is one word, of 120
words_of-long : words (replicate 121 97) ≡ replicate 120 97 ∷ []
unfolding words norm chars cut caseless is_word_char general_category ucd_category lib.Utf8.encode
words_of-long = refl

-- so is the slug of such a value
slug_of-long : slug (replicate 121 97) ≡ Some (replicate 120 97)
unfolding words norm chars cut caseless is_word_char general_category ucd_category lib.Utf8.encode
slug_of-long = refl

-- `Müller's "Über-Guide": 2nd ed.`: signs, quotes and spaces stand between words, and a digit is part of one
words_of-signs :
    words (77 ∷ 195 ∷ 188 ∷ codes "ller's \"" ++ 195 ∷ 156 ∷ codes "ber-Guide\": 2nd ed.")
    ≡ (109 ∷ 117 ∷ 204 ∷ 136 ∷ codes "ller") ∷ codes "s" ∷ (117 ∷ 204 ∷ 136 ∷ codes "ber") ∷ codes "guide" ∷ codes "2nd" ∷ codes "ed" ∷ []
unfolding words norm chars cut caseless is_word_char general_category ucd_category lib.Utf8.encode
words_of-signs = refl
