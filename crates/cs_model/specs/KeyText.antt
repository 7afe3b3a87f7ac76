-- Key texts: what a text is compared by.
--
-- Source: The Unicode Standard, section 3.13, D145 (canonical caseless matching), with full case folding: a text is
-- decomposed, case folded and decomposed again. The forms of normalization are those of Unicode Standard Annex 15. The tables
-- are those that the cited crates carry.
--
--   norm s   the key text of the text s, both as bytes of UTF-8; the empty text is its own key text
use Rattle.std.specs.Prelude.{ℕ, List, chars, encode_utf8_all}
use Rattle.caseless.specs.Caseless.{canonical_key}

-- the canonical caseless form of the text s; the empty text is its own key text
unfoldable pub norm : List ℕ → List ℕ
norm s = encode_utf8_all (canonical_key (chars s))
