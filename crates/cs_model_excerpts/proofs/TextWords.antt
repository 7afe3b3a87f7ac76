-- No word of a text begins as facet words do.
--
--   are_text    so a join's name asks for none of them
use Rattle.std.proofs.Common.{◌≡◌, ℕ, ◌-◌, Bool, true, false, true≢false, cond, not, List, [], ◌∷◌, ◌++◌, map, refl, sym, ap, ◌∙◌, arith, append_assoc, encode_utf8_all}
use Rattle.std.specs.Prelude.{filter, nat_eq, nat_le}
use Rattle.std.specs.Char.{len_utf8}
use Rattle.std.specs.List.{AllByRecursion, list_all, onto_first, slice_split}
use Rattle.std.specs.Str.{chars}
use Rattle.std.proofs.lemmas.Bool.{and_from, and_left, and_parts}
use Rattle.std.proofs.lemmas.Bool.Decides.{nat_tests}
use Rattle.std.proofs.lemmas.Str.{char_from_byte, encodes-append}
use Rattle.cs_base.specs.declared.content.limits.TheConstants.{MAX_PLAIN_WORD_BYTES}
use Rattle.cs_model.specs.Answers.{begins}
use Rattle.cs_model.specs.Collection.{named}
use Rattle.cs_model.specs.KeyText.{norm}
use Rattle.cs_model.specs.Words.{cut, fitting, is_filled, is_gap, is_word_char, words}
use Rattle.cs_model_excerpts.proofs.PartMarks.{AreText}

-- characters that words are made of
abbrev AreOfWords : List ℕ → Type 0
AreOfWords cs = list_all is_word_char cs ≡ true

-- ---- the pieces between gaps
no_gap : (b : Bool) → not b ≡ false → b ≡ true
no_gap true h = refl
no_gap false h = absurd (true≢false h)

onto : (c : ℕ) (ps : List (List ℕ)) → is_word_char c ≡ true → AllByRecursion AreOfWords ps → AllByRecursion AreOfWords (onto_first c ps)
onto c [] p h = (and_from (is_word_char c) true p refl, tt)
onto c (r ∷ ps) p h = (and_from (is_word_char c) (list_all is_word_char r) p h.0, h.1)

split_at : (b : Bool) (c : ℕ) (ps : List (List ℕ)) → is_gap c ≡ b → AllByRecursion AreOfWords ps → AllByRecursion AreOfWords (cond b ([] ∷ ps) (onto_first c ps))
split_at true c ps e h = (refl, h)
split_at false c ps e h = onto c ps (no_gap (is_word_char c) e) h

pieces : (cs : List ℕ) → AllByRecursion AreOfWords (slice_split is_gap cs)
pieces [] = (refl, tt)
pieces (c ∷ cs) = split_at (is_gap c) c (slice_split is_gap cs) refl (pieces cs)

-- ---- what is kept of a piece
fits_at : (b : Bool) (c : ℕ) (cs : List ℕ) → is_word_char c ≡ true → AreOfWords cs → AreOfWords (cond b (c ∷ cs) [])
fits_at true c cs p h = and_from (is_word_char c) (list_all is_word_char cs) p h
fits_at false c cs p h = refl

kept_chars : (room : ℕ) (cs : List ℕ) → AreOfWords cs → AreOfWords (fitting room cs)
kept_chars room [] h = refl
kept_chars room (c ∷ cs) h =
    let both = and_parts (is_word_char c) (list_all is_word_char cs) h in
    fits_at (nat_le (len_utf8 c) room) c (fitting (room - len_utf8 c) cs) both.0 (kept_chars (room - len_utf8 c) cs both.1)

-- ---- the first byte
no_colon_char : is_word_char 58 ≡ false
unfolding is_word_char
no_colon_char = refl

plain_at : (b : Bool) (x c : ℕ) (w rest : List ℕ) → nat_eq 58 x ≡ b → is_word_char c ≡ true → x ∷ w ≡ encode_utf8_all (c ∷ []) ++ rest → b ≡ false
plain_at false x c w rest e p s = refl
plain_at true x c w rest e p s =
    let colon : x ≡ 58 = is_58 x e in
    let same : c ≡ x = first_char x c w rest s colon in
    absurd (true≢false (sym p ∙ ap is_word_char (same ∙ colon) ∙ no_colon_char))
  where
    is_58 : (x : ℕ) → nat_eq 58 x ≡ true → x ≡ 58
    is_58 x e = grind (arith, nat_tests)

    first_char : (x c : ℕ) (w rest : List ℕ) → x ∷ w ≡ encode_utf8_all (c ∷ []) ++ rest → x ≡ 58 → c ≡ x
    first_char x c w rest s e = char_from_byte (x ∷ w) ([] ++ rest) c (s ∙ append_assoc _ [] rest) (omega arith) (omega arith)

no_name : (cs w name : List ℕ) → AreOfWords cs → encode_utf8_all cs ≡ w → begins (named name []) w ≡ false
no_name cs [] name h e = refl
no_name [] (x ∷ w) name h e = absurd cc
no_name (c ∷ cs) (x ∷ w) name h e =
    and_left (nat_eq 58 x) _ (plain_at (nat_eq 58 x) x c w (encode_utf8_all cs) refl (and_parts (is_word_char c) (list_all is_word_char cs) h).0 (sym e ∙ encodes-append (c ∷ []) cs))

piece_named : (name p : List ℕ) → AreOfWords p → begins (named name []) (cut p) ≡ false
unfolding cut
piece_named name p h = no_name (fitting MAX_PLAIN_WORD_BYTES p) (cut p) name (kept_chars MAX_PLAIN_WORD_BYTES p h) refl

kept_at : (name : List ℕ) (b : Bool) (p : List ℕ) (ps : List (List ℕ)) → AreOfWords p → map (begins (named name [])) (map cut ps) ≡ map (λ x. false) (map cut ps)
    → map (begins (named name [])) (map cut (cond b (p ∷ ps) ps)) ≡ map (λ x. false) (map cut (cond b (p ∷ ps) ps))
kept_at name true p ps h e = ap (λ b. b ∷ map (begins (named name [])) (map cut ps)) (piece_named name p h) ∙ ap (λ bs. false ∷ bs) e
kept_at name false p ps h e = e

none_named : (name : List ℕ) (ps : List (List ℕ)) → AllByRecursion AreOfWords ps → map (begins (named name [])) (map cut (filter is_filled ps)) ≡ map (λ x. false) (map cut (filter is_filled ps))
none_named name [] h = refl
none_named name (p ∷ ps) h = kept_at name (is_filled p) p (filter is_filled ps) h.0 (none_named name ps h.1)

pub are_text : (s : List ℕ) → AreText (words s)
unfolding words
are_text s name = none_named name (slice_split is_gap (chars (norm s))) (pieces (chars (norm s)))
