-- The weights line: what stands behind it, its pieces, and the weights that it says.
--
--   lines_behind ls      the lines of documents, with the number of the first of them
--   docs-behind          the documents of lines are those of the lines behind the weights line
--   named_docs, named_line    a first line that names weights is the weights line
--   unnamed, no_line     any other first line isn't, so that there is none; nor is there one in a text without bytes
--   weights_are          the weights of each collection are from 1 to the greatest
--   cut_said             a line's pieces, where it is cut at its first space
--   no_space             a line without a space is one piece
--   three_pieces         those of a line that is cut three times
--   said_by              what a line says by its pieces
--   too_many_pieces      behind four pieces there is no other
use Rattle.std.proofs.Common.{◌≡◌, ℕ, ◌+◌, ◌<◌, ◌≤◌, ◌==◌, Bool, true, false, not, ◌&&◌, cond, nat_eq, List, [], ◌∷◌, ◌++◌, length, map, filter, drop, refl, sym, ap, subst, ◌∙◌, arith}
use Rattle.std.specs.Prelude.{Option, Some, None, MatchOption, codes}
use Rattle.std.specs.Int.{is_in_range}
use Rattle.std.specs.List.{slice_split, starts_with, enumerate_from, before_first, after_first, position_or_len}
use Rattle.std.specs.Option.{is_some, unwrap_or}
use Rattle.std.specs.Str.{bytes_eq}
use Rattle.std.specs.Str.Lines.{lines}
use Rattle.std.proofs.Math.Bool.{and-true}
use Rattle.std.proofs.lemmas.Bool.{and_right}
use Rattle.std.proofs.lemmas.Bool.Decides.{nat_tests}
use Rattle.std.proofs.lemmas.List.Elements.{All-from_get_or}
use Rattle.std.proofs.lemmas.List.Splits.{slice_split_first, slice_split_none, length-slice_split}
use Rattle.std.proofs.lemmas.List.Sums.{fails_before_first}
use Rattle.cs_base.specs.declared.content.scores.TheConstants.{MAX_ROW_SCORE, MAX_WEIGHT_DIGITS, USUAL_WEIGHTS}
use Rattle.cs_base.specs.declared.content.scores.Weights.{Weights}
use Rattle.cs_model.specs.Collection.{DocLine, doc_line, is_space, is_weights_line, weights, weights_of_lines, weights_lines}
use Rattle.cs_model.specs.Digits.{has_digits, number_of}
use Rattle.cs_model.specs.Weights.{AreWeights, names_weights, weights_word, weight_of, weight_in, weights_by, weights_in, weights_said}
use Rattle.cs_model.specs.Words.{is_filled}
use Rattle.cs_docs.specs.LinesRead.{doc_lines_from, doc_lines_of, weights_lines_of}

-- ---- the lines behind

-- no line but the first one is the weights line
not_first : (n : ℕ) (l : List ℕ) → 2 ≤ n → is_weights_line (n, l) ≡ false
not_first n l h = let other : (n == 1) ≡ false = grind (arith, nat_tests) in rw other refl

abbrev is_doc : ℕ × List ℕ → Bool
is_doc l = is_filled l.1 && not (is_weights_line l)

docs_later : (n : ℕ) (ls : List (List ℕ)) → 2 ≤ n → filter is_doc (enumerate_from n ls) ≡ filter (λ l. is_filled l.1) (enumerate_from n ls)
docs_later n [] h = refl
docs_later n (l ∷ ls) h =
    ap (λ b. cond (is_filled l && not b) ((n, l) ∷ filter is_doc (enumerate_from (n + 1) ls)) (filter is_doc (enumerate_from (n + 1) ls))) (not_first n l h)
    ∙ ap (λ b. cond b ((n, l) ∷ filter is_doc (enumerate_from (n + 1) ls)) (filter is_doc (enumerate_from (n + 1) ls))) (and-true (is_filled l))
    ∙ ap (λ ks. cond (is_filled l) ((n, l) ∷ ks) ks) (docs_later (n + 1) ls (omega (arith, h)))

weights_later : (n : ℕ) (ls : List (List ℕ)) → 2 ≤ n → filter is_weights_line (enumerate_from n ls) ≡ []
weights_later n [] h = refl
weights_later n (l ∷ ls) h =
    ap (λ b. cond b ((n, l) ∷ filter is_weights_line (enumerate_from (n + 1) ls)) (filter is_weights_line (enumerate_from (n + 1) ls))) (not_first n l h)
    ∙ weights_later (n + 1) ls (omega (arith, h))

-- all lines where the first one names no weights
abbrev pub lines_where : Bool → List ℕ → List (List ℕ) → ℕ × List (List ℕ)
lines_where named l ls = cond named (2, ls) (1, l ∷ ls)

abbrev pub lines_behind : List (List ℕ) → ℕ × List (List ℕ)
lines_behind [] = (1, [])
lines_behind (l ∷ ls) = lines_where (names_weights l) l ls

module _ (l : List ℕ) (ls : List (List ℕ)) where
  abbrev later : List (ℕ × List ℕ)
  later = filter is_doc (enumerate_from 2 ls)

  abbrev docs_where : Bool → List DocLine
  docs_where b = map doc_line (enumerate_from 0 (cond (is_filled l && not b) ((1, l) ∷ later) later))

  abbrev weights_where : Bool → List (ℕ × List ℕ)
  weights_where b = cond b ((1, l) ∷ filter is_weights_line (enumerate_from 2 ls)) (filter is_weights_line (enumerate_from 2 ls))

  pub named_docs : names_weights l ≡ true → doc_lines_of (l ∷ ls) ≡ doc_lines_from 0 2 ls
  named_docs h =
      ap docs_where h
      ∙ ap (λ b. map doc_line (enumerate_from 0 (cond b ((1, l) ∷ later) later))) (and_right (is_filled l) false refl)
      ∙ ap (λ ks. map doc_line (enumerate_from 0 ks)) (docs_later 2 ls (omega arith))

  pub unnamed_docs : names_weights l ≡ false → doc_lines_of (l ∷ ls) ≡ doc_lines_from 0 1 (l ∷ ls)
  unnamed_docs h =
      ap docs_where h
      ∙ ap (λ b. map doc_line (enumerate_from 0 (cond b ((1, l) ∷ later) later))) (and-true (is_filled l))
      ∙ ap (λ ks. map doc_line (enumerate_from 0 (cond (is_filled l) ((1, l) ∷ ks) ks))) (docs_later 2 ls (omega arith))

  pub named_line : names_weights l ≡ true → weights_lines_of (l ∷ ls) ≡ (1, l) ∷ []
  named_line h = ap weights_where h ∙ ap (λ ks. (1, l) ∷ ks) (weights_later 2 ls (omega arith))

  pub unnamed_line : names_weights l ≡ false → weights_lines_of (l ∷ ls) ≡ []
  unnamed_line h = ap weights_where h ∙ weights_later 2 ls (omega arith)

-- no line of these is the weights line
pub record IsUnnamed (ls : List (List ℕ)) : Type 0 where
  pub docs : doc_lines_of ls ≡ doc_lines_from 0 1 ls
  pub none : weights_lines_of ls ≡ []

pub unnamed : (ls : List (List ℕ)) (l : List ℕ) (rest : List (List ℕ)) → ls ≡ l ∷ rest → names_weights l ≡ false → IsUnnamed ls
unnamed ls l rest e h = subst IsUnnamed (sym e) (record { docs = unnamed_docs l rest h; none = unnamed_line l rest h })

pub no_line : (text : List ℕ) → length text ≡ 0 → IsUnnamed (lines text)
no_line [] h = record { docs = refl; none = refl }
no_line (b ∷ text) h = absurd (omega (arith, h))

pub docs-behind : (ls : List (List ℕ)) → doc_lines_of ls ≡ doc_lines_from 0 (lines_behind ls).0 (lines_behind ls).1
docs-behind [] = refl
docs-behind (l ∷ ls) = at (names_weights l) refl
  where
    at : (b : Bool) → names_weights l ≡ b → doc_lines_of (l ∷ ls) ≡ doc_lines_from 0 (lines_where b l ls).0 (lines_where b l ls).1
    at true h = named_docs l ls h
    at false h = unnamed_docs l ls h

pub length-behind : (ls : List (List ℕ)) → length (lines_behind ls).1 ≤ length ls
length-behind [] = omega arith
length-behind (l ∷ ls) = at (names_weights l)
  where
    at : (b : Bool) → length (lines_where b l ls).1 ≤ length (l ∷ ls)
    at true = omega arith
    at false = omega arith

-- ---- the weights of a collection

abbrev IsWeight : Option ℕ → Type 0
IsWeight o = MatchOption o (Unit {0}) (λ n. (1 ≤ n) × (n ≤ MAX_ROW_SCORE))

abbrev AreSaid : Option Weights → Type 0
AreSaid o = MatchOption o (Unit {0}) AreWeights

spelt_are : (a : Bool) (n : ℕ) → IsWeight (cond (a && is_in_range 1 MAX_ROW_SCORE n) (Some n) None)
spelt_are false n = tt
spelt_are true n = at (is_in_range 1 MAX_ROW_SCORE n) refl
  where
    at : (b : Bool) → is_in_range 1 MAX_ROW_SCORE n ≡ b → IsWeight (cond b (Some n) None)
    at true h = (grind (arith, nat_tests), grind (arith, nat_tests))
    at false h = tt

piece_is : (name piece : List ℕ) → IsWeight (weight_in name piece)
piece_is name piece = at (starts_with nat_eq piece (name ++ 61 ∷ []))
  where
    at : (b : Bool) → IsWeight (cond b (weight_of (drop (length name + 1) piece)) None)
    at true = spelt_are (has_digits MAX_WEIGHT_DIGITS (drop (length name + 1) piece)) (number_of (drop (length name + 1) piece))
    at false = tt

three_are : (title facet text : Option ℕ) → IsWeight title → IsWeight facet → IsWeight text → AreSaid (weights_by title facet text)
three_are None facet text h k m = tt
three_are (Some a) None text h k m = tt
three_are (Some a) (Some b) None h k m = tt
three_are (Some a) (Some b) (Some c) h k m = record { title_from = h.0; title_to = h.1; facet_from = k.0; facet_to = k.1; text_from = m.0; text_to = m.1 }

pieces_are : (ps : List (List ℕ)) → AreSaid (weights_in ps)
pieces_are [] = tt
pieces_are (word ∷ []) = tt
pieces_are (word ∷ title ∷ []) = tt
pieces_are (word ∷ title ∷ facet ∷ []) = tt
pieces_are (word ∷ title ∷ facet ∷ text ∷ []) = at (bytes_eq word weights_word)
  where
    at : (b : Bool) → AreSaid (cond b (weights_by (weight_in (codes "title") title) (weight_in (codes "facet") facet) (weight_in (codes "text") text)) None)
    at true = three_are (weight_in (codes "title") title) (weight_in (codes "facet") facet) (weight_in (codes "text") text) (piece_is (codes "title") title) (piece_is (codes "facet") facet) (piece_is (codes "text") text)
    at false = tt
pieces_are (word ∷ title ∷ facet ∷ text ∷ p ∷ ps) = tt

line_are : (l : List ℕ) → AreSaid (weights_said l)
unfolding weights_said
line_are l = pieces_are (slice_split is_space l)

or_usual : (o : Option Weights) → AreSaid o → AreWeights (unwrap_or o USUAL_WEIGHTS)
or_usual None h = record { title_from = omega arith; title_to = omega arith; facet_from = omega arith; facet_to = omega arith; text_from = omega arith; text_to = omega arith }
or_usual (Some w) h = h

lines_are : (ls : List (ℕ × List ℕ)) → AreWeights (weights_of_lines ls)
lines_are [] = or_usual None tt
lines_are (l ∷ ls) = or_usual (weights_said l.1) (line_are l.1)

-- whether or not the collection is refused
pub weights_are : (c : List ℕ) → AreWeights (weights c)
weights_are c = lines_are (weights_lines c)

-- ---- the pieces of a line

pub cut_said : (l piece rest : List ℕ) → position_or_len is_space l < length l → piece ≡ before_first is_space l → rest ≡ after_first is_space l → slice_split is_space l ≡ piece ∷ slice_split is_space rest
cut_said l piece rest h a b =
    slice_split_first is_space l 0 h
    ∙ ap (λ p. p ∷ slice_split is_space (after_first is_space l)) (sym a)
    ∙ ap (λ r. piece ∷ slice_split is_space r) (sym b)

pub no_space : (l : List ℕ) → position_or_len is_space l ≡ length l → slice_split is_space l ≡ l ∷ []
no_space l h = slice_split_none is_space l (All-from_get_or (λ b. is_space b ≡ false) l 0 (λ k lt. fails_before_first is_space l k 0 (omega (arith, h, lt))))

-- what an option tells where it is there, and where it isn't
pub told_some : {X : Type 0} (o : Option X) (P : Type 0) (Q : X → Type 0) → MatchOption o P Q → is_some o ≡ true → (x : X) × Q x
told_some None P Q h e = absurd (cc)
told_some (Some x) P Q h e = (x, h)

pub told_none : {X : Type 0} (o : Option X) (P : Type 0) (Q : X → Type 0) → MatchOption o P Q → is_some o ≡ false → P
told_none None P Q h e = h
told_none (Some x) P Q h e = absurd (cc)

-- the first pieces of a line that is cut three times
pub three_pieces : (line word rest title more facet text : List ℕ) → slice_split is_space line ≡ word ∷ slice_split is_space rest → slice_split is_space rest ≡ title ∷ slice_split is_space more → slice_split is_space more ≡ facet ∷ slice_split is_space text
    → slice_split is_space line ≡ word ∷ title ∷ facet ∷ slice_split is_space text
three_pieces line word rest title more facet text a b c = a ∙ ap (λ ps. word ∷ ps) b ∙ ap (λ ps. word ∷ title ∷ ps) c

pub said_by : (l : List ℕ) (ps : List (List ℕ)) → slice_split is_space l ≡ ps → weights_said l ≡ weights_in ps
unfolding weights_said
said_by l ps h = ap weights_in h

no_fifth : (word title facet text : List ℕ) (ps : List (List ℕ)) → 0 < length ps → weights_in (word ∷ title ∷ facet ∷ text ∷ ps) ≡ None
no_fifth word title facet text [] h = absurd (omega arith)
no_fifth word title facet text (p ∷ ps) h = refl

pub too_many_pieces : (word title facet text : List ℕ) → position_or_len is_space text < length text → weights_in (word ∷ title ∷ facet ∷ slice_split is_space text) ≡ None
too_many_pieces word title facet text h =
    ap (λ ps. weights_in (word ∷ title ∷ facet ∷ ps)) (slice_split_first is_space text 0 h)
    ∙ no_fifth word title facet (before_first is_space text) (slice_split is_space (after_first is_space text)) (omega (arith, length-slice_split is_space (after_first is_space text)))
