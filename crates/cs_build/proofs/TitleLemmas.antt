-- Titles of a collection are parts of it.
--
--   titles_within    together they have at most as many bytes as the collection
--   titles_few       those of a collection that isn't refused have few
use Rattle.std.proofs.Common.{◌≡◌, ℕ, ◌+◌, ◌-◌, ◌^◌, ◌<◌, ◌≤◌, Bool, true, false, cond, not, ◌&&◌, nat_le, nat_eq, List, [], ◌∷◌, length, map, filter, take, drop, get_or, arith, length-append, length-take, length-drop}
use Rattle.std.specs.Bool.{◌==◌}
use Rattle.std.specs.List.{concat, slice_split, onto_first, position_or_len, starts_with, enumerate_from}
use Rattle.std.specs.Str.Lines.{lines, lines_of_parts, strip_carriage_return}
use Rattle.std.proofs.lemmas.Bool.Decides.{nat_tests}
use Rattle.cs_base.specs.declared.content.limits.TheConstants.{MAX_COLLECTION_BYTES}
use Rattle.cs_model.specs.Collection.{document, doc_line, is_tab, is_weights_line, too_large, without_mark}
use Rattle.cs_model.specs.Corpus.{title_of}
use Rattle.cs_model.specs.First.{unless}
use Rattle.cs_model.specs.Words.{is_filled}
use Rattle.cs_model.proofs.FirstLemmas.{none_first, unless_none}
use Rattle.cs_build.specs.BuildLaws.{TitlesAreParts, TitlesHaveFewBytes}

-- ---- parts of bytes

parts_at : (b : Bool) (x n : ℕ) (ps : List (List ℕ)) → length (concat ps) ≤ n → length (concat (cond b ([] ∷ ps) (onto_first x ps))) ≤ n + 1
parts_at true x n ps h = omega arith
parts_at false x n [] h = omega arith
parts_at false x n (p ∷ ps) h = omega (arith, length-append p (concat ps), length-append (x ∷ p) (concat ps))

parts_within : (p : ℕ → Bool) (bs : List ℕ) → length (concat (slice_split p bs)) ≤ length bs
parts_within p [] = omega arith
parts_within p (x ∷ bs) = omega (arith, parts_at (p x) x (length bs) (slice_split p bs) (parts_within p bs))

stripped_at : (b : Bool) (l : List ℕ) → length (cond b (take (length l - 1) l) l) ≤ length l
stripped_at true l = omega (arith, length-take (length l - 1) l)
stripped_at false l = omega arith

last_at : (b : Bool) (l : List ℕ) → length (concat (cond b [] (l ∷ []))) ≤ length (concat (l ∷ []))
last_at true l = omega arith
last_at false l = omega arith

lines_of_within : (ps : List (List ℕ)) → length (concat (lines_of_parts ps)) ≤ length (concat ps)
lines_of_within [] = omega arith
lines_of_within (l ∷ []) = last_at (length l == 0) l
lines_of_within (l ∷ m ∷ ps) =
    omega (arith, lines_of_within (m ∷ ps), stripped_at (get_or l (length l - 1) 0 == 13) l, length-append l (concat (m ∷ ps)), length-append (strip_carriage_return l) (concat (lines_of_parts (m ∷ ps))))

lines_within : (bs : List ℕ) → length (concat (lines bs)) ≤ length bs
lines_within bs = omega (arith, lines_of_within (slice_split (λ b. b == 10) bs), parts_within (λ b. b == 10) bs)

-- ---- titles of lines

front_within : (l : List ℕ) → length (take (position_or_len is_tab l) l) ≤ length l
front_within l = omega (arith, length-take (position_or_len is_tab l) l)

-- whichever lines are kept
module _ (keeps : ℕ × List ℕ → Bool) where
  -- the titles of the lines that are kept, those being numbered from n on and their documents from d on
  abbrev titles_from : ℕ → ℕ → List (List ℕ) → List (List ℕ)
  titles_from d n ls = map title_of (map document (map doc_line (enumerate_from d (filter keeps (enumerate_from n ls)))))

  -- the same, where b says whether the first line is kept
  abbrev titles_at : Bool → ℕ → ℕ → List ℕ → List (List ℕ) → List (List ℕ)
  titles_at b d n l ls = map title_of (map document (map doc_line (enumerate_from d (cond b ((n, l) ∷ filter keeps (enumerate_from (n + 1) ls)) (filter keeps (enumerate_from (n + 1) ls))))))

  titles_from_at : (b : Bool) (d n : ℕ) (l : List ℕ) (ls : List (List ℕ)) → ((e : ℕ) → length (concat (titles_from e (n + 1) ls)) ≤ length (concat ls)) → length (concat (titles_at b d n l ls)) ≤ length l + length (concat ls)
  titles_from_at true d n l ls h = omega (arith, h (d + 1), front_within l, length-append (take (position_or_len is_tab l) l) (concat (titles_from (d + 1) (n + 1) ls)))
  titles_from_at false d n l ls h = omega (arith, h d)

  titles_from_within : (d n : ℕ) (ls : List (List ℕ)) → length (concat (titles_from d n ls)) ≤ length (concat ls)
  titles_from_within d n [] = omega arith
  titles_from_within d n (l ∷ ls) = omega (arith, titles_from_at (keeps (n, l)) d n l ls (λ e. titles_from_within e (n + 1) ls), length-append l (concat ls))

-- ---- titles of a collection

unmarked_at : (b : Bool) (c : List ℕ) → length (cond b (drop 3 c) c) ≤ length c
unmarked_at true c = omega (arith, length-drop 3 c)
unmarked_at false c = omega arith

pub titles_within : TitlesAreParts
titles_within c = omega (arith, titles_from_within (λ l. is_filled l.1 && not (is_weights_line l)) 0 1 (lines (without_mark c)), lines_within (without_mark c), unmarked_at (starts_with nat_eq c (239 ∷ 187 ∷ 191 ∷ [])) c)

bytes_few : (n : ℕ) → nat_le n MAX_COLLECTION_BYTES ≡ true → n < 2 ^ 32
bytes_few n h = grind (arith, nat_tests)

pub titles_few : TitlesHaveFewBytes
titles_few c h = omega (arith, titles_within c, bytes_few (length c) (unless_none (nat_le (length c) MAX_COLLECTION_BYTES) too_large (none_first (unless (nat_le (length c) MAX_COLLECTION_BYTES) too_large) _ h)))
