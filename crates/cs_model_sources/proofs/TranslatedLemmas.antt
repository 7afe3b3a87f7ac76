-- A translated document is one line, with its own columns.
--
--   unbroken              no byte of these ends a column or a line, by the test of each
--   flat_unbroken         so it is of flat bytes
--   line_first            bytes that end no line, and LF behind them, are the first line
--   documents_are_lines   the law of lines
--   columns_kept          the law of columns
use Rattle.std.proofs.Common.{◌≡◌, ℕ, ◌+◌, ◌-◌, ◌<◌, Bool, true, false, cond, List, [], ◌∷◌, ◌++◌, length, length-append, take, drop, refl, sym, ◌∙◌, ap, arith, append_assoc}
use Rattle.std.specs.Prelude.{◌==◌, ◌||◌}
use Rattle.std.specs.List.{All, AllByRecursion, list_any, slice_split, position_or_len, before_first, after_first}
use Rattle.std.specs.Str.Lines.{lines, lines_of_parts, strip_carriage_return}
use Rattle.std.proofs.lemmas.List.{take_at, drop_at}
use Rattle.std.proofs.lemmas.List.Elements.{All-from_recursion}
use Rattle.std.proofs.lemmas.List.Splits.{slice_split_at, length-slice_split}
use Rattle.cs_base.specs.content.Bytes.{carriage_return, line_feed, space, tab}
use Rattle.cs_model.specs.Collection.{columns, is_tab}
use Rattle.cs_model_sources.specs.Translated.{columns_of, flat, is_break, translated}

-- ---- bytes that end nothing
abbrev pub Unbroken : List ℕ → Type 0
Unbroken s = AllByRecursion (λ b. is_break b ≡ false) s

left_false : (a b : Bool) → (a || b) ≡ false → a ≡ false
left_false true b h = h
left_false false b h = refl

right_false : (a b : Bool) → (a || b) ≡ false → b ≡ false
right_false true b h = let no : true ≡ false = h in absurd cc
right_false false b h = h

pub unbroken : (s : List ℕ) → list_any is_break s ≡ false → Unbroken s
unbroken [] h = tt
unbroken (b ∷ s) h = (left_false (is_break b) (list_any is_break s) h, unbroken s (right_false (is_break b) (list_any is_break s) h))

flat_byte_stays : (b : ℕ) (t : Bool) → is_break b ≡ t → is_break (cond t space b) ≡ false
flat_byte_stays b true e = refl
flat_byte_stays b false e = e

pub flat_unbroken : (s : List ℕ) → Unbroken (flat s)
flat_unbroken [] = tt
flat_unbroken (b ∷ s) = (flat_byte_stays b (is_break b) refl, flat_unbroken s)

no_tab : (s : List ℕ) → Unbroken s → AllByRecursion (λ b. is_tab b ≡ false) s
no_tab [] h = tt
no_tab (b ∷ s) h = (left_false (b == tab) _ h.0, no_tab s h.1)

-- ---- columns
module _ (p : ℕ → Bool) (xs : List ℕ) (y : ℕ) (ys : List ℕ) (h : AllByRecursion (λ b. p b ≡ false) xs) (e : p y ≡ true) where
  place : position_or_len p (xs ++ y ∷ ys) ≡ length xs
  place = at xs h
    where
      at : (xs : List ℕ) → AllByRecursion (λ b. p b ≡ false) xs → position_or_len p (xs ++ y ∷ ys) ≡ length xs
      at [] h = rw e refl
      at (x ∷ xs) h = rw h.0 (omega (arith, at xs h.1))

  cut_before : before_first p (xs ++ y ∷ ys) ≡ xs
  cut_before = ap (λ n. take n (xs ++ y ∷ ys)) place ∙ take_at xs (y ∷ ys) (length xs) refl

  cut_after : after_first p (xs ++ y ∷ ys) ≡ ys
  cut_after =
      ap (λ n. drop (n + 1) (xs ++ y ∷ ys)) place
      ∙ ap (drop (length xs + 1)) (sym (append_assoc xs (y ∷ []) ys))
      ∙ drop_at (xs ++ y ∷ []) ys (length xs + 1) (length-append xs (y ∷ []))

pub columns_kept : (title facets text : List ℕ) → columns (columns_of title facets text) ≡ record { title = flat title; facets = flat facets; text = flat text }
columns_kept title facets text =
    let behind : after_first is_tab (columns_of title facets text) ≡ flat facets ++ (tab ∷ flat text) = cut_after is_tab (flat title) tab (flat facets ++ (tab ∷ flat text)) (no_tab (flat title) (flat_unbroken title)) refl in
    λ i. record {
      title = cut_before is_tab (flat title) tab (flat facets ++ (tab ∷ flat text)) (no_tab (flat title) (flat_unbroken title)) refl i;
      facets = (ap (before_first is_tab) behind ∙ cut_before is_tab (flat facets) tab (flat text) (no_tab (flat facets) (flat_unbroken facets)) refl) i;
      text = (ap (after_first is_tab) behind ∙ cut_after is_tab (flat facets) tab (flat text) (no_tab (flat facets) (flat_unbroken facets)) refl) i;
    }

-- ---- lines
-- neither LF nor CR
abbrev pub EndsNoLine : ℕ → Type 0
EndsNoLine b = ((b == line_feed) ≡ false) × ((b == carriage_return) ≡ false)

ends_none : (b : ℕ) → is_break b ≡ false → EndsNoLine b
ends_none b h =
    let rest = right_false (b == tab) _ h in
    (left_false (b == line_feed) (b == carriage_return) rest, right_false (b == line_feed) (b == carriage_return) rest)

pub line_bytes : (s : List ℕ) → Unbroken s → AllByRecursion EndsNoLine s
line_bytes [] h = tt
line_bytes (b ∷ s) h = (ends_none b h.0, line_bytes s h.1)

join_bytes : (s r : List ℕ) → AllByRecursion EndsNoLine s → AllByRecursion EndsNoLine r → AllByRecursion EndsNoLine (s ++ r)
join_bytes [] r h k = k
join_bytes (b ∷ s) r h k = (h.0, join_bytes s r h.1 k)

more_parts : (x : List ℕ) (ps : List (List ℕ)) → 0 < length ps → lines_of_parts (x ∷ ps) ≡ strip_carriage_return x ∷ lines_of_parts ps
more_parts x [] h = absurd (omega arith)
more_parts x (p ∷ ps) h = refl

last_stays : (xs : List ℕ) → All EndsNoLine xs → strip_carriage_return xs ≡ xs
last_stays [] h = refl
last_stays (x ∷ xs) h = ap (λ b. cond b (take (length (x ∷ xs) - 1) (x ∷ xs)) (x ∷ xs)) (h (length (x ∷ xs) - 1) 0 (omega arith)).1

pub line_first : (xs rest : List ℕ) → AllByRecursion EndsNoLine xs → lines (xs ++ line_feed ∷ rest) ≡ xs ∷ lines rest
line_first xs rest h =
    let all : All EndsNoLine xs = All-from_recursion EndsNoLine xs h in
    let is_end = λ (b : ℕ). b == line_feed in
    ap lines_of_parts (slice_split_at is_end xs line_feed rest (λ k d l. (all k d l).0) refl)
    ∙ more_parts xs (slice_split is_end rest) (omega (arith, length-slice_split is_end rest))
    ∙ ap (λ x. x ∷ lines rest) (last_stays xs all)

pub documents_are_lines : (title facets text rest : List ℕ) → lines (translated title facets text ++ rest) ≡ columns_of title facets text ∷ lines rest
unfolding translated
documents_are_lines title facets text rest =
    let none : EndsNoLine tab = (refl, refl) in
    let behind = join_bytes (flat facets) (tab ∷ flat text) (line_bytes (flat facets) (flat_unbroken facets)) (none, line_bytes (flat text) (flat_unbroken text)) in
    ap lines (append_assoc (columns_of title facets text) (line_feed ∷ []) rest)
    ∙ line_first (columns_of title facets text) rest (join_bytes (flat title) (tab ∷ (flat facets ++ (tab ∷ flat text))) (line_bytes (flat title) (flat_unbroken title)) (none, behind))
