-- One line more behind lines among which no head ends.
--
--   push_begun        behind text it goes on with the head, or ends it
--   push_blank        behind empty lines alone it is a further one, or begins a head
use Rattle.std.proofs.Common.{◌≡◌, ℕ, ◌+◌, ◌<◌, ◌≤◌, ⊎_elim, Bool, true, false, not, cond, nat_lt, suc, List, [], ◌∷◌, ◌++◌, length, take, drop, Option, Some, None, refl, sym, ap, ap₂, ◌∙◌, arith, append-nil, length-drop, take-append-drop}
use Rattle.std.specs.List.{prefix_len}
use Rattle.std.proofs.Math.Seq.{take-append-add, drop-append-add}
use Rattle.std.proofs.lemmas.Bool.{cases_Bool}
use Rattle.std.proofs.lemmas.Bool.Decides.{nat_tests}
use Rattle.std.proofs.lemmas.List.{take-append-le, drop-append-le, take_all}
use Rattle.std.proofs.lemmas.List.Sums.{sum_by-append}
use Rattle.cs_model.specs.Words.{is_filled}
use Rattle.cs_model_serving.specs.Framing.{is_empty_line, lines_len, front_lines, later_lines, text_lines, closing_lines, place_by, place_in}

-- ---- how many pass from the front on
one_more : {X : Type 0} (p : X → Bool) (x : X) (xs : List X) → p x ≡ true → prefix_len p (x ∷ xs) ≡ 1 + prefix_len p xs
one_more p x xs e = ap (λ t. cond t (1 + prefix_len p xs) 0) e

none_more : {X : Type 0} (p : X → Bool) (x : X) (xs : List X) → p x ≡ false → prefix_len p (x ∷ xs) ≡ 0
none_more p x xs e = ap (λ t. cond t (1 + prefix_len p xs) 0) e

prefix-stays : {X : Type 0} (p : X → Bool) (xs ys : List X) → prefix_len p xs < length xs → prefix_len p (xs ++ ys) ≡ prefix_len p xs
prefix-stays p [] ys h = absurd (omega (arith, h))
prefix-stays p (x ∷ xs) ys h =
    ⊎_elim
    (λ e.
    let here = one_more p x xs e in
    one_more p x (xs ++ ys) e ∙ ap (λ n. 1 + n) (prefix-stays p xs ys (omega (arith, h, here))) ∙ sym here)
    (λ e. none_more p x (xs ++ ys) e ∙ sym (none_more p x xs e))
    (cases_Bool (p x))

prefix-goes_on : {X : Type 0} (p : X → Bool) (xs ys : List X) → length xs ≤ prefix_len p xs → prefix_len p (xs ++ ys) ≡ length xs + prefix_len p ys
prefix-goes_on p [] ys h = omega arith
prefix-goes_on p (x ∷ xs) ys h =
    ⊎_elim
    (λ e.
    let here = one_more p x xs e in
    let later = prefix-goes_on p xs ys (omega (arith, h, here)) in
    one_more p x (xs ++ ys) e ∙ omega (arith, later))
    (λ e. absurd (omega (arith, h, none_more p x xs e)))
    (cases_Bool (p x))

-- ---- those that pass and those from the first on that doesn't
abbrev passed : {X : Type 0} → (X → Bool) → List X → List X
passed p xs = take (prefix_len p xs) xs

abbrev left : {X : Type 0} → (X → Bool) → List X → List X
left p xs = drop (prefix_len p xs) xs

record Stays {X : Type 0} (p : X → Bool) (xs ys : List X) : Type 0 where
  passed_are : passed p (xs ++ ys) ≡ passed p xs
  left_are : left p (xs ++ ys) ≡ left p xs ++ ys

stays : {X : Type 0} (p : X → Bool) (xs ys : List X) → prefix_len p xs < length xs → Stays p xs ys
stays p xs ys h =
    let n = prefix-stays p xs ys h in
    record {
      passed_are = ap (λ m. take m (xs ++ ys)) n ∙ take-append-le (prefix_len p xs) xs ys (omega (arith, h));
      left_are = ap (λ m. drop m (xs ++ ys)) n ∙ drop-append-le (prefix_len p xs) xs ys (omega (arith, h));
    }

record GoesOn {X : Type 0} (p : X → Bool) (xs ys : List X) : Type 0 where
  passed_are : passed p (xs ++ ys) ≡ xs ++ passed p ys
  left_are : left p (xs ++ ys) ≡ left p ys

goes_on : {X : Type 0} (p : X → Bool) (xs ys : List X) → length xs ≤ prefix_len p xs → GoesOn p xs ys
goes_on p xs ys h =
    let n = prefix-goes_on p xs ys h in
    record {
      passed_are = ap (λ m. take m (xs ++ ys)) n ∙ take-append-add xs ys (prefix_len p ys);
      left_are = ap (λ m. drop m (xs ++ ys)) n ∙ drop-append-add xs ys (prefix_len p ys);
    }

-- ---- lines without a head
abbrev is_text_line : List ℕ → Bool
is_text_line l = not (is_empty_line l)

closed : (skip text : ℕ) (lines : List (List ℕ)) → place_by skip text lines ≡ None → lines ≡ []
closed skip text [] h = refl
closed skip text (l ∷ lines) h = absurd (cc)

-- each line from the first on that isn't empty has text
all_text : (lines : List (List ℕ)) → place_in lines ≡ None → length (later_lines lines) ≤ prefix_len is_text_line (later_lines lines)
all_text lines h =
    let none : closing_lines lines ≡ [] = closed (lines_len (front_lines lines)) (lines_len (text_lines lines)) (closing_lines lines) h in
    omega (arith, ap length none, length-drop (prefix_len is_text_line (later_lines lines)) (later_lines lines))

size-parts : (lines : List (List ℕ)) → lines_len lines ≡ lines_len (front_lines lines) + lines_len (later_lines lines)
size-parts lines =
    ap lines_len (sym (take-append-drop (prefix_len is_empty_line lines) lines)) ∙ sum_by-append (λ l. length l + 1) (front_lines lines) (later_lines lines)

more_than_none : (n : ℕ) → nat_lt 0 n ≡ true → 0 < n
more_than_none n h = grind (arith, nat_tests)

none_at_all : (n : ℕ) → nat_lt 0 n ≡ false → n ≡ 0
none_at_all n h = grind (arith, nat_tests)

filled-snoc : (lines : List (List ℕ)) (l : List ℕ) → is_filled (lines ++ l ∷ []) ≡ true
filled-snoc [] l = refl
filled-snoc (x ∷ lines) l = some_more (length (lines ++ l ∷ []))
  where
    some_more : (n : ℕ) → nat_lt 0 (suc n) ≡ true
    some_more n = grind (arith, nat_tests)

-- a line behind text: the front stays, and an empty line ends the head
pub record PushesText (lines : List (List ℕ)) (l : List ℕ) : Type 0 where
  pub front : front_lines (lines ++ l ∷ []) ≡ front_lines lines
  pub begun : is_filled (later_lines (lines ++ l ∷ [])) ≡ true
  pub ends : is_empty_line l ≡ true → place_in (lines ++ l ∷ []) ≡ Some (lines_len (front_lines lines), lines_len lines + (length l + 1))
  pub none : is_empty_line l ≡ false → place_in (lines ++ l ∷ []) ≡ None

-- by the parts
abbrev place_at : List (List ℕ) → List (List ℕ) → Option (ℕ × ℕ)
place_at front later = place_by (lines_len front) (lines_len (passed is_text_line later)) (left is_text_line later)

pub push_begun : (lines : List (List ℕ)) (l : List ℕ) → place_in lines ≡ None → is_filled (later_lines lines) ≡ true → PushesText lines l
push_begun lines l h begun =
    let filled = more_than_none (length (later_lines lines)) begun in
    let few : prefix_len is_empty_line lines < length lines = omega (arith, filled, length-drop (prefix_len is_empty_line lines) lines) in
    let parts = stays is_empty_line lines (l ∷ []) few in
    let text = goes_on is_text_line (later_lines lines) (l ∷ []) (all_text lines h) in
    let place : place_in (lines ++ l ∷ []) ≡ place_by (lines_len (front_lines lines)) (lines_len (later_lines lines ++ passed is_text_line (l ∷ []))) (left is_text_line (l ∷ [])) =
    ap₂ place_at parts.passed_are parts.left_are ∙ ap₂ (λ a b. place_by (lines_len (front_lines lines)) (lines_len a) b) text.passed_are text.left_are in
    record {
      front = parts.passed_are;
      begun = ap is_filled parts.left_are ∙ filled-snoc (later_lines lines) l;
      ends = λ e.
          let n = none_more is_text_line l [] (ap not e) in
          let one : passed is_text_line (l ∷ []) ≡ [] = ap (λ m. take m (l ∷ [])) n in
          let rest : left is_text_line (l ∷ []) ≡ l ∷ [] = ap (λ m. drop m (l ∷ [])) n in
          place
          ∙ ap₂ (λ a b. place_by (lines_len (front_lines lines)) (lines_len (later_lines lines ++ a)) b) one rest
          ∙ ap (λ ls. place_by (lines_len (front_lines lines)) (lines_len ls) (l ∷ [])) (append-nil (later_lines lines))
          ∙ ap (λ m. Some (lines_len (front_lines lines), m + (length l + 1))) (sym (size-parts lines));
      none = λ e.
          let n = one_more is_text_line l [] (ap not e) in
          let rest : left is_text_line (l ∷ []) ≡ [] = ap (λ m. drop m (l ∷ [])) n in
          place ∙ ap (place_by (lines_len (front_lines lines)) (lines_len (later_lines lines ++ passed is_text_line (l ∷ [])))) rest;
    }

-- a line behind empty lines alone
pub record PushesBlank (lines : List (List ℕ)) (l : List ℕ) : Type 0 where
  pub none : place_in (lines ++ l ∷ []) ≡ None
  pub old : front_lines lines ≡ lines
  pub skips : is_empty_line l ≡ true → (front_lines (lines ++ l ∷ []) ≡ lines ++ l ∷ []) × (is_filled (later_lines (lines ++ l ∷ [])) ≡ false)
  pub begins : is_empty_line l ≡ false → (front_lines (lines ++ l ∷ []) ≡ front_lines lines) × (is_filled (later_lines (lines ++ l ∷ [])) ≡ true)

pub push_blank : (lines : List (List ℕ)) (l : List ℕ) → is_filled (later_lines lines) ≡ false → PushesBlank lines l
push_blank lines l blank =
    let size = length-drop (prefix_len is_empty_line lines) lines in
    let all : length lines ≤ prefix_len is_empty_line lines = omega (arith, none_at_all (length (later_lines lines)) blank, size) in
    let old : front_lines lines ≡ lines = take_all (prefix_len is_empty_line lines) lines all in
    let parts = goes_on is_empty_line lines (l ∷ []) all in
    let skips : is_empty_line l ≡ true → (front_lines (lines ++ l ∷ []) ≡ lines ++ l ∷ []) × (later_lines (lines ++ l ∷ []) ≡ []) = λ e.
    let n = one_more is_empty_line l [] e in
    (parts.passed_are ∙ ap (λ m. lines ++ take m (l ∷ [])) n, parts.left_are ∙ ap (λ m. drop m (l ∷ [])) n) in
    let begins : is_empty_line l ≡ false → (front_lines (lines ++ l ∷ []) ≡ lines ++ []) × (later_lines (lines ++ l ∷ []) ≡ l ∷ []) = λ e.
    let n = none_more is_empty_line l [] e in
    (parts.passed_are ∙ ap (λ m. lines ++ take m (l ∷ [])) n, parts.left_are ∙ ap (λ m. drop m (l ∷ [])) n) in
    record {
      none =
          ⊎_elim
          (λ e. ap (place_at (front_lines (lines ++ l ∷ []))) (skips e).1)
          (λ e. let n = one_more is_text_line l [] (ap not e) in
          ap (place_at (front_lines (lines ++ l ∷ []))) (begins e).1
          ∙ ap (place_by (lines_len (front_lines (lines ++ l ∷ []))) (lines_len (passed is_text_line (l ∷ [])))) (ap (λ m. drop m (l ∷ [])) n))
          (cases_Bool (is_empty_line l));
      old = old;
      skips = λ e. ((skips e).0, ap is_filled (skips e).1);
      begins = λ e. ((begins e).0 ∙ append-nil lines ∙ sym old, ap is_filled (begins e).1);
    }
