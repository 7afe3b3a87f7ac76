-- The rows of a run of words: how many there are, and the numbers of their words.
--
--   AreApart            no word stands twice; so it is with words that ascend
--   count_word          a block has as many posts of a word as there are rows of it
--   count_run           and as many posts as the run's words have rows
--   count_some          a word that a row has is counted
--   IsAt ws lo run      a run stands in the words from a number on
--   run_word            its words are those from this number on
--   run_known           they are among the words
--   run_number          the numbers of its words
--   each_post           what holds of the post of each row with a word of a run holds of the posts of its block
use Rattle.std.proofs.Common.{◌≡◌, ℕ, ◌+◌, ◌<◌, ◌≤◌, ◌||◌, Bool, true, false, true≢false, cond, List, [], ◌∷◌, ◌++◌, length, refl, sym, ◌∙◌, ap, subst, arith, length-append}
use Rattle.std.specs.Bool.{◌==◌}
use Rattle.std.specs.Prelude.{filter}
use Rattle.std.specs.List.{AllByRecursion, list_any, sum_by, count_by}
use Rattle.std.specs.List.Sorted.{IsStrictlySortedBy}
use Rattle.std.specs.Ordering.{nat_cmp, is_lt}
use Rattle.std.specs.Cmp.{tied_itself}
use Rattle.std.specs.Cmp.Lexicographic.{slice_cmp}
use Rattle.std.specs.declared.cmp.Ordering.TheVariants.{Less}
use Rattle.std.specs.Str.{bytes_eq}
use Rattle.std.proofs.lemmas.Bool.{false_from_ne_true, eqb-true, eq-eqb, or_left, or_right}
use Rattle.std.proofs.lemmas.Cmp.{nat_list_cmp_total}
use Rattle.std.proofs.lemmas.List.{get_or-append-add, get_or_append_left}
use Rattle.std.proofs.lemmas.List.Folds.{list_any-append}
use Rattle.std.proofs.lemmas.List.Sums.{sum_by-cons}
use Rattle.std.proofs.lemmas.Slice.Eq.{bytes_eq-Decides}
use Rattle.cs_base.specs.declared.content.doc.Post.{Post}
use Rattle.cs_base.specs.declared.content.doc.Row.{Row}
use Rattle.cs_model_index.specs.Images.{count_in}
use Rattle.cs_model_index.specs.Numbered.{word_at, word_number, post_of, numbered, HasWord}
use Rattle.cs_model_index.proofs.Listings.{same_tests}
use Rattle.cs_model_index.proofs.NumberedLemmas.{word_of_number, number_of_word, number_below}

abbrev pub Run : Type 0
Run = List (List ℕ)

-- whether the row's word is one of the run's
abbrev pub has : Run → Row → Bool
has run r = list_any (bytes_eq r.word) run

-- ---- tests
pub turned : (v w : List ℕ) → bytes_eq v w ≡ bytes_eq w v
turned v w = same_tests (bytes_eq v w) (bytes_eq w v) (λ e. (bytes_eq-Decides w v).1 (sym ((bytes_eq-Decides v w).0 e))) (λ e. (bytes_eq-Decides v w).1 (sym ((bytes_eq-Decides w v).0 e)))

-- ---- words that stand once
pub AreApart : Run → Type 0
AreApart [] = Unit {0}
AreApart (w ∷ ws) = (list_any (bytes_eq w) ws ≡ false) × AreApart ws

before : (v w : List ℕ) → slice_cmp nat_cmp v w ≡ Less → bytes_eq v w ≡ false
before v w h =
    false_from_ne_true _ (λ e. true≢false (sym (ap is_lt h) ∙ ap (λ x. is_lt (slice_cmp nat_cmp v x)) (sym ((bytes_eq-Decides v w).0 e)) ∙ ap is_lt (tied_itself nat_list_cmp_total v)))

not_later : (v : List ℕ) (ws : Run) → AllByRecursion (λ w. slice_cmp nat_cmp v w ≡ Less) ws → list_any (bytes_eq v) ws ≡ false
not_later v [] h = refl
not_later v (w ∷ ws) h = ap (λ b. b || list_any (bytes_eq v) ws) (before v w h.0) ∙ not_later v ws h.1

pub apart_sorted : (ws : Run) → IsStrictlySortedBy (slice_cmp nat_cmp) ws → AreApart ws
unfolding AreApart IsStrictlySortedBy
apart_sorted [] h = tt
apart_sorted (w ∷ ws) h = (not_later w ws h.0, apart_sorted ws h.1)

apart_back : (vs ws : Run) → AreApart (vs ++ ws) → AreApart ws
unfolding AreApart
apart_back [] ws h = h
apart_back (v ∷ vs) ws h = apart_back vs ws h.1

neither : (a b : Bool) → (a || b) ≡ false → a ≡ false
neither true b h = absurd (true≢false h)
neither false b h = refl

apart_front : (vs ws : Run) → AreApart (vs ++ ws) → AreApart vs
unfolding AreApart
apart_front [] ws h = tt
apart_front (v ∷ vs) ws h = (neither (list_any (bytes_eq v) vs) (list_any (bytes_eq v) ws) (sym (list_any-append (bytes_eq v) vs ws) ∙ h.0), apart_front vs ws h.1)

-- ---- posts of a word
module _ (ws : Run) where
  pub number_test : (r : Row) (w : List ℕ) → HasWord ws r → list_any (bytes_eq w) ws ≡ true → (word_number ws r.word == word_number ws w) ≡ bytes_eq r.word w
  number_test r w h k =
      same_tests (word_number ws r.word == word_number ws w) (bytes_eq r.word w)
      (λ e. (bytes_eq-Decides r.word w).1 (sym (word_of_number ws r.word h) ∙ ap (word_at ws) (eqb-true _ _ e) ∙ word_of_number ws w k))
      (λ e. eq-eqb _ _ (ap (word_number ws) ((bytes_eq-Decides r.word w).0 e)))

  added : (e : Bool) (n : ℕ) (r : Row) (g : List Row) → n ≡ length g → cond e 1 0 + n ≡ length (cond e (r ∷ g) g)
  added true n r g h = omega (arith, h)
  added false n r g h = omega (arith, h)

  count_at : (run : Run) (w : List ℕ) (r : Row) (f g : List Row) (h e : Bool) → has run r ≡ h → bytes_eq r.word w ≡ e → list_any (bytes_eq w) run ≡ true → (word_number ws r.word == word_number ws w) ≡ e
      → count_by (λ post. post.word == word_number ws w) (numbered ws f) ≡ length g → count_by (λ post. post.word == word_number ws w) (numbered ws (cond h (r ∷ f) f)) ≡ length (cond e (r ∷ g) g)
  count_at run w r f g true e has_it is there test more =
      sum_by-cons (λ (post : Post). cond (post.word == word_number ws w) 1 0) (post_of ws r) (numbered ws f)
      ∙ ap (λ b. cond b 1 0 + count_by (λ post. post.word == word_number ws w) (numbered ws f)) test
      ∙ added e _ r g more
  count_at run w r f g false true has_it is there test more =
      absurd (true≢false (sym there ∙ ap (λ v. list_any (bytes_eq v) run) (sym ((bytes_eq-Decides r.word w).0 is)) ∙ has_it))
  count_at run w r f g false false has_it is there test more = more

  pub count_word : (run : Run) (w : List ℕ) (rows : List Row) → list_any (bytes_eq w) ws ≡ true → list_any (bytes_eq w) run ≡ true → AllByRecursion (HasWord ws) rows
      → count_by (λ post. post.word == word_number ws w) (numbered ws (filter (has run) rows)) ≡ count_in rows w
  count_word run w [] k there h = refl
  count_word run w (r ∷ rows) k there h =
      count_at run w r (filter (has run) rows) (filter (λ s. bytes_eq s.word w) rows) (has run r) (bytes_eq r.word w) refl refl there (number_test r w h.0 k) (count_word run w rows k there h.1)

  -- ---- posts of a run
  each_at : (P : Post → Type 0) (r : Row) (f : List Row) (run : Run) (b : Bool) → has run r ≡ b → (has run r ≡ true → P (post_of ws r)) → AllByRecursion P (numbered ws f) → AllByRecursion P (numbered ws (cond b (r ∷ f) f))
  each_at P r f run true e here more = (here e, more)
  each_at P r f run false e here more = more

  pub each_post : (P : Post → Type 0) (run : Run) → ((r : Row) → has run r ≡ true → P (post_of ws r)) → (rows : List Row) → AllByRecursion P (numbered ws (filter (has run) rows))
  each_post P run one [] = tt
  each_post P run one (r ∷ rows) = each_at P r (filter (has run) rows) run (has run r) refl (one r) (each_post P run one rows)

-- ---- rows of words that stand once
or_at : (a b : Bool) (r : Row) (f g h : List Row) → (a ≡ true → b ≡ false) → length f ≡ length g + length h → length (cond (a || b) (r ∷ f) f) ≡ length (cond a (r ∷ g) g) + length (cond b (r ∷ h) h)
or_at true true r f g h never e = absurd (true≢false (never refl))
or_at true false r f g h never e = omega (arith, e)
or_at false true r f g h never e = omega (arith, e)
or_at false false r f g h never e = e

or_count : (p q : Row → Bool) → ((r : Row) → p r ≡ true → q r ≡ false) → (rows : List Row) → length (filter (λ r. p r || q r) rows) ≡ length (filter p rows) + length (filter q rows)
or_count p q never [] = refl
or_count p q never (r ∷ rows) = or_at (p r) (q r) r (filter (λ s. p s || q s) rows) (filter p rows) (filter q rows) (never r) (or_count p q never rows)

none_has : (rows : List Row) → length (filter (has []) rows) ≡ 0
none_has [] = refl
none_has (r ∷ rows) = none_has rows

pub count_run : (run : Run) → AreApart run → (rows : List Row) → length (filter (has run) rows) ≡ sum_by (count_in rows) run
unfolding AreApart
count_run [] h rows = none_has rows
count_run (w ∷ run) h rows =
    or_count (λ r. bytes_eq r.word w) (has run) (λ r e. ap (λ v. list_any (bytes_eq v) run) ((bytes_eq-Decides r.word w).0 e) ∙ h.0) rows
    ∙ ap (λ n. count_in rows w + n) (count_run run h.1 rows)
    ∙ sym (sum_by-cons (count_in rows) w run)

some_at : (w : List ℕ) (r : Row) (g : List Row) (rest : Bool) (b : Bool) → bytes_eq r.word w ≡ b → (bytes_eq w r.word || rest) ≡ true → (rest ≡ true → 1 ≤ length g) → 1 ≤ length (cond b (r ∷ g) g)
some_at w r g rest true e h more = omega arith
some_at w r g rest false e h more = more (sym (ap (λ b. b || rest) (turned w r.word ∙ e)) ∙ h)

pub count_some : (w : List ℕ) (rows : List Row) → list_any (λ r. bytes_eq w r.word) rows ≡ true → 1 ≤ count_in rows w
count_some w [] h = absurd (true≢false (sym h))
count_some w (r ∷ rows) h = some_at w r (filter (λ s. bytes_eq s.word w) rows) (list_any (λ s. bytes_eq w s.word) rows) (bytes_eq r.word w) refl h (count_some w rows)

-- ---- where a run stands
pub record IsAt (ws : Run) (lo : ℕ) (run : Run) : Type 0 where
  pub front : Run
  pub rest : Run
  pub split : ws ≡ front ++ (run ++ rest)
  pub at : length front ≡ lo

module _ (ws : Run) (lo : ℕ) (run : Run) (is : IsAt ws lo run) where
  pub run_word : (k : ℕ) → k < length run → word_at ws (lo + k) ≡ word_at run k
  run_word k l =
      ap (λ v. word_at v (lo + k)) is.split ∙ ap (λ n. word_at (is.front ++ (run ++ is.rest)) (n + k)) (sym is.at)
      ∙ get_or-append-add is.front (run ++ is.rest) k [] ∙ get_or_append_left run is.rest [] k l

  pub run_known : (w : List ℕ) → list_any (bytes_eq w) run ≡ true → list_any (bytes_eq w) ws ≡ true
  run_known w h =
      ap (list_any (bytes_eq w)) is.split ∙ list_any-append (bytes_eq w) is.front (run ++ is.rest)
      ∙ or_right (list_any (bytes_eq w) is.front) (list_any (bytes_eq w) (run ++ is.rest)) (list_any-append (bytes_eq w) run is.rest ∙ or_left (list_any (bytes_eq w) run) (list_any (bytes_eq w) is.rest) h)

  pub run_within : lo + length run ≤ length ws
  run_within = omega (arith, ap length is.split, length-append is.front (run ++ is.rest), length-append run is.rest, is.at)

  pub run_number : IsStrictlySortedBy (slice_cmp nat_cmp) ws → (w : List ℕ) → list_any (bytes_eq w) run ≡ true → word_number ws w ≡ lo + word_number run w
  run_number up w h =
      let below : word_number run w < length run = number_below run w h in
      ap (word_number ws) (sym (word_of_number run w h) ∙ sym (run_word (word_number run w) below))
      ∙ number_of_word ws (lo + word_number run w) up (omega (arith, below, run_within))

  pub run_apart : IsStrictlySortedBy (slice_cmp nat_cmp) ws → AreApart run
  run_apart up = apart_front run is.rest (apart_back is.front (run ++ is.rest) (subst AreApart is.split (apart_sorted ws up)))
