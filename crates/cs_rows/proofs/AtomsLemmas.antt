-- The rows of words that pass a test are those whose words have numbers from one number up to another.
--
--   span_word        one word
--   span_none        no word
--   span_rows        the posts between two numbers stand for the rows that pass the test
--   picked_between   they are picked
use Rattle.std.proofs.Common.{◌≡◌, ℕ, suc, zero, ◌+◌, ◌<◌, ◌&&◌, Bool, true, false, List, [], ◌∷◌, length, map, cond, refl, sym, ◌∙◌, ap, subst, arith}
use Rattle.std.specs.Prelude.{filter, nat_lt, nat_le}
use Rattle.std.specs.List.{All, AllByRecursion, Contains, list_any}
use Rattle.std.specs.List.Sorted.{IsStrictlySortedBy}
use Rattle.std.specs.Ordering.{nat_cmp}
use Rattle.std.specs.Cmp.Lexicographic.{slice_cmp}
use Rattle.std.specs.Str.{bytes_eq}
use Rattle.std.proofs.lemmas.Bool.{or_parts}
use Rattle.std.proofs.lemmas.Bool.Decides.{nat_tests}
use Rattle.std.proofs.lemmas.List.Elements.{All-filter, All-contains_itself, recursion_from_All}
use Rattle.std.proofs.lemmas.List.Kept.{IsStrictlySortedBy-filter}
use Rattle.cs_base.specs.content.Orders.{by_place}
use Rattle.cs_base.specs.declared.content.doc.Post.{Post}
use Rattle.cs_vocab.specs.Ranges.{IsWordAt}
use Rattle.cs_model_index.specs.Numbered.{word_at, row_of, rows_at}
use Rattle.cs_rows.specs.Stocked.{Stock, IsKnown, IsStocked, IsPicked, HoldsBetween, is_between}
use Rattle.cs_base.proofs.MembersLemmas.{all_then}
use Rattle.cs_base.proofs.NameMaps.{name_itself, name_sym}
use Rattle.cs_base.proofs.ListsLemmas.{filter_through, filter_alike}
use Rattle.cs_vocab.proofs.RangesLemmas.{three_ways}
use Rattle.cs_rows.proofs.VocabLemmas.{apart, less_word}

early : (n m : ℕ) → m < n → (nat_le n m && nat_lt m (n + 1)) ≡ false
early n m h = grind (arith, nat_tests)

late : (n m : ℕ) → n < m → (nat_le n m && nat_lt m (n + 1)) ≡ false
late n m h = grind (arith, nat_tests)

here : (n m : ℕ) → m ≡ n → (nat_le n m && nat_lt m (n + 1)) ≡ true
here n m h = grind (arith, nat_tests)

pub span_word : (ws : List (List ℕ)) → IsStrictlySortedBy (slice_cmp nat_cmp) ws → (n : ℕ) (w : List ℕ) → IsWordAt ws n w
    → HoldsBetween ws (λ v. bytes_eq v w) n (n + 1)
span_word ws up n w at m l =
    subst (λ x. bytes_eq (word_at ws m) x ≡ (nat_le n m && nat_lt m (n + 1))) at.1
    (three_ways m n
    (λ h. apart (word_at ws m) (word_at ws n) (less_word ws up m n h at.0) ∙ sym (early n m h))
    (λ h. ap (λ x. bytes_eq (word_at ws m) (word_at ws x)) (sym h) ∙ name_itself (word_at ws m) ∙ sym (here n m h))
    (λ h. name_sym (word_at ws m) (word_at ws n) ∙ apart (word_at ws n) (word_at ws m) (less_word ws up n m h l) ∙ sym (late n m h)))

none_between : (m : ℕ) → (nat_le 0 m && nat_lt m 0) ≡ false
none_between m = grind (arith, nat_tests)

none_at : (ws : List (List ℕ)) (w : List ℕ) (m : ℕ) → list_any (bytes_eq w) ws ≡ false → m < length ws → bytes_eq w (word_at ws m) ≡ false
none_at [] w m h l = absurd (omega arith)
none_at (v ∷ ws) w zero h l = (or_parts (bytes_eq w v) (list_any (bytes_eq w) ws) h).0
none_at (v ∷ ws) w (suc m) h l = none_at ws w m (or_parts (bytes_eq w v) (list_any (bytes_eq w) ws) h).1 (omega arith)

pub span_none : (ws : List (List ℕ)) (w : List ℕ) → list_any (bytes_eq w) ws ≡ false → HoldsBetween ws (λ v. bytes_eq v w) 0 0
span_none ws w h m l =
    name_sym (word_at ws m) w ∙ none_at ws w m h l ∙ sym (none_between m)

pub span_rows : (ws : List (List ℕ)) (test : List ℕ → Bool) (lo hi : ℕ) (posts : List Post) → HoldsBetween ws test lo hi
    → AllByRecursion (λ p. p.word < length ws) posts → rows_at ws (filter (is_between lo hi) posts) ≡ filter (λ r. test r.word) (rows_at ws posts)
span_rows ws test lo hi posts span known =
    ap (rows_at ws) (filter_alike (is_between lo hi) (λ p. test (word_at ws p.word)) posts
    (all_then (λ p. p.word < length ws) (λ p. is_between lo hi p ≡ test (word_at ws p.word)) (λ p l. sym (span p.word l)) posts known))
    ∙ filter_through (row_of ws) (λ r. test r.word) posts

pub words_known : (s : Stock) (posts : List Post) → All (IsKnown s) posts → AllByRecursion (λ p. p.word < length s.words) posts
words_known s posts h = all_then (IsKnown s) (λ p. p.word < length s.words) (λ p k. k.word) posts (recursion_from_All (IsKnown s) posts h)

pub picked_between : (s : Stock) (p : Post → Bool) (found : List Post) → IsStocked s → found ≡ filter p s.posts → IsPicked s found
picked_between s p found kept is =
    subst (IsPicked s) (sym is) (record {
      sorted = IsStrictlySortedBy-filter by_place p s.posts kept.sorted;
      among = All-filter p (Contains s.posts) s.posts (All-contains_itself s.posts);
    })

-- what is picked, and then picked again by a test
pub picked_again : (s : Stock) (p : Post → Bool) (posts found : List Post) → IsPicked s posts → found ≡ filter p posts → IsPicked s found
picked_again s p posts found picked is =
    subst (IsPicked s) (sym is) (record {
      sorted = IsStrictlySortedBy-filter by_place p posts picked.sorted;
      among = All-filter p (Contains s.posts) posts picked.among;
    })

-- ---- counting

counted_words : (lo hi : ℕ) (posts : List Post)
    → length (filter (is_between lo hi) posts) ≡ length (filter (λ w. nat_le lo w && nat_lt w hi) (map (λ p. p.word) posts))
counted_words lo hi [] = refl
counted_words lo hi (p ∷ posts) =
    elim (is_between lo hi p) as (λ b. length (cond b (p ∷ filter (is_between lo hi) posts) (filter (is_between lo hi) posts)) ≡ length
    (cond b (p.word ∷ filter (λ w. nat_le lo w && nat_lt w hi) (map (λ p. p.word) posts))
    (filter (λ w. nat_le lo w && nat_lt w hi) (map (λ p. p.word) posts)))) [
      | true ↦ ap suc (counted_words lo hi posts)
      | false ↦ counted_words lo hi posts
    ]

pub counted_between : (lo hi : ℕ) (posts : List Post) (words : List ℕ) → words ≡ map (λ p. p.word) posts
    → length (filter (is_between lo hi) posts) ≡ length (filter (λ w. nat_le lo w && nat_lt w hi) words)
counted_between lo hi posts words is = counted_words lo hi posts ∙ ap (λ ws. length (filter (λ w. nat_le lo w && nat_lt w hi) ws)) (sym is)
