-- Posts each of which stands once: how many there are depends on their members alone.
--
--   Apart xs           no post stands twice
--   apart_sorted       so it is with posts in order
--   apart_append       and with posts of lower words and of higher ones
--   long_alike         as many as in any order
use Rattle.std.proofs.Common.{◌≡◌, ℕ, ◌+◌, ◌<◌, ◌≤◌, ◌||◌, Bool, true, false, List, [], ◌∷◌, ◌++◌, length, map, cond, refl, sym, ap, ◌∙◌, arith}
use Rattle.std.specs.List.{AllByRecursion, list_any}
use Rattle.std.specs.List.Sorted.{IsStrictlySortedBy}
use Rattle.std.specs.Ordering.{eq_by_cmp, is_eq}
use Rattle.std.specs.Cmp.{Equal-is}
use Rattle.std.specs.FinMap.{FinMap, contains_key, contains_key-keys, entries, from_entries, len, len-empty, len-entries, len-insert}
use Rattle.std.specs.declared.cmp.Ordering.TheVariants.{Less}
use Rattle.std.proofs.lemmas.List.{length-map}
use Rattle.cs_base.specs.content.Members.{marked, members_in}
use Rattle.cs_base.specs.content.Orders.{by_place, AreSorted}
use Rattle.cs_base.specs.declared.content.doc.Post.{Post}
use Rattle.cs_base.proofs.MembersLemmas.{all_then, is_member-listed, members_are}
use Rattle.cs_rows.specs.IndexReading.{by_post}
use Rattle.cs_rows.proofs.RowsInRange.{sooner, still_rise}
use Rattle.cs_rows.proofs.StockLemmas.{by_post_exact, by_post_total}

pub Apart : List Post → Type 0
Apart [] = Unit {0}
Apart (x ∷ xs) = AllByRecursion (λ y. eq_by_cmp by_post x y ≡ false) xs × Apart xs

pub apart_none : Apart []
unfolding Apart
apart_none = tt

-- ---- which are
sorted_apart : (x y : Post) → by_place x y ≡ Less → eq_by_cmp by_post x y ≡ false
sorted_apart x y h = ap is_eq (sooner x y h)

pub apart_sorted : (xs : List Post) → AreSorted xs → Apart xs
unfolding Apart IsStrictlySortedBy
apart_sorted [] h = tt
apart_sorted (x ∷ xs) h = (all_then _ _ (sorted_apart x) xs h.0, apart_sorted xs h.1)

words_apart : (m : ℕ) (x y : Post) → x.word < m → m ≤ y.word → eq_by_cmp by_post x y ≡ false
words_apart m x y low high =
    elim (eq_by_cmp by_post x y) as (λ b. eq_by_cmp by_post x y ≡ b → b ≡ false) [
      | true ↦ λ e. absurd (let same = ap (λ (p : Post). p.word) (by_post_exact x y ((Equal-is (by_post x y)).0 e)) in omega (arith, low, high, same))
      | false ↦ λ e. refl
    ] refl

from_both : (x : Post) (xs ys : List Post) → AllByRecursion (λ y. eq_by_cmp by_post x y ≡ false) xs → AllByRecursion (λ y. eq_by_cmp by_post x y ≡ false) ys
    → AllByRecursion (λ y. eq_by_cmp by_post x y ≡ false) (xs ++ ys)
from_both x [] ys h k = k
from_both x (y ∷ xs) ys h k = (h.0, from_both x xs ys h.1 k)

pub apart_append : (m : ℕ) (xs ys : List Post) → Apart xs → Apart ys → AllByRecursion (λ p. p.word < m) xs → AllByRecursion (λ p. m ≤ p.word) ys
    → Apart (xs ++ ys)
unfolding Apart
apart_append m [] ys a b low high = b
apart_append m (x ∷ xs) ys a b low high = (
  from_both x xs ys a.0 (all_then (λ p. m ≤ p.word) (λ y. eq_by_cmp by_post x y ≡ false) (λ y h. words_apart m x y low.0 h) ys high),
  apart_append m xs ys a.1 b low.1 high,
)

-- ---- how many there are
none_tied : (t : Post → Bool) (xs : List Post) → AllByRecursion (λ y. t y ≡ false) xs → list_any t xs ≡ false
none_tied t [] h = refl
none_tied t (x ∷ xs) h = ap (λ b. b || list_any t xs) h.0 ∙ none_tied t xs h.1

keys_long : (xs : List Post) → Apart xs → len (from_entries {R = by_post} (map marked xs)) ≡ length xs
unfolding Apart
keys_long [] h = omega (arith, len-empty by_post (Unit {0}))
keys_long (x ∷ xs) h =
    let m : FinMap by_post (Unit {0}) = from_entries {R = by_post} (map marked xs) in
    let new : contains_key m x ≡ false = contains_key-keys m x ∙ is_member-listed by_post by_post_total xs x ∙ none_tied (eq_by_cmp by_post x) xs h.0 in
    omega (arith, len-insert by_post_total m x tt, ap (λ b. cond b (len m) (len m + 1)) new, keys_long xs h.1)

listed_long : (xs : List Post) → Apart xs → length (members_in by_post xs) ≡ length xs
listed_long xs h =
    let m : FinMap by_post (Unit {0}) = from_entries {R = by_post} (map marked xs) in
    omega (arith, length-map (entries m) (λ e. e.0), len-entries m, keys_long xs h)

pub long_alike : (xs ys : List Post) → Apart xs → AreSorted ys → ((t : Post → Bool) → list_any t xs ≡ list_any t ys) → length xs ≡ length ys
long_alike xs ys apart up alike = sym (listed_long xs apart)
    ∙ ap length (sym (members_are by_post by_post_total by_post_exact ys xs (still_rise ys up) (λ q. sym (alike (eq_by_cmp by_post q)))))
