-- The numbers of words.
--
--   numbers_kept     words that come behind change no number
--   numbers_more     one number more
--   is_listed        a word that was gathered is in the listing
--   through_numbers  numbers by way of indices
use Rattle.std.proofs.Common.{◌≡◌, ℕ, ◌+◌, ◌<◌, ◌≤◌, ◌||◌, Bool, true, List, [], ◌∷◌, ◌++◌, length, map, take, get_or, slice_index, slice_index_or, refl, sym, ap, subst, ◌∙◌, arith}
use Rattle.std.specs.List.{All, AllByRecursion, list_any}
use Rattle.std.specs.Ordering.{nat_cmp, eq_by_cmp}
use Rattle.std.specs.Cmp.Lexicographic.{slice_cmp}
use Rattle.std.specs.Str.{bytes_eq}
use Rattle.std.proofs.lemmas.Cmp.{nat_list_cmp_total}
use Rattle.std.proofs.lemmas.List.{get_or-map, length-map, map-append, take_more}
use Rattle.std.proofs.lemmas.List.Elements.{All-append, All-from_recursion, recursion_from_All, All-get_or}
use Rattle.std.proofs.lemmas.List.Folds.{list_any_at}
use Rattle.std.proofs.lemmas.Slice.Eq.{bytes_eq-Decides}
use Rattle.cs_base.specs.contracts.content.word.WordOrd.TheImpl.Laws.{matches_eq-law}
use Rattle.cs_base.specs.content.Members.{members_in}
use Rattle.cs_base.proofs.MembersLemmas.{all_then, is_member-listed}
use Rattle.cs_vocab.specs.Ranges.{IsBelow, IsWordAt, AreNumbers}

abbrev pub word_at : List (List ℕ) → ℕ → List ℕ
word_at ws n = slice_index_or ws n []

-- ---- numbers one by one

maps_alike : (f g : ℕ → List ℕ) (P : ℕ → Type 0) → ((k : ℕ) → P k → f k ≡ g k) → (ns : List ℕ) → AllByRecursion P ns → map f ns ≡ map g ns
maps_alike f g P same [] h = refl
maps_alike f g P same (n ∷ ns) h = ap (λ w. w ∷ map f ns) (same n h.0) ∙ ap (λ l. g n ∷ l) (maps_alike f g P same ns h.1)

pub numbers_kept : (ws xs : List (List ℕ)) (ns : List ℕ) (all : List (List ℕ)) → ((k : ℕ) → k < length ws → word_at xs k ≡ word_at ws k) → length ws ≤ length xs → AreNumbers ws ns all → AreNumbers xs ns all
numbers_kept ws xs ns all kept longer h =
    let each = recursion_from_All (IsBelow (length ws)) ns h.below in
    record {
      told = maps_alike (word_at xs) (word_at ws) (IsBelow (length ws)) kept ns each ∙ h.told;
      below = All-from_recursion (IsBelow (length xs)) ns (all_then (IsBelow (length ws)) (IsBelow (length xs)) (λ k b. omega (arith, b, longer)) ns each);
    }

pub numbers_more : (ws : List (List ℕ)) (ns : List ℕ) (n : ℕ) (all : List (List ℕ)) (i : ℕ) (w : List ℕ) → i < length all → w ≡ get_or all i [] → AreNumbers ws ns (take i all) → IsWordAt ws n w
    → AreNumbers ws (ns ++ n ∷ []) (take (i + 1) all)
numbers_more ws ns n all i w l is h at = record {
  told = map-append (word_at ws) ns (n ∷ []) ∙ ap (λ r. r ++ word_at ws n ∷ []) h.told ∙ ap (λ v. take i all ++ v ∷ []) (at.1 ∙ is) ∙ sym (take_more all i [] l);
  below = All-append (IsBelow (length ws)) ns (n ∷ []) h.below (All-from_recursion (IsBelow (length ws)) (n ∷ []) (at.0, tt));
}

-- ---- numbers in a listing

any_alike : (p q : List ℕ → Bool) (xs : List (List ℕ)) → ((x : List ℕ) → p x ≡ q x) → list_any p xs ≡ list_any q xs
any_alike p q [] h = refl
any_alike p q (x ∷ xs) h = ap (λ b. b || list_any p xs) (h x) ∙ ap (λ b. q x || b) (any_alike p q xs h)

pub is_listed : (ws all : List (List ℕ)) (i : ℕ) (w : List ℕ) → ws ≡ members_in (slice_cmp nat_cmp) all → i < length all → w ≡ get_or all i [] → list_any (bytes_eq w) ws ≡ true
is_listed ws all i w is l at =
    let e : List ℕ → Bool = eq_by_cmp (slice_cmp nat_cmp) w in
    any_alike (bytes_eq w) e ws (matches_eq-law w)
    ∙ ap (list_any e) is
    ∙ is_member-listed (slice_cmp nat_cmp) nat_list_cmp_total all w
    ∙ sym (any_alike (bytes_eq w) e all (matches_eq-law w))
    ∙ list_any_at (bytes_eq w) all i [] l ((bytes_eq-Decides w (get_or all i [])).1 at)

-- ---- numbers by way of indices

module _ (ws gathered : List (List ℕ)) (numbers : List ℕ) (known : AreNumbers ws numbers gathered) where
  word_by : (k : ℕ) → k < length numbers → word_at ws (slice_index numbers k) ≡ word_at gathered k
  word_by k l = sym (get_or-map (word_at ws) numbers k 0 [] l) ∙ ap (λ v. word_at v k) known.told

  told_by : (ns : List ℕ) → AllByRecursion (IsBelow (length numbers)) ns → map (word_at ws) (map (slice_index numbers) ns) ≡ map (word_at gathered) ns
  told_by [] h = refl
  told_by (n ∷ ns) h = ap (λ w. w ∷ map (word_at ws) (map (slice_index numbers) ns)) (word_by n h.0) ∙ ap (λ l. word_at gathered n ∷ l) (told_by ns h.1)

  below_by : (ns : List ℕ) → AllByRecursion (IsBelow (length numbers)) ns → AllByRecursion (IsBelow (length ws)) (map (slice_index numbers) ns)
  below_by [] h = tt
  below_by (n ∷ ns) h = (All-get_or (IsBelow (length ws)) numbers n 0 h.0 known.below, below_by ns h.1)

  pub as_many : length gathered ≡ length numbers
  as_many = sym (ap length known.told) ∙ length-map numbers (word_at ws)

  pub through_numbers : (indices : List ℕ) (all : List (List ℕ)) → AreNumbers gathered indices all → AreNumbers ws (map (slice_index numbers) indices) all
  through_numbers indices all h =
      let each = recursion_from_All (IsBelow (length numbers)) indices (subst (λ n. All (IsBelow n) indices) as_many h.below) in
      record {
        told = told_by indices each ∙ h.told;
        below = All-from_recursion (IsBelow (length ws)) (map (slice_index numbers) indices) (below_by indices each);
      }
