-- Titles that are read in pieces, some that lie one behind the other at a time.
--
--   IsPiece os ps from n, piece_of     some offsets of all, from number `from` on: those of n titles
--   all_onward, piece_onward       offsets that go on, and some of them
--   piece_first, piece_last        where the titles of a piece begin and end
--   cut_count, cut_title, title_lies_in        the titles that are cut of a piece
--   found_at, found_none           the first text that a test finds
--   piece_passed, piece_refused       where each is UTF-8 the search goes on behind them, and where one isn't its place is that of all titles
--   piece_bytes        the bytes of the titles up to the piece's end
use Rattle.std.proofs.Common.{◌≡◌, ℕ, zero, suc, ◌+◌, ◌-◌, ◌<◌, ◌≤◌, Bool, true, false, List, [], length, get_or, take, drop, map, Option, Some, None}
use Rattle.std.proofs.Common.{refl, sym, ap, subst, ◌∙◌, arith, length-take, length-drop, cond}
use Rattle.std.specs.Prelude.{not, nat_lt}
use Rattle.std.specs.List.{position, position_or_len}
use Rattle.std.specs.Option.{option_map}
use Rattle.std.specs.Str.{is_utf8}
use Rattle.std.proofs.lemmas.Bool.{le-ltb, lt-ltb, ltb-false}
use Rattle.std.proofs.lemmas.List.{length-map, get_or-map, get_or-take, get_or-drop}
use Rattle.std.proofs.lemmas.List.Quantifiers.{position-Some}
use Rattle.std.proofs.lemmas.List.Sums.{fails_before_first, position_or_len_is}
use Rattle.std.proofs.lemmas.Option.{unwrap_or-slice_get}
use Rattle.cs_base.specs.outside.Outside.{part}
use Rattle.cs_model.specs.First.{unless}
use Rattle.cs_model_index.specs.FileRules.{tried}
use Rattle.cs_model_index.specs.Layout.{Header}
use Rattle.cs_model_index.specs.Sections.{titles_at}
use Rattle.cs_file.specs.declared.fault.OpenFault.{OpenFault}
use Rattle.cs_file.specs.Opening.{AreBytes, AreOnwardOffsets, Refuses, IsHeaderOf, HasOffsets, bad_title_in, bad_title, first_offset, last_offset, offsets_of, piece_in}
use Rattle.cs_file.specs.Opening.{titles_cut}
use Rattle.cs_file.proofs.BytesLemmas.{bytes_at, more_bytes}
use Rattle.cs_file.proofs.OffsetsLemmas.{onward_far, title_at_index}
use Rattle.cs_file.proofs.StagesLemmas.{refuses_at, tried_none}
use Rattle.cs_file.proofs.TitlesLemmas.{titles_count, within_part}
use Rattle.cs_file.proofs.TitleStageLemmas.{RestOfTitles, title_lies, title_refused, title_told, titles_on}

-- ---- offsets
pub all_onward : (h : Header) (os : List ℕ) → HasOffsets h os → AreOnwardOffsets os
all_onward h os ruled =
    let count = ruled.count in
    record {
      some = omega (arith, count);
      each = λ k m le lt.
          let sum : k + (m - k) ≡ m = omega arith in
          subst (λ (n : ℕ). get_or os k 0 ≤ get_or os n 0) sum (onward_far 0 None os k (m - k) ruled.onward (omega arith));
    }

pub record IsPiece (os ps : List ℕ) (from n : ℕ) : Type 0 where
  pub count : length ps ≡ n + 1
  pub within : from + n < length os
  pub each : (k : ℕ) → k ≤ n → get_or ps k 0 ≡ get_or os (from + k) 0

pub piece_of : (os : List ℕ) (from end : ℕ) → from ≤ end → end < length os → IsPiece os (take (end + 1 - from) (drop from os)) from (end - from)
piece_of os from end le lt = record {
  count = omega (arith, length-take (end + 1 - from) (drop from os), length-drop from os);
  within = omega arith;
  each = λ k few. get_or-take (end + 1 - from) (drop from os) k 0 (omega arith) ∙ get_or-drop from os k 0;
}

pub piece_onward : (os ps : List ℕ) (from n : ℕ) → AreOnwardOffsets os → IsPiece os ps from n → AreOnwardOffsets ps
piece_onward os ps from n all p =
    let count = p.count in
    let within = p.within in
    record {
      some = omega (arith, count);
      each = λ k m le lt.
          let a = p.each k (omega (arith, count)) in
          let z = p.each m (omega (arith, count)) in
          let up = all.each (from + k) (from + m) (omega arith) (omega (arith, count, within)) in
          omega (arith, a, z, up);
    }

pub piece_first : (os ps : List ℕ) (from n : ℕ) → IsPiece os ps from n → first_offset ps ≡ get_or os from 0
piece_first os ps from n p = let same : from + 0 ≡ from = omega arith in p.each 0 (omega arith) ∙ ap (λ (k : ℕ). get_or os k 0) same

pub last_is : (os : List ℕ) → last_offset os ≡ get_or os (length os - 1) 0
last_is os = unwrap_or-slice_get os (length os - 1) 0

pub piece_last : (os ps : List ℕ) (from n : ℕ) → IsPiece os ps from n → last_offset ps ≡ get_or os (from + n) 0
piece_last os ps from n p =
    let count = p.count in
    let same : length ps - 1 ≡ n = omega (arith, count) in
    last_is ps ∙ ap (λ (k : ℕ). get_or ps k 0) same ∙ p.each n (omega arith)

-- ---- titles
pub cut_count : (os bytes : List ℕ) → length (titles_cut os bytes) ≡ length os - 1
cut_count os bytes =
    let f : ℕ → ℕ = λ o. o - first_offset os in
    titles_count (map f os) bytes ∙ ap (λ (n : ℕ). n - 1) (length-map os f)

pub cut_title : (os bytes : List ℕ) (k : ℕ) → k + 1 < length os
    → get_or (titles_cut os bytes) k []
    ≡ take ((get_or os (k + 1) 0 - first_offset os) - (get_or os k 0 - first_offset os)) (drop (get_or os k 0 - first_offset os) bytes)
cut_title os bytes k lt =
    let f : ℕ → ℕ = λ o. o - first_offset os in
    let one : suc k ≡ k + 1 = omega arith in
    let here : get_or (map f os) k 0 ≡ f (get_or os k 0) = get_or-map f os k 0 0 (omega arith) in
    let next : get_or (map f os) (suc k) 0 ≡ f (get_or os (k + 1) 0) = ap (λ (n : ℕ). get_or (map f os) n 0) one ∙ get_or-map f os (k + 1) 0 0 lt in
    title_at_index (map f os) bytes k (omega (arith, length-map os f)) ∙ ap (λ (n : ℕ). take (n - get_or (map f os) k 0) (drop (get_or (map f os) k 0) bytes)) next
    ∙ ap (λ (n : ℕ). take (f (get_or os (k + 1) 0) - n) (drop n bytes)) here

-- title k of the piece is title from + k of all
abbrev title_at : List ℕ → Header → List ℕ → ℕ → List ℕ
title_at b h os d = part b (titles_at h + get_or os d 0) (get_or os (d + 1) 0 - get_or os d 0)

pub title_lies_in : (b : List ℕ) (h : Header) (os ps : List ℕ) (from n k : ℕ) → AreOnwardOffsets os → IsPiece os ps from n → k < n
    → get_or (titles_cut ps (piece_in b (titles_at h) ps)) k [] ≡ title_at b h os (from + k)
title_lies_in b h os ps from n k all p lt =
    let count = p.count in
    let within = p.within in
    let lo = piece_first os ps from n p in
    let hi = piece_last os ps from n p in
    let here = p.each k (omega arith) in
    let next' = p.each (k + 1) (omega arith) in
    let one : from + (k + 1) ≡ from + k + 1 = omega arith in
    let next = next' ∙ ap (λ (d : ℕ). get_or os d 0) one in
    let up = all.each from (from + k) (omega arith) (omega (arith, within)) in
    let on = all.each (from + k) (from + k + 1) (omega arith) (omega (arith, within)) in
    let end = all.each (from + k + 1) (from + n) (omega arith) within in
    let begin = get_or ps k 0 - first_offset ps in
    let size = (get_or ps (k + 1) 0 - first_offset ps) - begin in
    let len : size ≡ get_or os (from + k + 1) 0 - get_or os (from + k) 0 = omega (arith, lo, here, next, up, on) in
    let place : titles_at h + first_offset ps + begin ≡ titles_at h + get_or os (from + k) 0 = omega (arith, lo, here, up) in
    cut_title ps (piece_in b (titles_at h) ps) k (omega (arith, count))
    ∙ within_part size begin (titles_at h + first_offset ps) (last_offset ps - first_offset ps) b (omega (arith, lo, hi, here, next, up, on, end))
    ∙ ap (λ (x : ℕ). part b x size) place ∙ ap (part b (titles_at h + get_or os (from + k) 0)) len

-- the first text that a test finds, and none
pub found_at : (p : List ℕ → Bool) (xs : List (List ℕ)) (i : ℕ) → i < length xs → ((k : ℕ) → k < i → p (get_or xs k []) ≡ false) → p (get_or xs i []) ≡ true
    → position p xs ≡ Some i
found_at p xs i lt before here =
    let at : position_or_len p xs ≡ i = position_or_len_is p xs i [] (omega arith) before (λ l. here) in
    ap (λ (n : ℕ). cond (nat_lt n (length xs)) (Some n) None) at ∙ ap (λ (u : Bool). cond u (Some i) None) (lt-ltb i (length xs) lt)

pub found_none : (p : List ℕ → Bool) (xs : List (List ℕ)) (n : ℕ) → length xs ≡ n → ((k : ℕ) → k < n → p (get_or xs k []) ≡ false) → position p xs ≡ None
found_none p xs n all before =
    let at : position_or_len p xs ≡ n = position_or_len_is p xs n [] (omega arith) before (λ l. absurd (omega arith)) in
    ap (λ (m : ℕ). cond (nat_lt m (length xs)) (Some m) None) at
    ∙ ap (λ (u : Bool). cond u (Some n) None) (le-ltb n (length xs) (omega arith))

no_not : (u : Bool) → not u ≡ false → u ≡ true
no_not true e = refl
no_not false e = absurd cc

yes_not : (u : Bool) → not u ≡ true → u ≡ false
yes_not false e = refl
yes_not true e = absurd cc

module _ (b : List ℕ) (h : Header) (os ps : List ℕ) (from n : ℕ) (is : IsHeaderOf b h) (at : os ≡ offsets_of b) (ruled : HasOffsets h os)
    (p : IsPiece os ps from n) where
  abbrev titles : List (List ℕ)
  titles = titles_cut ps (piece_in b (titles_at h) ps)

  abbrev is_bad : List ℕ → Bool
  is_bad t = not (is_utf8 t)

  -- behind some first titles of the piece that are UTF-8
  passed_some : (k : ℕ) → k ≤ n → ((j : ℕ) → j < k → is_bad (get_or titles j []) ≡ false) → RestOfTitles b h os from → RestOfTitles b h os (from + k)
  passed_some zero le fine rest = let same : from ≡ from + zero = omega arith in subst (RestOfTitles b h os) same rest
  passed_some (suc k) le fine rest =
      let count = ruled.count in
      let within = p.within in
      let known : from + k < h.docs = omega (arith, count, within) in
      let next : from + k + 1 ≡ from + suc k = omega arith in
      let text : is_utf8 (title_at b h os (from + k)) ≡ true =
      ap is_utf8 (sym (title_lies_in b h os ps from n k (all_onward h os ruled) p (omega arith))) ∙ no_not _ (fine k (omega arith)) in
      subst (RestOfTitles b h os) next
      (titles_on b h os (from + k) 0 (title_lies h os (from + k) ruled known) (title_told b h os (from + k) is at ruled known)
      (ap (λ (u : Bool). tried 9 (unless u 0)) text) (passed_some k (omega arith) (λ j lt. fine j (omega arith)) rest))

  all_fine : position is_bad titles ≡ None → (j : ℕ) → j < n → is_bad (get_or titles j []) ≡ false
  all_fine none j lt =
      let count = p.count in
      let far = ltb-false _ _ (not_less (nat_lt (position_or_len is_bad titles) (length titles)) (position_or_len is_bad titles) none) in
      fails_before_first is_bad titles j [] (omega (arith, far, cut_count ps (piece_in b (titles_at h) ps), count))
    where
      not_less : (u : Bool) (i : ℕ) → cond u (Some i) None ≡ None → u ≡ false
      not_less false i e = refl
      not_less true i e = absurd cc

  none_bad : (o : Option ℕ) → option_map (λ i. titles_at h + get_or ps i 0) o ≡ None → o ≡ None
  none_bad None e = refl
  none_bad (Some i) e = absurd cc

  pub piece_passed : tried 9 (bad_title_in (titles_at h) ps (piece_in b (titles_at h) ps)) ≡ None → RestOfTitles b h os from → RestOfTitles b h os (from + n)
  unfolding bad_title_in
  piece_passed fine rest = passed_some n (omega arith) (all_fine (none_bad (position is_bad titles) (tried_none 9 _ fine))) rest

  refused_at : (o : Option ℕ) (e : OpenFault) → position is_bad titles ≡ o → RestOfTitles b h os from
      → Refuses (tried 9 (option_map (λ i. titles_at h + get_or ps i 0) o)) e → Refuses (tried 9 (bad_title b)) e
  refused_at None e same rest refused = refuses_at None (tried 9 (bad_title b)) e (λ x s. absurd cc) refused
  refused_at (Some i) e same rest refused =
      let found = position-Some is_bad titles i [] same in
      let count = p.count in
      let offsets = ruled.count in
      let within = p.within in
      let few : i < n = omega (arith, found.0, cut_count ps (piece_in b (titles_at h) ps), count) in
      let known : from + i < h.docs = omega (arith, offsets, within, few) in
      let place : titles_at h + get_or ps i 0 ≡ titles_at h + get_or os (from + i) 0 = ap (λ (x : ℕ). titles_at h + x) (p.each i (omega (arith, few))) in
      let text : is_utf8 (title_at b h os (from + i)) ≡ false =
      ap is_utf8 (sym (title_lies_in b h os ps from n i (all_onward h os ruled) p few)) ∙ yes_not _ found.1 in
      title_refused b h os (from + i) (titles_at h + get_or os (from + i) 0) e is (title_told b h os (from + i) is at ruled known) refl
      (passed_some i (omega (arith, few)) found.2 rest)
      (subst (λ (u : Bool). Refuses (tried 9 (unless u (titles_at h + get_or os (from + i) 0))) e) (sym text)
      (subst (λ (x : ℕ). Refuses (tried 9 (Some x)) e) place refused))

  pub piece_refused : (e : OpenFault) → RestOfTitles b h os from → Refuses (tried 9 (bad_title_in (titles_at h) ps (piece_in b (titles_at h) ps))) e
      → Refuses (tried 9 (bad_title b)) e
  unfolding bad_title_in
  piece_refused e rest refused = refused_at (position is_bad titles) e refl rest refused

-- ---- the bytes of the titles
pub piece_bytes : (b : List ℕ) (first : ℕ) (os ps : List ℕ) (from n : ℕ) → AreOnwardOffsets os → IsPiece os ps from n → AreBytes b first (get_or os from 0)
    → AreBytes b (first + first_offset ps) (last_offset ps - first_offset ps) → AreBytes b first (get_or os (from + n) 0)
piece_bytes b first os ps from n all p before here =
    let within = p.within in
    let up = all.each from (from + n) (omega arith) within in
    let lo = piece_first os ps from n p in
    let hi = piece_last os ps from n p in
    let size = last_offset ps - first_offset ps in
    let sum : get_or os from 0 + size ≡ get_or os (from + n) 0 = omega (arith, lo, hi, up) in
    bytes_at b first first (get_or os from 0 + size) (get_or os (from + n) 0) refl sum
    (more_bytes b first (get_or os from 0) size before
    (bytes_at b (first + first_offset ps) (first + get_or os from 0) size size (ap (λ (x : ℕ). first + x) lo) refl here))
