-- The words of a vocabulary, cut one behind the other.
--
--   front_at, front_end   where the word at a place ends, by its length byte
--   HasCut                what is known behind the first words
--   cutting, cuts_on, cut_short, cut_over, cut_all      its steps
use Rattle.std.proofs.Common.{◌≡◌, ℕ, zero, suc, ◌+◌, ◌-◌, ◌<◌, ◌≤◌, ◌&&◌, Bool, true, false, cond, List, [], ◌∷◌, ◌++◌, length, get_or, take, drop, Option}
use Rattle.std.proofs.Common.{Some, None, refl, sym, ap, ◌∙◌, arith, length-drop, drop-drop}
use Rattle.std.specs.Prelude.{nat_le}
use Rattle.std.specs.Option.{option_map}
use Rattle.std.proofs.lemmas.List.{append-nil, append_assoc}
use Rattle.std.proofs.lemmas.Option.{none-some}
use Rattle.cs_base.specs.declared.content.limits.TheConstants.{MAX_WORD_BYTES}
use Rattle.cs_model_index.specs.FileRules.{is_length, words_break}
use Rattle.cs_model_index.specs.Sections.{vocabulary_at, vocabulary_in}
use Rattle.cs_file.specs.Opening.{front_word}

-- ---- one word
front_here : (xs : List ℕ) (at : ℕ) → at < length xs
    → front_word (drop at xs) ≡ cond (nat_le 1 (get_or xs at 0)
    && (nat_le (get_or xs at 0) MAX_WORD_BYTES && nat_le (get_or xs at 0) (length (drop (suc at) xs)))) (Some (1 + get_or xs at 0)) None
unfolding front_word
front_here [] at lt = absurd (omega arith)
front_here (x ∷ xs) zero lt = refl
front_here (x ∷ xs) (suc at) lt = front_here xs at (omega arith)

front_past : (xs : List ℕ) (at : ℕ) → length xs ≤ at → front_word (drop at xs) ≡ None
unfolding front_word
front_past [] zero le = refl
front_past [] (suc at) le = refl
front_past (x ∷ xs) zero le = absurd (omega arith)
front_past (x ∷ xs) (suc at) le = front_past xs at (omega arith)

pub front_at : (xs : List ℕ) (at : ℕ) → at < length xs
    → front_word (drop at xs) ≡ cond (nat_le 1 (get_or xs at 0) && (nat_le (get_or xs at 0) MAX_WORD_BYTES && nat_le (get_or xs at 0) (length xs - at - 1)))
    (Some (1 + get_or xs at 0)) None
front_at xs at lt =
    let len : length (drop (suc at) xs) ≡ length xs - at - 1 = omega (arith, length-drop (suc at) xs) in
    front_here xs at lt ∙ ap (λ (n : ℕ). cond (nat_le 1 (get_or xs at 0) && (nat_le (get_or xs at 0) MAX_WORD_BYTES && nat_le (get_or xs at 0) n))
    (Some (1 + get_or xs at 0)) None) len

pub front_end : (xs : List ℕ) (at : ℕ) → length xs ≤ at → front_word (drop at xs) ≡ None
front_end xs at le = front_past xs at le

-- ---- the steps
-- a word at the front, and how the bytes are read on behind it
record Front (k at : ℕ) (xs : List ℕ) (n : ℕ) : Type 0 where
  broken : words_break (suc k) at xs ≡ words_break k (at + n) (drop n xs)
  word : vocabulary_in (suc k) xs ≡ take (n - 1) (drop 1 xs) ∷ vocabulary_in k (drop n xs)

front_reads : (k at : ℕ) (xs : List ℕ) (n : ℕ) → front_word xs ≡ Some n → Front k at xs n
unfolding front_word words_break vocabulary_in
front_reads k at [] n e = absurd cc
front_reads k at (x ∷ xs) n e =
    elim (is_length x xs) as (λ b. is_length x xs ≡ b → cond b (Some (1 + x)) None ≡ Some n → Front k at (x ∷ xs) n) [
      | true ↦ λ t s.
          let is : 1 + x ≡ n = cc in
          let next : at + 1 + x ≡ at + n = omega (arith, is) in
          let less : x ≡ n - 1 = omega (arith, is) in
          let one : suc x ≡ n = omega (arith, is) in
          let rest : drop x xs ≡ drop n (x ∷ xs) = ap (λ (m : ℕ). drop m (x ∷ xs)) one in
          record {
            broken = ap (λ (b : Bool). cond b (words_break k (at + 1 + x) (drop x xs)) (Some at)) t ∙ ap (λ (m : ℕ). words_break k m (drop x xs)) next
                ∙ ap (words_break k (at + n)) rest;
            word = ap (λ (m : ℕ). take m xs ∷ vocabulary_in k (drop x xs)) less ∙ ap (λ (y : List ℕ). take (n - 1) xs ∷ vocabulary_in k y) rest;
          }
      | false ↦ λ t s. absurd (none-some n s)
    ] refl e

front_breaks : (k at : ℕ) (xs : List ℕ) → front_word xs ≡ None → words_break (suc k) at xs ≡ Some at
unfolding front_word words_break
front_breaks k at [] e = refl
front_breaks k at (x ∷ xs) e =
    elim (is_length x xs) as (λ b. cond b (Some (1 + x)) None ≡ None → cond b (words_break k (at + 1 + x) (drop x xs)) (Some at) ≡ Some at) [
      | true ↦ λ s. absurd (none-some (1 + x) (sym s))
      | false ↦ λ s. refl
    ] e

over_breaks : (at : ℕ) (xs : List ℕ) → 0 < length xs → words_break zero at xs ≡ Some at
unfolding words_break
over_breaks at [] lt = absurd (omega arith)
over_breaks at (x ∷ xs) lt = refl

none_break : (at : ℕ) (xs : List ℕ) → length xs ≡ 0 → words_break zero at xs ≡ None
unfolding words_break
none_break at [] e = refl
none_break at (x ∷ xs) e = absurd (omega arith)

no_words : (xs : List ℕ) → vocabulary_in zero xs ≡ []
unfolding vocabulary_in
no_words xs = refl

-- ---- the loop
-- behind the first words, `done` of `count`, the rest of the bytes begins at `at`
pub record HasCut (bytes : List ℕ) (count done at : ℕ) (words : List (List ℕ)) : Type 0 where
  pub told : words_break (count - done) (vocabulary_at + at) (drop at bytes) ≡ words_break count vocabulary_at bytes
  pub words_are : words ++ vocabulary_in (count - done) (drop at bytes) ≡ vocabulary_in count bytes
  pub within : at ≤ length bytes

pub cutting : (bytes : List ℕ) (count : ℕ) (words : List (List ℕ)) → words ≡ [] → HasCut bytes count 0 0 words
cutting bytes count words none =
    let all : count - 0 ≡ count = omega arith in
    record {
      told = ap (λ (n : ℕ). words_break n vocabulary_at bytes) all;
      words_are = ap (λ (n : ℕ). words ++ vocabulary_in n bytes) all ∙ ap (λ (x : List (List ℕ)). x ++ vocabulary_in count bytes) none;
      within = omega arith;
    }

-- the next word ends where the code says
here : (at end : ℕ) (o : Option ℕ) → Some end ≡ option_map (λ n. at + n) o → (n : ℕ) × (o ≡ Some n) × (end ≡ at + n)
here at end None e = absurd (none-some end (sym e))
here at end (Some n) e = (n, refl, cc)

pub cuts_on : (bytes : List ℕ) (count done at end : ℕ) (words now : List (List ℕ)) → done < count
    → Some end ≡ option_map (λ n. at + n) (front_word (drop at bytes)) → at + 2 ≤ end → end ≤ length bytes
    → now ≡ words ++ take (end - (at + 1)) (drop (at + 1) bytes) ∷ [] → HasCut bytes count done at words → HasCut bytes count (done + 1) end now
cuts_on bytes count done at end words now lt e far within added h =
    let p = here at end (front_word (drop at bytes)) e in
    let n = p.0 in
    let end_is : end ≡ at + n = p.2 in
    let left : count - done ≡ suc (count - (done + 1)) = omega arith in
    let f = front_reads (count - (done + 1)) (vocabulary_at + at) (drop at bytes) n p.1 in
    let there : drop n (drop at bytes) ≡ drop end bytes = drop-drop n at bytes ∙ ap (λ (m : ℕ). drop m bytes) (sym end_is) in
    let place : vocabulary_at + at + n ≡ vocabulary_at + end = omega (arith, end_is) in
    let size : n - 1 ≡ end - (at + 1) = omega (arith, end_is) in
    let rest = vocabulary_in (count - (done + 1)) (drop end bytes) in
    let last = take (end - (at + 1)) (drop (at + 1) bytes) in
    let joined : now ++ rest ≡ words ++ last ∷ rest = ap (λ (x : List (List ℕ)). x ++ rest) added ∙ append_assoc words (last ∷ []) rest in
    let word : take (n - 1) (drop 1 (drop at bytes)) ≡ take (end - (at + 1)) (drop (at + 1) bytes) = ap (λ (m : ℕ). take m (drop 1 (drop at bytes))) size
    ∙ ap (take (end - (at + 1))) (drop-drop 1 at bytes) in
    record {
      told = ap (λ (m : ℕ). words_break (count - (done + 1)) m (drop end bytes)) (sym place)
          ∙ ap (words_break (count - (done + 1)) (vocabulary_at + at + n)) (sym there) ∙ sym f.broken
          ∙ ap (λ (k : ℕ). words_break k (vocabulary_at + at) (drop at bytes)) (sym left) ∙ h.told;
      words_are = joined ∙ ap (λ (w : List ℕ). words ++ w ∷ rest) (sym word)
          ∙ ap (λ (x : List ℕ). words ++ take (n - 1) (drop 1 (drop at bytes)) ∷ vocabulary_in (count - (done + 1)) x) (sym there)
          ∙ ap (λ (x : List (List ℕ)). words ++ x) (sym f.word) ∙ ap (λ (k : ℕ). words ++ vocabulary_in k (drop at bytes)) (sym left) ∙ h.words_are;
      within = within;
    }

none_here : (at : ℕ) (o : Option ℕ) → None ≡ option_map (λ n. at + n) o → o ≡ None
none_here at None e = refl
none_here at (Some n) e = absurd (none-some (at + n) e)

pub cut_short : (bytes : List ℕ) (count done at : ℕ) (words : List (List ℕ)) → done < count → None ≡ option_map (λ n. at + n) (front_word (drop at bytes))
    → HasCut bytes count done at words → words_break count vocabulary_at bytes ≡ Some (vocabulary_at + at)
cut_short bytes count done at words lt e h =
    let left : count - done ≡ suc (count - (done + 1)) = omega arith in
    sym h.told ∙ ap (λ (k : ℕ). words_break k (vocabulary_at + at) (drop at bytes)) left
    ∙ front_breaks (count - (done + 1)) (vocabulary_at + at) (drop at bytes) (none_here at (front_word (drop at bytes)) e)

pub cut_over : (bytes : List ℕ) (count done at : ℕ) (words : List (List ℕ)) → count ≤ done → at < length bytes → HasCut bytes count done at words
    → words_break count vocabulary_at bytes ≡ Some (vocabulary_at + at)
cut_over bytes count done at words le lt h =
    let left : count - done ≡ 0 = omega arith in
    sym h.told ∙ ap (λ (k : ℕ). words_break k (vocabulary_at + at) (drop at bytes)) left
    ∙ over_breaks (vocabulary_at + at) (drop at bytes) (omega (arith, length-drop at bytes))

pub cut_all : (bytes : List ℕ) (count done at : ℕ) (words : List (List ℕ)) → count ≤ done → length bytes ≤ at → HasCut bytes count done at words
    → (words_break count vocabulary_at bytes ≡ None) × (words ≡ vocabulary_in count bytes)
cut_all bytes count done at words le past h =
    let left : count - done ≡ 0 = omega arith in (
      sym h.told ∙ ap (λ (k : ℕ). words_break k (vocabulary_at + at) (drop at bytes)) left
          ∙ none_break (vocabulary_at + at) (drop at bytes) (omega (arith, length-drop at bytes)),
      sym (sym h.words_are ∙ ap (λ (k : ℕ). words ++ vocabulary_in k (drop at bytes)) left
          ∙ ap (λ (x : List (List ℕ)). words ++ x) (no_words (drop at bytes)) ∙ append-nil words),
    )
