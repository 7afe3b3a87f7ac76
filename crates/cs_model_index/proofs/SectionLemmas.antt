-- What is read of each section where its rules hold, written again, gives the section's bytes.
--
--   unbroken         where no item breaks a rule, each keeps it
--   words_written    the vocabulary
--   titles_written   offsets and titles
--   shapes           the heads of blocks go with the blocks' bytes
--   blocks_written   the blocks, by the law that an accepted block is that of the rows read
use Rattle.std.proofs.Common.{◌≡◌, ℕ, zero, suc, ◌+◌, ◌-◌, ◌*◌, ◌<◌, ◌≤◌, ◌^◌, ◌&&◌, Bool, true, false, not, cond, List, [], ◌∷◌, ◌++◌, length, take, drop, Option, Some, None, refl, sym, ap, subst, ◌∙◌, arith, length-take, length-drop, take-append-drop, drop-drop}
use Rattle.std.specs.Prelude.{find, nat_le}
use Rattle.std.specs.List.{AllByRecursion, sum_by, slice_get}
use Rattle.std.specs.Option.{option_map, option_or, unwrap_or}
use Rattle.std.proofs.lemmas.Bool.{and_parts, leb-true, eqb-true}
use Rattle.std.proofs.lemmas.List.{nil_from_length}
use Rattle.std.proofs.lemmas.List.Sums.{sum_by-cons}
use Rattle.cs_base.specs.declared.index.block.BlockHead.{BlockHead}
use Rattle.cs_base.specs.declared.index.block.Broken.{Broken}
use Rattle.cs_base.specs.declared.content.doc.Post.{Post}
use Rattle.cs_base.specs.declared.content.limits.TheConstants.{MAX_WORDS, MAX_WORD_BYTES}
use Rattle.cs_base.specs.declared.content.scores.Weights.{Weights}
use Rattle.cs_model.specs.Weights.{AreWeights}
use Rattle.cs_model_index.proofs.BlockUses.{BlocksAreRead}
use Rattle.cs_model_index.specs.Blocks.{IsShaped}
use Rattle.cs_model_index.specs.BlockRules.{judged, rows_read}
use Rattle.cs_model_index.specs.FileRules.{Placed, laid, last_value, place_of_item, break_of, is_length, words_break, is_onward, words_end, is_joined, is_sized, in_file, blocks_break}
use Rattle.cs_model_index.specs.Layout.{vocabulary_bytes, offsets_from, title_bytes, blocks_bytes}
use Rattle.cs_model_index.specs.Sections.{vocabulary_in, titles_in, blocks_in}
use Rattle.cs_model_index.specs.declared.limits.TheConstants.{NUMBER_BYTES}
use Rattle.cs_model_index.proofs.NumbersLemmas.{IsBytes, IsBytes-take, IsBytes-drop, all_from_bytes}

-- ---- items
guard_none : {A : Type 0} (b : Bool) (o : Option A) (x : A) → cond b o (Some x) ≡ None → (b ≡ true) × (o ≡ None)
guard_none true o x e = (refl, e)
guard_none false o x e = absurd cc

some_none : {A : Type 0} (at : A) → Some at ≡ None → ⊥
some_none at e = cc

found_none : {X : Type 0} (b : Bool) (i : Placed X) (o : Option (Placed X)) → option_map place_of_item (cond (not b) (Some i) o) ≡ None → (b ≡ true) × (option_map place_of_item o ≡ None)
found_none true i o e = (refl, e)
found_none false i o e = absurd cc

pub unbroken : {X : Type 0} (holds : Placed X → Bool) (items : List (Placed X)) → break_of holds items ≡ None → AllByRecursion (λ i. holds i ≡ true) items
unfolding break_of
unbroken holds [] e = tt
unbroken holds (i ∷ items) e =
    let p = found_none (holds i) i (find (λ i. not (holds i)) items) e in
    (p.0, unbroken holds items p.1)

-- ---- the vocabulary
pub record WordsRead (k : ℕ) (bytes : List ℕ) : Type 0 where
  pub count : length (vocabulary_in k bytes) ≡ k
  pub written : vocabulary_bytes (vocabulary_in k bytes) ≡ bytes

pub words_written : (k at : ℕ) (bytes : List ℕ) → words_break k at bytes ≡ None → WordsRead k bytes
unfolding words_break vocabulary_in vocabulary_bytes
words_written zero at [] e = record { count = refl; written = refl }
words_written zero at (b ∷ bytes) e = absurd (some_none at e)
words_written (suc k) at [] e = absurd (some_none at e)
words_written (suc k) at (n ∷ bytes) e =
    let g = guard_none (is_length n bytes) (words_break k (at + 1 + n) (drop n bytes)) at e in
    let p = and_parts (nat_le 1 n) (nat_le n MAX_WORD_BYTES && nat_le n (length bytes)) g.0 in
    let q = and_parts (nat_le n MAX_WORD_BYTES) (nat_le n (length bytes)) p.1 in
    let within : n ≤ length bytes = leb-true n (length bytes) q.1 in
    let rest = words_written k (at + 1 + n) (drop n bytes) g.1 in
    let len : length (take n bytes) ≡ n = omega (arith, within, length-take n bytes) in
    record {
      count = ap suc rest.count;
      written = ap (λ (x : ℕ). x ∷ take n bytes ++ vocabulary_bytes (vocabulary_in k (drop n bytes))) len ∙ ap (λ (x : List ℕ). n ∷ take n bytes ++ x) rest.written ∙ ap (λ (x : List ℕ). n ∷ x) (take-append-drop n bytes);
    }

-- ---- offsets and titles
last_from : ℕ → List ℕ → ℕ
last_from o [] = o
last_from o (p ∷ ps) = last_from p ps

last_got : (o : ℕ) (ps : List ℕ) → slice_get (o ∷ ps) (length ps) ≡ Some (last_from o ps)
unfolding last_from
last_got o [] = refl
last_got o (p ∷ ps) = last_got p ps

last_is : (o : ℕ) (ps : List ℕ) → unwrap_or (last_value (o ∷ ps)) 0 ≡ last_from o ps
last_is o ps =
    let less : length (o ∷ ps) - 1 ≡ length ps = omega arith in
    ap (λ (n : ℕ). unwrap_or (slice_get (o ∷ ps) n) 0) less ∙ ap (λ (x : Option ℕ). unwrap_or x 0) (last_got o ps)

abbrev Onward : ℕ → Option ℕ → List ℕ → Type 0
Onward at last ps = AllByRecursion (λ i. is_onward i.last i.value ≡ true) (laid (λ o. NUMBER_BYTES) at last ps)

not_past : (at o : ℕ) (ps : List ℕ) → Onward at (Some o) ps → o ≤ last_from o ps
unfolding last_from laid
not_past at o [] h = omega arith
not_past at o (p ∷ ps) h =
    let here : o ≤ p = leb-true _ _ (and_parts _ _ h.0).0 in
    let rest : p ≤ last_from p ps = not_past (at + 4) p ps h.1 in
    omega (arith, here, rest)

pub record TitlesRead (o : ℕ) (ps bytes : List ℕ) : Type 0 where
  pub count : length (titles_in (o ∷ ps) bytes) ≡ length ps
  pub offsets : offsets_from o (titles_in (o ∷ ps) bytes) ≡ o ∷ ps
  pub written : title_bytes (titles_in (o ∷ ps) bytes) ≡ drop o bytes

titles_from : (at o : ℕ) (ps bytes : List ℕ) → Onward at (Some o) ps → last_from o ps ≡ length bytes → TitlesRead o ps bytes
unfolding last_from laid offsets_from
titles_from at o [] bytes h end = record { count = refl; offsets = refl; written = sym (nil_from_length (drop o bytes) (omega (arith, end, length-drop o bytes))) }
titles_from at o (p ∷ ps) bytes h end =
    let here : o ≤ p = leb-true _ _ (and_parts _ _ h.0).0 in
    let past : p ≤ last_from p ps = not_past (at + 4) p ps h.1 in
    let rest = titles_from (at + 4) p ps bytes h.1 end in
    let t = take (p - o) (drop o bytes) in
    let len : length t ≡ p - o = omega (arith, here, past, end, length-take (p - o) (drop o bytes), length-drop o bytes) in
    let sum : o + length t ≡ p = omega (arith, here, len) in
    let there : o + (p - o) ≡ p = omega (arith, here) in
    let behind : drop (p - o) (drop o bytes) ≡ drop p bytes = drop-drop (p - o) o bytes ∙ ap (λ (n : ℕ). drop n bytes) there in
    record {
      count = ap suc rest.count;
      offsets = ap (λ (n : ℕ). o ∷ offsets_from n (titles_in (p ∷ ps) bytes)) sum ∙ ap (λ (l : List ℕ). o ∷ l) rest.offsets;
      written = ap (λ (l : List ℕ). t ++ l) (rest.written ∙ sym behind) ∙ take-append-drop (p - o) (drop o bytes);
    }

-- of all offsets, the first of which is 0
pub titles_written : (at : ℕ) (os bytes : List ℕ) → 0 < length os → Onward at None os → unwrap_or (last_value os) 0 ≡ length bytes → (length (titles_in os bytes) + 1 ≡ length os) × (offsets_from 0 (titles_in os bytes) ≡ os) × (title_bytes (titles_in os bytes) ≡ bytes)
unfolding laid
titles_written at [] bytes some h end = absurd (omega (arith, some))
titles_written at (o ∷ ps) bytes some h end =
    let first : o ≡ 0 = eqb-true _ _ h.0 in
    let r = titles_from (at + 4) o ps bytes h.1 (sym (last_is o ps) ∙ end) in (
      omega (arith, r.count),
      ap (λ (n : ℕ). offsets_from n (titles_in (o ∷ ps) bytes)) (sym first) ∙ r.offsets,
      r.written ∙ ap (λ (n : ℕ). drop n bytes) first,
    )

-- ---- the heads
unfoldable pub end_from : ℕ → List BlockHead → ℕ
end_from e [] = e
end_from e (h ∷ hs) = end_from (h.lo + h.words) hs

end_got : (h : BlockHead) (hs : List BlockHead) → words_end (slice_get (h ∷ hs) (length hs)) ≡ end_from (h.lo + h.words) hs
unfolding end_from
end_got h [] = refl
end_got h (g ∷ hs) = end_got g hs

pub end_is : (hs : List BlockHead) → words_end (last_value hs) ≡ end_from 0 hs
unfolding end_from
end_is [] = refl
end_is (h ∷ hs) =
    let less : length (h ∷ hs) - 1 ≡ length hs = omega arith in
    ap (λ (n : ℕ). words_end (slice_get (h ∷ hs) n)) less ∙ end_got h hs

abbrev Joined : ℕ → ℕ → Option BlockHead → List BlockHead → Type 0
Joined e at last hs = AllByRecursion (λ i. is_joined i.last i.value ≡ true) (laid (λ h. e) at last hs)

abbrev Sized : ℕ → ℕ → Option BlockHead → List BlockHead → Type 0
Sized e at last hs = AllByRecursion (λ i. is_sized i.value ≡ true) (laid (λ h. e) at last hs)

pub ends_rise : (e at : ℕ) (last : Option BlockHead) (hs : List BlockHead) → Joined e at last hs → words_end last ≤ end_from (words_end last) hs
unfolding end_from laid
ends_rise e at last [] h = omega arith
ends_rise e at last (g ∷ hs) h =
    let here : g.lo ≡ words_end last = eqb-true _ _ (and_parts _ _ h.0).0 in
    let rest : g.lo + g.words ≤ end_from (g.lo + g.words) hs = ends_rise e (at + e) (Some g) hs h.1 in
    omega (arith, here, rest)

-- heads of so many bytes, one behind the other
unfoldable pub AreShaped : List BlockHead → ℕ → Type 0
AreShaped [] size = size ≡ 0
AreShaped (h ∷ hs) size = IsShaped h h.len × (h.len ≤ size) × AreShaped hs (size - h.len)

pub shapes : (e at : ℕ) (last : Option BlockHead) (hs : List BlockHead) (size : ℕ) → Joined e at last hs → Sized e at last hs → end_from (words_end last) hs ≤ MAX_WORDS → sum_by (λ h. h.len) hs ≡ size → AreShaped hs size
unfolding end_from laid AreShaped
shapes e at last [] size j s end sum = sym sum
shapes e at last (h ∷ hs) size j s end sum =
    let p = and_parts _ _ s.0 in
    let q = and_parts _ _ p.1 in
    let rows : h.words ≤ h.rows = leb-true _ _ p.0 in
    let least : 8 * h.rows ≤ h.len = leb-true _ _ q.0 in
    let most : h.len ≤ 12 * h.rows = leb-true _ _ q.1 in
    let rise : h.lo + h.words ≤ end_from (h.lo + h.words) hs = ends_rise e (at + e) (Some h) hs j.1 in
    let parts = sum_by-cons (λ (h : BlockHead). h.len) h hs in (
      record { size_is = refl; rows = rows; least = least; most = most; words = omega (arith, rise, end) },
      omega (arith, parts, sum),
      shapes e (at + e) (Some h) hs (size - h.len) j.1 s.1 end (omega (arith, parts, sum)),
    )

-- ---- the blocks
pub block_none : (at : ℕ) (o : Option Broken) (p : Option Broken) → option_or (option_map (in_file at) o) p ≡ None → (o ≡ None) × (p ≡ None)
block_none at None p e = (refl, e)
block_none at (Some b) p e = absurd cc

pub blocks_written : BlocksAreRead → (weights : Weights) → AreWeights weights → (docs at : ℕ) (hs : List BlockHead) (bytes : List ℕ) → docs < 2 ^ 32 → IsBytes bytes → AreShaped hs (length bytes) → blocks_break weights docs at hs bytes ≡ None
    → (length (blocks_in hs bytes) ≡ length hs) × (blocks_bytes hs (blocks_in hs bytes) ≡ bytes) × (sum_by (λ block. length block) (blocks_in hs bytes) ≡ sum_by (λ h. h.rows) hs)
unfolding blocks_break blocks_in blocks_bytes AreShaped
blocks_written law weights fine docs at [] bytes few fits shaped e = (refl, sym (nil_from_length bytes shaped), refl)
blocks_written law weights fine docs at (h ∷ hs) bytes few fits shaped e =
    let first = take h.len bytes in
    let p = block_none at (judged weights h docs first) (blocks_break weights docs (at + h.len) hs (drop h.len bytes)) e in
    let within : h.len ≤ length bytes = shaped.1 in
    let len : length first ≡ h.len = omega (arith, within, length-take h.len bytes) in
    let here : IsShaped h (length first) = subst (IsShaped h) (sym len) shaped.0 in
    let block = law weights fine h docs first few (all_from_bytes first (IsBytes-take h.len bytes fits)) here p.0 in
    let left : AreShaped hs (length (drop h.len bytes)) = subst (AreShaped hs) (sym (length-drop h.len bytes)) shaped.2 in
    let rest = blocks_written law weights fine docs (at + h.len) hs (drop h.len bytes) few (IsBytes-drop h.len bytes fits) left p.1 in (
      ap suc rest.0,
      ap (λ (x : List ℕ). x ++ blocks_bytes hs (blocks_in hs (drop h.len bytes))) (sym block.written) ∙ ap (λ (x : List ℕ). first ++ x) rest.1 ∙ take-append-drop h.len bytes,
      sum_by-cons (λ (b : List Post). length b) (rows_read h first) (blocks_in hs (drop h.len bytes)) ∙ ap (λ (n : ℕ). n + sum_by (λ b. length b) (blocks_in hs (drop h.len bytes))) block.count ∙ ap (λ (n : ℕ). h.rows + n) rest.2 ∙ sym (sum_by-cons (λ (h : BlockHead). h.rows) h hs),
    )
