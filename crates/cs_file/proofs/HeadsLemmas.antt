-- The heads of an opened index: their blocks lie one behind the other, and have all words.
--
--   AreJoined lo hs       blocks whose words go on without a gap from number lo
--   joined_heads          those of an index do, from 0
--   heads_next            a block begins at the word where the one before ends
--   heads_rise            a later block has later words
--   head_filled, head_within     a block has a word, and no words but those of the index
--   head_shaped           a head that goes with so many bytes
--   few_heads             there are no more blocks than words
--   met_between           the blocks between two places where the blocks are parted are those that hold some words
use Rattle.std.proofs.Common.{◌≡◌, ℕ, zero, suc, ◌+◌, ◌<◌, ◌≤◌, ◌&&◌, Bool, true, false, List, [], ◌∷◌, length, get_or, Option, Some, None, refl, sym}
use Rattle.std.proofs.Common.{ap, subst, ◌∙◌, arith, inl, inr}
use Rattle.std.specs.Prelude.{nat_le, nat_lt}
use Rattle.std.specs.List.{list_all}
use Rattle.std.specs.List.Sorted.{IsPartitionedBy, IsPartitionPoint}
use Rattle.std.proofs.lemmas.Bool.{and_parts, leb-true, leb-false, ltb-false, le-leb, le-ltb, lt-leb, lt-ltb, eqb-true, cases_lt}
use Rattle.std.proofs.lemmas.Bool.Decides.{nat_tests}
use Rattle.cs_base.specs.declared.index.block.BlockHead.{BlockHead}
use Rattle.cs_base.specs.declared.content.limits.TheConstants.{MAX_WORDS}
use Rattle.cs_model_index.specs.Blocks.{IsShaped}
use Rattle.cs_model_index.specs.FileRules.{laid, words_end, is_joined, is_sized}
use Rattle.cs_model_index.specs.declared.limits.TheConstants.{ENTRY_BYTES}
use Rattle.cs_model_index.proofs.SectionLemmas.{end_from, end_is}
use Rattle.cs_file.specs.Indexes.{IndexView, IsIndex, AreMet}

-- ---- blocks that lie one behind the other
pub AreJoined : ℕ → List BlockHead → Type 0
AreJoined lo [] = Unit {0}
AreJoined lo (h ∷ hs) = (h.lo ≡ lo) × (1 ≤ h.words) × AreJoined (h.lo + h.words) hs

joined_from : (at : ℕ) (last : Option BlockHead) (hs : List BlockHead) → list_all (λ p. is_joined p.last p.value) (laid (λ h. ENTRY_BYTES) at last hs) ≡ true
    → AreJoined (words_end last) hs
unfolding AreJoined laid
joined_from at last [] e = tt
joined_from at last (h ∷ hs) e =
    let p = and_parts (is_joined last h) (list_all (λ p. is_joined p.last p.value) (laid (λ h. ENTRY_BYTES) (at + ENTRY_BYTES) (Some h) hs)) e in
    let q = and_parts _ _ p.0 in
    (eqb-true _ _ q.0, leb-true _ _ q.1, joined_from (at + ENTRY_BYTES) (Some h) hs p.1)

pub joined_heads : (i : IndexView) → IsIndex i → AreJoined 0 i.heads
joined_heads i is = joined_from 0 None i.heads is.joined

-- a block's first word isn't before the first of all, and its last not behind the last of all
record Stands (lo end : ℕ) (h : BlockHead) : Type 0 where
  from : lo ≤ h.lo
  filled : 1 ≤ h.words
  to : h.lo + h.words ≤ end

ends_later : (lo : ℕ) (hs : List BlockHead) → AreJoined lo hs → lo ≤ end_from lo hs
unfolding AreJoined end_from
ends_later lo [] j = omega arith
ends_later lo (h ∷ hs) j = let rest : h.lo + h.words ≤ end_from (h.lo + h.words) hs = ends_later (h.lo + h.words) hs j.2 in omega (arith, j.0, rest)

stands : (lo : ℕ) (hs : List BlockHead) (k : ℕ) (d : BlockHead) → AreJoined lo hs → k < length hs → Stands lo (end_from lo hs) (get_or hs k d)
unfolding AreJoined end_from
stands lo [] k d j lt = absurd (omega arith)
stands lo (h ∷ hs) zero d j lt = record { from = omega (arith, j.0); filled = j.1; to = ends_later (h.lo + h.words) hs j.2 }
stands lo (h ∷ hs) (suc k) d j lt =
    let rest = stands (h.lo + h.words) hs k d j.2 (omega arith) in
    let from : h.lo + h.words ≤ (get_or hs k d).lo = rest.from in
    record { from = omega (arith, j.0, from); filled = rest.filled; to = rest.to }

next_at : (lo : ℕ) (hs : List BlockHead) (k : ℕ) (d : BlockHead) → AreJoined lo hs → suc k < length hs
    → (get_or hs (suc k) d).lo ≡ (get_or hs k d).lo + (get_or hs k d).words
unfolding AreJoined
next_at lo [] k d j lt = absurd (omega arith)
next_at lo (h ∷ []) k d j lt = absurd (omega arith)
next_at lo (h ∷ g ∷ hs) zero d j lt = j.2.0
next_at lo (h ∷ g ∷ hs) (suc k) d j lt = next_at (h.lo + h.words) (g ∷ hs) k d j.2 (omega arith)

rise_at : (lo : ℕ) (hs : List BlockHead) (k l : ℕ) (d : BlockHead) → AreJoined lo hs → k < l → l < length hs
    → (get_or hs k d).lo + (get_or hs k d).words ≤ (get_or hs l d).lo
unfolding AreJoined
rise_at lo [] k l d j up lt = absurd (omega arith)
rise_at lo (h ∷ hs) k zero d j up lt = absurd (omega arith)
rise_at lo (h ∷ hs) zero (suc l) d j up lt = (stands (h.lo + h.words) hs l d j.2 (omega arith)).from
rise_at lo (h ∷ hs) (suc k) (suc l) d j up lt = rise_at (h.lo + h.words) hs k l d j.2 (omega arith) (omega arith)

-- ---- the heads of an index
pub heads_next : (i : IndexView) → IsIndex i → (k : ℕ) (d : BlockHead) → k + 1 < length i.heads
    → (get_or i.heads (k + 1) d).lo ≡ (get_or i.heads k d).lo + (get_or i.heads k d).words
heads_next i is k d lt =
    let one : k + 1 ≡ suc k = omega arith in
    ap (λ (n : ℕ). (get_or i.heads n d).lo) one ∙ next_at 0 i.heads k d (joined_heads i is) (omega arith)

pub heads_rise : (i : IndexView) → IsIndex i → (k l : ℕ) (d : BlockHead) → k < l → l < length i.heads
    → (get_or i.heads k d).lo + (get_or i.heads k d).words ≤ (get_or i.heads l d).lo
heads_rise i is k l d up lt = rise_at 0 i.heads k l d (joined_heads i is) up lt

pub head_filled : (i : IndexView) → IsIndex i → (k : ℕ) (d : BlockHead) → k < length i.heads → 1 ≤ (get_or i.heads k d).words
head_filled i is k d lt = (stands 0 i.heads k d (joined_heads i is) lt).filled

pub head_within : (i : IndexView) → IsIndex i → (k : ℕ) (d : BlockHead) → k < length i.heads
    → (get_or i.heads k d).lo + (get_or i.heads k d).words ≤ length i.words
head_within i is k d lt =
    let to : (get_or i.heads k d).lo + (get_or i.heads k d).words ≤ end_from 0 i.heads = (stands 0 i.heads k d (joined_heads i is) lt).to in
    let end : end_from 0 i.heads ≡ length i.words = sym (end_is i.heads) ∙ is.end in
    omega (arith, to, end)

sized_at : (hs : List BlockHead) (k : ℕ) (d : BlockHead) → list_all is_sized hs ≡ true → k < length hs → is_sized (get_or hs k d) ≡ true
sized_at [] k d e lt = absurd (omega arith)
sized_at (h ∷ hs) zero d e lt = (and_parts (is_sized h) (list_all is_sized hs) e).0
sized_at (h ∷ hs) (suc k) d e lt = sized_at hs k d (and_parts (is_sized h) (list_all is_sized hs) e).1 (omega arith)

pub head_shaped : (i : IndexView) → IsIndex i → (k : ℕ) (d : BlockHead) → k < length i.heads → IsShaped (get_or i.heads k d) (get_or i.heads k d).len
head_shaped i is k d lt =
    let h = get_or i.heads k d in
    let p = and_parts _ _ (sized_at i.heads k d is.sized lt) in
    let q = and_parts _ _ p.1 in
    let few : length i.words ≤ MAX_WORDS = is.few_words in
    record { size_is = refl; rows = leb-true _ _ p.0; least = leb-true _ _ q.0; most = leb-true _ _ q.1; words = omega (arith, head_within i is k d lt, few) }

filled_by : (lo : ℕ) (hs : List BlockHead) → AreJoined lo hs → lo + length hs ≤ end_from lo hs
unfolding AreJoined end_from
filled_by lo [] j = omega arith
filled_by lo (h ∷ hs) j = let rest : h.lo + h.words + length hs ≤ end_from (h.lo + h.words) hs =
    filled_by (h.lo + h.words) hs j.2 in omega (arith, j.0, j.1, rest)

pub few_heads : (i : IndexView) → IsIndex i → length i.heads ≤ length i.words
few_heads i is =
    let few : length i.heads ≤ end_from 0 i.heads = (let f = filled_by 0 i.heads (joined_heads i is) in omega (arith, f)) in
    let end : end_from 0 i.heads ≡ length i.words = sym (end_is i.heads) ∙ is.end in
    omega (arith, few, end)

-- ---- the blocks that hold some words
ends_parted : (hs : List BlockHead) (lo n : ℕ) → AreJoined lo hs → IsPartitionedBy (λ h. nat_le (h.lo + h.words) n) hs
ends_parted hs lo n j k l d le lt e =
    elim (cases_lt k l) [
      | inl up ↦ let r = rise_at lo hs k l d j up lt in grind (arith, nat_tests)
      | inr ge ↦ let same : l ≡ k = omega arith in subst (λ x. nat_le ((get_or hs x d).lo + (get_or hs x d).words) n ≡ true) same e
    ]

begins_parted : (hs : List BlockHead) (lo n : ℕ) → AreJoined lo hs → IsPartitionedBy (λ h. nat_lt h.lo n) hs
begins_parted hs lo n j k l d le lt e =
    elim (cases_lt k l) [
      | inl up ↦ let r = rise_at lo hs k l d j up lt in grind (arith, nat_tests)
      | inr ge ↦ let same : l ≡ k = omega arith in subst (λ x. nat_lt (get_or hs x d).lo n ≡ true) same e
    ]

pub ends_are_parted : (i : IndexView) → IsIndex i → (n : ℕ) → IsPartitionedBy (λ h. nat_le (h.lo + h.words) n) i.heads
ends_are_parted i is n = ends_parted i.heads 0 n (joined_heads i is)

pub begins_are_parted : (i : IndexView) → IsIndex i → (n : ℕ) → IsPartitionedBy (λ h. nat_lt h.lo n) i.heads
begins_are_parted i is n = begins_parted i.heads 0 n (joined_heads i is)

met_at : (a b : Bool) → (a && (b && true)) ≡ (a && b)
met_at true true = refl
met_at true false = refl
met_at false b = refl

pub met_between : (i : IndexView) → IsIndex i → (lo hi first last : ℕ) → lo < hi → first ≤ length i.heads → last ≤ length i.heads
    → IsPartitionPoint (λ h. nat_le (h.lo + h.words) lo ≡ true) (λ h. nat_le (h.lo + h.words) lo ≡ false) i.heads first
    → IsPartitionPoint (λ h. nat_lt h.lo hi ≡ true) (λ h. nat_lt h.lo hi ≡ false) i.heads last
    → AreMet i.heads lo hi first last
met_between i is lo hi first last some f l ends begins =
    let none : BlockHead = record { lo = 0; words = 0; rows = 0; len = 0; facet = false; least = 0; greatest = 0 } in
    record {
      ordered = elim (cases_lt last first) [
        | inl early ↦
            let a : nat_le ((get_or i.heads last none).lo + (get_or i.heads last none).words) lo ≡ true = ends.0 last none (omega arith) early in
            let b : nat_lt (get_or i.heads last none).lo hi ≡ false = begins.1 last none (omega arith) (omega arith) in
            let c = leb-true _ _ a in
            let d = ltb-false _ _ b in
            absurd (omega (arith, c, d))
        | inr on ↦ on
      ];
      within = l;
      met = λ k d lt.
          let h = get_or i.heads k d in
          let a : nat_lt lo (h.lo + h.words) ≡ nat_le first k = elim (cases_lt k first) [
            | inl before ↦ let e = leb-true _ _ (ends.0 k d (omega arith) before) in le-ltb _ _ e ∙ sym (lt-leb _ _ before)
            | inr from ↦ let e = leb-false _ _ (ends.1 k d from lt) in lt-ltb _ _ e ∙ sym (le-leb _ _ from)
          ] in
          let b : nat_lt h.lo hi ≡ nat_lt k last = elim (cases_lt k last) [
            | inl before ↦ begins.0 k d (omega arith) before ∙ sym (lt-ltb _ _ before)
            | inr from ↦ begins.1 k d from lt ∙ sym (le-ltb _ _ from)
          ] in
          let c : nat_lt lo hi ≡ true = lt-ltb lo hi some in
          rw (a, b, c) (met_at (nat_le first k) (nat_lt k last));
      none = λ same. absurd (omega arith);
    }
