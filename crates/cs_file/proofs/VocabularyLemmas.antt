-- The vocabulary: rules 5 to 7 of the bytes of its section.
--
--   vocabulary_is, words_are       the stage and the words, by the section's bytes
--   sorted_from            words each of which follows the one before ascend
--   two_none               of two rules neither is broken
--   has_vocabulary, words_count         what the rules say of the words
use Rattle.std.proofs.Common.{◌≡◌, ℕ, ◌+◌, true, true≢false, List, [], ◌∷◌, length, Option, Some, None, refl, sym, ap, ◌∙◌}
use Rattle.std.specs.Prelude.{All}
use Rattle.std.specs.List.{AllByRecursion, list_all}
use Rattle.std.specs.List.Sorted.{IsStrictlySortedBy}
use Rattle.std.specs.Ordering.{nat_cmp, is_lt}
use Rattle.std.specs.declared.cmp.Ordering.{Ordering}
use Rattle.std.specs.declared.cmp.Ordering.TheVariants.{Less, Equal, Greater}
use Rattle.std.specs.Cmp.Lexicographic.{slice_cmp}
use Rattle.std.proofs.lemmas.Bool.{and_parts}
use Rattle.std.proofs.lemmas.Cmp.{nat_list_cmp_total}
use Rattle.std.proofs.lemmas.List.Elements.{All-nil, All-cons}
use Rattle.cs_base.specs.declared.index.block.Broken.{Broken}
use Rattle.cs_base.specs.outside.Outside.{part}
use Rattle.cs_model.specs.First.{first_reason}
use Rattle.cs_model_index.specs.FileRules.{Placed, laid, break_of, tried, is_word, word_size, follows, words_break}
use Rattle.cs_model_index.specs.Layout.{Header, vocabulary_bytes}
use Rattle.cs_model_index.specs.Sections.{header_of, vocabulary_at, vocabulary_in}
use Rattle.cs_model_index.proofs.SectionLemmas.{words_written}
use Rattle.cs_file.specs.Opening.{IsHeaderOf, HasVocabulary, vocabulary_stage, words_judged, file_words}
use Rattle.cs_file.proofs.LaidLemmas.{all_hold}
use Rattle.cs_file.proofs.StagesLemmas.{tried_none}

abbrev items : List (List ℕ) → List (Placed (List ℕ))
items ws = laid word_size vocabulary_at None ws

-- ---- the stage
joined : (o p q : Option Broken) → first_reason (o ∷ p ∷ q ∷ []) ≡ first_reason (o ∷ first_reason (p ∷ q ∷ []) ∷ [])
joined (Some x) p q = refl
joined None (Some y) q = refl
joined None None (Some z) = refl
joined None None None = refl

abbrev stage_by : ℕ → List ℕ → Option Broken
stage_by count bytes = first_reason (tried 5 (words_break count vocabulary_at bytes) ∷ words_judged (vocabulary_in count bytes) ∷ [])

own_stage : (b : List ℕ) → vocabulary_stage b ≡ stage_by (header_of b).words (part b vocabulary_at (header_of b).vocabulary_len)
unfolding vocabulary_stage words_judged
own_stage b =
    let v = part b vocabulary_at (header_of b).vocabulary_len in
    let ws = vocabulary_in (header_of b).words v in
    joined (tried 5 (words_break (header_of b).words vocabulary_at v)) (tried 6 (break_of (λ i. is_word i.value) (items ws)))
    (tried 7 (break_of (λ i. follows i.last i.value) (items ws)))

pub vocabulary_is : (b : List ℕ) (h : Header) (bytes : List ℕ) → IsHeaderOf b h → bytes ≡ part b vocabulary_at h.vocabulary_len
    → vocabulary_stage b ≡ first_reason (tried 5 (words_break h.words vocabulary_at bytes) ∷ words_judged (vocabulary_in h.words bytes) ∷ [])
vocabulary_is b h bytes is at = own_stage b ∙ ap (λ (x : Header). stage_by x.words (part b vocabulary_at x.vocabulary_len)) is.numbers
    ∙ ap (stage_by h.words) (sym at)

own_words : (b : List ℕ) → file_words b ≡ vocabulary_in (header_of b).words (part b vocabulary_at (header_of b).vocabulary_len)
unfolding file_words
own_words b = refl

pub words_are : (b : List ℕ) (h : Header) (bytes : List ℕ) → IsHeaderOf b h → bytes ≡ part b vocabulary_at h.vocabulary_len
    → vocabulary_in h.words bytes ≡ file_words b
words_are b h bytes is at = sym (own_words b ∙ ap (λ (x : Header). vocabulary_in x.words (part b vocabulary_at x.vocabulary_len)) is.numbers
    ∙ ap (vocabulary_in h.words) (sym at))

-- ---- words in order
less_from : (o : Ordering) → is_lt o ≡ true → o ≡ Less
less_from Less e = refl
less_from Equal e = absurd (true≢false (sym e))
less_from Greater e = absurd (true≢false (sym e))

abbrev Ascend : ℕ → Option (List ℕ) → List (List ℕ) → Type 0
Ascend at last ws = list_all (λ i. follows i.last i.value) (laid word_size at last ws) ≡ true

-- all of them are greater than one that the first of them follows
above : (at : ℕ) (v : List ℕ) (ws : List (List ℕ)) (w : List ℕ) → slice_cmp nat_cmp v w ≡ Less → Ascend at (Some w) ws
    → AllByRecursion (λ y. slice_cmp nat_cmp v y ≡ Less) ws
unfolding laid
above at v [] w lt h = tt
above at v (x ∷ ws) w lt h =
    let p = and_parts (follows (Some w) x) (list_all (λ i. follows i.last i.value) (laid word_size (at + word_size x) (Some x) ws)) h in
    let next : slice_cmp nat_cmp v x ≡ Less = nat_list_cmp_total.trans v w x lt (less_from _ p.0) in
    (next, above (at + word_size x) v ws x next p.1)

sorted_behind : (at : ℕ) (v : List ℕ) (ws : List (List ℕ)) → Ascend at (Some v) ws
    → AllByRecursion (λ y. slice_cmp nat_cmp v y ≡ Less) ws × IsStrictlySortedBy (slice_cmp nat_cmp) ws
unfolding laid IsStrictlySortedBy
sorted_behind at v [] h = (tt, tt)
sorted_behind at v (x ∷ ws) h =
    let p = and_parts (follows (Some v) x) (list_all (λ i. follows i.last i.value) (laid word_size (at + word_size x) (Some x) ws)) h in
    let first : slice_cmp nat_cmp v x ≡ Less = less_from _ p.0 in
    let rest = sorted_behind (at + word_size x) x ws p.1 in
    ((first, above (at + word_size x) v ws x first p.1), rest)

pub sorted_from : (at : ℕ) (last : Option (List ℕ)) (ws : List (List ℕ)) → Ascend at last ws → IsStrictlySortedBy (slice_cmp nat_cmp) ws
unfolding laid IsStrictlySortedBy
sorted_from at last [] h = tt
sorted_from at last (x ∷ ws) h =
    let p = and_parts (follows last x) (list_all (λ i. follows i.last i.value) (laid word_size (at + word_size x) (Some x) ws)) h in
    sorted_behind (at + word_size x) x ws p.1

words_hold : (at : ℕ) (last : Option (List ℕ)) (ws : List (List ℕ)) → list_all (λ i. is_word i.value) (laid word_size at last ws) ≡ true
    → All (λ w. is_word w ≡ true) ws
unfolding laid
words_hold at last [] h = All-nil (λ w. is_word w ≡ true)
words_hold at last (x ∷ ws) h =
    let p = and_parts (is_word x) (list_all (λ i. is_word i.value) (laid word_size (at + word_size x) (Some x) ws)) h in
    All-cons (λ w. is_word w ≡ true) x ws p.0 (words_hold (at + word_size x) (Some x) ws p.1)

-- ---- what the rules say
pub two_none : (o p : Option Broken) → first_reason (o ∷ p ∷ []) ≡ None → (o ≡ None) × (p ≡ None)
two_none None None e = (refl, refl)
two_none None (Some x) e = absurd cc
two_none (Some x) p e = absurd cc

pub has_vocabulary : (h : Header) (ws : List (List ℕ)) (bytes : List ℕ) → length bytes ≡ h.vocabulary_len
    → tried 5 (words_break h.words vocabulary_at bytes) ≡ None → ws ≡ vocabulary_in h.words bytes → words_judged ws ≡ None → HasVocabulary h ws
unfolding words_judged
has_vocabulary h ws bytes len stand is judged =
    let read = words_written h.words vocabulary_at bytes (tried_none 5 _ stand) in
    let p = two_none (tried 6 (break_of (λ i. is_word i.value) (items ws))) (tried 7 (break_of (λ i. follows i.last i.value) (items ws))) judged in
    record {
      count = ap length is ∙ read.count;
      len = ap (λ (x : List (List ℕ)). length (vocabulary_bytes x)) is ∙ ap length read.written ∙ len;
      words = words_hold vocabulary_at None ws (all_hold (λ i. is_word i.value) (items ws) (tried_none 6 _ p.0));
      ascending = sorted_from vocabulary_at None ws (all_hold (λ i. follows i.last i.value) (items ws) (tried_none 7 _ p.1));
    }

pub words_count : (h : Header) (ws : List (List ℕ)) (bytes : List ℕ) → tried 5 (words_break h.words vocabulary_at bytes) ≡ None
    → ws ≡ vocabulary_in h.words bytes → length ws ≡ h.words
words_count h ws bytes stand is = ap length is ∙ (words_written h.words vocabulary_at bytes (tried_none 5 _ stand)).count
