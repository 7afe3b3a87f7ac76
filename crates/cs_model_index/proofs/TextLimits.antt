-- Words and titles within the limits keep the rules of their sections.
--
--   placed             what holds of each value holds of each item
--   word_length        a word of a collection's form has from 1 to MAX_WORD_BYTES bytes
--   words_few          so the vocabulary has few bytes
--   words_follow       words that ascend follow each other
--   offsets_within     no offset is behind the end of the titles
--   offsets_onward     offsets of short titles go on
--   offsets_end        the last one is at the end of the titles
use Rattle.std.proofs.Common.{◌≡◌, ℕ, ◌+◌, ◌-◌, ◌*◌, ◌≤◌, ◌&&◌, Bool, true, false, true≢false, cond, List, [], ◌∷◌, length, drop, Option, Some, None, refl, sym, ap, ◌∙◌, arith, length-append, length-take, length-drop}
use Rattle.std.specs.Prelude.{nat_le, chars}
use Rattle.std.specs.List.{AllByRecursion, list_all, slice_get, position_or_len, before_first, after_first}
use Rattle.std.specs.List.Sorted.{IsStrictlySortedBy}
use Rattle.std.specs.Option.{unwrap_or}
use Rattle.std.specs.Ordering.{nat_cmp, is_lt}
use Rattle.std.specs.Cmp.Lexicographic.{slice_cmp}
use Rattle.std.specs.declared.cmp.Ordering.TheVariants.{Less}
use Rattle.std.specs.Str.{is_utf8}
use Rattle.std.proofs.lemmas.Bool.{and_parts, and_from, le-leb, leb-true}
use Rattle.std.proofs.lemmas.Bool.Decides.{nat_tests}
use Rattle.cs_base.specs.declared.content.limits.TheConstants.{MAX_LINE_BYTES, MAX_NAME_BYTES, MAX_PLAIN_WORD_BYTES}
use Rattle.cs_model.specs.Collection.{begins_with_letter, has_name_form, is_name_byte, is_colon}
use Rattle.cs_model.specs.Words.{is_filled, is_word_char}
use Rattle.cs_model_index.specs.FileRules.{laid, last_value, follows, is_named_value, is_onward, is_plain_word, is_value_char, is_word}
use Rattle.cs_model_index.specs.Layout.{offsets_from, title_bytes, vocabulary_bytes}
use Rattle.cs_model_index.specs.Partitions.{is_facet}
use Rattle.cs_model_index.specs.declared.limits.TheConstants.{NUMBER_BYTES}
use Rattle.cs_model_index.proofs.AgainLemmas.{HasLength, offsets_count}

-- ---- items
pub placed : {X : Type 0} (P : X → Type 0) (size : X → ℕ) (at : ℕ) (last : Option X) (xs : List X) → AllByRecursion P xs → AllByRecursion (λ i. P i.value) (laid size at last xs)
unfolding laid
placed P size at last [] h = tt
placed P size at last (x ∷ xs) h = (h.0, placed P size (at + size x) (Some x) xs h.1)

-- ---- words
filled : (w : List ℕ) → is_filled w ≡ true → 1 ≤ length w
filled w h = grind (arith, nat_tests)

plain_length : (w : List ℕ) → is_plain_word w ≡ true → HasLength w
plain_length w h =
    let p = and_parts (is_filled w) (nat_le (length w) MAX_PLAIN_WORD_BYTES && list_all is_word_char (chars w)) h in
    let few : length w ≤ MAX_PLAIN_WORD_BYTES = leb-true _ _ (and_parts (nat_le (length w) MAX_PLAIN_WORD_BYTES) (list_all is_word_char (chars w)) p.1).0 in
    (filled w p.0, omega (arith, few))

value_length : (t : List ℕ) → is_named_value t ≡ true → length t ≤ MAX_NAME_BYTES + 1 + MAX_PLAIN_WORD_BYTES
value_length t h =
    let name = before_first is_colon t in
    let value = after_first is_colon t in
    let p = and_parts (has_name_form name) (is_filled value && (nat_le (length value) MAX_PLAIN_WORD_BYTES && list_all is_value_char (chars value))) h in
    let n = and_parts (list_all is_name_byte name) (nat_le (length name) MAX_NAME_BYTES) (and_parts (begins_with_letter name) (list_all is_name_byte name && nat_le (length name) MAX_NAME_BYTES) p.0).1 in
    let v = and_parts (nat_le (length value) MAX_PLAIN_WORD_BYTES) (list_all is_value_char (chars value)) (and_parts (is_filled value) (nat_le (length value) MAX_PLAIN_WORD_BYTES && list_all is_value_char (chars value)) p.1).1 in
    let a : length name ≤ MAX_NAME_BYTES = leb-true _ _ n.1 in
    let b : length value ≤ MAX_PLAIN_WORD_BYTES = leb-true _ _ v.0 in
    omega (arith, a, b, length-take (position_or_len is_colon t) t, length-drop (position_or_len is_colon t + 1) t)

facet_length : (w : List ℕ) → is_facet w ≡ true → is_named_value (drop 1 w) ≡ true → HasLength w
facet_length [] k h = absurd (true≢false (sym k))
facet_length (x ∷ w) k h = (omega arith, omega (arith, value_length w h))

length_at : (b : Bool) (w : List ℕ) → is_facet w ≡ b → cond b (is_named_value (drop 1 w)) (is_plain_word w) ≡ true → HasLength w
length_at true w k h = facet_length w k h
length_at false w k h = plain_length w h

pub word_length : (w : List ℕ) → is_word w ≡ true → HasLength w
word_length w h = length_at (is_facet w) w refl (and_parts (is_utf8 w) (cond (is_facet w) (is_named_value (drop 1 w)) (is_plain_word w)) h).1

pub words_few : (ws : List (List ℕ)) → AllByRecursion HasLength ws → length (vocabulary_bytes ws) ≤ 139 * length ws
unfolding vocabulary_bytes
words_few [] h = omega arith
words_few (w ∷ ws) h = let rest = words_few ws h.1 in omega (arith, h.0.1, rest, length-append w (vocabulary_bytes ws))

follow_behind : (size : List ℕ → ℕ) (at : ℕ) (v : List ℕ) (ws : List (List ℕ)) → AllByRecursion (λ w. slice_cmp nat_cmp v w ≡ Less) ws → IsStrictlySortedBy (slice_cmp nat_cmp) ws
    → AllByRecursion (λ i. follows i.last i.value ≡ true) (laid size at (Some v) ws)
unfolding laid IsStrictlySortedBy
follow_behind size at v [] h up = tt
follow_behind size at v (w ∷ ws) h up = (ap is_lt h.0, follow_behind size (at + size w) w ws up.0 up.1)

pub words_follow : (size : List ℕ → ℕ) (at : ℕ) (ws : List (List ℕ)) → IsStrictlySortedBy (slice_cmp nat_cmp) ws → AllByRecursion (λ i. follows i.last i.value ≡ true) (laid size at None ws)
unfolding laid IsStrictlySortedBy
words_follow size at [] up = tt
words_follow size at (w ∷ ws) up = (refl, follow_behind size (at + size w) w ws up.0 up.1)

-- ---- offsets
pub offsets_within : (m at : ℕ) (ts : List (List ℕ)) → at + length (title_bytes ts) ≤ m → AllByRecursion (λ n. n ≤ m) (offsets_from at ts)
unfolding offsets_from
offsets_within m at [] h = (omega (arith, h), tt)
offsets_within m at (t ∷ ts) h = let both = length-append t (title_bytes ts) in (omega (arith, h), offsets_within m (at + length t) ts (omega (arith, h, both)))

onward_at : (p o : ℕ) → p ≤ o → o ≤ p + MAX_LINE_BYTES → is_onward (Some p) o ≡ true
onward_at p o l m = and_from (nat_le p o) (nat_le o (p + MAX_LINE_BYTES)) (le-leb p o l) (le-leb o (p + MAX_LINE_BYTES) m)

onward_behind : (place p at : ℕ) (ts : List (List ℕ)) → p ≤ at → at ≤ p + MAX_LINE_BYTES → AllByRecursion (λ t. length t ≤ MAX_LINE_BYTES) ts → AllByRecursion (λ i. is_onward i.last i.value ≡ true) (laid (λ o. NUMBER_BYTES) place (Some p) (offsets_from at ts))
unfolding laid offsets_from
onward_behind place p at [] l m h = (onward_at p at l m, tt)
onward_behind place p at (t ∷ ts) l m h = (onward_at p at l m, onward_behind (place + 4) at (at + length t) ts (omega arith) (omega (arith, h.0)) h.1)

pub offsets_onward : (place : ℕ) (ts : List (List ℕ)) → AllByRecursion (λ t. length t ≤ MAX_LINE_BYTES) ts → AllByRecursion (λ i. is_onward i.last i.value ≡ true) (laid (λ o. NUMBER_BYTES) place None (offsets_from 0 ts))
unfolding laid offsets_from
offsets_onward place [] h = (refl, tt)
offsets_onward place (t ∷ ts) h = (refl, onward_behind (place + 4) 0 (0 + length t) ts (omega arith) (omega (arith, h.0)) h.1)

last_offset : (at : ℕ) (ts : List (List ℕ)) → slice_get (offsets_from at ts) (length ts) ≡ Some (at + length (title_bytes ts))
unfolding offsets_from
last_offset at [] = let here : at ≡ at + 0 = omega arith in ap (λ (n : ℕ). Some n) here
last_offset at (t ∷ ts) =
    let sum : at + length t + length (title_bytes ts) ≡ at + length (title_bytes (t ∷ ts)) = omega (arith, length-append t (title_bytes ts)) in
    last_offset (at + length t) ts ∙ ap (λ (n : ℕ). Some n) sum

pub offsets_end : (ts : List (List ℕ)) → unwrap_or (last_value (offsets_from 0 ts)) 0 ≡ length (title_bytes ts)
offsets_end ts =
    let less : length (offsets_from 0 ts) - 1 ≡ length ts = omega (arith, offsets_count 0 ts) in
    let none : 0 + length (title_bytes ts) ≡ length (title_bytes ts) = omega arith in
    ap (λ (n : ℕ). unwrap_or (slice_get (offsets_from 0 ts) n) 0) less ∙ ap (λ (x : Option ℕ). unwrap_or x 0) (last_offset 0 ts) ∙ none
