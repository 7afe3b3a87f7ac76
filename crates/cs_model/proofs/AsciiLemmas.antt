-- Key texts and words of ASCII text are those of the plain definitions.
use Rattle.std.proofs.Common.{◌≡◌, ℕ, zero, suc, ◌-◌, ◌<◌, Bool, true, false, cond, nat_lt, nat_le, List, [], ◌∷◌, map, filter, take, refl, sym, ap, ◌∙◌, arith, encode_utf8_all}
use Rattle.std.specs.Char.{len_utf8, to_ascii_lowercase}
use Rattle.std.specs.Str.{chars, IsAscii}
use Rattle.std.specs.List.{slice_split, onto_first, AllByRecursion}
use Rattle.std.proofs.Math.Seq.{take-nil}
use Rattle.std.proofs.lemmas.Bool.Decides.{nat_tests}
use Rattle.std.proofs.lemmas.List.Elements.{All-from_recursion}
use Rattle.std.proofs.lemmas.Str.{chars-IsAscii, encodes-IsAscii, len_utf8_ascii}
use Rattle.std.proofs.lemmas.Str.Ascii.{IsAscii-from_all, lowercase_ascii}
use Rattle.cs_base.specs.declared.content.limits.TheConstants.{MAX_PLAIN_WORD_BYTES}
use Rattle.caseless.proofs.CaselessLemmas.{canonical_key-ascii, default_case_fold-ascii, All-chars}
use Rattle.cs_model.specs.KeyText.{norm}
use Rattle.cs_model.specs.Words.{is_word_char, is_gap, is_filled, fitting, cut, words, words_of}
use Rattle.cs_model.specs.Ascii.{ascii_norm, is_ascii_gap, ascii_words}

-- each of them is below U+0080
abbrev pub AllAscii : List ℕ → Type 0
AllAscii = AllByRecursion (λ c. c < 128)

pub AllAscii-from_IsAscii : (bs : List ℕ) → IsAscii bs → AllAscii bs
AllAscii-from_IsAscii [] h = tt
AllAscii-from_IsAscii (b ∷ bs) h = (h 0, AllAscii-from_IsAscii bs (λ i. h (suc i)))

pub IsAscii-from_AllAscii : (bs : List ℕ) → AllAscii bs → IsAscii bs
IsAscii-from_AllAscii bs h = IsAscii-from_all bs (All-from_recursion (λ c. c < 128) bs h)

AllAscii-lower : (cs : List ℕ) → AllAscii cs → AllAscii (map to_ascii_lowercase cs)
AllAscii-lower [] h = tt
AllAscii-lower (c ∷ cs) h = (lowercase_ascii c h.0, AllAscii-lower cs h.1)

pub AllAscii-ascii_norm : (s : List ℕ) → IsAscii s → AllAscii (ascii_norm s)
AllAscii-ascii_norm s h = AllAscii-lower s (AllAscii-from_IsAscii s h)

pub norm-ascii : (s : List ℕ) → IsAscii s → norm s ≡ ascii_norm s
unfolding norm
norm-ascii s h =
    ap encode_utf8_all (canonical_key-ascii (chars s) (All-chars s h) ∙ default_case_fold-ascii (chars s) (All-chars s h) ∙ ap ascii_norm (chars-IsAscii s h))
    ∙ encodes-IsAscii (ascii_norm s) (IsAscii-from_AllAscii (ascii_norm s) (AllAscii-ascii_norm s h))

-- ---- pieces

is_gap-ascii : (c : ℕ) → c < 128 → is_gap c ≡ is_ascii_gap c
unfolding is_word_char
is_gap-ascii c h = let below : nat_lt c 128 ≡ true = grind (arith, nat_tests) in rw below

-- two tests that agree on the elements cut alike
slice_split-same : (p q : ℕ → Bool) → ((c : ℕ) → c < 128 → p c ≡ q c) → (xs : List ℕ) → AllAscii xs → slice_split p xs ≡ slice_split q xs
slice_split-same p q e [] h = refl
slice_split-same p q e (x ∷ xs) h = rw (e x h.0, slice_split-same p q e xs h.1)

AllAscii-onto_first : (x : ℕ) → x < 128 → (ps : List (List ℕ)) → AllByRecursion AllAscii ps → AllByRecursion AllAscii (onto_first x ps)
AllAscii-onto_first x l [] h = ((l, tt), tt)
AllAscii-onto_first x l (p ∷ ps) h = ((l, h.0), h.1)

AllAscii-pieces_at : (b : Bool) (x : ℕ) → x < 128 → (ps : List (List ℕ)) → AllByRecursion AllAscii ps → AllByRecursion AllAscii (cond b ([] ∷ ps) (onto_first x ps))
AllAscii-pieces_at true x l ps h = (tt, h)
AllAscii-pieces_at false x l ps h = AllAscii-onto_first x l ps h

AllAscii-pieces : (p : ℕ → Bool) (xs : List ℕ) → AllAscii xs → AllByRecursion AllAscii (slice_split p xs)
AllAscii-pieces p [] h = (tt, tt)
AllAscii-pieces p (x ∷ xs) h = AllAscii-pieces_at (p x) x h.0 (slice_split p xs) (AllAscii-pieces p xs h.1)

-- ---- cuts

fitting-ascii : (room : ℕ) (xs : List ℕ) → AllAscii xs → fitting room xs ≡ take room xs
fitting-ascii room [] h = sym (take-nil room)
fitting-ascii zero (x ∷ xs) h = let one : len_utf8 x ≡ 1 = len_utf8_ascii x h.0 in let past : nat_le (len_utf8 x) 0 ≡ false = grind (arith, nat_tests) in rw past
fitting-ascii (suc room) (x ∷ xs) h =
    let one : len_utf8 x ≡ 1 = len_utf8_ascii x h.0 in
    let fits : nat_le (len_utf8 x) (suc room) ≡ true = grind (arith, nat_tests) in
    let left : suc room - len_utf8 x ≡ room = omega (arith, one) in
    rw (fits, left) (ap (λ ys. x ∷ ys) (fitting-ascii room xs h.1))

AllAscii-take : (n : ℕ) (xs : List ℕ) → AllAscii xs → AllAscii (take n xs)
AllAscii-take zero xs h = tt
AllAscii-take (suc n) [] h = tt
AllAscii-take (suc n) (x ∷ xs) h = (h.0, AllAscii-take n xs h.1)

pub cut-ascii : (xs : List ℕ) → AllAscii xs → cut xs ≡ take MAX_PLAIN_WORD_BYTES xs
unfolding cut
cut-ascii xs h = ap encode_utf8_all (fitting-ascii MAX_PLAIN_WORD_BYTES xs h) ∙ encodes-IsAscii (take MAX_PLAIN_WORD_BYTES xs) (IsAscii-from_AllAscii (take MAX_PLAIN_WORD_BYTES xs) (AllAscii-take MAX_PLAIN_WORD_BYTES xs h))

cuts-ascii_at : (b : Bool) (p : List ℕ) → AllAscii p → (ps : List (List ℕ)) → map cut (filter is_filled ps) ≡ map (take MAX_PLAIN_WORD_BYTES) (filter is_filled ps)
    → map cut (cond b (p ∷ filter is_filled ps) (filter is_filled ps)) ≡ map (take MAX_PLAIN_WORD_BYTES) (cond b (p ∷ filter is_filled ps) (filter is_filled ps))
cuts-ascii_at true p h ps e = rw (cut-ascii p h, e)
cuts-ascii_at false p h ps e = e

cuts-ascii : (ps : List (List ℕ)) → AllByRecursion AllAscii ps → map cut (filter is_filled ps) ≡ map (take MAX_PLAIN_WORD_BYTES) (filter is_filled ps)
cuts-ascii [] h = refl
cuts-ascii (p ∷ ps) h = cuts-ascii_at (is_filled p) p h.0 ps (cuts-ascii ps h.1)

-- the words of characters that are all ASCII
pub words_of-ascii : (xs : List ℕ) → AllAscii xs → words_of xs ≡ map (take MAX_PLAIN_WORD_BYTES) (filter is_filled (slice_split is_ascii_gap xs))
words_of-ascii xs h =
    ap (λ ps. map cut (filter is_filled ps)) (slice_split-same is_gap is_ascii_gap is_gap-ascii xs h)
    ∙ cuts-ascii (slice_split is_ascii_gap xs) (AllAscii-pieces is_ascii_gap xs h)

pub words-ascii : (s : List ℕ) → IsAscii s → words s ≡ ascii_words s
unfolding words
words-ascii s h =
    let plain : AllAscii (ascii_norm s) = AllAscii-ascii_norm s h in
    ap words_of (ap chars (norm-ascii s h) ∙ chars-IsAscii (ascii_norm s) (IsAscii-from_AllAscii (ascii_norm s) plain))
    ∙ words_of-ascii (ascii_norm s) plain
