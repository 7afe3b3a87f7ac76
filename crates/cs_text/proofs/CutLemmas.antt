-- The longest prefix of whole characters, by the last place where a text may be cut.
use Rattle.std.proofs.Common.{◌≡◌, ℕ, ◌+◌, ◌-◌, ◌<◌, ◌≤◌, Bool, true, false, nat_le, List, [], ◌∷◌, ◌++◌, length, take, drop, refl, sym, ap, subst, ◌∙◌, arith, encode_utf8_all, append_assoc, take-append-drop, length-append, ⊎_elim}
use Rattle.std.specs.Char.{encode_utf8, len_utf8}
use Rattle.std.specs.Str.{chars, IsUtf8, IsCharBoundary, all_scalars}
use Rattle.std.proofs.Math.Seq.{take-nil, take-append-add}
use Rattle.std.proofs.lemmas.Bool.{cases_lt, and_parts}
use Rattle.std.proofs.lemmas.Bool.Decides.{nat_tests}
use Rattle.std.proofs.lemmas.List.{get_or-append-add, length-take-le}
use Rattle.std.proofs.lemmas.Str.{encode_same, encodes-chars, length-encode, len_utf8_bounds, scalars-chars, IsUtf8-take, IsCharBoundary-at_seam}
use Rattle.cs_base.specs.declared.content.limits.TheConstants.{MAX_PLAIN_WORD_BYTES}
use Rattle.cs_model.specs.Words.{fitting, cut, is_filled}

-- ---- a place behind a prefix

boundary-behind : (xs ys : List ℕ) (k : ℕ) → IsCharBoundary (xs ++ ys) (length xs + k) → IsCharBoundary ys k
boundary-behind xs ys k h = (
  omega (arith, length-append xs ys, h.0),
  λ l m. rw (get_or-append-add xs ys k 0) at (h.1 (omega (arith, length-append xs ys)) (rw (get_or-append-add xs ys k 0) m)),
)

boundary-before : (xs ys : List ℕ) (k : ℕ) → IsCharBoundary ys k → IsCharBoundary (xs ++ ys) (length xs + k)
boundary-before xs ys k h = (
  omega (arith, length-append xs ys, h.0),
  λ l m. rw (get_or-append-add xs ys k 0) (h.1 (omega (arith, length-append xs ys)) (rw (get_or-append-add xs ys k 0) at m)),
)

-- no place inside a text's first character
first_past : (c : ℕ) (rest : List ℕ) (k : ℕ) (es : List ℕ) → k ≤ length (encode_utf8 c ++ rest) → k < len_utf8 c → encode_utf8_all es ≡ take k (encode_utf8 c ++ rest) → take k (encode_utf8 c ++ rest) ≡ []
first_past c rest k [] w l e = sym e
first_past c rest k (d ∷ es) w l e =
    let bs = encode_utf8 c ++ rest in
    let whole : encode_utf8 d ++ (encode_utf8_all es ++ drop k bs) ≡ encode_utf8 c ++ rest =
    sym (append_assoc (encode_utf8 d) (encode_utf8_all es) (drop k bs)) ∙ ap (λ v. v ++ drop k bs) e ∙ take-append-drop k bs in
    let same = (encode_same d c (encode_utf8_all es ++ drop k bs) rest whole).0 in
    let long : length (encode_utf8_all (d ∷ es)) ≡ len_utf8 d + length (encode_utf8_all es) = length-append (encode_utf8 d) (encode_utf8_all es) ∙ ap (λ n. n + length (encode_utf8_all es)) (length-encode d) in
    absurd (omega (arith, long, ap length e, length-take-le k bs w, ap len_utf8 same))

-- k is the last place, at most `room` bytes in, where the characters' bytes may be cut
record IsLastCut (room : ℕ) (cs : List ℕ) (k : ℕ) : Type 0 where
  within : k ≤ room
  place : IsCharBoundary (encode_utf8_all cs) k
  last : (i : ℕ) → k < i → i ≤ room → IsCharBoundary (encode_utf8_all cs) i → ⊥

fits_at : (room c : ℕ) (cs : List ℕ) (k : ℕ) → nat_le (len_utf8 c) room ≡ true → all_scalars cs ≡ true → IsLastCut room (c ∷ cs) k
    → ((j : ℕ) → IsLastCut (room - len_utf8 c) cs j → take j (encode_utf8_all cs) ≡ encode_utf8_all (fitting (room - len_utf8 c) cs))
    → take k (encode_utf8_all (c ∷ cs)) ≡ encode_utf8_all (fitting room (c ∷ cs))
fits_at room c cs k is scalars h more =
    let one : length (encode_utf8 c) ≡ len_utf8 c = length-encode c in
    let fits : len_utf8 c ≤ room = grind (arith, nat_tests) in
    let seam : IsCharBoundary (encode_utf8_all (c ∷ cs)) (length (encode_utf8 c)) = IsCharBoundary-at_seam (encode_utf8_all (c ∷ cs)) (encode_utf8 c) (encode_utf8_all cs) refl (cs, (scalars, refl)) in
    let past : length (encode_utf8 c) ≤ k = ⊎_elim (λ l. absurd (h.last (length (encode_utf8 c)) l (omega (arith, one, fits)) seam)) (λ l. l) (cases_lt k (length (encode_utf8 c))) in
    let j : ℕ = k - length (encode_utf8 c) in
    let at : k ≡ length (encode_utf8 c) + j = omega (arith, past) in
    let tail : IsLastCut (room - len_utf8 c) cs j = record {
      within = omega (arith, h.within, one, at);
      place = boundary-behind (encode_utf8 c) (encode_utf8_all cs) j (subst (IsCharBoundary (encode_utf8_all (c ∷ cs))) at h.place);
      last = λ i l m b. h.last (length (encode_utf8 c) + i) (omega (arith, at, l)) (omega (arith, m, one, fits)) (boundary-before (encode_utf8 c) (encode_utf8_all cs) i b);
    } in
    let left : fitting room (c ∷ cs) ≡ c ∷ fitting (room - len_utf8 c) cs = rw is in
    ap (λ n. take n (encode_utf8 c ++ encode_utf8_all cs)) at ∙ take-append-add (encode_utf8 c) (encode_utf8_all cs) j
    ∙ ap (λ v. encode_utf8 c ++ v) (more j tail) ∙ ap encode_utf8_all (sym left)

past_at : (room c : ℕ) (cs : List ℕ) (k : ℕ) → nat_le (len_utf8 c) room ≡ false → all_scalars (c ∷ cs) ≡ true → IsLastCut room (c ∷ cs) k
    → take k (encode_utf8_all (c ∷ cs)) ≡ encode_utf8_all (fitting room (c ∷ cs))
past_at room c cs k is scalars h =
    let past : room < len_utf8 c = grind (arith, nat_tests) in
    let front = IsUtf8-take (encode_utf8_all (c ∷ cs)) k (c ∷ cs, (scalars, refl)) h.place in
    let none : fitting room (c ∷ cs) ≡ [] = rw is in
    first_past c (encode_utf8_all cs) k front.0 h.place.0 (omega (arith, h.within, past)) front.1.1 ∙ ap encode_utf8_all (sym none)

turn : (b : Bool) (room c : ℕ) (cs : List ℕ) (k : ℕ) → nat_le (len_utf8 c) room ≡ b → all_scalars (c ∷ cs) ≡ true → IsLastCut room (c ∷ cs) k
    → ((j : ℕ) → IsLastCut (room - len_utf8 c) cs j → take j (encode_utf8_all cs) ≡ encode_utf8_all (fitting (room - len_utf8 c) cs))
    → take k (encode_utf8_all (c ∷ cs)) ≡ encode_utf8_all (fitting room (c ∷ cs))
turn true room c cs k is scalars h more = fits_at room c cs k is (and_parts _ (all_scalars cs) scalars).1 h more
turn false room c cs k is scalars h more = past_at room c cs k is scalars h

fitting-last_cut : (room : ℕ) (cs : List ℕ) (k : ℕ) → all_scalars cs ≡ true → IsLastCut room cs k → take k (encode_utf8_all cs) ≡ encode_utf8_all (fitting room cs)
fitting-last_cut room [] k scalars h = take-nil k
fitting-last_cut room (c ∷ cs) k scalars h =
    turn (nat_le (len_utf8 c) room) room c cs k refl scalars h (λ j m. fitting-last_cut (room - len_utf8 c) cs j (and_parts _ (all_scalars cs) scalars).1 m)

-- a text up to its last place at most MAX_PLAIN_WORD_BYTES bytes in
pub cut-last_place : (bs : List ℕ) (k : ℕ) → IsUtf8 bs → k ≤ MAX_PLAIN_WORD_BYTES → IsCharBoundary bs k → ((i : ℕ) → k < i → i ≤ MAX_PLAIN_WORD_BYTES → IsCharBoundary bs i → ⊥) → take k bs ≡ cut (chars bs)
unfolding cut
cut-last_place bs k u w p l =
    let same : encode_utf8_all (chars bs) ≡ bs = encodes-chars bs u in
    let h : IsLastCut MAX_PLAIN_WORD_BYTES (chars bs) k = record {
      within = w;
      place = subst (λ v. IsCharBoundary v k) (sym same) p;
      last = λ i a b d. l i a b (subst (λ v. IsCharBoundary v i) same d);
    } in
    ap (take k) (sym same) ∙ fitting-last_cut MAX_PLAIN_WORD_BYTES (chars bs) k (scalars-chars bs u) h

-- ---- a run has a word

pub cut-some : (cs : List ℕ) → is_filled cs ≡ true → 1 ≤ length (cut cs)
unfolding cut
cut-some [] h = (cc)
cut-some (c ∷ cs) h =
    let bounds = len_utf8_bounds c in
    let fits : nat_le (len_utf8 c) MAX_PLAIN_WORD_BYTES ≡ true = grind (arith, nat_tests, bounds) in
    let left : fitting MAX_PLAIN_WORD_BYTES (c ∷ cs) ≡ c ∷ fitting (MAX_PLAIN_WORD_BYTES - len_utf8 c) cs = rw fits in
    let long : length (encode_utf8_all (c ∷ fitting (MAX_PLAIN_WORD_BYTES - len_utf8 c) cs)) ≡ len_utf8 c + length (encode_utf8_all (fitting (MAX_PLAIN_WORD_BYTES - len_utf8 c) cs)) =
    length-append (encode_utf8 c) _ ∙ ap (λ n. n + length (encode_utf8_all (fitting (MAX_PLAIN_WORD_BYTES - len_utf8 c) cs))) (length-encode c) in
    omega (arith, ap (λ ds. length (encode_utf8_all ds)) left, long, bounds)

some_from_bytes : (cs : List ℕ) → 1 ≤ length (encode_utf8_all cs) → is_filled cs ≡ true
some_from_bytes [] h = absurd (omega (arith, h))
some_from_bytes (c ∷ cs) h = grind (arith, nat_tests)

-- the characters of a text that has bytes are some, and of one that has none, none
pub some_chars : (bs : List ℕ) → IsUtf8 bs → 1 ≤ length bs → is_filled (chars bs) ≡ true
some_chars bs u h = some_from_bytes (chars bs) (subst (λ v. 1 ≤ length v) (sym (encodes-chars bs u)) h)
