-- Words that are the same, shown by their first and last bytes.
--
--   EachFits xs               each of xs is a byte
--   ends_cover                lists of one length that have the same first and the same last c elements are the same, where these are all of them
--   four_alike, eight_alike   bytes that make one number are the same
--   ends_tell                 where the first bytes make one number, those of the last tell whether words are the same
use Rattle.std.proofs.Common.{◌≡◌, ℕ, ◌+◌, ◌-◌, ◌≤◌, Bool, nat_eq, List, ◌++◌, length, get_or, take, drop, Fits, w8, w32, w64, refl, sym, ap, ap₂, ◌∙◌, arith, rules, length-take, length-drop}
use Rattle.std.specs.Bool.{Decides}
use Rattle.std.specs.Int.{from_le_bytes, to_le_bytes}
use Rattle.std.specs.Str.{bytes_eq}
use Rattle.std.proofs.lemmas.Bool.Decides.{Decides-eqb}
use Rattle.std.proofs.lemmas.List.{take-append-drop, take_all, drop-drop, places}
use Rattle.std.proofs.lemmas.Nat.{le_bytes_4, le_bytes_8}
use Rattle.std.proofs.lemmas.Slice.Eq.{bytes_eq-Decides}

-- behind the last there is 0
abbrev EachFits : List ℕ → Type 0
EachFits xs = (i : ℕ) → Fits w8 (get_or xs i 0)

EachFits-part : (xs : List ℕ) (c at : ℕ) → EachFits xs → EachFits (take c (drop at xs))
EachFits-part xs c at fits i = let there : Fits w8 (get_or xs (at + i) 0) = fits (at + i) in grind (arith, places)

length_of_part : (xs : List ℕ) (c at : ℕ) → at + c ≤ length xs → length (take c (drop at xs)) ≡ c
length_of_part xs c at within = omega (arith, length-take c (drop at xs), length-drop at xs)

four_alike : (xs ys : List ℕ) → length xs ≡ 4 → length ys ≡ 4 → EachFits xs → EachFits ys → from_le_bytes w32 xs ≡ from_le_bytes w32 ys → xs ≡ ys
four_alike xs ys m n p q same = sym (le_bytes_4 xs _ m (λ i. omega (arith, p i)) refl) ∙ ap (to_le_bytes w32) same ∙ le_bytes_4 ys _ n (λ i. omega (arith, q i)) refl

eight_alike : (xs ys : List ℕ) → length xs ≡ 8 → length ys ≡ 8 → EachFits xs → EachFits ys → from_le_bytes w64 xs ≡ from_le_bytes w64 ys → xs ≡ ys
eight_alike xs ys m n p q same = sym (le_bytes_8 xs _ m (λ i. omega (arith, p i)) refl) ∙ ap (to_le_bytes w64) same ∙ le_bytes_8 ys _ n (λ i. omega (arith, q i)) refl

-- what stands behind the first c stands in the last c
behind_ends : (xs : List ℕ) (c : ℕ) → c ≤ length xs → length xs ≤ c + c → drop c xs ≡ drop (c + c - length xs) (take c (drop (length xs - c) xs))
behind_ends xs c long short =
    let whole : take c (drop (length xs - c) xs) ≡ drop (length xs - c) xs = take_all c _ (omega (arith, length-drop (length xs - c) xs)) in
    let meets : length xs - c + (c + c - length xs) ≡ c = omega arith in
    sym (ap (λ ys. drop (c + c - length xs) ys) whole ∙ drop-drop (c + c - length xs) (length xs - c) xs ∙ ap (λ k. drop k xs) meets)

bytes_tell : (xs ys : List ℕ) (r : Bool) → Decides r (xs ≡ ys) → r ≡ bytes_eq xs ys
bytes_tell xs ys r h = search (rules, bytes_eq-Decides)

module _ (a b : List ℕ) (c : ℕ) (as_long : length a ≡ length b) (long : c ≤ length a) (short : length a ≤ c + c) where
  ends_cover : take c a ≡ take c b → take c (drop (length a - c) a) ≡ take c (drop (length a - c) b) → a ≡ b
  ends_cover first last =
      sym (take-append-drop c a)
      ∙ ap₂ (λ x y. x ++ y) first (behind_ends a c long short ∙ rest ∙ sym (behind_ends b c (omega arith) (omega arith)))
      ∙ take-append-drop c b
    where
      rest : drop (c + c - length a) (take c (drop (length a - c) a)) ≡ drop (c + c - length b) (take c (drop (length b - c) b))
      rest = ap (λ ys. drop (c + c - length a) ys) last ∙ ap (λ n. drop (c + c - n) (take c (drop (n - c) b))) as_long

  module _ (number : List ℕ → ℕ) (alike : (xs ys : List ℕ) → length xs ≡ c → length ys ≡ c → EachFits xs → EachFits ys → number xs ≡ number ys → xs ≡ ys) (p : EachFits a) (q : EachFits b) where
    part_alike : (at : ℕ) → at + c ≤ length a → number (take c (drop at a)) ≡ number (take c (drop at b)) → take c (drop at a) ≡ take c (drop at b)
    part_alike at within same = alike _ _ (length_of_part a c at within) (length_of_part b c at (omega arith)) (EachFits-part a c at p) (EachFits-part b c at q) same

    ends_tell : (m n : ℕ) → number (take c a) ≡ number (take c b) → m ≡ number (take c (drop (length a - c) a)) → n ≡ number (take c (drop (length a - c) b)) → nat_eq m n ≡ bytes_eq a b
    ends_tell m n first m_is n_is = bytes_tell a b (nat_eq m n) (
      (λ same. ends_cover (part_alike 0 (omega arith) first) (part_alike (length a - c) (omega arith) (sym m_is ∙ (Decides-eqb m n).0 same ∙ n_is))),
      (λ same. (Decides-eqb m n).1 (m_is ∙ ap (λ xs. number (take c (drop (length a - c) xs))) same ∙ sym n_is)),
    )

-- words of 4 to 8 bytes, m and n made of the last four
pub fours_tell : (a b : List ℕ) → EachFits a → EachFits b → length a ≡ length b → 4 ≤ length a → length a ≤ 8 → (m n : ℕ)
    → from_le_bytes w32 (take 4 a) ≡ from_le_bytes w32 (take 4 b) → m ≡ from_le_bytes w32 (take 4 (drop (length a - 4) a)) → n ≡ from_le_bytes w32 (take 4 (drop (length a - 4) b))
    → nat_eq m n ≡ bytes_eq a b
fours_tell a b p q as_long long short = ends_tell a b 4 as_long long short (from_le_bytes w32) four_alike p q

-- words of 8 to 16 bytes, m and n made of the last eight
pub eights_tell : (a b : List ℕ) → EachFits a → EachFits b → length a ≡ length b → 8 ≤ length a → length a ≤ 16 → (m n : ℕ)
    → from_le_bytes w64 (take 8 a) ≡ from_le_bytes w64 (take 8 b) → m ≡ from_le_bytes w64 (take 8 (drop (length a - 8) a)) → n ≡ from_le_bytes w64 (take 8 (drop (length a - 8) b))
    → nat_eq m n ≡ bytes_eq a b
eights_tell a b p q as_long long short = ends_tell a b 8 as_long long short (from_le_bytes w64) eight_alike p q
