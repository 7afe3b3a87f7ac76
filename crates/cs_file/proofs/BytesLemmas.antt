-- Bytes that were read are below 256, and so are all where each was read.
--
--   bytes_by           what was read into bytes
--   no_bytes, more_bytes, more_front     of no bytes, and of more behind some
--   bytes_at           at the same place by another name
--   all_bytes          of all of them
use Rattle.std.proofs.Common.{◌≡◌, ℕ, ◌+◌, ◌<◌, ◌^◌, List, length, take, drop, refl, sym, ap, subst, arith, drop-drop}
use Rattle.std.specs.Prelude.{All}
use Rattle.std.proofs.lemmas.List.{take_all}
use Rattle.std.proofs.lemmas.List.Elements.{All-nil, All-append}
use Rattle.cs_base.specs.outside.Outside.{part}
use Rattle.cs_file.specs.Opening.{AreBytes}
use Rattle.cs_file.proofs.FilledPieces.{two_parts}

pub bytes_by : (b bytes : List ℕ) (at n : ℕ) → bytes ≡ part b at n → All (λ x. x < 2 ^ 8) bytes → AreBytes b at n
bytes_by b bytes at n is small = subst (λ (x : List ℕ). All (λ y. y < 2 ^ 8) x) is small

pub no_bytes : (b : List ℕ) (at : ℕ) → AreBytes b at 0
no_bytes b at = All-nil (λ y. y < 2 ^ 8)

pub more_bytes : (b : List ℕ) (at n m : ℕ) → AreBytes b at n → AreBytes b (at + n) m → AreBytes b at (n + m)
more_bytes b at n m first rest =
    let behind : part b (at + n) m ≡ take m (drop n (drop at b)) = ap (take m) (sym (drop-drop n at b)) in
    subst (λ (x : List ℕ). All (λ y. y < 2 ^ 8) x) (two_parts n m (drop at b))
    (All-append (λ y. y < 2 ^ 8) (part b at n) (take m (drop n (drop at b))) first (subst (λ (x : List ℕ). All (λ y. y < 2 ^ 8) x) behind rest))

pub bytes_at : (b : List ℕ) (at there n m : ℕ) → at ≡ there → n ≡ m → AreBytes b at n → AreBytes b there m
bytes_at b at there n m p q h = subst (λ (x : ℕ). AreBytes b x m) p (subst (λ (x : ℕ). AreBytes b at x) q h)

pub more_front : (b : List ℕ) (n m : ℕ) → AreBytes b 0 n → AreBytes b n m → AreBytes b 0 (n + m)
more_front b n m first rest = let same : n ≡ 0 + n = omega arith in more_bytes b 0 n m first (bytes_at b n (0 + n) m m same refl rest)

pub all_bytes : (b : List ℕ) (n : ℕ) → length b ≡ n → AreBytes b 0 n → All (λ x. x < 2 ^ 8) b
all_bytes b n len h = subst (λ (x : List ℕ). All (λ y. y < 2 ^ 8) x) (take_all n b (omega (arith, len))) h
