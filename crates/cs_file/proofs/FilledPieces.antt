-- What is known of a slice that is filled piece by piece.
--
--   HasRead told at out done     the first bytes are those that are told from a place on
--   begun, one_more, all_read    it holds at the start, after one more piece, and at the end of all that was wanted
--   piece_len, still_within      the piece's length, and that the place in the slice stays within it
use Rattle.std.proofs.Common.{◌≡◌, ℕ, zero, suc, [], ◌∷◌, ◌+◌, ◌-◌, ◌≤◌, List, ◌++◌, length, take, drop, Option, refl, sym, ap, ◌∙◌, arith, length-take}
use Rattle.std.proofs.Common.{length-drop, length-append, drop-drop}
use Rattle.std.specs.Option.{ForSome}
use Rattle.std.proofs.lemmas.List.{take_all}
use Rattle.std.proofs.lemmas.Slice.{take-put_mid}
use Rattle.cs_base.specs.outside.Outside.{part}
use borrow.Rule.Slice.PartMut.{put_mid, post_of}

abbrev pub HasRead : Option (List ℕ) → ℕ → List ℕ → ℕ → Type 0
HasRead told at out done = ForSome told (λ b. take done out ≡ part b at done)

nothing_left : (m : ℕ) → take {A = ℕ} m [] ≡ []
nothing_left zero = refl
nothing_left (suc m) = refl

-- two pieces, one behind the other
pub two_parts : (n m : ℕ) (xs : List ℕ) → take n xs ++ take m (drop n xs) ≡ take (n + m) xs
two_parts zero m xs = let e : m ≡ zero + m = omega arith in ap (λ (x : ℕ). take x xs) e
two_parts (suc n) m [] = nothing_left m ∙ sym (nothing_left (suc n + m))
two_parts (suc n) m (x ∷ xs) = let e : suc (n + m) ≡ suc n + m = omega arith in ap (λ (ys : List ℕ). x ∷ ys) (two_parts n m xs)
    ∙ ap (λ (k : ℕ). take k (x ∷ xs)) e

pub begun : (told : Option (List ℕ)) (at : ℕ) (out : List ℕ) → HasRead told at out 0
begun told at out = λ b e. refl

pub piece_len : (done m : ℕ) (out : List ℕ) → done ≤ length out → m ≤ length out - done → length (take (done + m - done) (drop done out)) ≡ m
piece_len done m out within fits = omega (arith, length-take (done + m - done) (drop done out), length-drop done out)

piece_read : (told : Option (List ℕ)) (at : ℕ) (out piece : List ℕ) (done m : ℕ) → done ≤ length out → length piece ≡ m
    → ForSome told (λ b. piece ≡ part b (at + done) m) → HasRead told at out done → HasRead told at (put_mid done m out piece) (done + m)
piece_read told at out piece done m within len is h = λ b e.
    take-put_mid done m out piece (done + m) (omega arith) within
    ∙ ap (λ (x : List ℕ). x ++ piece) (h b e)
    ∙ ap (λ (x : List ℕ). take done (drop at b) ++ x) (is b e ∙ ap (take m) (sym (drop-drop done at b)))
    ∙ two_parts done m (drop at b)

at_width : (told : Option (List ℕ)) (at : ℕ) (out piece : List ℕ) (done m k : ℕ) → k ≡ m → HasRead told at (put_mid done m out piece) (done + m)
    → HasRead told at (put_mid done k out piece) (done + m)
at_width told at out piece done m k e h = rw e h

pub one_more : (told now : Option (List ℕ)) (at : ℕ) (out piece : List ℕ) (done m : ℕ) → done ≤ length out → m ≤ length out - done
    → length piece ≡ length (take (done + m - done) (drop done out)) → now ≡ told
    → ForSome now (λ b. piece ≡ part b (at + done) (length (take (done + m - done) (drop done out)))) → HasRead told at out done
    → HasRead told at (put_mid done (done + m - done) out piece) (done + m)
one_more told now at out piece done m within fits len same is h =
    let k : done + m - done ≡ m = omega arith in
    let l = piece_len done m out within fits in
    at_width told at out piece done m (done + m - done) k
    (piece_read told at out piece done m within (len ∙ l) (λ b e. is b (same ∙ e) ∙ ap (part b (at + done)) l) h)

pub still_within : (out piece : List ℕ) (done m k : ℕ) → done ≤ length out → length piece ≡ m → done + m ≤ length (put_mid done k out piece)
still_within out piece done m k within len = omega
    (arith, length-append (take done out) (piece ++ post_of done k out), length-append piece (post_of done k out), length-take done out)

pub all_read : (told : Option (List ℕ)) (at : ℕ) (out : List ℕ) (done len : ℕ) → length out ≡ len → done ≡ len → HasRead told at out done
    → ForSome told (λ b. out ≡ part b at len)
all_read told at out done len e d h = λ b t. sym (take_all done out (omega arith)) ∙ h b t ∙ ap (part b at) d
