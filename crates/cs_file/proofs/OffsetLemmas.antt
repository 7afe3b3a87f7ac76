-- Where titles begin, one after the other.
--
--   offset_more, offsets_all    one offset more, and all of them
--   offset_put, offset_fails    one offset more, and one whose put fails
use Rattle.std.proofs.Common.{◌≡◌, ℕ, ◌+◌, ◌<◌, ◌≤◌, List, [], ◌∷◌, ◌++◌, length, take, drop, get_or, refl, sym, ◌∙◌, ap, subst, arith, length-append}
use Rattle.std.proofs.Common.{take-append-drop}
use Rattle.std.specs.Prelude.{Option, flat_map}
use Rattle.std.proofs.lemmas.Grind.{flat_map-append}
use Rattle.std.proofs.lemmas.List.{take_all, take_more}
use Rattle.cs_base.specs.outside.Outside.{GrewByPrefix}
use Rattle.cs_model_index.specs.Layout.{number_bytes, offsets_from, offset_bytes}
use Rattle.cs_file.specs.Putting.{HasPut}
use Rattle.cs_file.proofs.SinkPuts.{put_on, fails_on, fails_first}

-- the last of some offsets is where their titles end
offsets_on : (at : ℕ) (ts : List (List ℕ)) (t : List ℕ)
    → offsets_from at (ts ++ t ∷ []) ≡ offsets_from at ts ++ (at + length (flat_map (λ t. t) ts) + length t) ∷ []
unfolding offsets_from
offsets_on at [] t = ap (λ (n : ℕ). at ∷ n ∷ []) (omega arith)
offsets_on at (u ∷ ts) t =
    ap (λ x. at ∷ x) (offsets_on (at + length u) ts t
    ∙ ap (λ (n : ℕ). offsets_from (at + length u) ts ++ n ∷ []) (omega (arith, length-append u (flat_map (λ t. t) ts))))

pub offset_more : (ts : List (List ℕ)) (i : ℕ) (d : List ℕ) → i < length ts
    → offsets_from 0 (take (i + 1) ts) ≡ offsets_from 0 (take i ts) ++ (length (flat_map (λ t. t) (take i ts)) + length (get_or ts i d)) ∷ []
offset_more ts i d l =
    ap (offsets_from 0) (take_more ts i d l) ∙ offsets_on 0 (take i ts) (get_or ts i d) ∙ ap (λ (n : ℕ). offsets_from 0 (take i ts) ++ n ∷ []) (omega arith)

pub offsets_all : (ts : List (List ℕ)) (i : ℕ) (os : List ℕ) → length ts ≤ i → os ≡ offsets_from 0 (take i ts) → os ≡ offsets_from 0 ts
offsets_all ts i os l is = is ∙ ap (offsets_from 0) (take_all i ts l)

-- some first offsets stand in front of all
pub offsets_begin : (at : ℕ) (ts us : List (List ℕ)) → (rest : List ℕ) × (offsets_from at (ts ++ us) ≡ offsets_from at ts ++ rest)
unfolding offsets_from
offsets_begin at [] [] = ([], refl)
offsets_begin at [] (u ∷ us) = (offsets_from (at + length u) us, refl)
offsets_begin at (t ∷ ts) us = let r = offsets_begin (at + length t) ts us in (r.0, ap (λ x. at ∷ x) r.1)

number_last : (ns : List ℕ) (n : ℕ) → flat_map number_bytes (ns ++ n ∷ []) ≡ flat_map number_bytes ns ++ number_bytes n
number_last ns n = flat_map-append number_bytes ns (n ∷ [])

pub offsets_first : offsets_from 0 [] ≡ 0 ∷ []
unfolding offsets_from
offsets_first = refl

pub first_number : flat_map number_bytes (offsets_from 0 []) ≡ number_bytes 0
unfolding offsets_from
first_number = refl

pub all_offsets : (ts : List (List ℕ)) (i : ℕ) (w : Option (List ℕ)) (h : List ℕ) (v : Option (List ℕ)) (k : List ℕ) → length ts ≤ i
    → HasPut w h (flat_map number_bytes (offsets_from 0 (take i ts))) v k → HasPut w h (offset_bytes ts) v k
unfolding offset_bytes
all_offsets ts i w h v k l p = subst (λ x. HasPut w h (flat_map number_bytes (offsets_from 0 x)) v k) (take_all i ts l) p

-- the first offset, which is 0, where its put fails
pub first_fails : (w : Option (List ℕ)) (h : List ℕ) (ts : List (List ℕ)) (u : Option (List ℕ)) → GrewByPrefix w (h ++ number_bytes 0) u
    → GrewByPrefix w (h ++ offset_bytes ts) u
unfolding offset_bytes
first_fails w h ts u g =
    let r = offsets_begin 0 [] ts in
    let all : offsets_from 0 ts ≡ (0 ∷ []) ++ r.0 = r.1 ∙ ap (λ x. x ++ r.0) offsets_first in
    subst (λ x. GrewByPrefix w (h ++ x) u) (sym (ap (flat_map number_bytes) all)) (fails_first w h (number_bytes 0) (flat_map number_bytes r.0) u g)

module _ (w : Option (List ℕ)) (h : List ℕ) (ts : List (List ℕ)) (i : ℕ) (d : List ℕ) (v u : Option (List ℕ)) (k : List ℕ) (n : ℕ) (inside : i < length ts)
    (is : n ≡ length (flat_map (λ t. t) (take i ts)) + length (get_or ts i d))
    (so_far : HasPut w h (flat_map number_bytes (offsets_from 0 (take i ts))) v k) where
  one_more : flat_map number_bytes (offsets_from 0 (take (i + 1) ts)) ≡ flat_map number_bytes (offsets_from 0 (take i ts)) ++ number_bytes n
  one_more = ap (flat_map number_bytes) (offset_more ts i d inside ∙ ap (λ (m : ℕ). offsets_from 0 (take i ts) ++ m ∷ []) (sym is))
      ∙ number_last (offsets_from 0 (take i ts)) n

  pub offset_put : (m : List ℕ) → HasPut v k (number_bytes n) u m → HasPut w h (flat_map number_bytes (offsets_from 0 (take (i + 1) ts))) u m
  offset_put m q = subst (λ x. HasPut w h x u m) (sym one_more)
      (put_on w h (flat_map number_bytes (offsets_from 0 (take i ts))) (number_bytes n) v u k m so_far q)

  pub offset_fails : GrewByPrefix v (k ++ number_bytes n) u → GrewByPrefix w (h ++ offset_bytes ts) u
  unfolding offset_bytes
  offset_fails g =
      let r = offsets_begin 0 (take (i + 1) ts) (drop (i + 1) ts) in
      let front : List ℕ = flat_map number_bytes (offsets_from 0 (take (i + 1) ts)) in
      let all : flat_map number_bytes (offsets_from 0 ts) ≡ front ++ flat_map number_bytes r.0 =
      ap (λ x. flat_map number_bytes (offsets_from 0 x)) (sym (take-append-drop (i + 1) ts)) ∙ ap (flat_map number_bytes) r.1
      ∙ flat_map-append number_bytes (offsets_from 0 (take (i + 1) ts)) r.0 in
      let here : GrewByPrefix w (h ++ front) u = subst (λ x. GrewByPrefix w (h ++ x) u) (sym one_more)
      (fails_on w h (flat_map number_bytes (offsets_from 0 (take i ts))) (number_bytes n) v u k so_far g) in
      subst (λ x. GrewByPrefix w (h ++ x) u) (sym all) (fails_first w h front (flat_map number_bytes r.0) u here)
