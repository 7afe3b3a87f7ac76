-- What several puts of one sink add up to, where some bytes are held between them.
--
--   nothing_put     of no bytes nothing is put
--   held_on         bytes that are held alone
--   all_put         all bytes that are held are put
--   put_on          bytes behind bytes
--   put_all         what was put in the end
--   fails_first     a put that fails leaves some first bytes of what was to come
--   fails_on        what was put before goes in front
--   item_put, item_fails      one more item of a list, and one whose put fails
use Rattle.std.proofs.Common.{◌≡◌, ℕ, suc, ◌+◌, ◌<◌, ◌≤◌, List, [], ◌∷◌, ◌++◌, length, take, drop, get_or, append_assoc, append-nil, drop-cons, refl, sym}
use Rattle.std.proofs.Common.{◌∙◌, ap, subst}
use Rattle.std.specs.Prelude.{Option, Result, Ok, Err, OnOk, OnErr, flat_map}
use Rattle.std.proofs.lemmas.Grind.{flat_map-append}
use Rattle.std.proofs.lemmas.List.{take_all, take_more, take-append-drop}
use Rattle.std.proofs.lemmas.List.Concat.{flat_map-cons}
use Rattle.cs_base.specs.outside.Outside.{Grew, GrewByPrefix}
use Rattle.cs_base.proofs.GrewLemmas.{grew_none, grew_twice, begun, grew_then_begun}
use Rattle.cs_model_index.specs.Layout.{title_bytes}
use Rattle.cs_file.specs.Putting.{HasPut}

pub then_ok : {T E : Type 0} (r : Result T E) (P Q : Type 0) → (P → Q) → OnOk r P → OnOk r Q
then_ok (Ok x) P Q f p = f p
then_ok (Err e) P Q f p = tt

pub then_err : {T E : Type 0} (r : Result T E) (P Q : Type 0) → (P → Q) → OnErr r P → OnErr r Q
then_err (Ok x) P Q f p = tt
then_err (Err e) P Q f p = f p

-- ---- puts
-- a piece is put of what is still to come
module _ (w v u : Option (List ℕ)) (put piece behind rest all : List ℕ) (so_far : Grew w put v) (told : put ++ rest ≡ all) (cut : piece ++ behind ≡ rest) where
  pub piece_told : (put ++ piece) ++ behind ≡ all
  piece_told = append_assoc put piece behind ∙ ap (λ x. put ++ x) cut ∙ told

  pub piece_fails : GrewByPrefix v piece u → GrewByPrefix w all u
  piece_fails g = subst (λ x. GrewByPrefix w x u) told (grew_then_begun w put rest v u so_far (subst (λ x. GrewByPrefix v x u) cut (begun v piece behind u g)))

-- ---- puts of which some bytes are held
module _ (w : Option (List ℕ)) (h : List ℕ) where
  pub nothing_put : HasPut w h [] w h
  nothing_put = record { put = []; grew = grew_none w; told = sym (append-nil h) }

  pub held_on : (b k : List ℕ) → k ≡ h ++ b → HasPut w h b w k
  held_on b k e = record { put = []; grew = grew_none w; told = e }

  pub all_put : (v : Option (List ℕ)) → Grew w h v → HasPut w h [] v []
  all_put v g = record { put = h; grew = g; told = refl }

  pub put_all : (b : List ℕ) (v u : Option (List ℕ)) (k : List ℕ) → HasPut w h b v k → Grew v k u → Grew w (h ++ b) u
  put_all b v u k p g = subst (λ x. Grew w x u) p.told (grew_twice w p.put k v u p.grew g)

  pub put_begun : (b : List ℕ) (v u : Option (List ℕ)) (k : List ℕ) → HasPut w h b v k → GrewByPrefix v k u → GrewByPrefix w (h ++ b) u
  put_begun b v u k p g = subst (λ x. GrewByPrefix w x u) p.told (grew_then_begun w p.put k v u p.grew g)

  pub put_on : (a b : List ℕ) (v u : Option (List ℕ)) (k m : List ℕ) → HasPut w h a v k → HasPut v k b u m → HasPut w h (a ++ b) u m
  put_on a b v u k m p q = record {
    put = p.put ++ q.put;
    grew = grew_twice w p.put q.put v u p.grew q.grew;
    told = append_assoc p.put q.put m ∙ ap (λ x. p.put ++ x) q.told ∙ sym (append_assoc p.put k b) ∙ ap (λ x. x ++ b) p.told ∙ append_assoc h a b;
  }

  pub fails_first : (a b : List ℕ) (u : Option (List ℕ)) → GrewByPrefix w (h ++ a) u → GrewByPrefix w (h ++ (a ++ b)) u
  fails_first a b u g = subst (λ x. GrewByPrefix w x u) (append_assoc h a b) (begun w (h ++ a) b u g)

  -- before anything of it is put
  pub fails_early : (a : List ℕ) (u : Option (List ℕ)) → GrewByPrefix w h u → GrewByPrefix w (h ++ a) u
  fails_early a u g = begun w h a u g

  pub fails_on : (a b : List ℕ) (v u : Option (List ℕ)) (k : List ℕ) → HasPut w h a v k → GrewByPrefix v (k ++ b) u → GrewByPrefix w (h ++ (a ++ b)) u
  fails_on a b v u k p g =
      subst (λ x. GrewByPrefix w x u) (sym (append_assoc p.put k b) ∙ ap (λ x. x ++ b) p.told ∙ append_assoc h a b)
      (grew_then_begun w p.put (k ++ b) v u p.grew g)

  -- without a put at all, as where memory runs out
  pub fails_quietly : (b : List ℕ) → GrewByPrefix w (h ++ b) w
  fails_quietly b = (0, grew_none w)

  -- ---- items of a list
  module _ {X : Type 0} (f : X → List ℕ) (xs : List X) (i : ℕ) (d : X) where
    pub item_put : (v u : Option (List ℕ)) (k m b : List ℕ) → i < length xs → b ≡ f (get_or xs i d) → HasPut w h (flat_map f (take i xs)) v k
        → HasPut v k b u m → HasPut w h (flat_map f (take (i + 1) xs)) u m
    item_put v u k m b l e p other =
        let q : HasPut v k (f (get_or xs i d)) u m = subst (λ x. HasPut v k x u m) e other in
        let one : flat_map f (take (i + 1) xs) ≡ flat_map f (take i xs) ++ f (get_or xs i d) =
        ap (flat_map f) (take_more xs i d l) ∙ flat_map-append f (take i xs) (get_or xs i d ∷ [])
        ∙ ap (λ x. flat_map f (take i xs) ++ x) (flat_map-cons f (get_or xs i d) [] ∙ append-nil (f (get_or xs i d))) in
        subst (λ b. HasPut w h b u m) (sym one) (put_on (flat_map f (take i xs)) (f (get_or xs i d)) v u k m p q)

    pub item_fails : (v u : Option (List ℕ)) (k b : List ℕ) → i < length xs → b ≡ f (get_or xs i d) → HasPut w h (flat_map f (take i xs)) v k
        → GrewByPrefix v (k ++ b) u → GrewByPrefix w (h ++ flat_map f xs) u
    item_fails v u k b l e p fails =
        let g : GrewByPrefix v (k ++ f (get_or xs i d)) u = subst (λ x. GrewByPrefix v (k ++ x) u) e fails in
        let whole : flat_map f (take i xs) ++ (f (get_or xs i d) ++ flat_map f (drop (suc i) xs)) ≡ flat_map f xs =
        ap (λ x. flat_map f (take i xs) ++ flat_map f x) (sym (drop-cons xs i d l)) ∙ sym (flat_map-append f (take i xs) (drop i xs))
        ∙ ap (flat_map f) (take-append-drop i xs) in
        let rest : List ℕ = flat_map f (drop (suc i) xs) in
        let g' : GrewByPrefix v (k ++ (f (get_or xs i d) ++ rest)) u =
        subst (λ x. GrewByPrefix v x u) (append_assoc k (f (get_or xs i d)) rest) (begun v (k ++ f (get_or xs i d)) rest u g) in
        subst (λ b. GrewByPrefix w (h ++ b) u) whole (fails_on (flat_map f (take i xs)) (f (get_or xs i d) ++ rest) v u k p g')

    -- all items were put
    pub items_put : (v : Option (List ℕ)) (k : List ℕ) → length xs ≤ i → HasPut w h (flat_map f (take i xs)) v k → HasPut w h (flat_map f xs) v k
    items_put v k l p = subst (λ ys. HasPut w h (flat_map f ys) v k) (take_all i xs l) p

-- ---- titles, one after the other
titles_joined : (ts : List (List ℕ)) → flat_map (λ t. t) ts ≡ title_bytes ts
titles_joined [] = refl
titles_joined (t ∷ ts) = ap (λ x. t ++ x) (titles_joined ts)

pub as_titles : (ts : List (List ℕ)) (w : Option (List ℕ)) (h : List ℕ) (v : Option (List ℕ)) (k : List ℕ) → HasPut w h (flat_map (λ t. t) ts) v k
    → HasPut w h (title_bytes ts) v k
as_titles ts w h v k p = subst (λ x. HasPut w h x v k) (titles_joined ts) p

pub titles_fail : (ts : List (List ℕ)) (w : Option (List ℕ)) (h : List ℕ) (u : Option (List ℕ)) → GrewByPrefix w (h ++ flat_map (λ t. t) ts) u
    → GrewByPrefix w (h ++ title_bytes ts) u
titles_fail ts w h u g = subst (λ x. GrewByPrefix w (h ++ x) u) (titles_joined ts) g
