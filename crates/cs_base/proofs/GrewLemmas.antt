-- What several puts of one sink add up to.
--
--   grew_none         of no bytes nothing is put
--   grew_twice        what was put before stands in front
--   grew_begun        what was put whole is put up to its end
--   begun             a put that fails leaves some first bytes of what was to come
--   grew_then_begun   so with what was put before in front
--   on_err            where an answer is an error
--   pieces_begun      pieces that are put one after another, where the put of one fails
use Rattle.std.proofs.Common.{◌≡◌, ℕ, suc, ◌+◌, ◌<◌, List, [], ◌++◌, length, take, append_assoc, append-nil, drop, drop-cons, get_or, refl, sym, ◌∙◌, ap, subst}
use Rattle.std.specs.List.{flat_map}
use Rattle.std.proofs.lemmas.Grind.{flat_map-append}
use Rattle.std.specs.Prelude.{Option, Some, None, Result, Ok, Err, OnErr}
use Rattle.std.specs.Option.{option_map}
use Rattle.std.proofs.Math.Seq.{take-append_seam, take-append-add, take-length}
use Rattle.std.proofs.lemmas.List.{take-append-drop}
use Rattle.cs_base.specs.outside.Outside.{Grew, GrewByPrefix}

pub grew_none : (w : Option (List ℕ)) → Grew w [] w
grew_none None = refl
grew_none (Some w) = ap (λ l. Some l) (sym (append-nil w))

pub grew_twice : (w : Option (List ℕ)) (a b : List ℕ) (v u : Option (List ℕ)) → Grew w a v → Grew v b u → Grew w (a ++ b) u
grew_twice None a b v u h k = k ∙ ap (option_map (λ l. l ++ b)) h
grew_twice (Some w) a b v u h k = k ∙ ap (option_map (λ l. l ++ b)) h ∙ ap (λ l. Some l) (append_assoc w a b)

-- what was added whole was added up to its end
pub grew_begun : (w : Option (List ℕ)) (a : List ℕ) (v : Option (List ℕ)) → Grew w a v → GrewByPrefix w a v
grew_begun w a v h = (length a, h ∙ ap (λ b. option_map (λ l. l ++ b) w) (sym (take-length a)))

-- a put that fails leaves some first bytes of what was to come
pub begun : (w : Option (List ℕ)) (a b : List ℕ) (v : Option (List ℕ)) → GrewByPrefix w a v → GrewByPrefix w (a ++ b) v
begun w a b v h =
    let start : take (length (take h.0 a)) (a ++ b) ≡ take h.0 a =
    ap (λ x. take (length (take h.0 a)) (x ++ b)) (sym (take-append-drop h.0 a))
    ∙ ap (take (length (take h.0 a))) (append_assoc (take h.0 a) (drop h.0 a) b)
    ∙ take-append_seam (take h.0 a) (drop h.0 a ++ b) in
    (length (take h.0 a), h.1 ∙ ap (λ x. option_map (λ l. l ++ x) w) (sym start))

-- what was put before goes in front
pub grew_then_begun : (w : Option (List ℕ)) (a b : List ℕ) (v u : Option (List ℕ)) → Grew w a v → GrewByPrefix v b u → GrewByPrefix w (a ++ b) u
grew_then_begun w a b v u h k =
    (length a + k.0, grew_twice w a (take k.0 b) v u h k.1 ∙ ap (λ x. option_map (λ l. l ++ x) w) (sym (take-append-add a b k.0)))

pub on_err : {T E : Type 0} (r : Result T E) (P : Type 0) → P → OnErr r P
on_err (Ok x) P p = tt
on_err (Err e) P p = p

-- pieces that are put one after another, where the put of one fails
pub pieces_begun : {X : Type 0} (f : X → List ℕ) (ps : List X) (i : ℕ) (d : X) (w v u : Option (List ℕ)) → i < length ps → Grew w (flat_map f (take i ps)) v → GrewByPrefix v (f (get_or ps i d)) u → GrewByPrefix w (flat_map f ps) u
pieces_begun f ps i d w v u l h k =
    let whole : flat_map f (take i ps) ++ (f (get_or ps i d) ++ flat_map f (drop (suc i) ps)) ≡ flat_map f ps =
    ap (λ x. flat_map f (take i ps) ++ flat_map f x) (sym (drop-cons ps i d l)) ∙ sym (flat_map-append f (take i ps) (drop i ps)) ∙ ap (flat_map f) (take-append-drop i ps) in
    subst (λ b. GrewByPrefix w b u) whole
    (grew_then_begun w (flat_map f (take i ps)) (f (get_or ps i d) ++ flat_map f (drop (suc i) ps)) v u h (begun v (f (get_or ps i d)) (flat_map f (drop (suc i) ps)) u k))
