-- The words of a run, one after the other.
use Rattle.std.proofs.Common.{◌≡◌, ◌<◌, ◌≤◌, ◌+◌, ◌-◌, ℕ, zero, suc, List, [], ◌∷◌, ◌++◌, Bool, map, length, take, drop, get_or, min, refl, sym, ap, ◌∙◌, arith, append_assoc}
use Rattle.std.specs.List.{enumerate_from, join_with_byte, range_with_len}
use Rattle.std.proofs.lemmas.List.{get_or-drop, get_or-map, get_or-take, length-drop, length-take}
use Rattle.std.proofs.lemmas.List.FromFn.{fill_by_all, get_or-enumerate_from, length-enumerate_from, map-range_with_len_more}
use Rattle.std.proofs.lemmas.List.FromFn.{length-range_with_len}
use Rattle.cs_base.specs.content.Bytes.{space}
use Rattle.cs_model_excerpts.specs.declared.limits.TheConstants.{MAX_EXCERPT_WORDS}
use Rattle.cs_model_excerpts.proofs.PartMarks.{mapped-length}
use Rattle.cs_model_excerpts.specs.Excerpts.{run_text, bracketed}

-- the shown word at a place
abbrev pub piece : List (List ℕ) → List (List Bool) → ℕ → ℕ → List ℕ
piece ws marks a i = bracketed marks (a + i, get_or ws (a + i) [])

-- the first n shown words of a run that begins at a, joined
abbrev pub joined : List (List ℕ) → List (List Bool) → ℕ → ℕ → List ℕ
joined ws marks a n = join_with_byte space (map (piece ws marks a) (range_with_len 0 n))

join-push : (xs : List (List ℕ)) (x : List ℕ) → 0 < length xs → join_with_byte space (xs ++ x ∷ []) ≡ join_with_byte space xs ++ (space ∷ x)
join-push [] x l = absurd (omega arith)
join-push (y ∷ []) x l = refl
join-push (y ∷ z ∷ xs) x l = ap (λ r. y ++ (space ∷ r)) (join-push (z ∷ xs) x (omega arith)) ∙ sym (append_assoc y (space ∷ join_with_byte space (z ∷ xs)) (space ∷ x))

-- one word more
pub joined_more : (ws : List (List ℕ)) (marks : List (List Bool)) (a place : ℕ) (old new : List ℕ) → a < place → old ≡ joined ws marks a (place - a) → new ≡ (old ++ (space ∷ [])) ++ bracketed marks (place, get_or ws place []) → new ≡ joined ws marks a (place + 1 - a)
joined_more ws marks a place old new l o e =
    let n = place - a in
    let there : a + n ≡ place = omega (arith, l) in
    let count : place + 1 - a ≡ n + 1 = omega (arith, l) in
    let some : 0 < length (map (piece ws marks a) (range_with_len 0 n)) = omega (arith, l, mapped-length (piece ws marks a) (range_with_len 0 n), length-range_with_len 0 n) in
    e ∙ append_assoc old (space ∷ []) (bracketed marks (place, get_or ws place []))
    ∙ ap (λ x. x ++ (space ∷ bracketed marks (place, get_or ws place []))) o
    ∙ ap (λ p. joined ws marks a n ++ (space ∷ bracketed marks (p, get_or ws p []))) (sym there)
    ∙ sym (join-push (map (piece ws marks a) (range_with_len 0 n)) (piece ws marks a n) some)
    ∙ ap (join_with_byte space) (sym (map-range_with_len_more (piece ws marks a) 0 n n (omega arith)))
    ∙ ap (joined ws marks a) (sym count)

pub joined_one : (ws : List (List ℕ)) (marks : List (List Bool)) (a : ℕ) (new : List ℕ) → new ≡ [] ++ bracketed marks (a, get_or ws a []) → new ≡ joined ws marks a (a + 1 - a)
joined_one ws marks a new e =
    let one : a + 1 - a ≡ 1 = omega arith in
    let same : a + 0 ≡ a = omega arith in
    e ∙ ap (λ p. bracketed marks (p, get_or ws p [])) (sym same) ∙ ap (joined ws marks a) (sym one)

-- all words that are shown
pub joined_all : (ws : List (List ℕ)) (marks : List (List Bool)) (a b end : ℕ) (text : List ℕ) → a ≤ b → b < length ws → end ≡ min (b + 1) (a + MAX_EXCERPT_WORDS) → text ≡ joined ws marks a (end - a) → text ≡ run_text ws marks (a, b)
joined_all ws marks a b end text l m e t =
    let xs = drop a (enumerate_from 0 ws) in
    let left : length xs ≡ length ws - a = length-drop a (enumerate_from 0 ws) ∙ ap (λ n. n - a) (length-enumerate_from 0 ws) in
    let ys = take MAX_EXCERPT_WORDS (take (suc b - a) xs) in
    let n = end - a in
    let size : length ys ≡ n = omega (arith, length-take MAX_EXCERPT_WORDS (take (suc b - a) xs), length-take (suc b - a) xs, left, l, m, e) in
    let shown = map (bracketed marks) ys in
    let long : length shown ≡ n = mapped-length (bracketed marks) ys ∙ size in
    let d : ℕ × List ℕ = (0, []) in
    let at : (k : ℕ) → k < n → get_or shown k [] ≡ piece ws marks a k =
    λ k kn.
    let here : k < length ys = omega (arith, kn, size) in
    let first : k < MAX_EXCERPT_WORDS = omega (arith, kn, e) in
    let second : k < suc b - a = omega (arith, kn, e, l) in
    let third : a + k < length ws = omega (arith, second, m) in
    get_or-map (bracketed marks) ys k d [] here
    ∙ ap (bracketed marks) (get_or-take MAX_EXCERPT_WORDS (take (suc b - a) xs) k d first ∙ get_or-take (suc b - a) xs k d second ∙ get_or-drop a (enumerate_from 0 ws) k d ∙ get_or-enumerate_from 0 ws (a + k) d third)
    ∙ zero_on (λ p. bracketed marks (p, get_or ws (a + k) [])) (a + k) in
    t ∙ ap (join_with_byte space) (sym (fill_by_all (piece ws marks a) shown n [] long at))
  where
    zero_on : {X : Type 0} (f : ℕ → X) (n : ℕ) → f (0 + n) ≡ f n
    zero_on f n = let same : 0 + n ≡ n = omega arith in ap f same

pub at_any : {X : Type 0} (xs : List X) (i : ℕ) (x d : X) → i < length xs → x ≡ get_or xs i x → x ≡ get_or xs i d
at_any [] i x d l e = absurd (omega arith)
at_any (y ∷ xs) zero x d l e = e
at_any (y ∷ xs) (suc i) x d l e = at_any xs i x d (omega (arith, l)) e
