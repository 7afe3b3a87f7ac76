-- The kind of a word, by the place of its second colon.
use Rattle.std.proofs.Common.{◌≡◌, ℕ, ◌+◌, ◌≤◌, true, false, true≢false, cond, List, [], ◌∷◌, length, take, drop, refl, sym, ap, ◌∙◌, arith, add-one}
use Rattle.std.specs.List.{position_or_len}
use Rattle.std.proofs.lemmas.List.{take_all}
use Rattle.cs_model.specs.Collection.{is_colon}
use Rattle.cs_model_index.specs.Partitions.{is_facet, kind_of}

pub some_word : (w : List ℕ) → is_facet w ≡ true → 1 ≤ length w
some_word [] h = absurd (true≢false (sym h))
some_word (b ∷ w) h = omega arith

pub kind_at : (w : List ℕ) (i : ℕ) → is_facet w ≡ true → position_or_len is_colon (drop 1 w) ≡ i → take (i + 1) w ≡ kind_of w
kind_at [] i h e = absurd (true≢false (sym h))
kind_at (b ∷ w) i h e = ap (λ n. take n (b ∷ w)) (add-one i) ∙ ap (λ n. b ∷ take n w) (sym e) ∙ sym (ap (λ x. cond x (b ∷ take (position_or_len is_colon w) w) []) h)

pub kind_whole : (w : List ℕ) → is_facet w ≡ true → position_or_len is_colon (drop 1 w) ≡ length (drop 1 w) → w ≡ kind_of w
kind_whole [] h e = absurd (true≢false (sym h))
kind_whole (b ∷ w) h e = sym (ap (λ x. cond x (b ∷ take (position_or_len is_colon w) w) []) h ∙ ap (λ n. b ∷ take n w) e ∙ ap (λ l. b ∷ l) (take_all (length w) w (omega arith)))

pub kind_none : (w : List ℕ) → is_facet w ≡ false → [] ≡ kind_of w
kind_none [] h = refl
kind_none (b ∷ w) h = sym (ap (λ x. cond x (b ∷ take (position_or_len is_colon w) w) []) h)
