-- Rows that come as numbers, one after the other.
--
--   one_more       the rows of one number more
--   key_counted    which are counted
use Rattle.std.proofs.Common.{◌≡◌, ℕ, ◌+◌, ◌<◌, List, [], ◌∷◌, ◌++◌, length, get_or, take, drop, map, refl, sym, ap, subst, ◌∙◌}
use Rattle.std.proofs.lemmas.List.{map-append, take-append-drop, take_more}
use Rattle.cs_base.specs.declared.content.doc.Post.{Post}
use Rattle.cs_base.specs.declared.content.scores.Weights.{Weights}
use Rattle.cs_tables.specs.WordCounts.{AreCountable, HasCounted, WordCountsView}
use Rattle.cs_tables.proofs.WordCountsLemmas.{front_countable}
use Rattle.cs_rows.specs.Packing.{doc_of_key, post_of_key, word_of_key}

pub one_more : (w : Weights) (keys : List ℕ) (i : ℕ) (row : Post) → i < length keys → row ≡ post_of_key w (get_or keys i 0)
    → map (post_of_key w) (take (i + 1) keys) ≡ map (post_of_key w) (take i keys) ++ row ∷ []
one_more w keys i row l at = ap (map (post_of_key w)) (take_more keys i 0 l) ∙ map-append (post_of_key w) (take i keys) (get_or keys i 0 ∷ [])
    ∙ ap (λ x. map (post_of_key w) (take i keys) ++ x ∷ []) (sym at)

-- a row more is counted, whatever the weights are
pub key_counted : (w : Weights) (keys : List ℕ) (i : ℕ) (old new : WordCountsView) → i < length keys → AreCountable (map (post_of_key w) keys)
    → ((row : Post) → doc_of_key (get_or keys i 0) ≡ row.doc → word_of_key (get_or keys i 0) ≡ row.word → (seen : List Post)
    → AreCountable (seen ++ row ∷ []) → HasCounted seen old → HasCounted (seen ++ row ∷ []) new)
    → HasCounted (map (post_of_key w) (take i keys)) old → HasCounted (map (post_of_key w) (take (i + 1) keys)) new
key_counted w keys i old new l few step h =
    let row = post_of_key w (get_or keys i 0) in
    let front = map (post_of_key w) (take (i + 1) keys) in
    let rest = map (post_of_key w) (drop (i + 1) keys) in
    let one : front ≡ map (post_of_key w) (take i keys) ++ row ∷ [] = one_more w keys i row l refl in
    let whole : front ++ rest ≡ map (post_of_key w) keys = sym (map-append (post_of_key w) (take (i + 1) keys) (drop (i + 1) keys))
    ∙ ap (map (post_of_key w)) (take-append-drop (i + 1) keys) in
    subst (λ rows. HasCounted rows new) (sym one)
    (step row refl refl (map (post_of_key w) (take i keys)) (subst AreCountable one (front_countable front rest (subst AreCountable (sym whole) few))) h)
