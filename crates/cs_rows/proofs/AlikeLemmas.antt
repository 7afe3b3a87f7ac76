-- Tables depend on the members of posts alone, in whatever order and however often they come.
--
--   any_filter       a test on what a filter leaves
--   table_alike      posts with the same members have the same table
use Rattle.std.proofs.Common.{◌≡◌, ℕ, ◌==◌, ◌&&◌, ◌||◌, Bool, true, false, List, [], ◌∷◌, map, length, cond, refl, sym, ◌∙◌, ap}
use Rattle.std.specs.Prelude.{filter}
use Rattle.std.specs.List.{list_any}
use Rattle.std.specs.Ordering.{nat_cmp, eq_by_cmp}
use Rattle.std.specs.Cmp.{nat_cmp_total}
use Rattle.std.specs.FinMap.{nat_cmp-IsAntisymmetric}
use Rattle.cs_base.specs.content.Members.{members_in}
use Rattle.cs_base.specs.content.Orders.{by_rank}
use Rattle.cs_base.specs.declared.content.doc.Post.{Post}
use Rattle.cs_base.specs.declared.content.doc.Scored.{Scored}
use Rattle.cs_base.proofs.MembersLemmas.{members-alike}
use Rattle.cs_tables.specs.TableListings.{completion, with_word, post_table}
use Rattle.cs_tables.specs.Marks.{counted_word, post_words}
use Rattle.cs_tables.proofs.TablesLemmas.{table-is}

pub any_filter : {X : Type 0} (t p : X → Bool) (xs : List X) → list_any t (filter p xs) ≡ list_any (λ x. p x && t x) xs
any_filter t p [] = refl
any_filter t p (x ∷ xs) =
    elim (p x) as (λ b. list_any t (cond b (x ∷ filter p xs) (filter p xs)) ≡ ((b && t x) || list_any (λ x. p x && t x) xs)) [
      | true ↦ ap (λ b. t x || b) (any_filter t p xs)
      | false ↦ any_filter t p xs
    ]

any_map : {X Y : Type 0} (t : Y → Bool) (f : X → Y) (xs : List X) → list_any t (map f xs) ≡ list_any (λ x. t (f x)) xs
any_map t f [] = refl
any_map t f (x ∷ xs) = ap (λ b. t (f x) || b) (any_map t f xs)

map_same : {X : Type 0} (f g : ℕ → X) → ((w : ℕ) → f w ≡ g w) → (ws : List ℕ) → map f ws ≡ map g ws
map_same f g h [] = refl
map_same f g h (w ∷ ws) = ap (λ x. x ∷ map f ws) (h w) ∙ ap (λ l. g w ∷ l) (map_same f g h ws)

module _ (xs ys : List Post) (alike : (t : Post → Bool) → list_any t xs ≡ list_any t ys) where
  filter_alike : (p : Post → Bool) (t : Post → Bool) → list_any t (filter p xs) ≡ list_any t (filter p ys)
  filter_alike p t = any_filter t p xs ∙ alike (λ x. p x && t x) ∙ sym (any_filter t p ys)

  members_alike : (f : Post → ℕ) → members_in nat_cmp (map f xs) ≡ members_in nat_cmp (map f ys)
  members_alike f =
      members-alike nat_cmp nat_cmp_total nat_cmp-IsAntisymmetric (map f xs) (map f ys)
      (λ q. any_map (eq_by_cmp nat_cmp q) f xs ∙ alike (λ p. eq_by_cmp nat_cmp q (f p)) ∙ sym (any_map (eq_by_cmp nat_cmp q) f ys))

counted_alike : (xs ys : List Post) → ((t : Post → Bool) → list_any t xs ≡ list_any t ys)
    → map (counted_word xs) (post_words xs) ≡ map (counted_word ys) (post_words ys)
counted_alike xs ys alike =
    map_same (counted_word xs) (counted_word ys)
    (λ w. ap (λ ds. let s : Scored = record { doc = w; score = length ds } in s)
    (members_alike (with_word w xs) (with_word w ys) (filter_alike xs ys alike (λ p. p.word == w)) (λ p. p.doc))) (post_words xs)
    ∙ ap (map (counted_word ys)) (members_alike xs ys alike (λ p. p.word))

pub table_alike : (xs ys : List Post) → ((t : Post → Bool) → list_any t xs ≡ list_any t ys) → post_table xs ≡ post_table ys
table_alike xs ys alike = sym (table-is xs) ∙ ap (λ c. map completion (members_in by_rank c)) (counted_alike xs ys alike) ∙ table-is ys
