-- Groups that are put down in a list, each row in the place of the current group or behind it.
--
--   put_down      one more row
--   first_small   a list of small scores with a small one in front
--   groups_ended  the last group ends with the rows
use Rattle.std.proofs.Common.{◌≡◌, ℕ, zero, suc, All, ◌+◌, ◌<◌, ◌≤◌, max, true, false, cond, List, [], ◌∷◌, ◌++◌, ◌==◌, not, map, length, get_or, set, drop, take, append_assoc, refl, ◌∙◌, ap, arith}
use Rattle.std.specs.Int.{from_bool}
use Rattle.std.proofs.lemmas.Bool.{eqb-true}
use Rattle.std.proofs.lemmas.List.{take_more, take-set-le}
use Rattle.cs_base.specs.content.Orders.{docs_of, AreSorted}
use Rattle.cs_base.specs.declared.content.doc.Post.{Post}
use Rattle.cs_base.specs.declared.content.doc.Scored.{Scored}
use Rattle.cs_base.specs.declared.content.scores.TheConstants.{MAX_ROW_SCORE}
use Rattle.cs_rank.specs.Groups.{scored_row, group, groups, with_greater}
use Rattle.cs_rank.specs.DocScores.{best_row}
use Rattle.cs_rank.proofs.GroupsLemmas.{ended}

module _ (best : List Scored) (last n : ℕ) (current next : Scored) (room : last + 1 < length best) (held : (d : Scored) → get_or best last d ≡ current) (rest : List Scored) where
  abbrev greater : Scored
  greater = record { doc = next.doc; score = max current.score next.score }

  same_group : next.doc == current.doc ≡ true → n ≡ 0 → take (last + n) (set best (last + n) greater) ++ group greater rest ≡ take last best ++ group (record { doc = current.doc; score = max current.score next.score }) rest
  same_group e none =
      let here : last + n ≡ last = omega (arith, none) in
      ap (λ m. take m (set best m greater) ++ group greater rest) here ∙ ap (λ xs. xs ++ group greater rest) (take-set-le last best last greater (omega arith))
      ∙ ap (λ d. let h : Scored = record { doc = d; score = max current.score next.score } in take last best ++ group h rest) (eqb-true next.doc current.doc e)

  next_group : n ≡ 1 → take (last + n) (set best (last + n) next) ++ group next rest ≡ take last best ++ current ∷ group next rest
  next_group one =
      let here : last + n ≡ last + 1 = omega (arith, one) in
      ap (λ m. take m (set best m next) ++ group next rest) here
      ∙ ap (λ xs. xs ++ group next rest) (take-set-le (last + 1) best (last + 1) next (omega arith) ∙ take_more best last current (omega (arith, room)) ∙ ap (λ x. take last best ++ x ∷ []) (held current))
      ∙ append_assoc (take last best) (current ∷ []) (group next rest)

  pub put_down : n ≡ from_bool (not (next.doc == current.doc)) → take (last + n) (set best (last + n) (with_greater current next)) ++ group (with_greater current next) rest ≡ take last best ++ group current (next ∷ rest)
  put_down is =
      elim (next.doc == current.doc) as (λ b. next.doc == current.doc ≡ b → n ≡ from_bool (not b)
      → take (last + n) (set best (last + n) (cond b greater next)) ++ group (cond b greater next) rest ≡ take last best ++ cond b (group (record { doc = current.doc; score = max current.score next.score }) rest) (current ∷ group next rest)) [
        | true ↦ λ e none. same_group e none
        | false ↦ λ e one. next_group one
      ] refl is

pub groups_ended : (rows : List Post) (best now : List Scored) (current : Scored) (last i : ℕ) → AreSorted rows → groups (map scored_row rows) ≡ take last best ++ group current (drop i (map scored_row rows)) → length (map (λ p. p.doc) rows) ≤ i
    → last < length best → ((d : Scored) → get_or best last d ≡ current) → now ≡ take (last + 1) best → now ≡ map (best_row rows) (docs_of rows)
groups_ended rows best now current last i up whole past within held is =
    ended rows (take last best) now current i up whole past (is ∙ take_more best last current within ∙ ap (λ x. take last best ++ x ∷ []) (held current))

pub first_small : (best : List Scored) (s : Scored) → All (λ h. h.score ≤ MAX_ROW_SCORE) best → s.score ≤ MAX_ROW_SCORE → All (λ h. h.score ≤ MAX_ROW_SCORE) (set best 0 s)
first_small [] s all small k d lt = absurd (omega (arith, lt))
first_small (h ∷ best) s all small zero d lt = small
first_small (h ∷ best) s all small (suc k) d lt = all (suc k) d lt
