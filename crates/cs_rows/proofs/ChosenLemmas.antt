-- Rows that pass a test, counted one after the other.
--
--   one_counted, none_counted     a row that passes is counted, and one that doesn't isn't
--   next_row, next_counted        of rows that are all chosen each is counted
use Rattle.std.proofs.Common.{◌≡◌, ℕ, ◌+◌, ◌<◌, Bool, true, false, cond, List, [], ◌∷◌, ◌++◌, length, get_or, take, drop, sym, ap, subst, ◌∙◌}
use Rattle.std.proofs.Common.{append-nil}
use Rattle.std.specs.Prelude.{filter}
use Rattle.std.proofs.lemmas.List.{append_assoc, take-append-drop, take_more}
use Rattle.std.proofs.lemmas.List.Elements.{filter-append}
use Rattle.cs_base.specs.declared.content.doc.Post.{Post}
use Rattle.cs_tables.specs.WordCounts.{AreCountable, HasCounted, WordCountsView}
use Rattle.cs_tables.proofs.WordCountsLemmas.{front_countable}

module _ (seen rows : List Post) (i : ℕ) (p : Post) (l : i < length rows) (at : p ≡ get_or rows i p) where
  pub next_row : seen ++ take (i + 1) rows ≡ (seen ++ take i rows) ++ p ∷ []
  next_row = ap (λ x. seen ++ x) (take_more rows i p l ∙ ap (λ x. take i rows ++ x ∷ []) (sym at)) ∙ sym (append_assoc seen (take i rows) (p ∷ []))

  pub next_counted : (old new : WordCountsView) → AreCountable (seen ++ rows)
      → ((before : List Post) → AreCountable (before ++ p ∷ []) → HasCounted before old → HasCounted (before ++ p ∷ []) new)
      → HasCounted (seen ++ take i rows) old → HasCounted (seen ++ take (i + 1) rows) new
  next_counted old new few step h =
      let now = seen ++ take (i + 1) rows in
      let rest = drop (i + 1) rows in
      let whole : now ++ rest ≡ seen ++ rows = append_assoc seen (take (i + 1) rows) rest ∙ ap (λ x. seen ++ x) (take-append-drop (i + 1) rows) in
      subst (λ rs. HasCounted rs new) (sym next_row)
      (step (seen ++ take i rows) (subst AreCountable next_row (front_countable now rest (subst AreCountable (sym whole) few))) h)

module _ (t : Post → Bool) (seen rows : List Post) (i : ℕ) (p : Post) (l : i < length rows) (at : p ≡ get_or rows i p) where
  longer : filter t (take (i + 1) rows) ≡ filter t (take i rows) ++ cond (t p) (p ∷ []) []
  longer = ap (filter t) (take_more rows i p l ∙ ap (λ x. take i rows ++ x ∷ []) (sym at)) ∙ filter-append t (take i rows) (p ∷ [])

  pub one_counted : t p ≡ true → (old new : WordCountsView) → AreCountable (seen ++ filter t rows)
      → ((before : List Post) → AreCountable (before ++ p ∷ []) → HasCounted before old → HasCounted (before ++ p ∷ []) new)
      → HasCounted (seen ++ filter t (take i rows)) old → HasCounted (seen ++ filter t (take (i + 1) rows)) new
  one_counted passes old new few step h =
      let had = filter t (take i rows) in
      let now = filter t (take (i + 1) rows) in
      let rest = filter t (drop (i + 1) rows) in
      let more : seen ++ now ≡ (seen ++ had) ++ p ∷ [] = ap (λ x. seen ++ x) (longer ∙ ap (λ b. had ++ cond b (p ∷ []) []) passes)
      ∙ sym (append_assoc seen had (p ∷ [])) in
      let whole : (seen ++ now) ++ rest ≡ seen ++ filter t rows = append_assoc seen now rest
      ∙ ap (λ x. seen ++ x) (sym (filter-append t (take (i + 1) rows) (drop (i + 1) rows)) ∙ ap (filter t) (take-append-drop (i + 1) rows)) in
      subst (λ rs. HasCounted rs new) (sym more)
      (step (seen ++ had) (subst AreCountable more (front_countable (seen ++ now) rest (subst AreCountable (sym whole) few))) h)

  pub none_counted : t p ≡ false → (c : WordCountsView) → HasCounted (seen ++ filter t (take i rows)) c → HasCounted (seen ++ filter t (take (i + 1) rows)) c
  none_counted fails c h =
      let had = filter t (take i rows) in
      subst (λ rs. HasCounted rs c) (ap (λ x. seen ++ x) (sym (longer ∙ ap (λ b. had ++ cond b (p ∷ []) []) fails ∙ append-nil had))) h
