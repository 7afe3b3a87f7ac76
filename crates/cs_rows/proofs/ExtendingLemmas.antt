-- One part more, by the rows of the part in the hits.
--
--   step_inside     the entry is that by all rows of the part
use Rattle.std.proofs.Common.{◌≡◌, ℕ, ◌==◌, ◌&&◌, ◌||◌, Bool, true, false, not, List, [], ◌∷◌, refl, sym, ap, ◌∙◌}
use Rattle.std.specs.Prelude.{filter}
use Rattle.std.specs.List.{AllByRecursion, list_any}
use Rattle.std.proofs.lemmas.Bool.{eqb-true}
use Rattle.std.proofs.lemmas.List.Elements.{recursion_from_All}
use Rattle.cs_base.specs.declared.content.doc.Base.{Base}
use Rattle.cs_base.specs.declared.content.doc.Base.TheVariants as base
use Rattle.cs_base.specs.declared.content.doc.Post.{Post}
use Rattle.cs_base.specs.declared.content.doc.Row.{Row}
use Rattle.cs_base.specs.declared.content.doc.Scored.{Scored}
use Rattle.cs_base.proofs.ListsLemmas.{all_of, all_stay, any_through, filter_alike, filter_twice, own_members}
use Rattle.cs_model.specs.Answers.{PartRows, in_doc, is_listed}
use Rattle.cs_model_kept.specs.Entries.{Entry, entry_after, is_hit, without}
use Rattle.cs_rows.specs.IndexReading.{HasRows}
use Rattle.cs_rows.specs.Restricting.{rows_where}
use Rattle.cs_rows.specs.Skipping.{hit_docs, lists_doc}
use Rattle.cs_rows.specs.Steps.{IsStep, posts_after}
use Rattle.cs_rows.specs.Stocked.{IsStocked, Stock, stock_docs}
use Rattle.cs_rows.proofs.AlikeLemmas.{any_filter}
use Rattle.cs_rows.proofs.PartSteps.{step_told}

-- ---- rows in hits
hit_in : (hs : List Scored) (r : Row) → is_listed (hit_docs hs) r.doc ≡ is_hit hs r
hit_in hs r = any_through (λ (h : Scored). h.doc) (λ e. e == r.doc) hs

same_and : (a b : Bool) → a ≡ b → (a && b) ≡ b
same_and true b e = refl
same_and false b e = e

kept_inside : (hs : List Scored) (rows : List Row) → filter (is_hit hs) (rows_where (is_listed (hit_docs hs)) rows) ≡ filter (is_hit hs) rows
kept_inside hs rows =
    sym (filter_twice (λ r. is_listed (hit_docs hs) r.doc) (is_hit hs) rows)
    ∙ filter_alike (λ r. is_listed (hit_docs hs) r.doc && is_hit hs r) (is_hit hs) rows (all_of _ (λ r. same_and _ _ (hit_in hs r)) rows)

-- a row in a listed document is in the documents
in_too : (ds : List ℕ) (d : ℕ) (r : Row) → is_listed ds d ≡ true → (is_listed ds r.doc && in_doc d r) ≡ in_doc d r
in_too ds d r here =
    elim (r.doc == d) as (λ b. r.doc == d ≡ b → (is_listed ds r.doc && b) ≡ b) [
      | true ↦ λ e. ap (λ b. b && true) (ap (is_listed ds) (eqb-true r.doc d e) ∙ here)
      | false ↦ λ e. gone (is_listed ds r.doc)
    ] refl
  where
    gone : (a : Bool) → (a && false) ≡ false
    gone true = refl
    gone false = refl

any_too : (ds : List ℕ) (d : ℕ) (rows : List Row) → is_listed ds d ≡ true → list_any (in_doc d) (rows_where (is_listed ds) rows) ≡ list_any (in_doc d) rows
any_too ds d rows here = any_filter (in_doc d) (λ r. is_listed ds r.doc) rows ∙ each rows
  where
    each : (rows : List Row) → list_any (λ r. is_listed ds r.doc && in_doc d r) rows ≡ list_any (in_doc d) rows
    each [] = refl
    each (r ∷ rows) = ap (λ b. b || list_any (λ r. is_listed ds r.doc && in_doc d r) rows) (in_too ds d r here) ∙ ap (λ b. in_doc d r || b) (each rows)

members : (ds : List ℕ) (hs : List Scored) → AllByRecursion (λ d. is_listed ds d ≡ true) (hit_docs hs) → AllByRecursion (λ h. is_listed ds h.doc ≡ true) hs
members ds [] h = tt
members ds (x ∷ hs) h = (h.0, members ds hs h.1)

without_inside : (hs : List Scored) (rows : List Row) → without (rows_where (is_listed (hit_docs hs)) rows) hs ≡ without rows hs
without_inside hs rows =
    filter_alike (λ h. not (list_any (in_doc h.doc) (rows_where (is_listed (hit_docs hs)) rows))) (λ h. not (list_any (in_doc h.doc) rows)) hs
    (each hs (members (hit_docs hs) hs (recursion_from_All (λ d. is_listed (hit_docs hs) d ≡ true) (hit_docs hs) (own_members (hit_docs hs)))))
  where
    each : (xs : List Scored) → AllByRecursion (λ h. is_listed (hit_docs hs) h.doc ≡ true) xs
        → AllByRecursion (λ h. not (list_any (in_doc h.doc) (rows_where (is_listed (hit_docs hs)) rows)) ≡ not (list_any (in_doc h.doc) rows)) xs
    each [] h = tt
    each (x ∷ xs) h = (ap not (any_too (hit_docs hs) x.doc rows h.0), each xs h.1)

after_inside : (hs : List Scored) (excluded : Bool) (rows : List Row)
    → entry_after true hs (record { excluded = excluded; rows = rows_where (is_listed (hit_docs hs)) rows })
    ≡ entry_after true hs (record { excluded = excluded; rows = rows })
after_inside hs true rows = ap (λ (l : List Scored). let x : Entry = record { base = base.Listed l; rows = [] } in x) (without_inside hs rows)
after_inside hs false rows = ap (λ (l : List Row). let x : Entry = record { base = base.Listed hs; rows = l } in x) (kept_inside hs rows)

-- ---- the entry
pub step_inside : (s : Stock) → IsStocked s → (ds : List ℕ) → ds ≡ stock_docs s → (b : Base) (p : PartRows) (posts : List Post)
    → HasRows s (rows_where (lists_doc b) p.rows) posts → (excluded : Bool) → p.excluded ≡ excluded → IsStep s b p (posts_after ds b excluded posts)
step_inside s stocked ds same base.All p posts has excluded e =
    step_told s stocked ds same base.All p posts (record { is = has.is ∙ all_stay p.rows; picked = has.picked }) excluded e
step_inside s stocked ds same (base.Listed hs) p posts has excluded e =
    let q : PartRows = record { excluded = p.excluded; rows = rows_where (is_listed (hit_docs hs)) p.rows } in
    step_told s stocked ds same (base.Listed hs) q posts has excluded e ∙ after_inside hs p.excluded p.rows
