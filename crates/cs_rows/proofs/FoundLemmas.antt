-- Documents in turn, and the scores that a base gives them.
--
--   docs_rise        documents in turn
--   stays            posts that pass a test all stay
--   scored_rise      documents with scores
--   found_small, greatest_small       scores stay small
--   is_excluded      the rows of an excluded part are excluded
use Rattle.std.proofs.Common.{◌≡◌, ℕ, ◌≤◌, ◌==◌, Bool, true, false, List, [], ◌∷◌, map, cond, refl, ◌∙◌, ap, arith}
use Rattle.std.specs.Prelude.{Some, filter, find}
use Rattle.std.specs.Option.{option_map, unwrap_or}
use Rattle.std.specs.List.{AllByRecursion}
use Rattle.std.specs.List.Sorted.{IsStrictlySortedBy}
use Rattle.std.specs.Ordering.{nat_cmp}
use Rattle.std.specs.declared.cmp.Ordering.TheVariants.{Less}
use Rattle.cs_base.specs.declared.content.doc.Post.{Post}
use Rattle.cs_base.specs.declared.content.doc.Scored.{Scored}
use Rattle.cs_base.specs.declared.content.query.Part.{Part, out-Part}
use Rattle.cs_base.specs.declared.content.scores.TheConstants.{MAX_ROW_SCORE}
use Rattle.cs_base.specs.content.Orders.{by_doc, AreDocs, AreByDoc}
use Rattle.cs_model.specs.Answers.{PartRows, rows_of_part}
use Rattle.cs_rank.specs.DocScores.{greatest}
use Rattle.cs_rows.specs.Stocked.{Stock, corpus_in}
use Rattle.cs_rows.proofs.FoldsLemmas.{part_rows-is}

-- ---- documents in order
later_docs : (h : Scored) (hs : List Scored) → AllByRecursion (λ x. by_doc h x ≡ Less) hs → AllByRecursion (λ d. nat_cmp h.doc d ≡ Less) (map (λ h. h.doc) hs)
later_docs h [] up = tt
later_docs h (x ∷ hs) up = (up.0, later_docs h hs up.1)

pub docs_rise : (hs : List Scored) → AreByDoc hs → AreDocs (map (λ h. h.doc) hs)
unfolding IsStrictlySortedBy
docs_rise [] up = tt
docs_rise (h ∷ hs) up = (later_docs h hs up.0, docs_rise hs up.1)

later_scored : (f : ℕ → Scored) → ((d : ℕ) → (f d).doc ≡ d) → (d : ℕ) (ds : List ℕ) → AllByRecursion (λ e. nat_cmp d e ≡ Less) ds
    → AllByRecursion (λ x. by_doc (f d) x ≡ Less) (map f ds)
later_scored f h d [] up = tt
later_scored f h d (e ∷ ds) up = (ap (λ x. nat_cmp x (f e).doc) (h d) ∙ ap (nat_cmp d) (h e) ∙ up.0, later_scored f h d ds up.1)

pub scored_rise : (f : ℕ → Scored) → ((d : ℕ) → (f d).doc ≡ d) → (ds : List ℕ) → AreDocs ds → AreByDoc (map f ds)
unfolding IsStrictlySortedBy
scored_rise f h [] up = tt
scored_rise f h (d ∷ ds) up = (later_scored f h d ds up.0, scored_rise f h ds up.1)

pub stays : (p : Post → Bool) (rows : List Post) → AllByRecursion (λ r. p r ≡ true) rows → filter p rows ≡ rows
stays p [] h = refl
stays p (r ∷ rows) h = ap (λ b. cond b (r ∷ filter p rows) (filter p rows)) h.0 ∙ ap (λ l. r ∷ l) (stays p rows h.1)

-- ---- scores stay small

pub found_small : (bound d : ℕ) (hs : List Scored) → AllByRecursion (λ h. h.score ≤ bound) hs
    → unwrap_or (option_map (λ (h : Scored). h.score) (find (λ h. h.doc == d) hs)) 0 ≤ bound
found_small bound d [] h = omega arith
found_small bound d (x ∷ hs) h =
    elim (x.doc == d) as (λ b. unwrap_or (option_map (λ (h : Scored). h.score) (cond b (Some x) (find (λ h. h.doc == d) hs))) 0 ≤ bound) [
      | true ↦ h.0
      | false ↦ found_small bound d hs h.1
    ]

pub greatest_small : (ps : List Post) → AllByRecursion (λ p. p.score ≤ MAX_ROW_SCORE) ps → greatest (map (λ p. p.score) ps) ≤ MAX_ROW_SCORE
greatest_small [] h = omega arith
greatest_small (p ∷ ps) h = (let rest = greatest_small ps h.1 in omega (arith, rest, h.0))

pub is_excluded : (s : Stock) (x : Part) → (rows_of_part (corpus_in s) x).excluded ≡ (out-Part x).excluded
is_excluded s x = ap (λ (p : PartRows). p.excluded) (part_rows-is (corpus_in s) x)
