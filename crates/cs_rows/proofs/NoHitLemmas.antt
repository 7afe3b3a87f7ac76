-- Where there is no hit.
--
--   lists_no          a base that lists no document
--   none_step         no part leaves a hit then
--   none_behind       so there is none behind it
--   bare_entry        an entry without hits and rows
--   none_based, none_fits     it is in range
--   bare_table        a facet without rows has no word
--   bare_is           no document has a facet
use Rattle.std.proofs.Common.{◌≡◌, ℕ, ◌≤◌, zero, suc, Bool, true, false, true≢false, not, List, [], ◌∷◌, length, map, take, refl, sym, ap, ◌∙◌, arith}
use Rattle.std.specs.Prelude.{filter}
use Rattle.std.specs.List.Sorted.{IsStrictlySortedBy}
use Rattle.std.specs.Ordering.{nat_cmp}
use Rattle.std.proofs.lemmas.Bool.{eqb-true}
use Rattle.std.specs.FinMap.{nat_cmp-IsAntisymmetric}
use Rattle.std.proofs.lemmas.Cmp.{nat_cmp_total}
use Rattle.std.proofs.lemmas.List.Elements.{All-nil}
use Rattle.cs_base.specs.content.Orders.{AreByDoc, docs_of}
use Rattle.cs_base.specs.declared.content.doc.Base.{Base}
use Rattle.cs_base.specs.declared.content.doc.Base.TheVariants as base
use Rattle.cs_base.specs.declared.content.doc.Post.{Post}
use Rattle.cs_base.specs.declared.content.doc.Row.{Row}
use Rattle.cs_base.specs.declared.content.doc.Scored.{Scored}
use Rattle.cs_base.proofs.ListsLemmas.{all_of, map_alike}
use Rattle.cs_base.proofs.MembersLemmas.{none_listed}
use Rattle.cs_file.specs.Indexes.{IndexView}
use Rattle.cs_model.specs.Answers.{PartRows, by_count, is_listed, table_of}
use Rattle.cs_model.specs.Replies.{FacetShown}
use Rattle.cs_model.specs.Requests.{shown_of}
use Rattle.cs_model_kept.specs.Entries.{Entry, entry_after, is_hit}
use Rattle.cs_rank.specs.DocScores.{best_row, with_base}
use Rattle.cs_rows.specs.Steps.{entry_with, EntryFits, IsBaseOf, IsHitOf, IsStep, is_in_base, most, posts_hits}
use Rattle.cs_rows.specs.Skipping.{bare_facet, lists_none}
use Rattle.cs_rows.specs.Stocked.{Stock, facet_at, named_rows}
use Rattle.cs_rows.proofs.PartSteps.{AreHitsBehind}
use Rattle.cs_rows.proofs.RowsInRange.{none_within}
use Rattle.cs_rows.proofs.TableLemmas.{by_count_exact, by_count_total}

pub lists_no : (b : Base) → lists_none b ≡ true → b ≡ base.Listed []
lists_no base.All e = absurd (true≢false (sym e))
lists_no (base.Listed hs) e = ap base.Listed (none hs (eqb-true (length hs) 0 e))
  where
    none : (hs : List Scored) → length hs ≡ 0 → hs ≡ []
    none [] h = refl
    none (x ∷ hs) h = absurd (omega (arith, h))

-- ---- one part more
no_rows : (rows : List Row) → filter (is_hit []) rows ≡ []
no_rows [] = refl
no_rows (r ∷ rows) = no_rows rows

none_after : (excluded : Bool) (rows : List Row)
    → ◌≡◌ {A = Entry} (record { base = base.Listed []; rows = [] }) (entry_after true [] (record { excluded = excluded; rows = rows }))
none_after true rows = refl
none_after false rows = ap (λ (l : List Row). let e : Entry = record { base = base.Listed []; rows = l } in e) (sym (no_rows rows))

pub none_step : (s : Stock) (p : PartRows) → IsStep s (base.Listed []) p (entry_with (base.Listed []) [])
none_step s p = none_after p.excluded p.rows

none_docs : [] ≡ docs_of []
none_docs = none_listed nat_cmp nat_cmp_total nat_cmp-IsAntisymmetric

none_hit : (positive : Bool) → base.Listed [] ≡ posts_hits positive (base.Listed []) []
none_hit true = ap (λ ds. base.Listed (map (λ d. with_base (base.Listed []) (best_row [] d)) ds)) none_docs
none_hit false = refl

pub none_behind : (s : Stock) (p : PartRows) → AreHitsBehind s (base.Listed []) p (base.Listed [])
none_behind s p = record { e = entry_with (base.Listed []) []; step = none_step s p; are = none_hit (not p.excluded) }

-- ---- the entry
pub bare_entry : {hits : Base} {rows : List Post} → hits ≡ base.Listed [] → rows ≡ [] → entry_with hits rows ≡ entry_with (base.Listed []) []
bare_entry {rows = rows} none empty = ap (λ b. entry_with b rows) none ∙ ap (entry_with (base.Listed [])) empty

-- ---- what always holds
none_by_doc : AreByDoc []
unfolding IsStrictlySortedBy
none_by_doc = tt

pub none_based : (docs bound : ℕ) → IsBaseOf docs bound (base.Listed [])
none_based docs bound = (none_by_doc, All-nil (IsHitOf docs bound))

pub none_fits : (i : IndexView) (positive : Bool) (n : ℕ) → 1 ≤ n → EntryFits i positive n (entry_with (base.Listed []) [])
none_fits i positive n some = record {
  parts = λ e. some;
  rows = none_within i;
  base = none_based i.docs (most positive n);
  in_base = All-nil (λ p. is_in_base (base.Listed []) p ≡ true);
}

-- ---- facets
none_named : (rows : List Row) → filter (λ r. is_listed [] r.doc) rows ≡ []
none_named [] = refl
none_named (r ∷ rows) = none_named rows

none_taken : (cut : ℕ) → [] ≡ map shown_of (take cut [])
none_taken zero = refl
none_taken (suc cut) = refl

none_table : [] ≡ table_of []
none_table = none_listed by_count by_count_total by_count_exact

-- without rows
pub bare_table : (cut : ℕ) → [] ≡ map shown_of (take cut (table_of []))
bare_table cut = none_taken cut ∙ ap (λ t. map shown_of (take cut t)) none_table

pub bare_is : (s : Stock) (cut : ℕ) (names : List (List ℕ)) → map bare_facet names ≡ map (facet_at s (base.Listed []) cut) names
bare_is s cut names = map_alike bare_facet (facet_at s (base.Listed []) cut) names (all_of _ each names)
  where
    each : (n : List ℕ) → bare_facet n ≡ facet_at s (base.Listed []) cut n
    each n =
        ap (λ t. let f : FacetShown = record { name = n; table = t } in f) (bare_table cut)
        ∙ ap (λ rows. let f : FacetShown = record { name = n; table = map shown_of (take cut (table_of rows)) } in f) (sym (none_named (named_rows s n)))
