-- The reply to a query whose last part asks for some words, from the rows of that part in any order.
--
--   chosen_entry, entry_fits     the entry of the rows in order
--   large_entry    where it is larger than may be kept
--   found_counts   what is counted of rows by blocks gives the table of the query
--   table_counted, table_there     that table
use Rattle.std.proofs.Common.{◌≡◌, ℕ, ◌+◌, ◌-◌, ◌<◌, ◌≤◌, Bool, true, List, length, take, sym, ap, subst, ◌∙◌, arith, if◌then◌else◌}
use Rattle.std.specs.Prelude.{All, filter, nat_lt}
use Rattle.std.proofs.lemmas.Bool.Decides.{nat_tests}
use Rattle.std.proofs.lemmas.List.Elements.{All-weaker}
use Rattle.cs_base.specs.declared.content.doc.Base.{Base}
use Rattle.cs_base.specs.declared.content.doc.Post.{Post}
use Rattle.cs_base.specs.declared.content.query.Query.{Query, out-Query}
use Rattle.cs_base.specs.declared.index.plan.Kept.TheVariants as kept
use Rattle.cs_file.specs.Indexes.{StandsFor}
use Rattle.cs_model_kept.specs.Entries.{entry_of, listed_count}
use Rattle.cs_model_kept.specs.KeptList.{kept_fresh}
use Rattle.cs_model_kept.specs.declared.limits.TheConstants.{MAX_ENTRY_SIZE}
use Rattle.cs_tables.specs.TableListings.{post_table}
use Rattle.cs_tables.specs.declared.tables.Completion.{Completion}
use Rattle.cs_tables.specs.declared.tables.Table.{Table}
use Rattle.cs_tables.specs.WordCounts.{AreCountable, HasCounted, WordCountsView}
use Rattle.cs_rows.specs.Blockwise.{HasFound}
use Rattle.cs_rows.specs.Counting.{AreListed, in_listed}
use Rattle.cs_engine.specs.Keeping.{FitsQuery, IsEntryOver}
use Rattle.cs_rows.specs.Steps.{entry_with, EntryFits, last_is_positive}
use Rattle.cs_engine.specs.Loose.{AreCountsFor, AreLastWords, IsEntryByWords, IsTableFor}
use Rattle.cs_rows.specs.IndexReading.{AreWithin}
use Rattle.cs_rows.specs.Sources.{IsSource, SourceView, seen}
use Rattle.cs_rows.specs.Stocked.{corpus_in, is_between, base_posts}
use Rattle.cs_rows.proofs.OverSources.{source_within}
use Rattle.cs_engine.proofs.KeepingLemmas.{fresh_is}
use Rattle.cs_rows.proofs.PartSteps.{in_base_within}
use Rattle.cs_rows.proofs.PlainParts.{listed_entry, listed_fits}
use Rattle.cs_engine.proofs.PlansLemmas.{found_by_entry}
use Rattle.cs_rows.proofs.RowsInRange.{kept_within}

large_true : (m n : ℕ) → m < n → nat_lt m n ≡ true
large_true m n lt = grind (arith, nat_tests)

module _ (v : SourceView) (q : Query) (hits : Base) (lo hi : ℕ) (asks : AreLastWords (seen v) q hits lo hi) (listed : List Bool)
    (has : AreListed v.present hits listed) where
  pub entry_fits : (long : length v.present ≡ v.docs) (rows : List Post) → AreWithin (seen v) rows → All (λ p. in_listed listed p ≡ true) rows → FitsQuery (seen v) q (entry_with hits rows)
  entry_fits long rows w passed =
      let n = length (out-Query q).parts in
      let many : n - 1 + 1 ≡ n = (let some = asks.some in omega (arith, some)) in
      let fits = listed_fits (seen v) v.present long hits listed has rows w passed (n - 1) asks.base in
      subst (λ m. EntryFits (seen v) (last_is_positive q) m (entry_with hits rows)) many
      (subst (λ p. EntryFits (seen v) p (n - 1 + 1) (entry_with hits rows)) (sym asks.positive) fits)

  module _ (b : List ℕ) (stands : StandsFor b v.index) (is : IsSource v) (by : IsEntryByWords b v q hits lo hi) where
    pub chosen_entry : (posts : List Post) → posts ≡ filter (in_listed listed) (filter (is_between lo hi) (v.stock b).posts)
        → IsEntryOver (corpus_in (v.stock b)) (seen v) q (entry_with hits posts)
    chosen_entry posts are = subst (IsEntryOver (corpus_in (v.stock b)) (seen v) q) (sym (listed_entry v hits listed has b stands is lo hi posts are)) by

    pub large_entry : (posts : List Post) → posts ≡ filter (in_listed listed) (filter (is_between lo hi) (v.stock b).posts)
        → MAX_ENTRY_SIZE < length posts + listed_count hits → kept_fresh (entry_of (corpus_in (v.stock b)) q) ≡ kept.TooLarge
    large_entry posts are lt =
        sym (fresh_is (corpus_in (v.stock b)) (seen v) q (entry_with hits posts) (chosen_entry posts are))
        ∙ ap (λ x. if x then kept.TooLarge else kept.Kept) (large_true MAX_ENTRY_SIZE (length posts + listed_count hits) lt)

-- what is found by blocks
pub found_counts : (v : SourceView) (q : Query) (hits : Base) (lo hi : ℕ) → AreLastWords (seen v) q hits lo hi → (b : List ℕ) → StandsFor b v.index
    → IsSource v
    → IsEntryByWords b v q hits lo hi → (found : Base) (t : WordCountsView)
    → HasFound hits (base_posts hits (filter (is_between lo hi) (v.stock b).posts)) found t → AreCountsFor v b q found t
found_counts v q hits lo hi asks b stands is by found t f =
    let posts = filter (is_between lo hi) (v.stock b).posts in
    record {
      posts = base_posts hits posts;
      found = found_by_entry v q (entry_with hits (base_posts hits posts)) true (sym asks.positive) found f.hits_are b stands is by;
      within = in_base_within (seen v) hits posts (kept_within (seen v) (is_between lo hi) (v.stock b).posts (source_within b v stands is));
      table = f.table;
    }

-- the table of what is counted
pub table_counted : {v : SourceView} {b : List ℕ} {q : Query} {cut : ℕ} {hits : Base} {t : WordCountsView} {table : Table} → AreCountsFor v b q hits t
    → ((rows : List Post) → AreCountable rows → HasCounted rows t → table.total ≡ length (post_table rows))
    → ((rows : List Post) → AreCountable rows → HasCounted rows t → table.first ≡ take cut (post_table rows)) → IsTableFor v b q cut hits table
table_counted {cut = cut} a total first = record {
  posts = a.posts;
  found = a.found;
  within = a.within;
  first = first a.table.seen a.table.countable a.table.counted ∙ ap (take cut) a.table.same;
  total = total a.table.seen a.table.countable a.table.counted ∙ ap length a.table.same;
}

-- its words are there
pub table_there : {high many : ℕ} (cs : List Completion) → high ≤ many → All (λ c. c.word < high) cs → All (λ c. c.word < many) cs
table_there {high} {many} cs few known = All-weaker (λ c. c.word < high) (λ c. c.word < many) (λ c lt. omega (arith, lt, few)) cs known
