use Rattle.std.proofs.Common.{◌≡◌, [], length, refl, sym, ap, subst, ◌∙◌, arith}
use Rattle.std.specs.Prelude.{All, filter}
use Rattle.std.proofs.lemmas.List.Elements.{All-nil, All-push, All-weaker}
use Rattle.cs_base.specs.content.Orders.{AreDocs, AreSorted}
use Rattle.cs_cols.specs.declared.cols.Cols.{Cols}
use Rattle.cs_base.specs.declared.content.query.Linked.{out-Linked}
use Rattle.cs_join.specs.Shared.{shares_word, shared}
use Rattle.cs_model.specs.Answers.{begins}
use Rattle.cs_model.specs.Collection.{named}
use Rattle.cs_rows.specs.IndexReading.{division, AreWithin}
use Rattle.cs_rows.specs.Sources.{seen}
use Rattle.cs_rows.specs.Stocked.{is_between, present_docs}
use Rattle.cs_rows.proofs.PlainParts.{exact_words, found_between, join_reads, prefix_words, words_told}
use Rattle.cs_rows.proofs.AlternativesLemmas.{flat, flat_more, lists_begin, lists_end, lists_go_on, lists_within}
use Rattle.cs_rows.proofs.EvaluationLemmas.{docs_begin, docs_go_on, docs_end, linked_reads, met_part-is, met_query-is, chain_goes_on, chain_ends, chain_stops, linked_within, joined_rows, none_shared}
use Rattle.cs_rows.proofs.RowsInRange.{kept_within, none_within}
use Rattle.cs_rows.proofs.PartSteps.{base_sorted}
use Rattle.cs_rows.proofs.PresentLemmas.{docs_ascend}
use Rattle.cs_rows.proofs.WalkLemmas.{list_begins, list_goes_on, list_stops, within_more}
use Rattle.cs_rows.proofs.evaluation.+evaluation.Goals as goal

-- ---- the documents of hits
pub docs_of_hits-loop-part-init : goal.docs_of_hits-loop-part-init
docs_of_hits-loop-part-init g t c =
    record {
      walk = list_begins (met_query-is (division (g.I.Source.view c.args.index.now).index) c.args.query.now) c.as_slice-part-items.ensures;
      base = tt;
      told = λ b is stands. docs_begin ((g.I.Source.view c.args.index.now).stock b) c.as_slice-part-items.result.now
          (present_docs (g.I.Source.view c.args.index.now).present) (c.requires.opened.source.told b stands).docs;
    }

pub docs_of_hits-loop-part-preserved : goal.docs_of_hits-loop-part-preserved
docs_of_hits-loop-part-preserved g t c =
    let inv = c.loop-part.invariant in
    let x = c.part-item.result in
    record {
      walk = list_goes_on inv.walk c.loop-part-test.true c.part-item.is c.in_ok-rows.ensures.store c.in_ok-rows.ensures.reads;
      base = c.in_ok-hits.ensures.base;
      told = λ b is stands.
          let told = c.requires.opened.source.told b stands in
          docs_go_on ((g.I.Source.view c.args.index.now).stock b) c.as_slice-part-items.result.now told.stocked
          (present_docs (g.I.Source.view c.args.index.now).present) told.docs c.loop-part.part-index x c.loop-part-test.true
          c.part-item.is c.loop-part.hits c.in_ok-hits.hits c.in_ok-rows.rows.posts
          (inv.told b is stands) (c.in_ok-rows.ensures.told b (inv.walk.store.bytes ∙ is) stands) c.in_ok-hits.ensures.docs;
    }

pub docs_of_hits-returns-clause-told : goal.docs_of_hits-returns-clause-told
docs_of_hits-returns-clause-told g t c b is stands =
    c.in_ok-docs.ensures
    ∙ docs_end ((g.I.Source.view c.args.index.now).stock b) c.as_slice-part-items.result.now c.args.query.now
    (present_docs (g.I.Source.view c.args.index.now).present) c.loop-part.part-index c.loop-part.hits
    c.as_slice-part-items.ensures (omega (arith, c.loop-part-test.false)) (c.loop-part.invariant.told b is stands)

pub docs_of_hits-returns-clause-sorted : goal.docs_of_hits-returns-clause-sorted
docs_of_hits-returns-clause-sorted g t c = subst AreDocs (sym c.in_ok-docs.ensures) (base_sorted _ (docs_ascend (g.I.Source.view c.args.index.now).present) c.loop-part.hits c.loop-part.invariant.base)

-- ---- atoms
pub rows_of_atom-returns-in-Prefix-clause-told : goal.rows_of_atom-returns-in-Prefix-clause-told
rows_of_atom-returns-in-Prefix-clause-told g t c b is stands =
    let asks = prefix_words (g.I.Source.view c.args.index.now) c.requires.opened.source c.args.atom.now c.in-Prefix.prefix c.as_bytes.result.now
    c.range-words.result.0
    c.range-words.result.1 c.in-Prefix.is (c.as_bytes.ensures.value ∙ c.as_str.ensures) c.range-words.ensures in
    words_told asks _ c.rows_between.result b stands (c.rows_between.ensures.told b is stands)

pub rows_of_atom-returns-in-Prefix-clause-reads : goal.rows_of_atom-returns-in-Prefix-clause-reads
rows_of_atom-returns-in-Prefix-clause-reads g t c =
    let asks = prefix_words (g.I.Source.view c.args.index.now) c.requires.opened.source c.args.atom.now c.in-Prefix.prefix c.as_bytes.result.now
    c.range-words.result.0
    c.range-words.result.1 c.in-Prefix.is (c.as_bytes.ensures.value ∙ c.as_str.ensures) c.range-words.ensures in
    within_more c.rows_between.ensures.reads asks.few

pub rows_of_atom-returns-in-Exact-clause-told : goal.rows_of_atom-returns-in-Exact-clause-told
rows_of_atom-returns-in-Exact-clause-told g t c b is stands =
    let asks = exact_words (g.I.Source.view c.args.index.now) c.requires.opened.source c.args.atom.now c.in-Exact.word c.as_bytes-in-Exact.result.now
    c.range_of_word-words.result.0
    c.range_of_word-words.result.1 c.in-Exact.is (c.as_bytes-in-Exact.ensures.value ∙ c.as_str-in-Exact.ensures) c.range_of_word-words.ensures.range
    c.range_of_word-words.ensures.short c.range_of_word-words.ensures.none in
    words_told asks _ c.rows_between-in-Exact.result b stands (c.rows_between-in-Exact.ensures.told b is stands)

pub rows_of_atom-returns-in-Exact-clause-reads : goal.rows_of_atom-returns-in-Exact-clause-reads
rows_of_atom-returns-in-Exact-clause-reads g t c =
    let asks = exact_words (g.I.Source.view c.args.index.now) c.requires.opened.source c.args.atom.now c.in-Exact.word c.as_bytes-in-Exact.result.now
    c.range_of_word-words.result.0
    c.range_of_word-words.result.1 c.in-Exact.is (c.as_bytes-in-Exact.ensures.value ∙ c.as_str-in-Exact.ensures) c.range_of_word-words.ensures.range
    c.range_of_word-words.ensures.short c.range_of_word-words.ensures.none in
    within_more c.rows_between-in-Exact.ensures.reads asks.few

pub rows_of_atom-returns-in_err-rows-in-Join-clause-reads : goal.rows_of_atom-returns-in_err-rows-in-Join-clause-reads
rows_of_atom-returns-in_err-rows-in-Join-clause-reads g t c =
    join_reads (g.I.Source.view c.args.index.now) c.requires.opened.source c.in-Join.is c.in_ok-words-in-Join.ensures c.docs_of_hits.ensures.reads
    c.rows_between-in-Join.ensures.reads

pub rows_of_atom-returns-in_err-kept-in-Join-clause-reads : goal.rows_of_atom-returns-in_err-kept-in-Join-clause-reads
rows_of_atom-returns-in_err-kept-in-Join-clause-reads g t c =
    join_reads (g.I.Source.view c.args.index.now) c.requires.opened.source c.in-Join.is c.in_ok-words-in-Join.ensures c.docs_of_hits.ensures.reads
    c.rows_between-in-Join.ensures.reads

pub rows_of_atom-returns-in_ok-kept-in-Join-clause-reads : goal.rows_of_atom-returns-in_ok-kept-in-Join-clause-reads
rows_of_atom-returns-in_ok-kept-in-Join-clause-reads g t c =
    join_reads (g.I.Source.view c.args.index.now) c.requires.opened.source c.in-Join.is c.in_ok-words-in-Join.ensures c.docs_of_hits.ensures.reads
    c.rows_between-in-Join.ensures.reads

pub rows_of_atom-returns-in_ok-kept-in-Join-clause-told : goal.rows_of_atom-returns-in_ok-kept-in-Join-clause-told
rows_of_atom-returns-in_ok-kept-in-Join-clause-told g t c b is stands =
    let s = (g.I.Source.view c.args.index.now).stock b in
    let i = seen (g.I.Source.view c.args.index.now) in
    let words = c.in_ok-words-in-Join.words in
    let rows = found_between b (g.I.Source.view c.args.index.now) stands c.requires.opened.source (begins (named c.in-Join.name [])) words.0 words.1
    c.in_ok-words-in-Join.ensures.holds
    c.in_ok-rows-in-Join.rows.posts (c.in_ok-rows-in-Join.ensures.told b (c.docs_of_hits.ensures.store.bytes ∙ is) stands) in
    joined_rows s (c.requires.opened.source.told b stands).stocked c.args.atom.now c.in-Join.name c.in-Join.inner c.in-Join.is
    c.in_ok-rows-in-Join.rows.posts c.in_ok-kept-in-Join.kept.posts c.in_ok-docs-in-Join.docs.items rows
    (c.in_ok-docs-in-Join.ensures.told b is stands)
    (c.in_ok-kept-in-Join.ensures.ok ∙ ap (shared c.in_ok-rows-in-Join.rows.posts) c.as_slice.ensures.value)

pub rows_of_atom-returns-in_ok-kept-in-Join-clause-within : goal.rows_of_atom-returns-in_ok-kept-in-Join-clause-within
rows_of_atom-returns-in_ok-kept-in-Join-clause-within g t c =
    let i = seen (g.I.Source.view c.args.index.now) in
    subst (AreWithin i) (sym c.in_ok-kept-in-Join.ensures.ok)
    (kept_within i (shares_word _ c.in_ok-rows-in-Join.rows.posts) c.in_ok-rows-in-Join.rows.posts c.in_ok-rows-in-Join.ensures.within)

pub rows_of_atom-returns-then-len-eq0-clause-told : goal.rows_of_atom-returns-then-len-eq0-clause-told
rows_of_atom-returns-then-len-eq0-clause-told g t c b is stands =
    let s = (g.I.Source.view c.args.index.now).stock b in
    let i = seen (g.I.Source.view c.args.index.now) in
    let words = c.in_ok-words-in-Join.words in
    let docs = c.in_ok-docs-in-Join.docs.items in
    let asked = filter (is_between words.0 words.1) s.posts in
    let rows = found_between b (g.I.Source.view c.args.index.now) stands c.requires.opened.source (begins (named c.in-Join.name [])) words.0 words.1
    c.in_ok-words-in-Join.ensures.holds asked refl in
    let none : length docs ≡ 0 = omega (arith, c.if-len-eq0.true, c.len.ensures) in
    joined_rows s (c.requires.opened.source.told b stands).stocked c.args.atom.now c.in-Join.name c.in-Join.inner c.in-Join.is asked
    c.new.result.posts docs rows
    (c.in_ok-docs-in-Join.ensures.told b is stands) (c.new.ensures ∙ sym (none_shared asked docs none))

pub rows_of_atom-returns-then-len-eq0-clause-within : goal.rows_of_atom-returns-then-len-eq0-clause-within
rows_of_atom-returns-then-len-eq0-clause-within g t c = subst (AreWithin (seen (g.I.Source.view c.args.index.now))) (sym c.new.ensures)
    (none_within (seen (g.I.Source.view c.args.index.now)))

-- ---- links
pub rows_of_chain-returns-then-len-eq0-clause-told : goal.rows_of_chain-returns-then-len-eq0-clause-told
rows_of_chain-returns-then-len-eq0-clause-told g t c b is stands =
    chain_stops ((g.I.Source.view c.args.index.now).stock b) c.args.chain.now c.as_slice-linked-items.result.now c.loop-linked.linked-index
    c.loop-linked.found.posts
    (sym c.len.ensures.value ∙ c.if-len-eq0.true) (c.loop-linked.invariant.told b is stands)

pub rows_of_chain-loop-linked-preserved : goal.rows_of_chain-loop-linked-preserved
rows_of_chain-loop-linked-preserved g t c =
    let inv = c.loop-linked.invariant in
    let x = c.linked-item.result in
    record {
      walk = list_goes_on inv.walk c.loop-linked-test.true c.linked-item.is c.in_ok-next.ensures.store
          (linked_reads (division (g.I.Source.view c.args.index.now).index) x c.in_ok-next.ensures.reads);
      within = linked_within (seen (g.I.Source.view c.args.index.now)) (out-Linked x).link c.loop-linked.found.posts c.in_ok-next.next.posts
          c.in_ok-found-2.found.posts
          c.in_ok-next.ensures.within c.in_ok-found-2.ensures;
      told = λ b is stands. chain_goes_on ((g.I.Source.view c.args.index.now).stock b) c.args.chain.now c.as_slice-linked-items.result.now
          c.loop-linked.linked-index x
          c.loop-linked-test.true c.linked-item.is c.loop-linked.found.posts
          c.in_ok-next.next.posts c.in_ok-found-2.found.posts (inv.told b is stands)
          (c.in_ok-next.ensures.told b (inv.walk.store.bytes ∙ is) stands) c.in_ok-found-2.ensures;
    }

pub rows_of_chain-returns-clause-told : goal.rows_of_chain-returns-clause-told
rows_of_chain-returns-clause-told g t c b is stands =
    chain_ends ((g.I.Source.view c.args.index.now).stock b) c.args.chain.now c.as_slice-linked-items.result.now c.loop-linked.linked-index
    c.loop-linked.found.posts
    (omega (arith, c.loop-linked-test.false)) (c.loop-linked.invariant.told b is stands)

-- ---- alternatives
pub rows_of_part-loop-chain-init : goal.rows_of_part-loop-chain-init
rows_of_part-loop-chain-init g t c =
    let i = seen (g.I.Source.view c.args.index.now) in
    record {
      walk = list_begins (met_part-is (division (g.I.Source.view c.args.index.now).index) c.args.part.now) c.as_slice-chain-items.ensures;
      within = subst (All (λ (l : Cols). AreWithin i l.posts)) (sym c.new-lists.ensures.items) (All-nil (λ (l : Cols). AreWithin i l.posts));
      told = λ b is stands. lists_begin ((g.I.Source.view c.args.index.now).stock b) c.as_slice-chain-items.result.now (flat c.new-lists.result.items)
          (ap flat c.new-lists.ensures.items);
    }

pub rows_of_part-loop-chain-preserved : goal.rows_of_part-loop-chain-preserved
rows_of_part-loop-chain-preserved g t c =
    let i = seen (g.I.Source.view c.args.index.now) in
    let inv = c.loop-chain.invariant in
    let old = c.loop-chain.lists.items in
    let rows = c.in_ok-rows.rows in
    record {
      walk = list_goes_on inv.walk c.loop-chain-test.true c.chain-item.is c.in_ok-rows.ensures.store c.in_ok-rows.ensures.reads;
      within = subst (All (λ (l : Cols). AreWithin i l.posts)) (sym c.in_ok-add_list.ensures)
          (All-push (λ (l : Cols). AreWithin i l.posts) old rows inv.within c.in_ok-rows.ensures.within);
      told = λ b is stands. lists_go_on ((g.I.Source.view c.args.index.now).stock b) c.as_slice-chain-items.result.now c.loop-chain.chain-index
          c.chain-item.result
          c.loop-chain-test.true c.chain-item.is (flat old) rows.posts (flat c.add_list.new.lists.items) (inv.told b is stands)
          (c.in_ok-rows.ensures.told b (inv.walk.store.bytes ∙ is) stands) (ap flat c.in_ok-add_list.ensures ∙ flat_more old rows);
    }

pub rows_of_part-united-requires : goal.rows_of_part-united-requires
rows_of_part-united-requires g t c =
    All-weaker (λ (l : Cols). AreWithin (seen (g.I.Source.view c.args.index.now)) l.posts) (λ l. AreSorted l.posts) (λ l h. h.sorted)
    c.loop-chain.lists.items c.loop-chain.invariant.within

pub rows_of_part-returns-clause-told : goal.rows_of_part-returns-clause-told
rows_of_part-returns-clause-told g t c b is stands =
    lists_end ((g.I.Source.view c.args.index.now).stock b) c.as_slice-chain-items.result.now (c.requires.opened.source.told b stands).stocked c.args.part.now
    c.as_slice-chain-items.ensures c.loop-chain.chain-index (flat c.loop-chain.lists.items) c.in_ok-all.all.posts (omega (arith, c.loop-chain-test.false))
    (c.loop-chain.invariant.told b is stands) c.in_ok-all.ensures

pub rows_of_part-returns-clause-within : goal.rows_of_part-returns-clause-within
rows_of_part-returns-clause-within g t c = lists_within (seen (g.I.Source.view c.args.index.now)) c.loop-chain.lists.items c.in_ok-all.all.posts
    c.loop-chain.invariant.within c.in_ok-all.ensures

-- ---- what is read where one of them fails
pub docs_of_hits-returns-in_err-rows-clause-reads : goal.docs_of_hits-returns-in_err-rows-clause-reads
docs_of_hits-returns-in_err-rows-clause-reads g t c = list_stops c.loop-part.invariant.walk c.loop-part-test.true c.part-item.is c.rows_of_part.ensures.reads

pub docs_of_hits-returns-in_err-hits-clause-reads : goal.docs_of_hits-returns-in_err-hits-clause-reads
docs_of_hits-returns-in_err-hits-clause-reads g t c = list_stops c.loop-part.invariant.walk c.loop-part-test.true c.part-item.is c.rows_of_part.ensures.reads

pub rows_of_chain-returns-in_err-next-clause-reads : goal.rows_of_chain-returns-in_err-next-clause-reads
rows_of_chain-returns-in_err-next-clause-reads g t c =
    list_stops c.loop-linked.invariant.walk c.loop-linked-test.true c.linked-item.is
    (linked_reads (division (g.I.Source.view c.args.index.now).index) c.linked-item.result c.rows_of_atom-in-loop-linked.ensures.reads)

pub rows_of_chain-returns-in_err-found-2-clause-reads : goal.rows_of_chain-returns-in_err-found-2-clause-reads
rows_of_chain-returns-in_err-found-2-clause-reads g t c =
    list_stops c.loop-linked.invariant.walk c.loop-linked-test.true c.linked-item.is
    (linked_reads (division (g.I.Source.view c.args.index.now).index) c.linked-item.result c.rows_of_atom-in-loop-linked.ensures.reads)

pub rows_of_part-returns-in_err-rows-clause-reads : goal.rows_of_part-returns-in_err-rows-clause-reads
rows_of_part-returns-in_err-rows-clause-reads g t c =
    list_stops c.loop-chain.invariant.walk c.loop-chain-test.true c.chain-item.is c.rows_of_chain.ensures.reads

pub rows_of_part-returns-in_err-add_list-clause-reads : goal.rows_of_part-returns-in_err-add_list-clause-reads
rows_of_part-returns-in_err-add_list-clause-reads g t c =
    list_stops c.loop-chain.invariant.walk c.loop-chain-test.true c.chain-item.is c.rows_of_chain.ensures.reads
