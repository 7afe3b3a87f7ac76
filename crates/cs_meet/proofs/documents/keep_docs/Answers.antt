use Rattle.std.proofs.Common.{◌+◌, arith}
use Rattle.std.specs.List.{list_any}
use Rattle.std.proofs.lemmas.Map.Keys.{non_decreasing_from_sorted}
use Rattle.cs_base.specs.content.Orders.{by_place}
use Rattle.cs_meet.specs.Filters.{is_of_doc}
use Rattle.cs_meet.proofs.Passes.{filter_more, filter_skip, filter_sorted}
use Rattle.cs_meet.proofs.Listed.{listed_more, listed_on, post_rises}
use Rattle.cs_meet.proofs.documents.keep_docs.Goals as goal

pub skip_docs-i-requires-clause-sorted : goal.skip_docs-i-requires-clause-sorted
skip_docs-i-requires-clause-sorted c = non_decreasing_from_sorted c.args.docs.now c.requires.docs_sorted

pub is_listed-requires-clause-sorted : goal.is_listed-requires-clause-sorted
is_listed-requires-clause-sorted c = non_decreasing_from_sorted c.args.docs.now c.requires.docs_sorted

pub next_listed-j-requires-clause-ahead : goal.next_listed-j-requires-clause-ahead
next_listed-j-requires-clause-ahead c =
    listed_more by_place (λ r. r.doc) post_rises c.args.docs.now c.args.rows.now.posts c.skip_docs-i.result c.loop-j.j c.get-row.result
    c.requires.rows_sorted (omega arith) c.get-row.ensures c.skip_docs-i.ensures

pub loop-j-preserved : goal.loop-j-preserved
loop-j-preserved c =
    let docs = c.args.docs.now in
    let rows = c.args.rows.now.posts in
    let row = c.get-row.result in
    let j = c.loop-j.j in
    let next = c.next_listed-j.ensures in
    let more = filter_more (λ r. list_any (is_of_doc r) docs) _ c.loop-j.found.posts rows j row c.is_listed.result c.loop-j.invariant.told (omega arith) c.get-row.ensures c.is_listed.ensures in
    record {
      told = rw c.add_where.ensures.posts (filter_skip (λ r. list_any (is_of_doc r) docs) _ _ rows (j + 1) c.next_listed-j.result more next.onward next.within next.none);
      ahead = listed_on by_place (λ r. r.doc) post_rises docs rows c.skip_docs-i.result (j + 1) c.next_listed-j.result next.onward
          (listed_more by_place (λ r. r.doc) post_rises docs rows c.skip_docs-i.result j row
          c.requires.rows_sorted (omega arith) c.get-row.ensures c.skip_docs-i.ensures);
      room = omega arith;
    }

pub returns-clause-sorted : goal.returns-clause-sorted
returns-clause-sorted c =
    filter_sorted by_place (λ r. list_any (is_of_doc r) c.args.docs.now) c.loop-j.found.posts c.args.rows.now.posts c.loop-j.j
    c.requires.rows_sorted c.loop-j.invariant.told (omega arith)
