use Rattle.cs_tables.proofs.WordCountsLemmas.{rows_added}
use Rattle.cs_tables.proofs.word_counts.WordCounts.add.Goals as goal

pub returns : goal.returns
returns c =
    let own = c.self.inside in
    rows_added (record { low = own.low; high = own.high; marks = own.marks.items }) c.args.self.now c.of-rows.result _ _ own.marks.len c.see_rows.new.marks
    c.self.view_is c.deref_mut.ensures.value own.marks.ok.0 c.of-rows.ensures c.see_rows.ensures
