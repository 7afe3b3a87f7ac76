use Rattle.cs_tables.proofs.WordCountsLemmas.{rows_added}
use Rattle.cs_tables.proofs.word_counts.WordCounts.add_rows.Goals as goal

pub returns-then-are_within : goal.returns-then-are_within
returns-then-are_within c =
    let own = c.self.inside in
    rows_added (record { low = own.low; high = own.high; marks = own.marks.items }) c.args.self.now c.of-rows.result _ _ own.marks.len c.see_own.new.marks
    c.self.view_is c.deref_mut.ensures.value own.marks.ok.0 c.of-rows.ensures c.see_own.ensures
