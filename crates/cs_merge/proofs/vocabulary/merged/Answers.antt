use Rattle.std.proofs.Common.{◌∙◌, sym}
use Rattle.cs_merge.proofs.MergedWordLemmas.{merging_begins, merging_ends}
use Rattle.cs_merge.proofs.vocabulary.merged.Goals as goal

pub loop-alloc-init : goal.loop-alloc-init
loop-alloc-init c = record {
  merging = merging_begins c.args.a.now c.args.b.now c.in_ok-merging.merging c.in_ok-merging.ensures.words c.in_ok-merging.ensures.first c.in_ok-merging.ensures.second;
}

pub returns : goal.returns
returns c = merging_ends c.args.a.now c.args.b.now c.loop-alloc.merging c.loop-alloc.invariant.merging (sym c.is_done.ensures ∙ c.loop-alloc-test.false)
