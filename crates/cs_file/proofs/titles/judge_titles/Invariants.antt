use Rattle.std.proofs.Common.{◌≡◌, ◌-◌, ◌≤◌, slice_index_or}
use Rattle.std.specs.Option.{ForSome}
use Rattle.cs_file.specs.HeaderView.{seen_header}
use Rattle.cs_file.specs.Opening.{AreBytes}
use Rattle.cs_model_index.specs.Sections.{titles_at}
use Rattle.cs_file.proofs.TitleStageLemmas.{RestOfTitles}
use Rattle.cs_file.proofs.titles.judge_titles.Given as goal

abbrev pub invariant-loop-doc : goal.invariant-loop-doc
invariant-loop-doc g l = record {
  few : l.doc ≤ l.header.docs;
  told : ForSome (g.S.Store.bytes l.initial.store) (λ b. RestOfTitles b (seen_header l.header) l.offsets l.doc);
  small : ForSome (g.S.Store.bytes l.initial.store) (λ b. AreBytes b (titles_at (seen_header l.header)) (slice_index_or l.offsets l.doc 0));
  same : g.S.Store.bytes l.store ≡ g.S.Store.bytes l.initial.store;
  lent : g.S.Store.lent l.store ≡ g.S.Store.lent l.initial.store;
  quiet : g.S.Store.faults l.store ≡ g.S.Store.faults l.initial.store;
}

abbrev pub decreases-loop-doc : goal.decreases-loop-doc
decreases-loop-doc g l = l.header.docs - l.doc
