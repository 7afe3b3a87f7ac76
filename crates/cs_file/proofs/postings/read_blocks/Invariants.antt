use Rattle.std.proofs.Common.{◌≡◌, ◌+◌, map, take}
use Rattle.std.specs.Option.{ForSome}
use Rattle.cs_model_index.specs.Sections.{blocks_at}
use Rattle.cs_file.specs.HeaderView.{seen_header}
use Rattle.cs_file.specs.Opening.{AreBytes}
use Rattle.cs_file.specs.Parting.{bare}
use Rattle.cs_file.proofs.PostingsLemmas.{BlocksRead}
use Rattle.cs_file.proofs.StoodLemmas.{block_from}
use Rattle.cs_file.proofs.postings.read_blocks.Given as goal

abbrev pub invariant-loop-i : goal.invariant-loop-i
invariant-loop-i g l = record {
  told : ForSome (g.S.Store.bytes l.initial.store) (λ b. BlocksRead b (seen_header l.header) l.heads l.i l.at l.parts.items);
  small : ForSome (g.S.Store.bytes l.initial.store) (λ b. AreBytes b (blocks_at (seen_header l.header)) (block_from l.heads l.i));
  place : l.at ≡ blocks_at (seen_header l.header) + block_from l.heads l.i;
  alike : map (λ p. bare p.head) l.parts.items ≡ map bare (take l.i l.heads);
  same : g.S.Store.bytes l.store ≡ g.S.Store.bytes l.initial.store;
  lent : g.S.Store.lent l.store ≡ g.S.Store.lent l.initial.store;
  quiet : g.S.Store.faults l.store ≡ g.S.Store.faults l.initial.store;
}
