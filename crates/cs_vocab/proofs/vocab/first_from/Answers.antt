use Rattle.std.proofs.Common.{rules}
use Rattle.std.specs.Ordering.{nat_cmp, is_lt}
use Rattle.std.specs.Cmp.Lexicographic.{slice_cmp}
use Rattle.std.proofs.lemmas.List.Sorted.{IsPartitionPoint-from_clause}
use Rattle.cs_vocab.proofs.RangesLemmas.{split_before}
use Rattle.cs_vocab.proofs.vocab.first_from.Goals as goal

pub returns-clause-split : goal.returns-clause-split
returns-clause-split c =
    IsPartitionPoint-from_clause (λ w. is_lt (slice_cmp nat_cmp w c.args.p.now)) c.args.words.now c.partition_point.result c.partition_point.ensures.partitioned (split_before c.args.words.now c.requires c.args.p.now) (λ a r f k. search rules)
