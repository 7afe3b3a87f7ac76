use Rattle.std.proofs.Common.{rules}
use Rattle.std.specs.Prelude.{nat_lt}
use Rattle.std.proofs.lemmas.List.Sorted.{IsPartitionPoint-from_clause}
use Rattle.cs_live.proofs.NumberLemmas.{rank_is, rank_parted}
use Rattle.cs_live.proofs.numbers.rank.Goals as goal

pub returns : goal.returns
returns c = rank_is c.args.shift.now c.args.n c.partition_point.result c.partition_point.ensures.bound
    (IsPartitionPoint-from_clause (λ m. nat_lt m c.args.n) c.args.shift.now c.partition_point.result c.partition_point.ensures.partitioned
    (rank_parted c.args.shift.now c.requires.rises c.args.n) (λ a r f k. search rules))
