use Rattle.std.proofs.Common.{◌≡◌, ◌≤◌, ◌+◌, length, drop, rules, arith, sym, subst, true, false}
use Rattle.std.specs.List.{between}
use Rattle.std.specs.List.Sorted.{IsStrictlySortedBy, IsPartitionPoint, IsPartitionedBy}
use Rattle.std.specs.Ordering.{nat_cmp}
use Rattle.std.specs.Cmp.Lexicographic.{slice_cmp}
use Rattle.std.proofs.lemmas.Slice.{between_to_end}
use Rattle.std.proofs.lemmas.List.Sorted.{IsPartitionPoint-from_clause}
use Rattle.cs_model.specs.Answers.{begins}
use Rattle.cs_vocab.specs.Ranges.{IsRange}
use Rattle.cs_vocab.proofs.RangesLemmas.{split_begins, range_is}
use Rattle.cs_vocab.proofs.vocab.Vocab.range.Goals as goal

pub returns : goal.returns
returns c =
    let ws = c.as_slice-words.result.now in
    let p = c.args.p.now in
    let same : ws ≡ c.args.self.now = cc in
    let up : IsStrictlySortedBy (slice_cmp nat_cmp) ws = subst (IsStrictlySortedBy (slice_cmp nat_cmp)) (sym c.as_slice-words.ensures) c.self.invariant.0 in
    let lo = c.first_from-lo.result in
    let rest : between lo (length ws) ws ≡ drop lo ws = between_to_end ws lo (length ws) (omega arith) in
    let found = IsPartitionPoint-from_clause (begins p) (between lo (length ws) ws) c.partition_point-count.result c.partition_point-count.ensures.partitioned
    (subst (λ r. IsPartitionedBy (begins p) r) (sym rest) (split_begins ws up p lo c.first_from-lo.ensures.bound c.first_from-lo.ensures.split)) (λ a r f k. search rules) in
    subst (λ v. IsRange v p lo (lo + c.partition_point-count.result)) same
    (range_is ws up p lo c.first_from-lo.ensures.bound c.first_from-lo.ensures.split c.partition_point-count.result
    (subst (λ r. c.partition_point-count.result ≤ length r) rest c.partition_point-count.ensures.bound)
    (subst (λ r. IsPartitionPoint (λ w. begins p w ≡ true) (λ w. begins p w ≡ false) r c.partition_point-count.result) rest found))
