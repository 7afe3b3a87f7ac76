use Rattle.std.proofs.Common.{◌≡◌, ◌+◌, List, length, nat_le, nat_lt, true, false, rules, arith, sym, ap, subst}
use Rattle.std.specs.List.Sorted.{IsPartitionedBy, IsPartitionPoint}
use Rattle.std.proofs.lemmas.List.Sorted.{IsPartitionPoint-from_clause}
use Rattle.cs_base.specs.declared.index.block.BlockHead.{BlockHead}
use Rattle.cs_file.specs.Indexes.{AreMet}
use Rattle.cs_file.proofs.HeadsLemmas.{few_heads, ends_are_parted, begins_are_parted, met_between}
use Rattle.cs_file.proofs.index.Index.blocks.Goals as goal

pub overflow_cast-result : goal.overflow_cast-result
overflow_cast-result c =
    let few = few_heads _ c.self.invariant.index in
    let words = c.self.invariant.index.few_words in
    let same : length c.as_slice-heads.result.now ≡ length c.self.inside.heads = ap length c.as_slice-heads.ensures in
    omega (arith, few, words, same, c.partition_point-first.ensures.bound)

pub overflow_cast-result-2 : goal.overflow_cast-result-2
overflow_cast-result-2 c =
    let few = few_heads _ c.self.invariant.index in
    let words = c.self.invariant.index.few_words in
    let same : length c.as_slice-heads.result.now ≡ length c.self.inside.heads = ap length c.as_slice-heads.ensures in
    omega (arith, few, words, same, c.partition_point-last.ensures.bound)

pub returns : goal.returns
returns c =
    let is = c.self.invariant.index in
    let lo = c.args.lo in
    let hi = c.args.hi in
    let first = c.partition_point-first.result in
    let last = c.partition_point-last.result in
    let hs = c.as_slice-heads.result.now in
    let own = c.self.inside.heads in
    let same : hs ≡ own = c.as_slice-heads.ensures in
    let seen : own ≡ c.args.self.now.heads = cc in
    let ends = IsPartitionPoint-from_clause (λ (h : BlockHead). nat_le (h.lo + h.words) lo) hs first c.partition_point-first.ensures.partitioned
    (subst (λ (x : List BlockHead). IsPartitionedBy (λ h. nat_le (h.lo + h.words) lo) x) (sym same) (ends_are_parted _ is lo)) (λ a r f k. search rules) in
    let begins = IsPartitionPoint-from_clause (λ (h : BlockHead). nat_lt h.lo hi) hs last c.partition_point-last.ensures.partitioned
    (subst (λ (x : List BlockHead). IsPartitionedBy (λ h. nat_lt h.lo hi) x) (sym same) (begins_are_parted _ is hi)) (λ a r f k. search rules) in
    let len : length hs ≡ length own = ap length same in
    subst (λ (x : List BlockHead). AreMet x lo hi first last) seen
    (met_between _ is lo hi first last (omega arith) (omega (arith, len, c.partition_point-first.ensures.bound))
    (omega (arith, len, c.partition_point-last.ensures.bound))
    (subst (λ (x : List BlockHead). IsPartitionPoint (λ h. nat_le (h.lo + h.words) lo ≡ true) (λ h. nat_le (h.lo + h.words) lo ≡ false) x first) same ends)
    (subst (λ (x : List BlockHead). IsPartitionPoint (λ h. nat_lt h.lo hi ≡ true) (λ h. nat_lt h.lo hi ≡ false) x last) same begins))
