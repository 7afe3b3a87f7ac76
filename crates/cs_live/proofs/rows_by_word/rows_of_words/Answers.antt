use Rattle.std.proofs.Common.{◌≡◌, ◌≤◌, ◌∙◌, length, drop, take, rules, arith, sym, subst, ap, true, false}
use Rattle.std.specs.Prelude.{nat_lt}
use Rattle.std.specs.List.{between}
use Rattle.std.specs.List.Sorted.{IsNonDecreasingBy, IsPartitionPoint}
use Rattle.std.proofs.lemmas.Slice.{between_to_end}
use Rattle.std.proofs.lemmas.List.Sorted.{IsNonDecreasingBy-drop, IsPartitionPoint-from_clause, IsPartitionedBy-ltb}
use Rattle.cs_base.specs.declared.content.doc.Post.{Post}
use Rattle.cs_live.proofs.ByWordLemmas.{cut_is}
use Rattle.cs_live.proofs.rows_by_word.rows_of_words.Goals as goal

pub returns : goal.returns
returns c =
    let by = c.args.by_word.now in
    let lo = c.args.words.0 in
    let hi = c.args.words.1 in
    let first = c.partition_point-first.result in
    let many = c.partition_point-many.result in
    let rest : between first (length by) by ≡ drop first by = between_to_end by first (length by) (omega arith) in
    let low = IsPartitionPoint-from_clause (λ (p : Post). nat_lt p.word lo) by first c.partition_point-first.ensures.partitioned
    (IsPartitionedBy-ltb (λ (p : Post). p.word) by lo c.requires) (λ a r f k. search rules) in
    let rises : IsNonDecreasingBy (λ (p : Post). p.word) (drop first by) = IsNonDecreasingBy-drop (λ (p : Post). p.word) first by c.requires in
    let high = IsPartitionPoint-from_clause (λ (p : Post). nat_lt p.word hi) (between first (length by) by) many c.partition_point-many.ensures.partitioned
    (IsPartitionedBy-ltb (λ (p : Post). p.word) (between first (length by) by) hi (subst (IsNonDecreasingBy (λ (p : Post). p.word)) (sym rest) rises))
    (λ a r f k. search rules) in
    ap (take many) rest
    ∙ cut_is lo hi by first many c.partition_point-first.ensures.bound (subst (λ r. many ≤ length r) rest c.partition_point-many.ensures.bound) low
    (subst (λ r. IsPartitionPoint (λ (p : Post). nat_lt p.word hi ≡ true) (λ p. nat_lt p.word hi ≡ false) r many) rest high)
