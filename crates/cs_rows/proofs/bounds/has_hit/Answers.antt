use Rattle.std.proofs.Common.{◌≡◌, ◌<◌, ◌≤◌, ◌&&◌, nat_lt, nat_le, true, false, length, get_or, rules, sym, ap, ◌∙◌, ℕ, map}
use Rattle.std.proofs.lemmas.List.Sorted.{IsPartitionPoint-from_clause}
use Rattle.std.proofs.lemmas.Bool.Decides.{nat_tests}
use Rattle.std.proofs.Common.{arith}
use Rattle.cs_base.specs.declared.content.doc.Scored.{Scored}
use Rattle.cs_model_kept.specs.Sharp.{has_hit}
use Rattle.cs_rows.proofs.SkippingLemmas.{parted, pointed}
use Rattle.cs_rows.proofs.bounds.has_hit.Goals as goal
use Rattle.cs_rows.proofs.bounds.has_hit.Goals.{After-partition_point-at}

told : (c : After-partition_point-at) (x : Scored) → let hs = c.args.hits.now in let n = c.partition_point-at.result in
    (nat_lt n (length hs) && nat_le (get_or hs n x).doc c.args.head.now.greatest) ≡ has_hit (map (λ (h : Scored). h.doc) hs) c.args.head.now
told c x =
    let hs = c.args.hits.now in
    let n = c.partition_point-at.result in
    pointed c.args.head.now hs c.requires n x c.partition_point-at.ensures.bound
    (IsPartitionPoint-from_clause (λ (h : Scored). nat_lt h.doc c.args.head.now.least) hs n c.partition_point-at.ensures.partitioned
    (parted hs c.requires c.args.head.now.least) (λ a r f k. search rules))

inside : (m n : ℕ) → m < n → nat_lt m n ≡ true
inside m n lt = grind (arith, nat_tests)

outside : (m n : ℕ) → n ≤ m → nat_lt m n ≡ false
outside m n le = grind (arith, nat_tests)

pub returns-then-at-hits : goal.returns-then-at-hits
returns-then-at-hits c =
    let x : Scored = record { doc = 0; score = 0 } in
    sym (ap (λ b. b && nat_le (get_or c.args.hits.now c.partition_point-at.result x).doc c.args.head.now.greatest) (inside _ _ c.if-at-hits.true))
    ∙ told (goal.at.returns-then-at-hits c).After-partition_point-at x

pub returns-else-at-hits : goal.returns-else-at-hits
returns-else-at-hits c =
    let x : Scored = record { doc = 0; score = 0 } in
    let out = outside _ _ c.if-at-hits.false in
    out ∙ sym (ap (λ b. b && nat_le (get_or c.args.hits.now c.partition_point-at.result x).doc c.args.head.now.greatest) out)
    ∙ told (goal.at.returns-else-at-hits c).After-partition_point-at x
