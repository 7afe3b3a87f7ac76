use Rattle.std.proofs.Common.{ap, ◌∙◌, subst, MatchOption, length, ◌≡◌, ◌<◌, ◌-◌, get_or, take}
use Rattle.cs_base.specs.contracts.content.doc.ScoredOrd.TheImpl.Laws.{matches_eq-law}
use Rattle.cs_base.proofs.OrdersLemmas.{by_rank_total, by_rank_exact}
use Rattle.cs_base.proofs.MembersLemmas.{sorted_members}
use Rattle.cs_rank.proofs.KeptLemmas.{full_from_last}
use Rattle.cs_rank.proofs.best.prune.Goals as goal

pub returns-clause-kept : goal.returns-clause-kept
returns-clause-kept c =
    c.truncate.ensures.items
    ∙ ap (take c.args.room)
    (sorted_members by_rank_total by_rank_exact _ matches_eq-law c.args.kept.now.items c.sort_unstable.new.self.items c.dedup.new.self.items
    c.sort_unstable.ensures.permutation c.sort_unstable.ensures.sorted c.dedup.ensures.filtered)

pub returns-clause-worst : goal.returns-clause-worst
returns-clause-worst c =
    full_from_last c.args.room c.args.kept.now.items c.truncate.new.self.items c.last_of.result (returns-clause-kept c)
    (subst (λ xs. MatchOption c.last_of.result (Unit {0}) (λ w. (length xs ≡ c.args.room) × (0 < c.args.room) × (w ≡ get_or xs (c.args.room - 1) w))) c.as_slice.ensures.value c.last_of.ensures)
