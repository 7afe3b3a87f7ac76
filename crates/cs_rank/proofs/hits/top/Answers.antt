use Rattle.std.proofs.Common.{◌∙◌, ◌++◌, ap, arith, drop}
use Rattle.cs_rank.specs.Kept.{first_of}
use Rattle.cs_rank.proofs.Puts.{shown}
use Rattle.cs_rank.proofs.hits.top.Goals as goal

pub returns : goal.returns
returns c =
    let scored = c.args.scored.now in
    record {
      ok = c.from_vec.ensures ∙ c.in_ok-shown.ensures.items ∙ c.without_first.ensures
          ∙ ap (drop c.args.o)
          (c.list.ensures.value ∙ c.in_ok-offer_all.ensures.ok
          ∙ ap (λ xs. first_of c.in_ok-best.best.room (xs ++ scored)) c.in_ok-best.ensures.0
          ∙ ap (λ n. first_of n scored) (c.in_ok-best.ensures.1 ∙ (let least = c.min-room.ensures in omega arith)))
          ∙ shown c.args.o c.args.h scored;
    }
