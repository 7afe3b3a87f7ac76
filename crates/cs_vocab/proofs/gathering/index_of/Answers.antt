use Rattle.std.proofs.Common.{List, ℕ, subst}
use Rattle.cs_vocab.specs.Ranges.{IsWordAt}
use Rattle.cs_vocab.proofs.GatheringLemmas.{taken_same}
use Rattle.cs_vocab.proofs.gathering.index_of.Goals as goal

pub returns-in-Ok-clause-taken : goal.returns-in-Ok-clause-taken
returns-in-Ok-clause-taken c =
    taken_same c.args.words.now.items c.args.word.now c.in-Ok.index
    (subst (λ (ws : List (List ℕ)). IsWordAt ws c.in-Ok.index c.args.word.now) c.as_slice.ensures.value c.in-Ok.ensures.found)
