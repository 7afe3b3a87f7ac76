use Rattle.std.proofs.Common.{[], ◌∷◌, ◌++◌, ap, ◌∙◌}
use Rattle.cs_vocab.specs.declared.gathering.Gathering.{Gathering}
use Rattle.cs_vocab.proofs.GatheringLemmas.{gathered_one, gathering_one}
use Rattle.cs_vocab.proofs.gathering.Gathering.push.Goals as goal
use Rattle.cs_vocab.proofs.gathering.Gathering.push.Goals.{After-push_reserved}

-- the gathering behind the word
abbrev after : After-push_reserved → Gathering
after c = record { words = c.index_of.new.words; indices = c.push_reserved.new.self; slots = c.index_of.new.slots }

pub returns-clause-word : goal.returns-clause-word
returns-clause-word c = gathered_one c.args.self.now (after (goal.at.returns-clause-word c).After-push_reserved) c.in_ok-index.index c.args.word.now c.requires.is c.in_ok-index.ensures.taken c.in_ok-index.ensures.at (c.push_reserved.ensures.items ∙ ap (λ ns. ns ++ c.in_ok-index.index ∷ []) c.in_ok-reserve.ensures.items)

pub returns-clause-is : goal.returns-clause-is
returns-clause-is c =
    gathering_one c.args.self.now (after (goal.at.returns-clause-is c).After-push_reserved) c.in_ok-index.index c.args.word.now c.requires.is c.in_ok-index.ensures.taken c.in_ok-index.ensures.at (c.push_reserved.ensures.items ∙ ap (λ ns. ns ++ c.in_ok-index.index ∷ []) c.in_ok-reserve.ensures.items)
    c.in_ok-index.ensures.slots
