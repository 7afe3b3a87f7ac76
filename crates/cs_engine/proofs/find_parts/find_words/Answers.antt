use Rattle.std.proofs.Common.{List, ℕ, subst, sym}
use Rattle.std.specs.List.{All}
use Rattle.cs_file.specs.Indexes.{StandsFor}
use Rattle.cs_file.specs.BlockBytes.{HasFileBytes}
use Rattle.cs_rows.specs.Sources.{seen}
use Rattle.cs_engine.specs.HeldRanges.{AreHeldOver, FitsRange, IsHeldOver}
use Rattle.cs_engine.proofs.RangeLemmas.{held_more, still_held}
use Rattle.cs_engine.proofs.find_parts.find_words.Given as given
use Rattle.cs_engine.proofs.find_parts.find_words.Goals as goal
use Rattle.cs_engine.proofs.find_parts.find_words.Goals.{After-taken_blocks-blocks}

-- the blocks that were held are those of the file
of_file : (g : given.Over) (c : After-taken_blocks-blocks g) (b : List ℕ) → StandsFor b (g.I.Source.view c.args.over.index.now).index
    → AreHeldOver ((g.I.Source.view c.args.over.index.now).stock b) c.args.held.now → All (HasFileBytes b) c.taken_blocks-blocks.result.blocks.items
of_file g c b stands good =
    let v = g.I.Source.view c.args.over.index.now in
    subst (λ x. All (HasFileBytes x) c.taken_blocks-blocks.result.blocks.items) (c.requires.over.opened.source.told b stands).bytes
    (c.taken_blocks-blocks.ensures.file (v.stock b) good)

pub find_in_blocks-found-requires-clause-fit : goal.find_in_blocks-found-requires-clause-fit
find_in_blocks-found-requires-clause-fit g c = c.taken_blocks-blocks.ensures.fit (seen (g.I.Source.view c.args.over.index.now)) c.requires.held

pub returns-clause-told : goal.returns-clause-told
returns-clause-told g c b is stands good by =
    c.find_in_blocks-found.ensures.told b is stands (of_file g (goal.at.returns-clause-told g c).After-taken_blocks-blocks b stands good) by

pub returns-clause-held : goal.returns-clause-held
returns-clause-held g c =
    let fits = FitsRange (seen (g.I.Source.view c.args.over.index.now)) in
    held_more fits c.hold_blocks.ensures c.find_in_blocks-found.ensures.fit (still_held fits _ _ c.taken_blocks-blocks.ensures.held c.requires.held)

pub returns-clause-good : goal.returns-clause-good
returns-clause-good g c b is stands good =
    let v = g.I.Source.view c.args.over.index.now in
    let at = (goal.at.returns-clause-good g c).After-taken_blocks-blocks in
    let over = IsHeldOver (v.stock b) in
    let blocks = c.find_in_blocks-found.new.blocks.blocks.items in
    let own = subst (λ x. All (HasFileBytes x) blocks) (sym (c.requires.over.opened.source.told b stands).bytes)
    (c.find_in_blocks-found.ensures.file b is (of_file g at b stands good)) in
    held_more over c.hold_blocks.ensures own (still_held over _ _ c.taken_blocks-blocks.ensures.held good)
