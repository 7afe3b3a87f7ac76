use Rattle.std.proofs.Common.{subst, arith}
use Rattle.cs_engine.specs.declared.held.HeldKind.TheVariants as kinds
use Rattle.cs_engine.specs.HeldRanges.{FitsHolding, FitsRange, IsHeldOver, IsHoldingOver}
use Rattle.cs_rows.specs.Sources.{seen}
use Rattle.cs_engine.proofs.RangeLemmas.{goes_by, others_go, was_held}
use Rattle.cs_engine.proofs.find_range.counted_words.Goals as goal

-- ---- what was held
pub returns-in-Some-Counted-clause-told : goal.returns-in-Some-Counted-clause-told
returns-in-Some-Counted-clause-told g c b is stands over =
    let s = (g.I.Source.view c.args.index.now).stock b in
    let wide = subst (IsHoldingOver s c.args.words.0 c.args.words.1) c.in-Some-Counted.field-0-is
    (was_held c.in-Some-Counted.ensures.some.0 (IsHeldOver s) over) in
    wide.found

pub returns-in-Some-Counted-clause-base : goal.returns-in-Some-Counted-clause-base
returns-in-Some-Counted-clause-base g c = (subst (FitsHolding (seen (g.I.Source.view c.args.index.now))) c.in-Some-Counted.field-0-is
    (was_held c.in-Some-Counted.ensures.some.0 (FitsRange (seen (g.I.Source.view c.args.index.now))) c.requires.held)).0

pub returns-in-Some-Counted-clause-words : goal.returns-in-Some-Counted-clause-words
returns-in-Some-Counted-clause-words g c = (subst (FitsHolding (seen (g.I.Source.view c.args.index.now))) c.in-Some-Counted.field-0-is
    (was_held c.in-Some-Counted.ensures.some.0 (FitsRange (seen (g.I.Source.view c.args.index.now))) c.requires.held)).1

pub returns-in-Some-Counted-clause-held : goal.returns-in-Some-Counted-clause-held
returns-in-Some-Counted-clause-held g c = others_go c.in-Some-Counted.ensures.some.0

-- ---- what is read
pub returns-in_err-found-clause-held : goal.returns-in_err-found-clause-held
returns-in_err-found-clause-held g c = goes_by c.take.result c.args.words.0 c.args.words.1 kinds.Counted c.take.ensures.none c.take.ensures.some

pub returns-clause-held : goal.returns-clause-held
returns-clause-held g c = goes_by c.take.result c.args.words.0 c.args.words.1 kinds.Counted c.take.ensures.none c.take.ensures.some

pub returns-clause-words : goal.returns-clause-words
returns-clause-words g c =
    let high = c.in_ok-found.ensures.words in
    let within = c.requires.words.within in
    omega (arith, high, within)
