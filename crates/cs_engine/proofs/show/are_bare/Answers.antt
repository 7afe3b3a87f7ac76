use Rattle.std.proofs.Common.{◌≡◌, [], inr, subst, arith}
use Rattle.std.specs.Prelude.{All}
use Rattle.std.proofs.lemmas.List.{take_all}
use Rattle.std.proofs.lemmas.List.Elements.{All-more}
use Rattle.cs_model.specs.Collection.{named}
use Rattle.cs_vocab.specs.Ranges.{IsRange}
use Rattle.cs_engine.specs.Asking.{HasNoWord}
use Rattle.cs_engine.proofs.show.are_bare.Goals as goal

pub loop-name-preserved : goal.loop-name-preserved
loop-name-preserved g c =
    let ws = (g.I.Source.view c.args.index.now).words in
    let words = c.in_ok-words.words in
    let range : IsRange ws (named c.name-item.result []) words.0 words.1 = c.in_ok-words.ensures in
    let up = range.ordered in
    let down = c.if-words.false in
    let empty : words.1 ≡ words.0 = omega (arith, up, down) in
    All-more (HasNoWord ws) c.args.names.now c.loop-name.name-index c.name-item.result c.loop-name-test.true c.loop-name.invariant
    (subst (HasNoWord ws) c.name-item.is (words.0, subst (IsRange ws (named c.name-item.result []) words.0) empty range))

pub returns : goal.returns
returns g c e =
    let ws = (g.I.Source.view c.args.index.now).words in
    let names = c.args.names.now in
    inr (subst (All (HasNoWord ws)) (take_all c.loop-name.name-index names c.loop-name-test.false) c.loop-name.invariant)
