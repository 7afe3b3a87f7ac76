use Rattle.std.proofs.Common.{◌≡◌, ◌<◌, ◌≤◌, Less, Equal, Greater, add-one, ap, arith, length, rules, ◌∙◌, subst}
use Rattle.std.proofs.lemmas.List.{take_all}
use Rattle.cs_json.proofs.ByName.{ComesBehind, beside, behind_more, members, placed, put_between, put_last, put_over}
use Rattle.cs_json.proofs.facets.place.Goals as goal

pub returns-in-Less : goal.returns-in-Less
returns-in-Less c =
    let f = c.args.facet in
    let xs = c.loop-at.ordered.items in
    let within : c.loop-at.at < length xs = omega arith in
    let before : beside f c.index.result.now ≡ Less = search rules in
    ap members c.in_ok-insert-in-Less.ensures.items ∙ put_between f xs c.loop-at.at c.index.result.now within c.loop-at.invariant.1 c.index.ensures before
    ∙ ap (λ v. placed f v.items) c.loop-at.invariant.0

pub returns-in-Equal : goal.returns-in-Equal
returns-in-Equal c =
    let f = c.args.facet in
    let xs = c.loop-at.ordered.items in
    let within : c.loop-at.at < length xs = omega arith in
    let same : beside f c.index.result.now ≡ Equal = search rules in
    put_over f xs c.loop-at.at c.index.result.now within c.loop-at.invariant.1 c.index.ensures same ∙ ap (λ v. placed f v.items) c.loop-at.invariant.0

pub loop-at-preserved : goal.loop-at-preserved
loop-at-preserved c =
    let f = c.args.facet in
    let xs = c.loop-at.ordered.items in
    let within : c.loop-at.at < length xs = omega arith in
    let behind : beside f c.index.result.now ≡ Greater = search rules in
    (c.loop-at.invariant.0, rw add-one (behind_more f xs c.loop-at.at c.index.result.now within c.loop-at.invariant.1 c.index.ensures behind))

pub returns : goal.returns
returns c =
    let f = c.args.facet in
    let xs = c.loop-at.ordered.items in
    let end : length xs ≤ c.loop-at.at = omega (arith, ap (λ v. length v.items) c.loop-at.invariant.0) in
    let behind : ComesBehind f.now.name xs = subst (ComesBehind f.now.name) (take_all c.loop-at.at xs end) c.loop-at.invariant.1 in
    ap members c.in_ok-push.ensures.items ∙ put_last f xs behind ∙ ap (λ v. placed f v.items) c.loop-at.invariant.0
