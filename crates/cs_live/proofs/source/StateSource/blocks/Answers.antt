use Rattle.std.proofs.Common.{◌≡◌, ◌∙◌, ap, length, subst, arith}
use Rattle.cs_file.specs.Indexes.{AreMet}
use Rattle.cs_live.specs.States.{rank}
use Rattle.cs_live.proofs.NumberLemmas.{rank_up, rank_within}
use Rattle.cs_live.proofs.source.StateSource.blocks.Goals as goal

pub blocks-requires-clause-ordered : goal.blocks-requires-clause-ordered
blocks-requires-clause-ordered c =
    let up = rank_up c.deref.result.now c.args.words.0 c.args.words.1 c.requires.ordered in
    omega (arith, up, c.old_words-lo.ensures.low, c.old_words-lo.ensures.high)

pub blocks-requires-clause-within : goal.blocks-requires-clause-within
blocks-requires-clause-within c =
    let le = rank_within c.deref.result.now c.args.words.1 in
    let long = c.self.invariant.shift.long in
    let same : length c.deref.result.now ≡ length c.self.inside.shift.items = ap length c.deref.ensures.value in
    omega (arith, le, long, same, c.old_words-lo.ensures.high)

pub returns : goal.returns
returns c =
    let s = c.args.self.now in
    let shift_is : c.deref.result.now ≡ s.shift = c.deref.ensures.value ∙ ap (λ x. x.shift) c.self.view_is in
    let lo = c.args.words.0 in
    let hi = c.args.words.1 in
    let low : c.old_words-lo.result.0 ≡ rank s.shift lo = c.old_words-lo.ensures.low ∙ ap (λ ns. rank ns lo) shift_is in
    let high : c.old_words-lo.result.1 ≡ rank s.shift hi = c.old_words-lo.ensures.high ∙ ap (λ ns. rank ns hi) shift_is in
    let first = c.blocks-2.result.0 in
    let last = c.blocks-2.result.1 in
    let heads_are = ap (λ x. x.index.heads) c.self.view_is in
    subst (λ hs. AreMet hs (rank s.shift lo) (rank s.shift hi) first last) heads_are
    (subst (λ h. AreMet c.self.inside.index.heads (rank s.shift lo) h first last) high
    (subst (λ l. AreMet c.self.inside.index.heads l c.old_words-lo.result.1 first last) low c.blocks-2.ensures))
