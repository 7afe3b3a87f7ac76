use Rattle.std.proofs.Common.{◌≡◌, ◌∙◌, ap₂, length, subst}
use Rattle.cs_merge.specs.Vocabularies.{IsTurn, turn_word}
use Rattle.cs_merge.proofs.MergedWordLemmas.{stepped}
use Rattle.cs_merge.proofs.vocabulary.step.Goals as goal

pub returns : goal.returns
returns c =
    let a = c.args.a.now in
    let b = c.args.b.now in
    let turn = c.turn_at-turn.result in
    let e = c.in_ok-next.ensures in
    let i_is : c.len-i.result ≡ length c.args.merging.first.items = c.len-i.ensures ∙ c.args.merging.first.ok.0 in
    let j_is : c.len-j.result ≡ length c.args.merging.second.items = c.len-j.ensures ∙ c.args.merging.second.ok.0 in
    stepped a b c.requires.a_rises c.requires.b_rises c.args.merging c.in_ok-next.next c.requires.merging turn c.in_ok-word.word
    (subst (λ i. IsTurn a b i (length c.args.merging.second.items) turn) i_is
    (subst (λ j. IsTurn a b c.len-i.result j turn) j_is c.turn_at-turn.ensures))
    (c.in_ok-word.ensures ∙ ap₂ (λ i j. turn_word a b i j turn) i_is j_is)
    e.words e.first e.second
