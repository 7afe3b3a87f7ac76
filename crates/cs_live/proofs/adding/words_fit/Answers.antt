use Rattle.std.proofs.Common.{◌∙◌, ◌++◌, ◌≤◌, ap, subst, sym, length, nat_le, arith}
use Rattle.std.proofs.lemmas.Bool.{le-leb}
use Rattle.std.proofs.lemmas.List.{length-append}
use Rattle.cs_base.specs.declared.content.limits.TheConstants.{MAX_WORDS}
use Rattle.cs_merge.specs.Vocabularies.{AreOfWordSize}
use Rattle.cs_live.specs.Settling.{words_met}
use Rattle.cs_live.proofs.SettledLemmas.{all_met, met_few, met_twice}
use Rattle.cs_live.proofs.adding.words_fit.Goals as goal

pub returns-then-len-rows-le-MAX_WORDS : goal.returns-then-len-rows-le-MAX_WORDS
returns-then-len-rows-le-MAX_WORDS c =
    let few = met_few c.args.words.now (c.args.rows.now ++ c.args.own.now) in
    let both = length-append c.args.rows.now c.args.own.now in
    let test = c.if-len-rows-le-MAX_WORDS.true in
    let long = c.len.ensures.value in
    sym (le-leb (length (words_met c.args.words.now (c.args.rows.now ++ c.args.own.now))) MAX_WORDS (omega (arith, few, both, test, long)))

pub merged_with-requires-2-clause-sized : goal.merged_with-requires-2-clause-sized
merged_with-requires-2-clause-sized c =
    subst AreOfWordSize (sym (c.from_words-met.ensures ∙ c.from_vec.ensures ∙ c.in_ok-met.ensures.all))
    (all_met (λ v. (1 ≤ length v) × (length v ≤ 138)) c.args.words.now c.args.rows.now c.requires.sized c.requires.row_sized)

pub returns : goal.returns
returns c =
    ap (λ n. nat_le n MAX_WORDS)
    (ap length (c.deref-words.ensures.value ∙ c.in_ok-all.ensures.all ∙ ap (λ ws. words_met ws c.args.own.now) (c.from_words-met.ensures ∙ c.from_vec.ensures ∙ c.in_ok-met.ensures.all)
    ∙ met_twice c.args.words.now c.args.rows.now c.args.own.now))
