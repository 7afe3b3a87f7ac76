use Rattle.std.proofs.Common.{◌∙◌, ◌++◌, ap, subst, sym, length, ◌≤◌}
use Rattle.std.specs.Ordering.{nat_cmp}
use Rattle.std.specs.Cmp.Lexicographic.{slice_cmp}
use Rattle.cs_base.specs.content.Members.{members_in}
use Rattle.cs_merge.specs.Vocabularies.{AreOfWordSize}
use Rattle.cs_live.proofs.SettledLemmas.{all_distinct, met_distinct}
use Rattle.cs_live.proofs.settling.merged_with.Goals as goal

pub merged-requires-clause-b_words : goal.merged-requires-clause-b_words
merged-requires-clause-b_words c =
    subst AreOfWordSize (sym c.in_ok-own.ensures.words) (all_distinct (λ v. (1 ≤ length v) × (length v ≤ 138)) c.args.rows.now c.requires.row_sized)

pub returns : goal.returns
returns c = record {
  all = c.in_ok-both.ensures.words ∙ ap (λ ws. members_in (slice_cmp nat_cmp) (c.args.words.now ++ ws)) c.in_ok-own.ensures.words ∙ met_distinct c.args.words.now c.args.rows.now;
  rises = c.in_ok-both.ensures.rises;
}
