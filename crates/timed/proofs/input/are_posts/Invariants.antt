use Rattle.std.proofs.Common.{◌≡◌, ◌<◌}
use Rattle.std.specs.declared.cmp.Ordering.TheVariants.{Less}
use Rattle.cs_base.specs.declared.content.doc.Post.{Post}
use Rattle.cs_base.specs.declared.content.limits.TheConstants.{MAX_DOCS, MAX_WORDS}
use Rattle.cs_base.specs.content.Orders.{by_place}
use Rattle.timed.proofs.FitLemmas.{AllTo, RisesTo}
use Rattle.timed.proofs.input.are_posts.Given as goal

abbrev pub invariant-loop-i : goal.invariant-loop-i
invariant-loop-i l = record {
  sorted : RisesTo (λ (p q : Post). by_place p q ≡ Less) l.posts.posts l.i;
  docs : AllTo (λ (p : Post). p.doc < MAX_DOCS) l.posts.posts l.i;
  words : AllTo (λ (p : Post). p.word < MAX_WORDS) l.posts.posts l.i;
}
