use Rattle.std.proofs.Common.{◌≡◌, ℕ, ◌-◌, ◌<◌, get_or, sym, subst, ◌∙◌, arith}
use Rattle.std.specs.declared.cmp.Ordering.TheVariants.{Less}
use Rattle.std.proofs.lemmas.List.{get_or_default}
use Rattle.std.proofs.lemmas.List.Elements.{All-from_get_or}
use Rattle.std.proofs.lemmas.Map.Keys.{sorted_from_all_adjacent}
use Rattle.cs_base.specs.declared.content.doc.Post.{Post}
use Rattle.cs_base.specs.declared.content.limits.TheConstants.{MAX_DOCS, MAX_WORDS}
use Rattle.cs_base.specs.content.Orders.{by_place}
use Rattle.cs_base.proofs.OrdersLemmas.{by_place_total, less-from_test}
use Rattle.timed.proofs.FitLemmas.{all_more, rises_more}
use Rattle.timed.proofs.input.are_posts.Goals.{else-i-gt0-via-then-i-gt0+else-not-is_before, else-i-gt0-via-else-i-gt0}
use Rattle.timed.proofs.input.are_posts.Goals as goal

abbrev blank : Post
blank = record { doc = 0; word = 0; pos = 0; score = 0 }

pub loop-i-preserved : goal.loop-i-preserved
loop-i-preserved c =
    let posts = c.args.posts.now.posts in
    let i = c.loop-i.i in
    let y = c.get-post.result in
    let here : (e : Post) → y ≡ get_or posts i e = λ e. c.get-post.ensures ∙ get_or_default posts i y e (omega arith) in
    record {
      sorted = rises_more (λ (p q : Post). by_place p q ≡ Less) posts i (λ k e same. elim c.else-i-gt0.branch [
        | else-i-gt0-via-then-i-gt0+else-not-is_before w ↦
            let x = w.get.result in
            let before : i - 1 ≡ k = omega arith in
            let there : x ≡ get_or posts k e = subst (λ (m : ℕ). x ≡ get_or posts m e) before (w.get.ensures ∙ get_or_default posts (i - 1) x e (omega arith)) in
            let less : by_place x y ≡ Less = less-from_test x y (sym w.is_before.ensures ∙ w.if-not-is_before.false) in
            subst (λ (z : Post). by_place (get_or posts k e) z ≡ Less) (subst (λ (m : ℕ). y ≡ get_or posts m e) (sym same) (here e)) (subst (λ (z : Post). by_place z y ≡ Less) there less)
        | else-i-gt0-via-else-i-gt0 w ↦ absurd (omega (arith, w.if-i-gt0.false, same))
      ]) c.loop-i.invariant.sorted;
      docs = all_more (λ (p : Post). p.doc < MAX_DOCS) posts i (λ e. subst (λ (p : Post). p.doc < MAX_DOCS) (here e) (omega (arith, c.if-post-ge-MAX_DOCS.false))) c.loop-i.invariant.docs;
      words = all_more (λ (p : Post). p.word < MAX_WORDS) posts i (λ e. subst (λ (p : Post). p.word < MAX_WORDS) (here e) (omega (arith, c.if-post-ge-MAX_WORDS.false))) c.loop-i.invariant.words;
    }

pub returns : goal.returns
returns c = λ done. record {
  sorted = sorted_from_all_adjacent by_place_total c.args.posts.now.posts blank (λ k h. c.loop-i.invariant.sorted k blank (omega arith));
  docs = All-from_get_or (λ p. p.doc < MAX_DOCS) c.args.posts.now.posts blank (λ k h. c.loop-i.invariant.docs k blank (omega arith));
  words = All-from_get_or (λ p. p.word < MAX_WORDS) c.args.posts.now.posts blank (λ k h. c.loop-i.invariant.words k blank (omega arith));
}
