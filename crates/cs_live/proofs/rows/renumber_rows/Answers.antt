use Rattle.std.proofs.Common.{◌<◌, length, get_or, set, sym, ap, ◌∙◌, arith}
use Rattle.std.proofs.lemmas.List.{get_or_default}
use Rattle.std.proofs.lemmas.List.Edits.{map_over_more}
use Rattle.std.proofs.lemmas.List.Elements.{recursion_from_All}
use Rattle.cs_base.specs.declared.content.doc.Post.{Post}
use Rattle.cs_live.specs.States.{renumbered}
use Rattle.cs_live.proofs.RowsInPlace.{own_posts}
use Rattle.cs_live.proofs.rows.renumber_rows.Goals as goal

pub returns-then-own : goal.returns-then-own
returns-then-own c =
    sym (own_posts c.args.shift.now (c.requires.own c.if-own.true) c.args.posts.now
    (recursion_from_All (λ p. p.word < length c.args.shift.now) c.args.posts.now c.requires.words))

pub loop-i-preserved : goal.loop-i-preserved
loop-i-preserved c =
    let l = c.loop-i in
    let blank : Post = record { doc = 0; word = 0; pos = 0; score = 0 } in
    let x = get_or l.posts l.i blank in
    ap (set l.posts l.i) c.renumbered.ensures
    ∙ map_over_more (renumbered c.args.shift.now) c.args.posts.now l.posts l.i x c.loop-i-test.true l.invariant (get_or_default l.posts l.i blank x (omega (arith, c.loop-i-test.true)))
