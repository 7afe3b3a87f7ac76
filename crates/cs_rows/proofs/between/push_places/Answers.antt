use Rattle.std.proofs.Common.{◌++◌, ◌∙◌, ap, arith, get_or, map}
use Rattle.std.proofs.lemmas.List.{take_all}
use Rattle.cs_rows.proofs.SpansLemmas.{place_added}
use Rattle.cs_rows.proofs.between.push_places.Goals as goal

pub loop-place-preserved : goal.loop-place-preserved
loop-place-preserved c =
    let inv = c.loop-place.invariant in
    let j = c.loop-place.place-index in
    record {
      posts = λ d. place_added c.args.posts.now.posts d c.args.places.now j c.args.found.now.posts c.loop-place.found.posts c.push_reserved.new.self.posts
          c.get.result c.loop-place-test.true (c.requires.known j 0 c.loop-place-test.true) c.get.ensures (inv.posts d) c.push_reserved.ensures.posts;
      room = omega (arith, inv.room, c.push_reserved.ensures.room);
    }

pub returns-clause-posts : goal.returns-clause-posts
returns-clause-posts c d =
    c.loop-place.invariant.posts d ∙ ap (λ ps. c.args.found.now.posts ++ map (λ i. get_or c.args.posts.now.posts i d) ps)
    (take_all c.loop-place.place-index c.args.places.now (omega (arith, c.loop-place-test.false)))
