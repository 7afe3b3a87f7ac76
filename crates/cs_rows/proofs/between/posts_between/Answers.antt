use Rattle.std.proofs.Common.{◌≡◌, ◌++◌, ◌∙◌, [], sym, ap, arith, get_or, length, length-append, map, take}
use Rattle.std.specs.Prelude.{filter}
use Rattle.std.proofs.lemmas.List.{length-map}
use Rattle.cs_base.specs.declared.content.doc.Post.{Post}
use Rattle.cs_rows.specs.Stocked.{is_between}
use Rattle.cs_rows.proofs.AtomsLemmas.{counted_between}
use Rattle.cs_cols.proofs.FoundPlaces.{places_within}
use Rattle.cs_cols.specs.SpanPlaces.{is_between_at}
use Rattle.cs_rows.proofs.SpansLemmas.{between_there, span_added, span_fits}
use Rattle.cs_rows.proofs.between.posts_between.Goals as goal

abbrev blank : Post
blank = record { doc = 0; word = 0; pos = 0; score = 0 }

pub loop-from-init : goal.loop-from-init
loop-from-init c =
    let none : c.reserve.new.self.posts ≡ [] = c.reserve.ensures.posts ∙ c.new-found.ensures in
    record {
      told = sym (ap (λ xs. xs ++ filter (is_between c.args.lo c.args.hi) c.args.posts.now.posts) none);
      room = omega (
        arith,
        counted_between c.args.lo c.args.hi c.args.posts.now.posts c.words-words.result.now c.words-words.ensures,
        c.count_between.ensures,
        c.in_ok-reserve.ensures.ok,
      );
      within = omega arith;
    }

pub push_places-requires-clause-known : goal.push_places-requires-clause-known
push_places-requires-clause-known c =
    let words = c.words-words.result.now in
    let posts = c.args.posts.now.posts in
    places_within (is_between_at c.args.lo c.args.hi words) c.loop-from.from _ (length posts) (take c.find_between-many.result c.find_between-many.new.places)
    (omega (arith, c.min.ensures, c.loop-from-test.true))
    (omega (arith, c.min.ensures, c.loop-from-test.true, ap length c.words-words.ensures, length-map posts (λ (p : Post). p.word)))
    c.find_between-many.ensures.found

pub push_places-requires-clause-room : goal.push_places-requires-clause-room
push_places-requires-clause-room c =
    let inv = c.loop-from.invariant in
    span_fits c.args.lo c.args.hi c.args.posts.now.posts blank c.loop-from.from _ (take c.find_between-many.result c.find_between-many.new.places)
    c.loop-from.found.posts c.loop-from.found.room
    (between_there c.args.lo c.args.hi c.args.posts.now.posts blank c.words-words.result.now c.words-words.ensures c.loop-from.from _
    (take c.find_between-many.result c.find_between-many.new.places) (omega (arith, c.min.ensures, c.loop-from-test.true))
    (omega (arith, c.min.ensures, c.loop-from-test.true)) c.find_between-many.ensures.found) inv.told inv.room

pub loop-from-preserved : goal.loop-from-preserved
loop-from-preserved c =
    let inv = c.loop-from.invariant in
    let posts = c.args.posts.now.posts in
    let places = take c.find_between-many.result c.find_between-many.new.places in
    let old = c.loop-from.found.posts in
    let told = c.push_places.ensures.posts blank in
    record {
      told = span_added c.args.lo c.args.hi posts blank c.loop-from.from _ places old c.push_places.new.found.posts
          (between_there c.args.lo c.args.hi posts blank c.words-words.result.now c.words-words.ensures c.loop-from.from _ places
          (omega (arith, c.min.ensures, c.loop-from-test.true)) (omega (arith, c.min.ensures, c.loop-from-test.true)) c.find_between-many.ensures.found) told inv.told;
      room = omega (
        arith,
        inv.room,
        ap length told,
        length-append old (map (λ i. get_or posts i blank) places),
        length-map places (λ i. get_or posts i blank),
        c.push_places.ensures.room,
      );
      within = omega (arith, c.min.ensures, c.loop-from-test.true);
    }
