use Rattle.std.proofs.Common.{◌≡◌, ◌∙◌, subst, map, take, arith}
use Rattle.std.proofs.lemmas.List.{take_all}
use Rattle.cs_tables.specs.WordCounts.{HasCounted}
use Rattle.cs_rows.specs.Packing.{post_of_key}
use Rattle.cs_rows.proofs.KeysLemmas.{key_counted}
use Rattle.cs_rows.proofs.counting.count_keys.Goals as goal

pub see-requires-clause-from : goal.see-requires-clause-from
see-requires-clause-from c =
    let between = c.requires c.loop-key.key-index 0 c.loop-key-test.true in
    omega (arith, between.0, c.word_of.ensures, c.loop-key.invariant.low)

pub see-requires-clause-upto : goal.see-requires-clause-upto
see-requires-clause-upto c =
    let between = c.requires c.loop-key.key-index 0 c.loop-key-test.true in
    omega (arith, between.1, c.word_of.ensures, c.loop-key.invariant.high)

pub loop-key-preserved : goal.loop-key-preserved
loop-key-preserved c = record {
  counted = λ w few none.
      key_counted w c.args.keys.now c.loop-key.key-index c.loop-key.counts c.see.new.self c.loop-key-test.true few
      (λ row doc word. c.see.ensures.counted row (c.doc_of_key.ensures ∙ doc) (c.word_of.ensures ∙ word)) (c.loop-key.invariant.counted w few none);
  low = c.see.ensures.low ∙ c.loop-key.invariant.low;
  high = c.see.ensures.high ∙ c.loop-key.invariant.high;
}

pub returns-clause-counted : goal.returns-clause-counted
returns-clause-counted c w few none =
    let whole : take c.loop-key.key-index c.args.keys.now ≡ c.args.keys.now = take_all c.loop-key.key-index c.args.keys.now
    (omega (arith, c.loop-key-test.false)) in
    subst (λ ks. HasCounted (map (post_of_key w) ks) c.loop-key.counts) whole (c.loop-key.invariant.counted w few none)
