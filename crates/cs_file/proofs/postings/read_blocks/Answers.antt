use Rattle.std.proofs.Common.{◌≡◌, ◌+◌, map, slice_index_or, refl, sym, ap, subst, ◌∙◌, arith}
use Rattle.cs_file.specs.Parting.{bare}
use Rattle.cs_file.specs.HeaderView.{seen_header}
use Rattle.cs_model_index.specs.Sections.{blocks_at}
use Rattle.cs_file.proofs.BytesLemmas.{no_bytes}
use Rattle.cs_file.proofs.FetchLemmas.{nothing}
use Rattle.cs_file.proofs.PostingsLemmas.{BlocksRead, bares_on, bares_all, block_bytes_on, block_bytes_all, reading, reads_on, read_refused, read_all, at_next}
use Rattle.cs_file.proofs.StagesLemmas.{judged_along}
use Rattle.cs_model_index.proofs.WeightsFieldLemmas.{weights_fine}
use Rattle.cs_model.specs.Weights.{AreWeights}
use Rattle.cs_file.proofs.postings.read_blocks.Goals as goal

pub loop-i-init : goal.loop-i-init
loop-i-init g c = record {
  told = λ b t. reading b (seen_header c.args.header.now) c.args.heads.now c.blocks_at-at.result c.in_ok-parts.parts.items (c.requires.told b t)
      (c.requires.heads b t) c.blocks_at-at.ensures.value c.in_ok-parts.ensures;
  small = λ b t. no_bytes b (blocks_at (seen_header c.args.header.now));
  place = omega (arith, c.blocks_at-at.ensures.value);
  alike = ap (map (λ p. bare p.head)) c.in_ok-parts.ensures;
  same = refl;
  lent = refl;
  quiet = refl;
}

pub read_block-requires-clause-weights : goal.read_block-requires-clause-weights
read_block-requires-clause-weights g c =
    subst AreWeights (sym c.weights_of-weights.ensures) (weights_fine c.args.header.now.weights c.requires.ranges.weights)

pub returns-in_err-part-clause-exact : goal.returns-in_err-part-clause-exact
returns-in_err-part-clause-exact g c = λ b t.
    judged_along _ _ c.from_residual-in_err-part.result
    (read_refused b (seen_header c.args.header.now) c.weights_of-weights.result c.args.heads.now c.loop-i.i c.loop-i.at c.loop-i.parts.items
    c.in_err-part.field-0.0 c.weights_of-weights.ensures c.loop-i-test.true (c.in_err-part.ensures.exact b (c.loop-i.invariant.same ∙ t)) (c.loop-i.invariant.told b t))
    c.from_residual-in_err-part.ensures.1

pub loop-i-preserved : goal.loop-i-preserved
loop-i-preserved g c =
    let hs = c.args.heads.now in
    let h = seen_header c.args.header.now in
    let len = c.from-at.ensures in
    let next : c.loop-i.at + (slice_index_or hs c.loop-i.i nothing).len ≡ c.loop-i.at + c.from-at.result = ap (λ n. c.loop-i.at + n) (sym len) in
    record {
      told = λ b t. subst (λ n. BlocksRead b h hs (c.loop-i.i + 1) n c.push_part.new.parts.items) next
          (reads_on b h c.weights_of-weights.result hs c.loop-i.i c.loop-i.at c.loop-i.parts.items c.push_part.new.parts.items c.in_ok-part.part c.weights_of-weights.ensures c.loop-i-test.true
          (c.in_ok-part.ensures.exact b (c.loop-i.invariant.same ∙ t)) (c.in_ok-part.ensures.part b (c.loop-i.invariant.same ∙ t))
          c.in_ok-push_part.ensures (c.loop-i.invariant.told b t));
      small = λ b t. block_bytes_on b hs (blocks_at h) c.loop-i.i c.loop-i.at c.loop-i-test.true c.loop-i.invariant.place (c.loop-i.invariant.small b t)
          (c.in_ok-part.ensures.small b (c.loop-i.invariant.same ∙ t));
      place = sym next ∙ at_next hs _ c.loop-i.i c.loop-i.at c.loop-i-test.true c.loop-i.invariant.place;
      alike = ap (map (λ p. bare p.head)) c.in_ok-push_part.ensures
          ∙ bares_on c.loop-i.parts.items hs c.loop-i.i c.in_ok-part.part c.loop-i-test.true c.in_ok-part.ensures.bare c.loop-i.invariant.alike;
      same = c.in_ok-part.ensures.bytes ∙ c.loop-i.invariant.same;
      lent = c.in_ok-part.ensures.lent ∙ c.loop-i.invariant.lent;
      quiet = c.in_ok-part.ensures.caused.quiet refl ∙ c.loop-i.invariant.quiet;
    }

pub returns-clause-exact : goal.returns-clause-exact
returns-clause-exact g c = λ b t. (read_all b (seen_header c.args.header.now) c.args.heads.now c.loop-i.i c.loop-i.at c.loop-i.parts.items
    c.loop-i-test.false (c.loop-i.invariant.told b t)).0

pub returns-clause-parts : goal.returns-clause-parts
returns-clause-parts g c = λ b t. (read_all b (seen_header c.args.header.now) c.args.heads.now c.loop-i.i c.loop-i.at c.loop-i.parts.items
    c.loop-i-test.false (c.loop-i.invariant.told b t)).1

pub returns-clause-small : goal.returns-clause-small
returns-clause-small g c = λ b t. block_bytes_all b c.args.heads.now (blocks_at (seen_header c.args.header.now)) c.loop-i.i c.args.header.now.blocks_len
    c.loop-i-test.false c.requires.bytes (c.loop-i.invariant.small b t)

pub returns-clause-bare : goal.returns-clause-bare
returns-clause-bare g c = bares_all c.loop-i.parts.items c.args.heads.now c.loop-i.i c.loop-i-test.false c.loop-i.invariant.alike
