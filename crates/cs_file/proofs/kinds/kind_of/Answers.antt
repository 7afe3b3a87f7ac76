use Rattle.std.proofs.Common.{◌≡◌, ◌<◌, true, eqb, length, slice_index_or, sym, ◌∙◌, arith}
use Rattle.std.proofs.lemmas.Bool.{eq-eqb}
use Rattle.cs_file.proofs.KindsLemmas.{kind_front}
use Rattle.cs_file.proofs.kinds.kind_of.Goals.{then-loop-end-test+else-word-end-ne58, else-loop-end-test}
use Rattle.cs_file.proofs.kinds.kind_of.Goals as goal

pub returns : goal.returns
returns c =
    let w = c.args.word.now in
    let end = c.loop-end.end in
    let here : end < length w → eqb (slice_index_or w end 0) 58 ≡ true = elim c.loop-end-test.branch [
      | then-loop-end-test+else-word-end-ne58 v ↦ λ lt. eq-eqb (slice_index_or w end 0) 58 (omega arith)
      | else-loop-end-test v ↦ λ lt. absurd (omega arith)
    ] in
    kind_front w end (sym c.is_facet.ensures ∙ c.if-not-is_facet.false) c.loop-end.invariant.low c.loop-end.invariant.within c.loop-end.invariant.none here
