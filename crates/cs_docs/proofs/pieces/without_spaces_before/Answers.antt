use Rattle.std.proofs.Common.{rules, Some, None, sym, ap, ◌∙◌, drop, lit<}
use Rattle.std.proofs.lemmas.Str.Pattern.{strip_prefix_char}
use Rattle.cs_docs.proofs.FacetPiecesLemmas.{front_space, no_front_space}
use Rattle.cs_docs.proofs.pieces.without_spaces_before.Goals as goal

pub loop-after-preserved : goal.loop-after-preserved
loop-after-preserved c = record { told = sym (front_space c.loop-after.rest.now c.in-Some.after.now (strip_prefix_char 32 c.loop-after.rest.now (Some c.in-Some.after) c.in-Some.ensures.cases (lit< tt))) ∙ c.loop-after.invariant.told; utf8 = search rules }

pub returns : goal.returns
returns c =
    sym (ap (λ n. drop n c.loop-after.rest.now) (no_front_space c.loop-after.rest.now (strip_prefix_char 32 c.loop-after.rest.now None c.in_default.ensures.cases (lit< tt)))) ∙ c.loop-after.invariant.told
