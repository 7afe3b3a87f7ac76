use Rattle.std.proofs.Common.{rules, Some, None, sym, ◌∙◌, lit<}
use Rattle.std.proofs.lemmas.Str.Pattern.{strip_suffix_char}
use Rattle.cs_docs.proofs.FacetPiecesLemmas.{behind_space, no_space_behind}
use Rattle.cs_docs.proofs.pieces.without_spaces_behind.Goals as goal

pub loop-before-preserved : goal.loop-before-preserved
loop-before-preserved c = record { told = sym (behind_space c.loop-before.rest.now c.in-Some.before.now (strip_suffix_char 32 c.loop-before.rest.now (Some c.in-Some.before) c.in-Some.ensures.cases (lit< tt))) ∙ c.loop-before.invariant.told; utf8 = search rules }

pub returns : goal.returns
returns c =
    sym (no_space_behind c.loop-before.rest.now (strip_suffix_char 32 c.loop-before.rest.now None c.in_default.ensures.cases (lit< tt))) ∙ c.loop-before.invariant.told
