use Rattle.std.proofs.Common.{◌++◌, map, length, ap, subst, ◌∙◌, arith}
use Rattle.std.specs.List.{All}
use Rattle.std.specs.Str.{IsUtf8}
use Rattle.cs_model.specs.Corpus.{placed}
use Rattle.cs_docs.proofs.row_list.push_facets.Goals as goal

pub loop-word-init : goal.loop-word-init
loop-word-init c = record {
  told = ap (λ ws. c.args.rows.now.items ++ map (λ w. placed c.args.doc c.args.score (0, w)) ws) (c.into_iter-word-iterator.ensures.into_iter_gives.0 ∙ c.in_ok-word-items.ensures.ok);
  left = omega (arith, c.into_iter-word-iterator.ensures.into_iter_gives.1, ap length c.into_iter-word-iterator.ensures.into_iter_gives.0, c.in_ok-word-items.word-items.ok);
}

pub returns-clause-utf8 : goal.returns-clause-utf8
returns-clause-utf8 c = subst (All IsUtf8) c.in_ok-word-items.ensures.ok c.in_ok-word-items.ensures.utf8
