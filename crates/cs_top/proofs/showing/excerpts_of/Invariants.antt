use Rattle.std.proofs.Common.{◌≡◌, map, take}
use Rattle.cs_docs.specs.LinesRead.{doc_of_lent}
use Rattle.cs_top.specs.HitForms.{hit_excerpts, own_excerpt_at}
use Rattle.cs_top.proofs.showing.excerpts_of.Given as goal

abbrev pub invariant-loop-hit : goal.invariant-loop-hit
invariant-loop-hit l = l.excerpts.items ≡ hit_excerpts (own_excerpt_at (map doc_of_lent l.docs)) l.query (take l.hit-index l.hits)
