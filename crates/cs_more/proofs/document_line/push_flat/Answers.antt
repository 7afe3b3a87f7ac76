use Rattle.std.proofs.Common.{◌+◌, ◌∙◌, ◌++◌, ◌∷◌, [], ap, arith, sym, drop, length-drop}
use Rattle.std.proofs.lemmas.List.{take_all}
use Rattle.cs_base.specs.content.Bytes.{space}
use Rattle.cs_more.proofs.FlatColumns.{flat_from, flat_left}
use Rattle.cs_more.proofs.document_line.push_flat.Goals as goal

pub loop-at-preserved : goal.loop-at-preserved
loop-at-preserved c = flat_from _ c.loop-at.tsv.items c.loop-at.rest.now _ c.push.new.self.items c.in-Some.at c.in-Some.ensures c.loop-at.invariant (take_all _ (drop (c.in-Some.at + 1) c.loop-at.rest.now) (omega (arith, length-drop (c.in-Some.at + 1) c.loop-at.rest.now))) (c.in_ok-push.ensures.items ∙ ap (λ xs. xs ++ (space ∷ [])) c.in_ok-extend_from_slice.ensures.items)

pub returns : goal.returns
returns c = record { ok = c.in_ok-extend_from_slice-2.ensures.items ∙ ap (λ xs. c.loop-at.tsv.items ++ xs) (sym (flat_left c.loop-at.rest.now c.in_default.ensures)) ∙ c.loop-at.invariant }
