use Rattle.std.proofs.Common.{sym, ◌∙◌, ap, arith, ◌++◌, List}
use Rattle.cs_base.specs.declared.content.doc.Post.{Post}
use Rattle.cs_model_index.specs.BlockRules.{rows_read}
use Rattle.cs_block.proofs.LawsLemmas.{accepted, unique}
use Rattle.cs_block.proofs.ItemsLemmas.{judged_cut, rows_cut}
use Rattle.cs_block.proofs.RulePasses.{none-from_test}
use Rattle.cs_block.proofs.decoding.decode_reserved.Goals as goal

pub returns-in-Some-clause-exact : goal.returns-in-Some-clause-exact
returns-in-Some-clause-exact c = c.in-Some.ensures ∙ judged_cut c.args.weights c.args.head.now c.args.docs c.args.bytes.now _ c.block_columns-columns.ensures.value

pub returns-in-Some-clause-accepts : goal.returns-in-Some-clause-accepts
returns-in-Some-clause-accepts c = λ rows block. returns-in-Some-clause-exact c
    ∙ (unique c.args.weights (record { title = omega arith; facet = omega arith; text = omega arith }) c.args.head.now c.args.docs rows c.args.bytes.now (omega arith) c.requires.shaped block).0

pub returns-else-not-push_rows-clause-exact : goal.returns-else-not-push_rows-clause-exact
returns-else-not-push_rows-clause-exact c = sym (none-from_test _ (sym c.push_rows.ensures.told ∙ c.if-not-push_rows.false))
    ∙ judged_cut c.args.weights c.args.head.now c.args.docs c.args.bytes.now _ c.block_columns-columns.ensures.value

pub returns-else-not-push_rows-clause-ok : goal.returns-else-not-push_rows-clause-ok
returns-else-not-push_rows-clause-ok c = (
  rows_read c.args.head.now c.args.bytes.now,
  accepted c.args.weights c.args.head.now c.args.docs c.args.bytes.now (λ i. omega (arith, c.type_inv.bytes i)) c.requires.shaped
      (sym (returns-else-not-push_rows-clause-exact c)),
  c.push_rows.ensures.posts c.if-not-push_rows.false
      ∙ ap (λ (x : List Post). c.args.into.now.posts ++ x) (rows_cut c.args.head.now c.args.bytes.now _ c.block_columns-columns.ensures.value),
)
