use Rattle.std.proofs.Common.{◌≡◌, ◌++◌, true, sym, ap, subst, ◌∙◌}
use Rattle.std.specs.List.{All}
use Rattle.std.specs.Prelude.{filter}
use Rattle.std.proofs.lemmas.List.Elements.{All-nil, All-weaker}
use Rattle.cs_model_index.specs.BlockRules.{is_scored, rows_read}
use Rattle.cs_block.specs.ColumnsView.{seen_columns}
use Rattle.cs_block.specs.Sought.{IsOfBlock, is_sought, passes, rows_with}
use Rattle.cs_block.proofs.SoughtLemmas.{sought_all}
use Rattle.cs_block.proofs.sought.put_sought.Goals as goal

pub returns : goal.returns
returns c e =
    let head = c.args.head.now in
    let weights = c.args.weights in
    let columns = seen_columns c.block_columns-columns.result in
    let ds = c.args.docs.now in
    let put = c.in_ok-kept.ensures in
    let lo = c.args.words.0 in
    let hi = c.args.words.1 in
    let listed = c.args.listed.now in
    let posts = c.add_sought.new.into.items in
    let whole = c.is_inside.result in
    let rows = ap (λ cut. rows_with head cut ds) c.block_columns-columns.ensures.value ∙ c.requires.docs.rows in
    let added = put.added ∙ ap (λ xs. xs ++ filter (passes whole lo hi listed) (rows_with head columns ds)) c.truncate.ensures.items in
    let own = put.kept e (subst (All (IsOfBlock weights head)) (sym c.truncate.ensures.items) (All-nil (IsOfBlock weights head))) in
    record {
      are = sought_all weights head columns ds whole lo hi listed posts c.is_inside.ensures added own ∙ ap (filter (is_sought lo hi listed)) rows;
      scored = All-weaker (IsOfBlock weights head) (λ p. is_scored weights head.facet p ≡ true) (λ p h. h.scored) posts own;
    }
