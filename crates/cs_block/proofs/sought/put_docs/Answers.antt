use Rattle.std.proofs.Common.{◌≡◌, ◌<◌, ◌++◌, List, ℕ, length, take, drop, sym, ap, subst, ◌∙◌}
use Rattle.std.specs.List.{All}
use Rattle.cs_model_index.specs.BlockRules.{rows_read}
use Rattle.cs_block.specs.ColumnsView.{seen_columns}
use Rattle.cs_block.specs.RowRuns.{HasDocs}
use Rattle.cs_block.specs.Sought.{rows_with}
use Rattle.cs_block.proofs.KnownRows.{rows_known}
use Rattle.cs_block.proofs.SoughtLemmas.{docs_below, docs_there, refilled}
use Rattle.cs_block.proofs.sought.put_docs.Goals as goal

pub returns : goal.returns
returns c =
    let head = c.args.head.now in
    let bytes = c.args.bytes.now in
    let columns = seen_columns c.block_columns-columns.result in
    let docs = c.args.below in
    let ds = c.docs_in-listed.new.out in
    let items = c.resize.new.self.items in
    let len = c.resize.new.self.len in
    let long : length items ≡ len = sym (ap length c.deref_mut.ensures.value) ∙ c.deref_mut.ensures.len in
    let all : length ds ≡ len = c.docs_in-listed.auto.out ∙ c.deref_mut.ensures.len in
    let same = refilled len ds items long all in
    let now = take len (ds ++ drop (length ds) items) in
    let rows : length ds ≡ head.rows = all ∙ c.in_ok-resize.ensures.len in
    record {
      ok = λ e.
          let there = docs_there c.docs_in-listed.result (HasDocs columns.gaps 0 0 docs ds) (sym c.is_some.ensures ∙ e) c.docs_in-listed.ensures in
          let known = rows_known head docs bytes columns ds there.0 c.block_columns-columns.ensures.value rows there.1 in
          record {
            long = ap length same ∙ rows;
            rows = ap (λ cut. rows_with head cut now) (sym c.block_columns-columns.ensures.value) ∙ ap (rows_with head columns) same ∙ sym known;
          };
      known = λ e.
          let there = docs_there c.docs_in-listed.result (HasDocs columns.gaps 0 0 docs ds) (sym c.is_some.ensures ∙ e) c.docs_in-listed.ensures in
          subst (All (λ d. d < docs)) (sym same) (docs_below columns.gaps 0 0 docs ds there.0 there.1);
    }
