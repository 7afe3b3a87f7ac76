use Rattle.std.proofs.Common.{◌+◌, ◌&&◌, [], ◌∷◌, ◌∙◌, sym, subst, arith}
use Rattle.std.specs.List.{All}
use Rattle.std.proofs.lemmas.Bool.{and_parts, ltb-true}
use Rattle.std.proofs.lemmas.List.Elements.{All-append, All-from_recursion}
use Rattle.cs_block.specs.ColumnsView.{seen_columns}
use Rattle.cs_block.specs.Sought.{IsOfBlock, row_with}
use Rattle.cs_block.proofs.SoughtLemmas.{added_on}
use Rattle.cs_block.proofs.sought.add_rows.Goals as goal

pub loop-place-preserved : goal.loop-place-preserved
loop-place-preserved c =
    let k = c.loop-place.place-index in
    let inv = c.loop-place.invariant in
    let places = c.args.places.now in
    let head = c.args.head.now in
    let weights = c.args.weights in
    let row = c.row_at-row.result in
    record {
      added = added_on (row_with head (seen_columns c.args.columns.now) c.args.docs.now) c.args.into.now.items c.loop-place.into.items
          c.push_reserved.new.self.items places k row c.loop-place-test.true c.row_at-row.ensures c.push_reserved.ensures.items inv.added;
      kept = λ e all.
          let both = and_parts c.loop-place.kept (c.is_in_words.result && c.is_scored.result) e in
          let own = and_parts c.is_in_words.result c.is_scored.result both.1 in
          let here : IsOfBlock weights head row = record {
            word = ltb-true row.word (head.lo + head.words) (sym c.is_in_words.ensures ∙ own.0);
            scored = sym c.is_scored.ensures ∙ own.1;
          } in
          subst (All (IsOfBlock weights head)) (sym c.push_reserved.ensures.items)
          (All-append (IsOfBlock weights head) c.loop-place.into.items (row ∷ []) (inv.kept both.0 all)
          (All-from_recursion (IsOfBlock weights head) (row ∷ []) (here, tt)));
      room = omega (arith, inv.room, c.push_reserved.ensures.len, c.push_reserved.ensures.capacity);
    }
