use Rattle.cs_more.proofs.FlatColumns.{joined_columns}
use Rattle.cs_more.proofs.document_line.push_columns.Goals as goal

pub returns : goal.returns
returns c = record {
  ok = joined_columns c.args.tsv.now.items c.push_flat.new.tsv.items c.push.new.self.items c.push_flat-2.new.tsv.items c.push-2.new.self.items c.push_flat-3.new.tsv.items c.push-3.new.self.items c.args.title.now c.args.facets.now c.args.text.now
      c.in_ok-push_flat.ensures.ok c.in_ok-push.ensures.items c.in_ok-push_flat-2.ensures.ok c.in_ok-push-2.ensures.items c.in_ok-push_flat-3.ensures.ok c.in_ok-push-3.ensures.items;
}
