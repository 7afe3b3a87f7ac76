use Rattle.std.proofs.Common.{◌≡◌, ◌∷◌}
use Rattle.csv.specs.Records.{fields_of}
use Rattle.cs_more.specs.RecordsLeft.{records_left}
use Rattle.cs_more.proofs.RecordsRead.{line_more}
use Rattle.cs_more.proofs.csv_source.push_records.Goals as goal

pub loop-tsv-preserved : goal.loop-tsv-preserved
loop-tsv-preserved c =
    let row = fields_of c.next_record.new.fields in
    let before : records_left c.loop-tsv.reader ≡ row ∷ records_left c.next_record.new.reader = rw c.if-branch.true at c.in_ok-next_record.ensures.left in
    record {
      whole = line_more c.args.columns _ c.loop-tsv.tsv.items c.push_record.new.tsv.items row (records_left c.next_record.new.reader) (records_left c.loop-tsv.reader) before
          c.in_ok-push_record.ensures.ok c.loop-tsv.invariant.whole;
      stands = c.in_ok-next_record.ensures.stands c.if-branch.true;
      few = c.in_ok-push_record.ensures.few;
    }
