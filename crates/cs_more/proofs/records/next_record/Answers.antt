use Rattle.csv.specs.Records.{fields_of}
use Rattle.cs_more.proofs.RecordsRead.{row_read}
use Rattle.cs_more.proofs.records.next_record.Goals as goal

pub returns-in-Ok-clause-left : goal.returns-in-Ok-clause-left
returns-in-Ok-clause-left c =
    let old = c.args.reader.now in
    let s = c.requires.stands in
    (row_read old c.read_byte_record.new.self c.in-Ok.found (fields_of c.read_byte_record.new.row) s (c.in-Ok.ensures.reads s.trim s.ready) (c.in-Ok.ensures.ready s.trim) c.in-Ok.ensures.flexible).left

pub returns-in-Ok-clause-stands : goal.returns-in-Ok-clause-stands
returns-in-Ok-clause-stands c =
    let old = c.args.reader.now in
    let s = c.requires.stands in
    (row_read old c.read_byte_record.new.self c.in-Ok.found (fields_of c.read_byte_record.new.row) s (c.in-Ok.ensures.reads s.trim s.ready) (c.in-Ok.ensures.ready s.trim) c.in-Ok.ensures.flexible).stands
