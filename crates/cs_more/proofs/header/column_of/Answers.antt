use Rattle.std.proofs.Common.{◌∙◌, ap, arith, sym}
use Rattle.csv.specs.Records.{fields_of}
use Rattle.cs_model_sources.specs.CsvSources.{is_field_named}
use Rattle.cs_more.proofs.FieldPlaces.{position-none, position-some}
use Rattle.cs_more.proofs.header.column_of.Goals as goal

pub returns-then-is_field_named : goal.returns-then-is_field_named
returns-then-is_field_named c = position-some (is_field_named c.args.name.now) (fields_of c.args.header.now) c.loop-i.i (omega (arith, c.loop-i-test.true, c.len-i-end.ensures)) c.loop-i.invariant (ap (is_field_named c.args.name.now) (sym c.field_at.ensures) ∙ sym c.is_field_named.ensures ∙ c.if-is_field_named.true)

pub returns : goal.returns
returns c = position-none (is_field_named c.args.name.now) (fields_of c.args.header.now) c.loop-i.i (omega (arith, c.loop-i-test.false, c.len-i-end.ensures)) (omega (arith, c.loop-i.auto.i-end, c.len-i-end.ensures)) c.loop-i.invariant
