use Rattle.std.proofs.Common.{◌∙◌}
use Rattle.csv.specs.Records.{fields_of}
use Rattle.cs_more.proofs.FieldPlaces.{field-none, field-some}
use Rattle.cs_more.proofs.header.field_at.Goals as goal

pub returns-in-Some : goal.returns-in-Some
returns-in-Some c = field-some (fields_of c.args.fields.now) c.args.i c.in-Some.field.now c.in-Some.ensures.value

pub returns-in-None : goal.returns-in-None
returns-in-None c = c.as_slice.ensures ∙ field-none (fields_of c.args.fields.now) c.args.i c.in-None.ensures.value
