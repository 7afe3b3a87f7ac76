use Rattle.std.proofs.Common.{ap, ◌∙◌}
use Rattle.cs_base.specs.outside.Outside.{part}
use Rattle.cs_file.proofs.BytesLemmas.{bytes_by}
use Rattle.cs_file.proofs.reading.section_over.Goals as goal

pub returns-in-Ok-clause-small : goal.returns-in-Ok-clause-small
returns-in-Ok-clause-small g c = λ b t. bytes_by b c.deref.result.now c.args.at c.args.len
    (c.deref.ensures.value ∙ c.in-Ok.ensures.ok b t ∙ ap (part b c.args.at) c.in_ok-fit.ensures) c.are_bytes.ensures
