use Rattle.std.proofs.Common.{sym, ap, ◌∙◌}
use Rattle.cs_model_index.specs.Sections.{size_by}
use Rattle.cs_file.proofs.SectionSizes.{file_long}
use Rattle.cs_file.proofs.imaged.file_size.Goals as goal

pub returns : goal.returns
returns c = c.size.ensures.value ∙ ap size_by c.header_of.ensures.numbers ∙ sym (file_long c.args.image.now c.requires.one_each)
