use Rattle.cs_model_sources.proofs.SourceLines.{lines_counted, records_counted}
use Rattle.cs_model_sources.proofs.laws.numbered_lines.Goals as goal

pub returns : goal.returns
returns c = record { records = records_counted; lines = lines_counted }
