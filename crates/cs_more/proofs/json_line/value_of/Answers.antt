use Rattle.std.proofs.Common.{◌∙◌, sym}
use Rattle.std.proofs.lemmas.Bool.{false≢true}
use Rattle.cs_more.proofs.JsonFields.{no_value, one_value}
use Rattle.cs_more.proofs.json_line.value_of.Goals as goal

pub returns-in-Ok : goal.returns-in-Ok
returns-in-Ok c = record { ok = one_value c.args.line.now _ c.in-Ok.ensures.ok.0 c.in-Ok.ensures.ok.1 }

pub returns-else-is_memory : goal.returns-else-is_memory
returns-else-is_memory c = record { ok = no_value c.args.line.now (c.in-Err.ensures.err (λ m. false≢true (sym c.if-is_memory.false ∙ c.is_memory.ensures.1 m))) }
