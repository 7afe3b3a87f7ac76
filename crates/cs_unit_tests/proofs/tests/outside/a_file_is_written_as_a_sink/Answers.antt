use Rattle.std.proofs.Common.{ap, refl}
use Rattle.std.specs.Prelude.{Some}
use Rattle.cs_base.specs.outside.Outside.{empty_file}
use Rattle.cs_base.proofs.FileLemmas.{held_after, open_after}
use Rattle.cs_unit_tests.proofs.tests.outside.a_file_is_written_as_a_sink.Goals as goal

pub new-sink-requires-clause-holds : goal.new-sink-requires-clause-holds
new-sink-requires-clause-holds g c = held_after (Some c.fail_writes.new.self.held) _ _ (λ _. empty_file) (ap (λ m. Some m.held) c.in-Ok.ensures.ok)

pub new-sink-requires-clause-unfinished : goal.new-sink-requires-clause-unfinished
new-sink-requires-clause-unfinished g c = open_after (Some c.fail_writes.new.self.held) _ _ (λ _. empty_file) (λ _. refl) (ap (λ m. Some m.held) c.in-Ok.ensures.ok)
