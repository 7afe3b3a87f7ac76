use Rattle.std.proofs.Common.{◌≡◌, ◌≤◌, ◌-◌}
use Rattle.cs_model.specs.Corpus.{Corpus}
use Rattle.cs_model.specs.Outputs.{OneEach, script_lines}
use Rattle.cs_indexing.specs.Views.{OfFile}
use Rattle.cs_top.specs.Answering.{AnswersOver, CameOver, MayAnswer, StaysOver}
use Rattle.cs_top.specs.HitForms.{form_by}
use Rattle.cs_top.specs.PutTexts.{PutsTexts}
use Rattle.cs_top.proofs.AnsweredLemmas.{HasAnswered, lines_at}
use Rattle.cs_top.proofs.script.answer_script.Given as goal

abbrev pub invariant-loop-place : goal.invariant-loop-place
invariant-loop-place g l = record {
  so_far : (k : Corpus) → AnswersOver l.fn.engine l.fn.file (g.F.Files.held l.fn.files) k → OfFile (g.F.Files.held l.fn.files) l.script (λ b.
      HasAnswered (OneEach (MayAnswer l.showing l.fn.file k)) (script_lines b) (lines_at b l.place) (g.O.Sink.written l.fn.out) (g.O.Sink.written l.out) l.came (g.F.Files.faults l.fn.files) (g.F.Files.faults l.files));
  puts : PutsTexts (form_by l.showing) l.came (g.O.Sink.written l.fn.out) (g.O.Sink.written l.out);
  came : CameOver l.fn.engine l.fn.file (g.F.Files.held l.fn.files) l.came (g.F.Files.faults l.fn.files) (g.F.Files.faults l.files);
  over : StaysOver l.fn.engine l.engine l.fn.file l.file (g.F.Files.held l.fn.files) (g.F.Files.held l.files);
  out : g.O.Sink.faults l.out ≡ g.O.Sink.faults l.fn.out;
  numbered : l.place.number ≤ l.place.at;
}

abbrev pub decreases-loop-place : goal.decreases-loop-place
decreases-loop-place g l = l.script.size - l.place.at
