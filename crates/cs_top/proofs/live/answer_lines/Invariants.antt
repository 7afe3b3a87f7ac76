use Rattle.std.proofs.Common.{◌≡◌, ◌≤◌, ◌-◌, List, ℕ}
use Rattle.cs_model.specs.Outputs.{script_lines}
use Rattle.cs_model_index.specs.Sections.{file_corpus}
use Rattle.cs_model_live.specs.LiveStates.{LiveState, before_changes}
use Rattle.cs_indexing.specs.Views.{OfFile}
use Rattle.cs_top.specs.Answering.{CameCounts}
use Rattle.cs_top.specs.LiveAnswering.{LiveOver, StaysIndex}
use Rattle.cs_top.specs.LiveSteps.{IsToldCourseTo}
use Rattle.cs_top.specs.LiveTexts.{IsLiveText}
use Rattle.cs_top.specs.PutTexts.{PutsTextsOf}
use Rattle.cs_top.proofs.AnsweredLemmas.{HasAnswered, lines_at}
use Rattle.cs_top.proofs.live.answer_lines.Given as goal

abbrev pub invariant-loop-place : goal.invariant-loop-place
invariant-loop-place g l = record {
  so_far : (b : List ℕ) → LiveOver l.fn.live l.index.name.now (g.F.Files.held l.fn.files) b (before_changes (file_corpus b)) → OfFile (g.F.Files.held l.fn.files) l.script (λ x. (s : LiveState)
      × HasAnswered (IsToldCourseTo b s) (script_lines x) (lines_at x l.place) (g.O.Sink.written l.fn.out) (g.O.Sink.written l.out) l.came (g.F.Files.faults l.fn.files) (g.F.Files.faults l.files)
      × LiveOver l.live l.index.name.now (g.F.Files.held l.files) b s);
  puts : PutsTextsOf IsLiveText l.came (g.O.Sink.written l.fn.out) (g.O.Sink.written l.out);
  came : CameCounts l.came (g.F.Files.faults l.fn.files) (g.F.Files.faults l.files);
  stays : StaysIndex l.fn.live l.live (g.F.Files.held l.fn.files) (g.F.Files.held l.files);
  out : g.O.Sink.faults l.out ≡ g.O.Sink.faults l.fn.out;
  numbered : l.place.number ≤ l.place.at;
}

abbrev pub decreases-loop-place : goal.decreases-loop-place
decreases-loop-place g l = l.script.size - l.place.at
