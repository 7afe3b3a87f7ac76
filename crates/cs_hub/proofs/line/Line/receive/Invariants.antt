use Rattle.std.proofs.Common.{◌++◌, length}
use Rattle.cs_hub.specs.Asked.{AsksAlong, StaysAnswering}
use Rattle.cs_hub.specs.Speaking.{Calm}
use Rattle.cs_hub.specs.Turns.{Along}
use Rattle.cs_hub.proofs.line.Line.receive.Given as goal

abbrev pub invariant-loop-used : goal.invariant-loop-used
invariant-loop-used g l = record {
  along : Along (g.A.Answerer.answers l.initial.answerer) l.conn (l.initial.reading ++ l.initial.rest) (l.reading ++ l.rest)
      (g.A.Answerer.faults l.initial.answerer) (g.A.Answerer.faults l.answerer) (g.H.Hub.talk l.initial.hub) (g.H.Hub.talk l.hub);
  asked : AsksAlong g.A.Answerer.leaves l.conn (l.initial.reading ++ l.initial.rest) (l.reading ++ l.rest) (g.A.Answerer.kept l.initial.answerer)
      (g.A.Answerer.kept l.answerer) (g.H.Hub.talk l.initial.hub) (g.H.Hub.talk l.hub);
  stays : StaysAnswering g.A.Answerer.answers g.A.Answerer.lent g.A.Answerer.faults l.initial.answerer l.answerer;
  calm : Calm g.H.Hub.state g.H.Hub.talk g.H.Hub.faults g.H.Hub.send_faults l.initial.hub l.hub;
}

abbrev pub decreases-loop-used : goal.decreases-loop-used
decreases-loop-used g l = length l.rest
