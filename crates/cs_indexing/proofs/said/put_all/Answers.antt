use Rattle.cs_base.proofs.GrewLemmas.{on_err, pieces_begun}
use Rattle.cs_indexing.proofs.said.put_all.Goals as goal

pub returns-in_err-put-clause-err : goal.returns-in_err-put-clause-err
returns-in_err-put-clause-err g c =
    on_err c.from_residual.result _
    (pieces_begun (λ p. p.now) c.args.pieces.now c.loop-piece.piece-index _ (g.E.Sink.written c.args.err.now) (g.E.Sink.written c.loop-piece.err) (g.E.Sink.written c.put.new.self) c.loop-piece-test.true c.loop-piece.invariant.so_far c.in_err-put.ensures.err)
