use Rattle.std.proofs.Common.{◌≡◌, ◌++◌, refl, ap, ◌∙◌, take, take-append-drop}
use Rattle.cs_base.proofs.GrewLemmas.{grew_twice, on_err}
use Rattle.cs_file.proofs.SinkPuts.{piece_told, piece_fails}
use Rattle.cs_file.proofs.putting.put_pieces.Goals as goal

pub loop-rest-preserved : goal.loop-rest-preserved
loop-rest-preserved g c =
    let p = c.loop-rest.invariant.so_far in
    let piece = c.split_at.result.0.now in
    let behind = c.split_at.result.1.now in
    let cut : piece ++ behind ≡ c.loop-rest.rest.now = ap (λ x. x ++ behind) c.split_at.ensures.front
    ∙ ap (λ x. take c.min.result c.loop-rest.rest.now ++ x) c.split_at.ensures.back ∙ take-append-drop c.min.result c.loop-rest.rest.now in
    record {
      so_far = (
        p.0 ++ piece,
        grew_twice _ p.0 piece _ _ p.1 c.in_ok-put_piece.ensures.ok,
        piece_told _ _ (g.S.Sink.written c.put_piece.new.out) p.0 piece behind _ _ p.1 p.2 cut,
      );
      quiet = c.in_ok-put_piece.ensures.caused.quiet refl ∙ c.loop-rest.invariant.quiet;
      lent = c.in_ok-put_piece.ensures.lent ∙ c.loop-rest.invariant.lent;
    }

pub returns-in_err-put_piece-clause-err : goal.returns-in_err-put_piece-clause-err
returns-in_err-put_piece-clause-err g c =
    let p = c.loop-rest.invariant.so_far in
    let piece = c.split_at.result.0.now in
    let behind = c.split_at.result.1.now in
    let cut : piece ++ behind ≡ c.loop-rest.rest.now = ap (λ x. x ++ behind) c.split_at.ensures.front
    ∙ ap (λ x. take c.min.result c.loop-rest.rest.now ++ x) c.split_at.ensures.back ∙ take-append-drop c.min.result c.loop-rest.rest.now in
    on_err c.from_residual.result _ (piece_fails _ _ _ p.0 piece behind _ _ p.1 p.2 cut c.in_err-put_piece.ensures.err)
