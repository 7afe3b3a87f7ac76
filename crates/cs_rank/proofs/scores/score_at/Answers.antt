use Rattle.std.proofs.Common.{ap, sym, ◌<◌, get_or, length, arith}
use Rattle.std.specs.Prelude.{option_map, unwrap_or}
use Rattle.std.proofs.lemmas.Bool.Decides.{nat_tests}
use Rattle.cs_base.specs.declared.content.doc.Scored.{Scored}
use Rattle.cs_rank.proofs.Lookups.{found_at, absent}
use Rattle.cs_rank.proofs.scores.score_at.Goals as goal
use Rattle.cs_rank.proofs.scores.score_at.Goals.{else-place-listed-via-then-place-listed+else-listed-place, else-place-listed-via-else-place-listed}

pub returns-then-listed-place-clause-value : goal.returns-then-listed-place-clause-value
returns-then-listed-place-clause-value c = sym (ap (λ o. unwrap_or (option_map (λ (h : Scored). h.score) o) 0) (found_at c.args.place c.args.doc c.args.listed.now _ c.requires.passed (omega arith) (grind (arith, nat_tests))))

pub returns-else-place-listed-clause-value : goal.returns-else-place-listed-clause-value
returns-else-place-listed-clause-value c =
    let blank : Scored = record { doc = 0; score = 0 } in
    let stop : c.args.place < length c.args.listed.now → c.args.doc < (get_or c.args.listed.now c.args.place blank).doc =
    λ lt. elim c.else-place-listed.branch [
      | else-place-listed-via-then-place-listed+else-listed-place w ↦ (let up = c.requires.stop blank lt in let other = w.if-listed-place.false in grind (arith, nat_tests))
      | else-place-listed-via-else-place-listed w ↦ absurd (let past = w.if-place-listed.false in omega arith)
    ] in
    sym (ap (λ o. unwrap_or (option_map (λ (h : Scored). h.score) o) 0) (absent c.args.place c.args.doc c.args.listed.now blank c.requires.base.0 c.requires.passed stop))
