use Rattle.std.proofs.Common.{◌≡◌, ◌<◌, ◌++◌, ap, length, sym, subst, ◌∙◌, arith}
use Rattle.std.specs.Prelude.{All, filter}
use Rattle.cs_tables.specs.WordCounts.{is_chosen}
use Rattle.cs_tables.proofs.WordCountsLemmas.{written_back}
use Rattle.cs_rows.specs.BestScores.{HasBestScores}
use Rattle.cs_rows.proofs.best.raise_rows.Goals as goal

pub raise_chosen-requires-clause-words_even : goal.raise_chosen-requires-clause-words_even
raise_chosen-requires-clause-words_even c = ap length c.deref-2.ensures.value ∙ c.requires.words_even ∙ sym (ap length c.deref.ensures.value)

pub raise_chosen-requires-clause-scores_even : goal.raise_chosen-requires-clause-scores_even
raise_chosen-requires-clause-scores_even c = ap length c.deref-3.ensures.value ∙ c.requires.scores_even ∙ sym (ap length c.deref.ensures.value)

pub raise_chosen-requires-clause-known : goal.raise_chosen-requires-clause-known
raise_chosen-requires-clause-known c =
    subst (All (λ d. d < length c.deref_mut.result.now)) (sym c.deref.ensures.value)
    (subst (λ n. All (λ d. d < n) c.args.block.now.docs.items) (sym (ap length c.deref_mut.ensures.value)) c.requires.known)

pub raise_chosen-requires-clause-long : goal.raise_chosen-requires-clause-long
raise_chosen-requires-clause-long c = c.requires.long ∙ sym (ap length c.deref_mut.ensures.value)

pub returns-clause-best : goal.returns-clause-best
returns-clause-best c rows are seen has =
    let new = c.raise_chosen.new.best in
    let old = c.args.best.now.items in
    let long : length new ≡ length old = c.raise_chosen.ensures.len ∙ ap length c.deref_mut.ensures.value in
    let back = written_back c.args.best.now.len new old long (omega (arith, c.deref_mut.ensures.len, ap length c.deref_mut.ensures.value)) in
    subst (HasBestScores (seen ++ filter (is_chosen c.args.words.0 c.args.words.1 c.args.listed.now) rows)) (sym back)
    (c.raise_chosen.ensures.best rows ((c.deref.ensures.value ∙ are.0.0, c.deref-2.ensures.value ∙ are.0.1), c.deref-3.ensures.value ∙ are.1) seen
    (subst (HasBestScores seen) (sym c.deref_mut.ensures.value) has))

pub returns-clause-len : goal.returns-clause-len
returns-clause-len c =
    let new = c.raise_chosen.new.best in
    let old = c.args.best.now.items in
    let long : length new ≡ length old = c.raise_chosen.ensures.len ∙ ap length c.deref_mut.ensures.value in
    ap length (written_back c.args.best.now.len new old long (omega (arith, c.deref_mut.ensures.len, ap length c.deref_mut.ensures.value))) ∙ long
