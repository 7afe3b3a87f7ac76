use Rattle.std.proofs.Common.{◌≡◌, ◌+◌, ◌*◌, ◌++◌, sym, ◌∙◌, ap, subst, length, map}
use Rattle.std.specs.Prelude.{filter}
use Rattle.cs_base.specs.declared.content.doc.Base.TheVariants as base
use Rattle.cs_base.specs.declared.content.scores.TheConstants.{MAX_ROW_SCORE}
use Rattle.cs_rank.specs.DocScores.{with_base}
use Rattle.cs_tables.specs.TableListings.{post_table}
use Rattle.cs_tables.specs.WordCounts.{AreCountable, is_chosen}
use Rattle.cs_rows.specs.Counting.{counted_rows}
use Rattle.cs_rows.specs.BestScores.{HasBestScores, hits_in}
use Rattle.cs_rows.specs.Steps.{IsBaseOf}
use Rattle.cs_rows.proofs.PackingLemmas.{held_chosen, held_known}
use Rattle.cs_rows.proofs.OverSources.{chosen_countable, chosen_table}
use Rattle.cs_rows.proofs.BehindLemmas.{best_found, rows_are, scored_are}
use Rattle.cs_rows.proofs.blockwise.found_with_held.Goals as goal

pub count_chosen-requires-clause-known : goal.count_chosen-requires-clause-known
count_chosen-requires-clause-known g c =
    held_known (g.I.Source.view c.args.index.now) c.requires.source _ _ c.held-held.result.now c.held-held.ensures
    (c.requires.listed.long ∙ c.requires.source.long)

pub raise_at_hand-requires-clause-known : goal.raise_at_hand-requires-clause-known
raise_at_hand-requires-clause-known g c =
    held_known (g.I.Source.view c.args.index.now) c.requires.source _ _ c.held-held.result.now c.held-held.ensures c.requires.long

pub raise_at_hand-requires-clause-long : goal.raise_at_hand-requires-clause-long
raise_at_hand-requires-clause-long g c = c.requires.listed.long ∙ c.requires.source.long ∙ sym c.requires.long

pub returns-clause-told : goal.returns-clause-told
returns-clause-told g c b first last stands met counted scored =
    let v = (g.I.Source.view c.args.index.now) in
    let source = c.requires.source in
    let lo = c.args.words.0 in
    let hi = c.args.words.1 in
    let listed = c.args.listed.now in
    let hits = c.args.hits.now in
    let held = c.held-held.result.now in
    let lists = c.requires.listed in
    let t = is_chosen lo hi listed in
    let run = counted_rows (v.blocks b) first last lo hi listed in
    let rows = run ++ filter t held in
    let whole : rows ≡ run ++ filter t v.held = ap (λ ps. run ++ ps) (held_chosen v lo hi listed held c.held-held.ensures) in
    let few = subst AreCountable (sym whole) (chosen_countable b v stands source first last lo hi listed met) in
    let best = c.raise_at_hand.new.best.items in
    let table = ap post_table whole ∙ chosen_table b v stands source first last lo hi listed met
    ∙ ap post_table (rows_are b v stands source lo hi listed hits lists) in
    record {
      hits_are = ap base.Listed (scored_are b v stands source lo hi listed hits lists best c.in_ok-scored.scored (c.raise_at_hand.ensures.len ∙ c.requires.long)
          (best_found b v stands source lo hi listed first last best met (subst (λ ps. HasBestScores ps best) whole (c.raise_at_hand.ensures.best run scored)))
          (c.in_ok-scored.ensures.scored ∙ ap (λ l. map (with_base hits) (hits_in 0 l)) c.deref.ensures.value));
      table = record { seen = rows; countable = few; counted = c.count_chosen.ensures.counted run few counted; same = table };
    }

pub returns-clause-base : goal.returns-clause-base
returns-clause-base g c = λ n fits.
    let long = ap length c.deref.ensures.value ∙ c.raise_at_hand.ensures.len ∙ c.requires.long in
    subst (λ m. IsBaseOf m (MAX_ROW_SCORE * (n + 1)) (base.Listed c.in_ok-scored.scored)) long
    (c.in_ok-scored.ensures.within n (subst (λ m. IsBaseOf m (MAX_ROW_SCORE * n) c.args.hits.now) (sym long) fits))
