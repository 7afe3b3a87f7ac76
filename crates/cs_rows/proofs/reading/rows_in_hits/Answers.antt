use Rattle.std.proofs.Common.{◌∙◌, ◌++◌, ap, map, sym, subst, arith}
use Rattle.std.specs.Prelude.{All, filter}
use Rattle.cs_base.specs.declared.content.scores.Weights.{Weights}
use Rattle.cs_tables.specs.WordCounts.{is_chosen}
use Rattle.cs_rows.specs.Packing.{IsPacked, key_of}
use Rattle.cs_rows.specs.Sources.{seen}
use Rattle.cs_rows.proofs.PackingLemmas.{all_gathered, held_known, held_packed, ordered_by, ordered_told, ordered_within}
use Rattle.cs_rows.proofs.reading.rows_in_hits.Goals as goal

pub pack_chosen-requires-clause-packed : goal.pack_chosen-requires-clause-packed
pack_chosen-requires-clause-packed g c =
    subst (λ (w : Weights). All (IsPacked w) c.held.result.now) (sym c.weights-weights.ensures)
    (held_packed (g.I.Source.view c.args.index.now) c.requires.sieve.opened.source _ _ c.held.result.now c.held.ensures)

pub pack_chosen-requires-clause-known : goal.pack_chosen-requires-clause-known
pack_chosen-requires-clause-known g c =
    held_known (g.I.Source.view c.args.index.now) c.requires.sieve.opened.source _ _ c.held.result.now c.held.ensures
    c.requires.sieve.long

pub returns-clause-told : goal.returns-clause-told
returns-clause-told g c b is stands =
    let v = g.I.Source.view c.args.index.now in
    let source = c.requires.sieve.opened.source in
    let lo = c.args.words.0 in
    let hi = c.args.words.1 in
    let listed = c.args.listed.now in
    let held = c.held.result.now in
    let old = c.in_ok-gathered.gathered.keys.items in
    let added = c.in_ok-pack_chosen.ensures ∙ ap (λ (w : Weights). old ++ map (key_of w) (filter (is_chosen lo hi listed) held)) c.weights-weights.ensures in
    let h = all_gathered v source (g.S.Store.bytes c.args.store.now) lo hi listed c.in_ok-gathered.gathered held c.pack_chosen.new.keys.items
    c.in_ok-gathered.ensures.gathered (λ more. (let w = c.in_ok-gathered.ensures.whole more in (omega (arith, w.0), w.1))) c.held.ensures added in
    ordered_told b v stands source lo hi listed h.rows c.in_ok-rows.rows.posts
    (h.stood b is stands) (ordered_by c.weights-weights.ensures c.in_ok-rows.ensures h.rows h.are h.packed)

pub returns-clause-within : goal.returns-clause-within
returns-clause-within g c =
    let v = g.I.Source.view c.args.index.now in
    let source = c.requires.sieve.opened.source in
    let lo = c.args.words.0 in
    let hi = c.args.words.1 in
    let listed = c.args.listed.now in
    let held = c.held.result.now in
    let old = c.in_ok-gathered.gathered.keys.items in
    let added = c.in_ok-pack_chosen.ensures ∙ ap (λ (w : Weights). old ++ map (key_of w) (filter (is_chosen lo hi listed) held)) c.weights-weights.ensures in
    let h = all_gathered v source (g.S.Store.bytes c.args.store.now) lo hi listed c.in_ok-gathered.gathered held c.pack_chosen.new.keys.items
    c.in_ok-gathered.ensures.gathered (λ more. (let w = c.in_ok-gathered.ensures.whole more in (omega (arith, w.0), w.1))) c.held.ensures added in
    ordered_within (seen v) h.rows c.in_ok-rows.rows.posts h.within (ordered_by c.weights-weights.ensures c.in_ok-rows.ensures h.rows h.are h.packed)
