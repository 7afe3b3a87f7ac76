use Rattle.std.proofs.Common.{◌<◌, ◌∙◌, [], ap, map, length, refl, sym, subst, take, arith}
use Rattle.std.specs.Prelude.{All}
use Rattle.cs_model.specs.Collection.{named}
use Rattle.cs_tables.specs.declared.tables.Completion.{Completion}
use Rattle.cs_rows.specs.Stocked.{shown_at}
use Rattle.cs_engine.proofs.FacetTables.{facet_counted}
use Rattle.cs_rows.proofs.InsideLemmas.{facet_sharp}
use Rattle.cs_engine.proofs.LooseLemmas.{table_there}
use Rattle.cs_rows.proofs.WalkLemmas.{within_more}
use Rattle.cs_engine.proofs.show.shown_facet.Goals as goal

pub counted_facet-requires-clause-words : goal.counted_facet-requires-clause-words
counted_facet-requires-clause-words g c = record { ordered = c.in_ok-words.ensures.ordered; within = c.in_ok-words.ensures.within }

pub shown_words-requires-clause-texts : goal.shown_words-requires-clause-texts
shown_words-requires-clause-texts g c = c.requires.opened.source.texts

pub shown_words-requires-clause-known : goal.shown_words-requires-clause-known
shown_words-requires-clause-known g c =
    let high = c.in_ok-counts.ensures.high in
    let few = c.in_ok-words.ensures.within in
    let known = table_there _ (omega (arith, high, few)) c.in_ok-table.ensures.known in
    subst (All (λ (w : Completion). w.word < length (g.I.Source.view c.args.over.index.now).words)) (sym c.as_slice.ensures) known

pub returns-clause-told : goal.returns-clause-told
returns-clause-told g c b is stands held =
    let v = (g.I.Source.view c.args.over.index.now) in
    let name = c.args.name.now in
    let cut = c.args.over.request.now.completions in
    let counted = c.in_ok-counts.ensures.told b is stands held in
    facet_counted b v stands c.requires.opened.source c.args.base.now cut name c.in_ok-copied.copied (named name [])
    c.in_ok-words.words.0 c.in_ok-words.words.1 c.args.listed.now _ c.in_ok-table.table.first c.in_ok-shown.shown
    c.in_ok-copied.ensures.ok refl c.in_ok-words.ensures c.requires.listed refl
    (c.in_ok-table.ensures.first counted.seen counted.countable counted.counted ∙ ap (take cut) counted.same)
    (c.in_ok-shown.ensures ∙ ap (map (shown_at _)) c.as_slice.ensures)

-- ---- what is read
pub returns-in_err-counts-clause-reads : goal.returns-in_err-counts-clause-reads
returns-in_err-counts-clause-reads g c =
    within_more c.counted_facet.ensures.reads (facet_sharp (g.I.Source.view c.args.over.index.now) c.requires.opened.source c.args.base.now c.args.name.now
    c.in_ok-words.words.0 c.in_ok-words.words.1 c.in_ok-words.ensures)

pub returns-in_err-table-clause-reads : goal.returns-in_err-table-clause-reads
returns-in_err-table-clause-reads g c =
    within_more c.counted_facet.ensures.reads (facet_sharp (g.I.Source.view c.args.over.index.now) c.requires.opened.source c.args.base.now c.args.name.now
    c.in_ok-words.words.0 c.in_ok-words.words.1 c.in_ok-words.ensures)

pub returns-in_err-shown-clause-reads : goal.returns-in_err-shown-clause-reads
returns-in_err-shown-clause-reads g c =
    within_more c.counted_facet.ensures.reads (facet_sharp (g.I.Source.view c.args.over.index.now) c.requires.opened.source c.args.base.now c.args.name.now
    c.in_ok-words.words.0 c.in_ok-words.words.1 c.in_ok-words.ensures)

pub returns-in_err-copied-clause-reads : goal.returns-in_err-copied-clause-reads
returns-in_err-copied-clause-reads g c =
    within_more c.counted_facet.ensures.reads (facet_sharp (g.I.Source.view c.args.over.index.now) c.requires.opened.source c.args.base.now c.args.name.now
    c.in_ok-words.words.0 c.in_ok-words.words.1 c.in_ok-words.ensures)

pub returns-clause-reads : goal.returns-clause-reads
returns-clause-reads g c =
    within_more c.counted_facet.ensures.reads (facet_sharp (g.I.Source.view c.args.over.index.now) c.requires.opened.source c.args.base.now c.args.name.now
    c.in_ok-words.words.0 c.in_ok-words.words.1 c.in_ok-words.ensures)
