use Rattle.std.proofs.Common.{ap, subst, sym}
use Rattle.cs_file.specs.Indexes.{HasAllBlocks, StandsFor}
use Rattle.cs_engine.specs.Keeping.{AreGood, AreGoodFor, EngineView, IsAfter, KeepsAnswers, engine_with, note_plan}
use Rattle.cs_engine.specs.declared.engine.Engine.{Engine}
use Rattle.cs_base.specs.outside.Causes.{ReadsWithin}
use Rattle.cs_model_index.specs.Sections.{file_corpus}
use Rattle.cs_model_kept.specs.Due.{due}
use Rattle.cs_model_kept.specs.Sharp.{sharp}
use Rattle.cs_query.specs.RequestView.{asked}
use Rattle.cs_rows.specs.IndexReading.{division, stock_of}
use Rattle.cs_engine.specs.Asking.{filed_titles, titles_asked}
use Rattle.cs_engine.proofs.OpenedAnswers.{answers_opened}
use Rattle.cs_engine.proofs.SharpReads.{reads_sharp}
use Rattle.cs_rows.proofs.StockLemmas.{stock_corpus}
use Rattle.cs_engine.proofs.TitlesRead.{fewer_due, fewer_sharp, filed_less}
use Rattle.cs_engine.proofs.engine.Engine.ask.Goals as goal

pub invariant_of-self : goal.invariant_of-self
invariant_of-self g c = c.ask_over.ensures.kept

pub ask_over-requires-clause-opened : goal.ask_over-requires-clause-opened
ask_over-requires-clause-opened g c = record {
  source = c.index_is_source.ensures;
  fits = subst (HasAllBlocks (g.S.Store.bytes c.args.store.now)) (sym (ap (λ (e : Engine). e.index) c.self.view_is)) c.requires.fits;
}

pub returns-clause-ok : goal.returns-clause-ok
returns-clause-ok g c b told_is stands good =
    let i = c.self.inside.index in
    let is = c.index_is_source.ensures.index in
    let at = subst (StandsFor b) (sym (ap (λ (e : Engine). e.index) c.self.view_is)) stands in
    let told = answers_opened b i at is (c.ask_over.ensures.told b told_is at) (subst (AreGood b) (sym c.self.view_is) good) in
    told.reply

pub returns-clause-good : goal.returns-clause-good
returns-clause-good g c b told_is stands good =
    let i = c.self.inside.index in
    let is = c.index_is_source.ensures.index in
    let at = subst (StandsFor b) (sym (ap (λ (e : Engine). e.index) c.self.view_is)) stands in
    let told = answers_opened b i at is (c.ask_over.ensures.told b told_is at) (subst (AreGood b) (sym c.self.view_is) good) in
    told.good

pub returns-clause-after : goal.returns-clause-after
returns-clause-after g c b told_is stands good =
    let i = c.self.inside.index in
    let is = c.index_is_source.ensures.index in
    let at = subst (StandsFor b) (sym (ap (λ (e : Engine). e.index) c.self.view_is)) stands in
    let told = answers_opened b i at is (c.ask_over.ensures.told b told_is at) (subst (AreGood b) (sym c.self.view_is) good) in
    subst (λ (e : EngineView). IsAfter b c.args.request.now.query e c.ask_over.result
    (engine_with c.self.inside.index c.ask_over.new.answers c.ask_over.new.held)) c.self.view_is told.after

pub returns-clause-keeps : goal.returns-clause-keeps
returns-clause-keeps g c =
    subst (λ (e : EngineView). KeepsAnswers e.index c.args.request.now.query e.answers c.ask_over.result c.ask_over.new.answers) c.self.view_is
    c.ask_over.ensures.keeps

pub returns-clause-sharp : goal.returns-clause-sharp
returns-clause-sharp g c b told_is stands good =
    let i = c.self.inside.index in
    let is = c.index_is_source.ensures.index in
    let q = c.args.request.now.query in
    let r = asked c.args.request.now in
    let titles = filed_titles i.docs r c.ask_over.result in
    let at = subst (StandsFor b) (sym (ap (λ (e : Engine). e.index) c.self.view_is)) stands in
    let own = subst (AreGood b) (sym c.self.view_is) good in
    let good_for = subst (λ k. AreGoodFor k (stock_of b) (engine_with i c.self.inside.answers c.self.inside.held)) (sym (stock_corpus b i at is)) own in
    subst (λ (e : EngineView). ReadsWithin (sharp (division e.index) (file_corpus b) r (note_plan q e.answers) (titles_asked r c.ask_over.result))
    (g.S.Store.reads c.args.store.now) (g.S.Store.reads c.ask_over.new.store)) c.self.view_is
    (fewer_sharp (division i) r (note_plan q c.self.inside.answers) (filed_less i.docs r c.ask_over.result) (file_corpus b)
    (reads_sharp b i at is r (note_plan q c.self.inside.answers) titles (c.ask_over.ensures.sharp b told_is at good_for)))

pub returns-clause-reads : goal.returns-clause-reads
returns-clause-reads g c =
    let i = c.self.inside.index in
    let q = c.args.request.now.query in
    let r = asked c.args.request.now in
    subst (λ (e : EngineView). ReadsWithin (due (division e.index) r (note_plan q e.answers) (titles_asked r c.ask_over.result))
    (g.S.Store.reads c.args.store.now) (g.S.Store.reads c.ask_over.new.store)) c.self.view_is
    (fewer_due (division i) r (note_plan q c.self.inside.answers) (filed_less i.docs r c.ask_over.result) c.ask_over.ensures.reads)

pub returns-clause-bounded : goal.returns-clause-bounded
returns-clause-bounded g c = c.ask_over.ensures.bounded.0

pub returns-clause-given : goal.returns-clause-given
returns-clause-given g c = c.ask_over.ensures.bounded.1
