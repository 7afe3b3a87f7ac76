use Rattle.std.proofs.Common.{◌≡◌, ◌+◌, not, length, refl, sym, ap₂, subst, ◌∙◌, inl}
use Rattle.std.specs.Prelude.{count_by}
use Rattle.cs_base.specs.outside.Causes.{ReadsWithin}
use Rattle.cs_cache.specs.AnswerList.{AnswerList}
use Rattle.cs_rows.specs.IndexReading.{division}
use Rattle.cs_engine.specs.Asking.{filed_titles}
use Rattle.cs_engine.specs.Keeping.{note_plan}
use Rattle.cs_rows.specs.Skipping.{hit_reads}
use Rattle.cs_rows.specs.Stocked.{corpus_in}
use Rattle.cs_file.specs.Indexes.{IndexView, StandsFor}
use Rattle.cs_model.specs.Corpus.{Corpus}
use Rattle.cs_model_changes.specs.Changes.{now}
use Rattle.cs_model_index.specs.Sections.{file_corpus}
use Rattle.cs_query.specs.RequestView.{asked}
use Rattle.cs_live.specs.States.{stock_now}
use Rattle.cs_live.specs.Lives.{AreGoodNow, IsBehind, IsLiveState, LiveView}
use Rattle.cs_live.proofs.ChangedLemmas.{behind_settled}
use Rattle.cs_live.proofs.LiveLemmas.{behind_now, settled_corpus, settled_good, settled_live, settled_same}
use Rattle.cs_live.proofs.live.Live.ask.Goals as goal

pub invariant_of-self-2 : goal.invariant_of-self-2
invariant_of-self-2 g c =
    let kept = c.self.invariant in
    let settled = c.in_ok-bring_in.ensures.ok in
    let none = c.in_ok-bring_in.ensures.none in
    let l : LiveView = record { state = c.self.inside.state; rows = c.self.inside.rows.items; met = c.self.inside.met; changes = c.self.inside.changes; answers = c.self.inside.answers; held = c.self.inside.held } in
    record {
      live = subst (λ rs. IsLiveState c.bring_in.new.state rs c.self.inside.met) (sym none) (settled_live l kept c.bring_in.new.state settled);
      counted = kept.counted ∙ ap₂ (λ ts ps. length ts + count_by not ps) (sym settled.added) (sym settled.present);
      fresh = inl none;
      answers = c.ask_state.ensures.kept.0;
      held = c.ask_state.ensures.kept.1;
    }

pub returns-clause-good : goal.returns-clause-good
returns-clause-good g c b told_is stands good =
    let l : LiveView = record { state = c.self.inside.state; rows = c.self.inside.rows.items; met = c.self.inside.met; changes = c.self.inside.changes; answers = c.self.inside.answers; held = c.self.inside.held } in
    let settled = c.in_ok-bring_in.ensures.ok in
    let here : StandsFor b l.state.index = subst (λ (v : LiveView). StandsFor b v.state.index) (sym c.self.view_is) stands in
    let there : StandsFor b c.bring_in.new.state.index = subst (StandsFor b) (sym settled.index) here in
    (c.ask_state.ensures.told b told_is there (settled_good l c.self.invariant c.bring_in.new.state settled b (subst (AreGoodNow b) (sym c.self.view_is) good))).good

pub returns-clause-behind : goal.returns-clause-behind
returns-clause-behind g c b cs stands behind =
    let l : LiveView = record { state = c.self.inside.state; rows = c.self.inside.rows.items; met = c.self.inside.met; changes = c.self.inside.changes; answers = c.self.inside.answers; held = c.self.inside.held } in
    let m : LiveView = record { state = c.bring_in.new.state; rows = c.bring_in.new.rows.items; met = c.self.inside.met; changes = c.self.inside.changes; answers = c.ask_state.new.answers; held = c.ask_state.new.held } in
    let settled = c.in_ok-bring_in.ensures.ok in
    let none = c.in_ok-bring_in.ensures.none in
    let kept = c.self.invariant in
    let here : StandsFor b l.state.index = subst (λ (v : LiveView). StandsFor b v.state.index) (sym c.self.view_is) stands in
    behind_settled l kept.live.state b here cs (subst (IsBehind b cs) (sym c.self.view_is) behind) c.bring_in.new.state settled m refl none refl refl
    (settled_same l kept c.bring_in.new.state settled b here m refl none)

pub returns-clause-sharp : goal.returns-clause-sharp
returns-clause-sharp g c b told_is stands good cs behind =
    let l : LiveView = record { state = c.self.inside.state; rows = c.self.inside.rows.items; met = c.self.inside.met; changes = c.self.inside.changes; answers = c.self.inside.answers; held = c.self.inside.held } in
    let new = c.bring_in.new.state in
    let settled = c.in_ok-bring_in.ensures.ok in
    let q = asked c.args.request.now in
    let here : StandsFor b l.state.index = subst (λ (v : LiveView). StandsFor b v.state.index) (sym c.self.view_is) stands in
    let there : StandsFor b new.index = subst (StandsFor b) (sym settled.index) here in
    let own = c.ask_state.ensures.sharp b told_is there (settled_good l c.self.invariant new settled b (subst (AreGoodNow b) (sym c.self.view_is) good)) in
    let corpus : corpus_in (stock_now new b) ≡ now l.state.index.weights (file_corpus b) cs = sym (settled_corpus l c.self.invariant new settled b here)
    ∙ behind_now b cs l (subst (IsBehind b cs) (sym c.self.view_is) behind) in
    let within : IndexView → Corpus → AnswerList → Type 0 = λ i k a. ReadsWithin (hit_reads (division i) k q (note_plan c.args.request.now.query a)
    (filed_titles i.docs q c.ask_state.result)) (g.S.Store.reads c.args.store.now) (g.S.Store.reads c.ask_state.new.store) in
    let kept : within l.state.index (now l.state.index.weights (file_corpus b) cs) l.answers = subst (λ k. within l.state.index k l.answers) corpus
    (subst (λ i. within i (corpus_in (stock_now new b)) l.answers) settled.index own) in
    subst (λ (v : LiveView). within v.state.index (now v.state.index.weights (file_corpus b) cs) v.answers) c.self.view_is kept

pub returns-clause-bounded : goal.returns-clause-bounded
returns-clause-bounded g c = c.ask_state.ensures.bounded.0

pub returns-clause-given : goal.returns-clause-given
returns-clause-given g c = c.ask_state.ensures.bounded.1
