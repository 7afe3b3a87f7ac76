use Rattle.std.proofs.Common.{◌≡◌, ◌∙◌, ◌<◌, ◌≤◌, ◌-◌, [], ap, ap₂, get_or, subst}
use Rattle.cs_file.specs.Indexes.{IsIndex}
use Rattle.cs_rows.proofs.WalkLemmas.{title_read}
use Rattle.cs_live.proofs.FetchedLemmas.{title_new, title_none, title_old}
use Rattle.cs_live.proofs.titles.title_now.Given as given
use Rattle.cs_live.proofs.titles.title_now.Goals as goal

here : (g : given.Over) (c : goal.After-title g) → c.args.doc < c.args.index.now.docs
here g c = subst (λ n. c.args.doc < n) (ap (λ x. x.docs) c.index.view_is) c.if-doc-index.true

pub returns-then-not-present-doc-clause-title : goal.returns-then-not-present-doc-clause-title
returns-then-not-present-doc-clause-title g c =
    title_none c.args.index.now (g.S.Store.bytes c.args.store.now) c.args.present.now c.args.added.now c.args.doc c.new.result c.if-not-present-doc.true c.new.ensures

pub returns-then-doc-index-clause-title : goal.returns-then-doc-index-clause-title
returns-then-doc-index-clause-title g c =
    title_old c.args.index.now (subst IsIndex c.index.view_is c.index.invariant.index) (g.S.Store.bytes c.args.store.now) c.args.present.now c.args.added.now c.args.doc
    c.if-not-present-doc.false (here g c) c.title.result c.title.ensures.text c.title.ensures.stood

pub returns-then-doc-index-clause-store : goal.returns-then-doc-index-clause-store
returns-then-doc-index-clause-store g c = title_read c.title.result (here g c) c.title.ensures.store

pub returns-clause-title : goal.returns-clause-title
returns-clause-title g c =
    let docs_are : c.index.inside.docs ≡ c.args.index.now.docs = ap (λ x. x.docs) c.index.view_is in
    title_new c.args.index.now (g.S.Store.bytes c.args.store.now) c.args.present.now c.args.added.now c.args.doc c.in_ok-title.title c.if-not-present-doc.false
    (subst (λ n. n ≤ c.args.doc) docs_are c.if-doc-index.false) c.requires.in_range c.requires.texts
    (c.in_ok-title.ensures ∙ ap₂ (λ xs n. get_or xs (c.args.doc - n) []) c.as_slice.ensures docs_are)
