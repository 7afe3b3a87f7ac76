use Rattle.std.proofs.Common.{Bool, if◌then◌else◌, subst, sym, ◌∙◌}
use Rattle.std.proofs.lemmas.Bool.{lt-ltb}
use Rattle.std.proofs.lemmas.Result.{IfOk-weaker}
use Rattle.cs_base.specs.outside.Causes.{ReadsWithin}
use Rattle.cs_file.specs.Indexes.{IsIndex}
use Rattle.cs_rows.proofs.OpenedLemmas.{opened_title}
use Rattle.cs_rows.proofs.WalkLemmas.{title_read}
use Rattle.cs_rows.proofs.opened.IndexSource.title.Goals as goal

pub returns-clause-stood : goal.returns-clause-stood
returns-clause-stood g c b is stands =
    let index = subst IsIndex c.self.view_is c.self.invariant.index in
    IfOk-weaker c.title.result _ _ (λ t same. same ∙ opened_title c.args.self.now index b stands c.args.doc c.requires.in_range)
    (c.title.ensures.stood b is stands)

pub returns-clause-store : goal.returns-clause-store
returns-clause-store g c = title_read c.title.result c.requires.in_range c.title.ensures.store

pub returns-clause-reads : goal.returns-clause-reads
returns-clause-reads g c =
    let below = lt-ltb c.args.doc c.args.self.now.docs c.requires.in_range in
    subst (λ (b : Bool). ReadsWithin (if b then 1 else 0) (g.S.Store.reads c.args.store.now) (g.S.Store.reads c.title.new.store)) (sym below) c.title.ensures.reads
