use Rattle.std.proofs.Common.{List, ◌++◌, length, ap, subst, sym, ◌∙◌}
use Rattle.std.specs.Prelude.{IfErr}
use Rattle.std.proofs.lemmas.Result.{on_ok_weaker}
use Rattle.cs_base.specs.declared.content.doc.Post.{Post}
use Rattle.cs_model_index.specs.BlockRules.{IsBlock}
use Rattle.cs_file.specs.Fetching.{CanBeJudged, IsFaultOf}
use Rattle.cs_file.proofs.FetchLemmas.{BlockRead, block_of, block_read, block_stood, can_judge, fault_changed, fault_unchanged, read_once, told_within}
use Rattle.cs_file.proofs.index.Index.fetch.Given as given
use Rattle.cs_file.proofs.index.Index.fetch.Goals as goal
use Rattle.cs_file.proofs.index.Index.fetch.Goals.{In_ok-read_over}

pub read_over-requires : goal.read_over-requires
read_over-requires g c = record { within = told_within c.placed-placed.ensures c.requires.fits }

pub decode_into-requires : goal.decode_into-requires
decode_into-requires g c = subst (λ xs. CanBeJudged c.placed-placed.result (length xs)) (sym c.deref.ensures.value)
    (can_judge (block_read c.placed-placed.ensures c.in_ok-read_over.ensures.long c.in_ok-read_over.ensures.ok))

-- the bytes that were read are those of the block
read : (g : given.Over) (c : In_ok-read_over g)
    → BlockRead c.args.self.now (g.S.Store.bytes c.args.store.now) c.args.k c.placed-placed.result c.read_over.new.bytes.items
read g c = block_read c.placed-placed.ensures c.in_ok-read_over.ensures.long c.in_ok-read_over.ensures.ok

pub returns-clause-ok : goal.returns-clause-ok
returns-clause-ok g c =
    let h = read g (goal.at.returns-clause-ok g c).In_ok-read_over in
    let p = c.placed-placed.result in
    on_ok_weaker c.decode_into.result (λ has.
    (has.0, block_of h has.0 (subst (IsBlock p.weights p.head p.docs has.0) c.deref.ensures.value has.1), has.2)) c.decode_into.ensures.ok

pub returns-clause-stood : goal.returns-clause-stood
returns-clause-stood g c = λ b t s.
    let h = read g (goal.at.returns-clause-stood g c).In_ok-read_over in
    let p = c.placed-placed.result in
    let old = c.args.into.now.posts in
    on_ok_weaker c.decode_into.result (λ has. has.2 ∙ ap (λ (xs : List Post). old ++ xs)
    (block_stood h b t s has.0 (subst (IsBlock p.weights p.head p.docs has.0) c.deref.ensures.value has.1))) c.decode_into.ensures.ok

pub returns-clause-store : goal.returns-clause-store
returns-clause-store g c =
    let over = c.in_ok-read_over.ensures in
    let h = read g (goal.at.returns-clause-store g c).In_ok-read_over in
    let own = subst (λ xs. IfErr c.decode_into.result (IsFaultOf c.placed-placed.result xs)) c.deref.ensures.value c.decode_into.ensures.exact in
    read_once (λ b t s. fault_unchanged h b c.decode_into.result t s own) (fault_changed h c.decode_into.result own)
    c.decode_into.ensures.unread over.bytes over.lent over.caused
