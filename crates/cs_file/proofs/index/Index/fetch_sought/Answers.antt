use Rattle.std.proofs.lemmas.Result.{on_ok_weaker}
use Rattle.cs_file.proofs.FetchLemmas.{BlockRead, block_read, can_judge, fault_changed, fault_unchanged, told_within, read_once}
use Rattle.cs_file.proofs.SoughtPosts.{passed, sought_ranged, sought_stood}
use Rattle.cs_file.proofs.index.Index.fetch_sought.Given as given
use Rattle.cs_file.proofs.index.Index.fetch_sought.Goals as goal

pub read_over-requires : goal.read_over-requires
read_over-requires g c = record { within = told_within c.placed-placed.ensures c.requires.fits }

pub sought_at-requires-clause-judged : goal.sought_at-requires-clause-judged
sought_at-requires-clause-judged g c = can_judge (block_read c.placed-placed.ensures c.in-Ok.ensures.long c.in-Ok.ensures.ok)

pub returns-in-Ok-clause-sought : goal.returns-in-Ok-clause-sought
returns-in-Ok-clause-sought g c = on_ok_weaker c.sought_at.result (passed c.args.words.0 c.args.words.1 c.args.listed.now) c.sought_at.ensures.ok

pub returns-in-Ok-clause-ranged : goal.returns-in-Ok-clause-ranged
returns-in-Ok-clause-ranged g c =
    let ranged = sought_ranged c.args.words.0 c.args.words.1 c.args.listed.now c.args.self.now c.placed-placed.ensures.weights_are
    c.requires.listed c.requires.words in
    on_ok_weaker c.sought_at.result ranged c.sought_at.ensures.ok

-- the bytes that were read are those of the block
read : (g : given.Over) (c : goal.After-sought_at g)
    → BlockRead c.args.self.now (g.S.Store.bytes c.args.store.now) c.args.k c.placed-placed.result c.read_over.new.bytes.items
read g c = block_read c.placed-placed.ensures c.in-Ok.ensures.long c.in-Ok.ensures.ok

pub returns-in-Ok-clause-stood : goal.returns-in-Ok-clause-stood
returns-in-Ok-clause-stood g c = λ b t s.
    on_ok_weaker c.sought_at.result (sought_stood c.args.words.0 c.args.words.1 c.args.listed.now (read g c) b t s) c.sought_at.ensures.ok

pub returns-in-Ok-clause-store : goal.returns-in-Ok-clause-store
returns-in-Ok-clause-store g c =
    let over = c.in-Ok.ensures in
    read_once (λ b t s. fault_unchanged (read g c) b c.sought_at.result t s c.sought_at.ensures.exact) (fault_changed (read g c) c.sought_at.result c.sought_at.ensures.exact)
    c.sought_at.ensures.unread over.bytes over.lent over.caused
