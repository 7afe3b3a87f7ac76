use Rattle.std.proofs.Common.{◌≡◌, ◌+◌, length, arith}
use Rattle.cs_file.specs.Indexes.{title_len}
use Rattle.cs_file.proofs.FetchLemmas.{TitleRead, text_long, text_utf8, title_span, title_found, title_by, title_stood, title_unchanged, title_changed, read_once}
use Rattle.cs_file.proofs.index.Index.title.Given as given
use Rattle.cs_file.proofs.index.Index.title.Goals as goal

pub overflow_sub-to : goal.overflow_sub-to
overflow_sub-to g c =
    let span = title_span c.self.view_is c.self.invariant.index c.as_slice-offsets.ensures c.requires.in_range c.from.ensures in
    let up = span.onward in
    omega (arith, up, c.from.ensures)

pub read_over-requires : goal.read_over-requires
read_over-requires g c =
    let span = title_span c.self.view_is c.self.invariant.index c.as_slice-offsets.ensures c.requires.in_range c.from.ensures in
    let within = span.within in
    record { within = λ b t. let fits = c.requires.fits b t in omega (arith, within, fits, c.from.ensures) }

-- the bytes that were read are those of the title
read : (g : given.Over) (c : goal.After-text_at g)
    → TitleRead c.args.self.now (g.S.Store.bytes c.args.store.now) c.args.doc (c.self.inside.titles_at + c.from.result) c.read_over.new.bytes.items
read g c = title_found c.self.view_is c.self.invariant.index c.as_slice-offsets.ensures c.requires.in_range c.from.ensures c.in_ok-read_over.ensures.ok

pub returns-clause-ok : goal.returns-clause-ok
returns-clause-ok g c = title_by (read g c) c.text_at.result c.text_at.ensures.exact

pub returns-clause-stood : goal.returns-clause-stood
returns-clause-stood g c = λ b t s. title_stood (read g c) b c.text_at.result t s c.text_at.ensures.exact

pub returns-clause-store : goal.returns-clause-store
returns-clause-store g c =
    let over = c.in_ok-read_over.ensures in
    read_once (λ b t s. title_unchanged (read g c) b c.text_at.result t s c.text_at.ensures.exact) (title_changed (read g c) c.text_at.result c.text_at.ensures.exact)
    c.text_at.ensures.unread over.bytes over.lent over.caused

pub returns-clause-long : goal.returns-clause-long
returns-clause-long g c =
    let span = title_span c.self.view_is c.self.invariant.index c.as_slice-offsets.ensures c.requires.in_range c.from.ensures in
    let read = c.read_over.new.bytes.items in
    let long : length read ≡ title_len c.args.self.now c.args.doc = omega (arith, c.in_ok-read_over.ensures.long, c.from.ensures, span.len_is) in
    text_long read _ _ c.text_at.result long c.text_at.ensures.exact

pub returns-clause-text : goal.returns-clause-text
returns-clause-text g c = text_utf8 _ _ c.text_at.result c.text_at.ensures.exact
