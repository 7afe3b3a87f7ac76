use Rattle.std.proofs.Common.{◌≡◌, ◌<◌, ℕ, List, Option, Some, true, length, get_or, refl, sym, ap, subst, ◌∙◌}
use Rattle.std.specs.Prelude.{IfSome}
use Rattle.std.proofs.lemmas.Option.{same_Some}
use Rattle.cs_base.specs.outside.Outside.{part}
use Rattle.cs_base.specs.declared.index.block.BlockHead.{BlockHead}
use Rattle.cs_block.specs.Sought.{HasSought}
use Rattle.cs_file.specs.Indexes.{block_place}
use Rattle.cs_file.specs.BlockBytes.{IsReadAs}
use Rattle.cs_file.proofs.FetchLemmas.{BlockRead, block_read}
use Rattle.cs_file.proofs.SoughtPosts.{passed, sought_ranged, sought_stood}
use Rattle.cs_file.proofs.index.Index.seek.Goals as goal

-- what is sought by the bytes that were read
has : (c : goal.In_ok-whole) → c.in_ok-whole.whole ≡ true → HasSought c.placed-placed.result.weights c.placed-placed.result.head c.args.from.now.bytes.items
    c.args.words.0 c.args.words.1 c.args.listed.now c.read_sought.new.into.items
has c e = subst (λ bytes. HasSought c.placed-placed.result.weights c.placed-placed.result.head bytes
    c.args.words.0 c.args.words.1 c.args.listed.now c.read_sought.new.into.items) c.deref.ensures.value (c.in_ok-whole.ensures.ok e)

pub returns-clause-ranged : goal.returns-clause-ranged
returns-clause-ranged c e = sought_ranged c.args.words.0 c.args.words.1 c.args.listed.now c.args.self.now c.placed-placed.ensures.weights_are
    c.requires.listed c.requires.words (has c e)

pub returns-clause-sought : goal.returns-clause-sought
returns-clause-sought c e = passed c.args.words.0 c.args.words.1 c.args.listed.now (has c e)

pub returns-clause-stood : goal.returns-clause-stood
returns-clause-stood c b stands own e =
    let from = c.args.from.now in
    let i = c.args.self.now in
    let k = c.args.k in
    let placed = c.placed-placed.result in
    let bytes = from.bytes.items in
    let number = c.if-not-is_of.ensures.number refl in
    let fits = subst (λ n. IfSome n (λ (j : ℕ). (j < length i.heads) × (from.at ≡ block_place i j) × ((d : BlockHead) → IsReadAs (get_or i.heads j d) from))) number c.requires.fits in
    let file : bytes ≡ part b from.at (length bytes) = subst (λ n. IfSome n (λ (j : ℕ). bytes ≡ part b from.at (length bytes))) number own in
    let at : from.at ≡ placed.at = fits.1 ∙ sym c.placed-placed.ensures.at_is in
    let long : length bytes ≡ placed.head.len = (fits.2 placed.head).shaped.size_is ∙ ap (λ (h : BlockHead). h.len) (sym (c.placed-placed.ensures.head_is placed.head)) in
    let there = file ∙ ap (λ (n : ℕ). part b n (length bytes)) at ∙ ap (part b placed.at) long in
    let read = block_read c.placed-placed.ensures long (λ x t. subst (λ (y : List ℕ). bytes ≡ part y placed.at placed.head.len) (same_Some b x t) there) in
    sought_stood c.args.words.0 c.args.words.1 c.args.listed.now read b refl stands (has c e)
