use Rattle.std.proofs.Common.{◌-◌, ◌*◌, ◌++◌, drop, ap, ◌∙◌}
use Rattle.cs_model_index.specs.Layout.{entry_size}
use Rattle.cs_file.specs.Opening.{named_head, named_in}
use Rattle.cs_file.proofs.DirectoryLemmas.{heads_start, heads_on, heads_end}
use Rattle.cs_file.proofs.directory.heads.Goals as goal

pub loop-i-init : goal.loop-i-init
loop-i-init c =
    let h = c.args.header.now in
    ap (λ x. x ++ named_in h.two c.args.words.now (h.blocks - 0) (drop (entry_size h.two * 0) c.args.bytes.now)) c.in_ok-heads.ensures.items
    ∙ heads_start h.two c.args.words.now c.args.bytes.now h.blocks

pub loop-i-preserved : goal.loop-i-preserved
loop-i-preserved c =
    let h = c.args.header.now in
    let at = ap (λ n. n * c.loop-i.i) c.entry_bytes-size.ensures.value in
    heads_on h.two c.args.words.now c.args.bytes.now h.blocks c.loop-i.i c.head_at.result c.loop-i.heads.items c.push.new.self.items
    c.loop-i-test.true (c.head_at.ensures ∙ ap (λ n. named_head h.two c.args.words.now (drop n c.args.bytes.now)) at) c.in_ok-push.ensures.items c.loop-i.invariant

pub returns : goal.returns
returns c = heads_end c.args.header.now.two c.args.words.now c.args.bytes.now c.args.header.now.blocks c.loop-i.i c.loop-i.heads.items c.loop-i-test.false
    c.loop-i.invariant
