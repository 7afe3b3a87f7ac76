use Rattle.std.proofs.Common.{length, sym, ap, subst, ◌∙◌, arith}
use Rattle.cs_file.specs.HeaderView.{seen_header}
use Rattle.cs_file.specs.Opening.{Refuses, directory_judged}
use Rattle.cs_file.proofs.DirectoryLemmas.{directory_is, heads_are, has_heads, named_count}
use Rattle.cs_file.proofs.StagesLemmas.{judged_along, judges_by}
use Rattle.cs_file.proofs.directory.read_directory.Goals as goal

pub returns-in_err-bytes-clause-exact : goal.returns-in_err-bytes-clause-exact
returns-in_err-bytes-clause-exact g c = λ b t. judged_along _ _ c.from_residual.result (c.in_err-bytes.ensures.err _) c.from_residual.ensures.1

pub judge_heads-requires-clause-blocks : goal.judge_heads-requires-clause-blocks
judge_heads-requires-clause-blocks g c =
    let count = ap length c.deref-2.ensures.value ∙ ap length c.in_ok-heads.ensures
    ∙ named_count c.args.header.now.two c.args.words.now c.args.header.now.blocks c.deref.result.now in
    let few = c.requires.ranges.blocks in
    let most = c.requires.ranges.words in
    omega (arith, count, few, most)

pub returns-in_err-judge_heads-clause-exact : goal.returns-in_err-judge_heads-clause-exact
returns-in_err-judge_heads-clause-exact g c = λ b t.
    let h = seen_header c.args.header.now in
    let own = heads_are b h c.args.words.now c.in_ok-heads.heads.items c.deref.result.now c.in_ok-bytes.bytes.items c.directory_at.result c.entry_bytes.result
    (c.requires.told b t) (c.requires.words b t) c.in_ok-heads.ensures c.deref.ensures.value (c.in_ok-bytes.ensures.ok b t) c.directory_at.ensures.value
    c.entry_bytes.ensures.value in
    let stage = directory_is b h c.args.words.now c.in_ok-heads.heads.items (c.requires.told b t) (c.requires.words b t) own in
    let refused = subst (λ hs. Refuses (directory_judged h c.args.words.now hs) c.in_err-judge_heads.field-0.0) c.deref-2.ensures.value
    c.in_err-judge_heads.ensures.exact in
    judges_by _ _ c.from_residual-in_err-judge_heads.result stage
    (judged_along _ c.in_err-judge_heads.field-0.0 c.from_residual-in_err-judge_heads.result refused c.from_residual-in_err-judge_heads.ensures.1)

pub returns-clause-exact : goal.returns-clause-exact
returns-clause-exact g c = λ b t.
    let h = seen_header c.args.header.now in
    let own = heads_are b h c.args.words.now c.in_ok-heads.heads.items c.deref.result.now c.in_ok-bytes.bytes.items c.directory_at.result c.entry_bytes.result
    (c.requires.told b t) (c.requires.words b t) c.in_ok-heads.ensures c.deref.ensures.value (c.in_ok-bytes.ensures.ok b t) c.directory_at.ensures.value
    c.entry_bytes.ensures.value in
    let stage = directory_is b h c.args.words.now c.in_ok-heads.heads.items (c.requires.told b t) (c.requires.words b t) own in
    stage ∙ ap (directory_judged h c.args.words.now) (sym c.deref-2.ensures.value) ∙ c.in_ok-judge_heads.ensures.exact

pub returns-clause-heads : goal.returns-clause-heads
returns-clause-heads g c = λ b t.
    let h = seen_header c.args.header.now in
    heads_are b h c.args.words.now c.in_ok-heads.heads.items c.deref.result.now c.in_ok-bytes.bytes.items c.directory_at.result c.entry_bytes.result
    (c.requires.told b t) (c.requires.words b t) c.in_ok-heads.ensures c.deref.ensures.value (c.in_ok-bytes.ensures.ok b t) c.directory_at.ensures.value
    c.entry_bytes.ensures.value

pub returns-clause-ruled : goal.returns-clause-ruled
returns-clause-ruled g c =
    let h = seen_header c.args.header.now in
    has_heads h c.args.words.now c.in_ok-heads.heads.items c.deref.result.now c.in_ok-heads.ensures
    (ap (directory_judged h c.args.words.now) (sym c.deref-2.ensures.value) ∙ c.in_ok-judge_heads.ensures.exact)
