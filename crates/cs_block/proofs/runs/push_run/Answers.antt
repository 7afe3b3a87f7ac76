use Rattle.std.proofs.Common.{◌≡◌, ℕ, ◌+◌, ◌-◌, true, length, take, drop, Some, sym, refl, subst, ◌∙◌, ap, arith}
use Rattle.std.proofs.lemmas.List.{length-take, length-drop}
use Rattle.cs_base.specs.declared.content.doc.Post.{Post}
use Rattle.cs_model_index.specs.BlockRules.{is_after}
use Rattle.cs_block.specs.ColumnsView.{seen_columns}
use Rattle.cs_block.specs.Pass.{HasPushed}
use Rattle.cs_block.specs.RowRuns.{row_in}
use Rattle.cs_block.proofs.RunsLemmas.{docs_onward, is_run, pushes_run}
use Rattle.cs_block.proofs.runs.push_run.Goals as goal

pub returns-clause-pushed : goal.returns-clause-pushed
returns-clause-pushed c =
    let head = c.args.head.now in
    let weights = c.args.weights in
    let docs = c.args.docs in
    let cols = seen_columns c.args.columns.now in
    let from = c.args.from in
    let n = length c.args.run_docs.now in
    let k = n - 1 in
    let ds = c.docs_in.new.out in
    let ws = c.words_in.new.out in
    let ps = c.positions_in.new.out in
    let m = from.rows + n - from.rows in
    let ss = take m (drop from.rows cols.scores) in
    let as_many : m ≡ n = omega arith in
    let sized = c.requires.sized.scores_len in
    let rows = c.requires.rows in
    let some = c.requires.some in
    let room = c.requires.room in
    let ld : length ds ≡ n = c.docs_in.auto.out in
    let lw : length ws ≡ n = c.words_in.auto.out ∙ c.requires.words in
    let lp : length ps ≡ n = c.positions_in.auto.out ∙ c.requires.positions in
    let ls : length ss ≡ n = omega (arith, length-take m (drop from.rows cols.scores), length-drop from.rows cols.scores) in
    let front : is_after from.last (row_in ds ws ps ss 0) ≡ true =
    subst (λ (r : Post). is_after from.last r ≡ true) c.row_in-front.ensures (sym c.is_after.ensures ∙ c.if-not-is_after.false) in
    let run = is_run weights head docs cols from.rows from.at from.before from.last ds ws ps ss n ld lw lp ls rows
    (ap (λ (x : ℕ). take x (drop from.rows cols.scores)) as_many) c.in_ok-at.ensures.are (c.if-not-words_in.ensures refl)
    (c.if-not-positions_in.ensures refl) (c.if-not-are_scores.ensures refl) (c.if-not-are_ascending.ensures refl) front in
    λ first h.
    subst (λ (r : Post). HasPushed weights head docs cols (from.rows + n) c.in_ok-at.at (Some r) r.doc first c.extend_reserved.new.self.posts
    c.extend_reserved.new.self.room) (sym c.row_in-last.ensures)
    (pushes_run weights head docs cols from.rows from.at from.before from.last ds ws ps ss first c.args.into.now.posts c.extend_reserved.new.self.posts
    c.args.into.now.room c.extend_reserved.new.self.room k c.in_ok-at.at (from.rows + n)
    (omega arith) (ap (λ (x : ℕ). from.rows + x) (sym ld)) c.in_ok-at.ensures.next_is c.extend_reserved.ensures.posts
    (omega (arith, c.extend_reserved.ensures.room)) (omega arith) run h)

pub are_ascending-requires-clause-onward : goal.are_ascending-requires-clause-onward
are_ascending-requires-clause-onward c = docs_onward c.args.columns.now.gaps.now c.args.from.at c.args.from.before c.args.docs c.docs_in.new.out
    c.in_ok-at.ensures.are
