use Rattle.std.proofs.Common.{◌≡◌, ◌<◌, ◌∙◌, ap, arith, length, get_or}
use Rattle.std.proofs.lemmas.List.{get_or_read}
use Rattle.cs_cols.specs.HeldPosts.{HeldPosts}
use Rattle.cs_cols.proofs.Columns.{posts-length, posts-at, post}
use Rattle.cs_cols.proofs.cols.Cols.get.Goals as goal

pub returns : goal.returns
returns c =
    let s = c.self.inside in
    let ds = s.docs.items in
    let ws = s.words.items in
    let ps = s.places.items in
    let ss = s.scores.items in
    let even = c.self.invariant.0 in
    let n = posts-length ds ws ps ss even in
    let are = ap (λ (h : HeldPosts). length h.posts) c.self.view_is in
    let short : c.args.i < length ds = omega (arith, n, are) in
    let made = post c.index.result.now c.index-2.result.now c.index-3.result.now c.index-4.result.now in
    let d : c.index.result.now ≡ get_or ds c.args.i 0 = get_or_read ds c.args.i _ short c.index.ensures 0 in
    let w : c.index-2.result.now ≡ get_or ws c.args.i 0 = get_or_read ws c.args.i _ (omega arith) c.index-2.ensures 0 in
    let p : c.index-3.result.now ≡ get_or ps c.args.i 0 = get_or_read ps c.args.i _ (omega arith) c.index-3.ensures 0 in
    let k : c.index-4.result.now ≡ get_or ss c.args.i 0 = get_or_read ss c.args.i _ (omega arith) c.index-4.ensures 0 in
    rw (← c.self.view_is)
    (let same : made ≡ post (get_or ds c.args.i 0) (get_or ws c.args.i 0) (get_or ps c.args.i 0) (get_or ss c.args.i 0) = cc (d, w, p, k) in
    same ∙ posts-at ds ws ps ss even c.args.i made short)
