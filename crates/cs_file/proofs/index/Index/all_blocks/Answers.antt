use Rattle.std.proofs.Common.{◌≡◌, ◌+◌, ◌<◌, ◌++◌, List, [], ◌∷◌, length, map, refl, sym, ap, subst, ◌∙◌, arith}
use Rattle.std.proofs.lemmas.List.{map-append}
use Rattle.cs_base.specs.declared.content.doc.Post.{Post}
use Rattle.cs_cols.specs.declared.cols.Cols.{Cols}
use Rattle.cs_file.specs.CallAnswers.{IsBlockOf, IsChangeOfBlock}
use Rattle.cs_file.specs.ImageSteps.{AreBlocksRead}
use Rattle.cs_file.specs.Indexes.{IndexView, IsIndex}
use Rattle.cs_file.specs.WholeImages.{IsChangeBy, image_break}
use Rattle.cs_file.proofs.FetchLemmas.{fault_along}
use Rattle.cs_file.proofs.HeadsLemmas.{few_heads}
use Rattle.cs_file.proofs.ImageStepLemmas.{block_changed, blocks_next}
use Rattle.cs_file.proofs.index.Index.all_blocks.Goals as goal

pub overflow_cast-k : goal.overflow_cast-k
overflow_cast-k g c =
    let i = c.args.self.now in
    let is = subst IsIndex c.self.view_is c.self.invariant.index in
    let few = is.few_words in
    omega (arith, c.loop-k-test.true, c.len-k-end.ensures, ap (λ (v : IndexView). length v.heads) c.self.view_is, few_heads i is, few)

pub returns-in_err-fetch-clause-changed : goal.returns-in_err-fetch-clause-changed
returns-in_err-fetch-clause-changed g c = λ titles all b t.
    let i = c.args.self.now in
    let e = c.in_err-fetch.field-0.0 in
    let lt : c.loop-k.k < length i.heads = omega (arith, c.loop-k-test.true, c.len-k-end.ensures, ap (λ (v : IndexView). length v.heads) c.self.view_is) in
    let told = subst (λ o. IsChangeOfBlock i o c.loop-k.k e) c.loop-k.invariant.same c.in_err-fetch.ensures.store.changed in
    fault_along (IsChangeBy (image_break i b)) e c.from_residual.result
    (block_changed (subst IsIndex c.self.view_is c.self.invariant.index) c.requires.fits all c.loop-k.invariant.read lt e told b t) c.from_residual.ensures.1

pub loop-k-preserved : goal.loop-k-preserved
loop-k-preserved g c =
    let i = c.args.self.now in
    let told = g.S.Store.bytes c.args.store.now in
    let k = c.loop-k.k in
    let p = c.in_ok-fetch.ensures.ok in
    let old = c.loop-k.blocks in
    let block = c.fetch.new.into in
    let posts : block.posts ≡ p.0 = p.2 ∙ ap (λ (xs : List Post). xs ++ p.0) c.new-block.ensures in
    let own = subst (λ o. IsBlockOf i o k p.0) c.loop-k.invariant.same p.1 in
    let all : map (λ (x : Cols). x.posts) c.push.new.self ≡ map (λ (x : Cols). x.posts) old ++ p.0 ∷ [] =
    ap (map (λ (x : Cols). x.posts)) c.in_ok-push.ensures.ok ∙ map-append (λ (x : Cols). x.posts) old (block ∷ [])
    ∙ ap (λ (xs : List Post). map (λ (x : Cols). x.posts) old ++ xs ∷ []) posts in
    record {
      read = subst (λ bs. AreBlocksRead i told bs (k + 1)) (sym all) (blocks_next c.loop-k.invariant.read own);
      same = c.in_ok-fetch.ensures.store.bytes ∙ c.loop-k.invariant.same;
      lent = c.in_ok-fetch.ensures.store.lent ∙ c.loop-k.invariant.lent;
      quiet = c.in_ok-fetch.ensures.store.caused.quiet refl ∙ c.loop-k.invariant.quiet;
    }
