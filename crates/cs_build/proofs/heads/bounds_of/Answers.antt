use Rattle.std.proofs.Common.{◌≡◌, ℕ, ◌-◌, List, length, map, refl, ap, ◌∙◌}
use Rattle.std.specs.Prelude.{Option, Some, None, option_map}
use Rattle.std.specs.List.{slice_get}
use Rattle.std.specs.Option.{unwrap_or}
use Rattle.std.proofs.lemmas.List.{length-map}
use Rattle.std.proofs.lemmas.Option.{slice_get-map}
use Rattle.cs_base.specs.declared.content.doc.Post.{Post}
use Rattle.cs_model_index.specs.BlockBounds.{doc_or_zero, greatest_of, least_of}
use Rattle.cs_build.proofs.heads.bounds_of.Goals as goal

doc_held : (p : Option Post) → unwrap_or (option_map (λ r. r.doc) p) 0 ≡ doc_or_zero p
doc_held None = refl
doc_held (Some r) = refl

doc_at : (docs : List ℕ) (posts : List Post) (i : ℕ) → docs ≡ map (λ r. r.doc) posts → unwrap_or (slice_get docs i) 0 ≡ doc_or_zero (slice_get posts i)
doc_at docs posts i are = ap (λ ds. unwrap_or (slice_get ds i) 0) are ∙ ap (λ o. unwrap_or o 0) (slice_get-map (λ (r : Post). r.doc) posts i) ∙ doc_held (slice_get posts i)

pub returns-clause-least : goal.returns-clause-least
unfolding least_of
returns-clause-least c =
    c.unwrap_or-least.ensures ∙ ap (λ o. unwrap_or o 0) (c.copied.ensures ∙ c.first.ensures.value) ∙ doc_at c.docs-docs.result.now c.args.block.now.posts 0 c.docs-docs.ensures

pub returns-clause-greatest : goal.returns-clause-greatest
unfolding greatest_of
returns-clause-greatest c =
    let docs = c.docs-docs.result.now in
    let posts = c.args.block.now.posts in
    let many : length docs ≡ length posts = ap length c.docs-docs.ensures ∙ length-map posts (λ (r : Post). r.doc) in
    c.unwrap_or-greatest.ensures ∙ ap (λ o. unwrap_or o 0) (c.copied-2.ensures ∙ c.last.ensures.value ∙ ap (λ n. slice_get docs (n - 1)) many) ∙ doc_at docs posts (length posts - 1) c.docs-docs.ensures
