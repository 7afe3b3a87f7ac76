use Rattle.std.proofs.Common.{ℕ, ◌≡◌, ◌++◌, List, map, get_or, ap, ap₂, sym, ◌∙◌}
use Rattle.cs_base.specs.declared.content.doc.Post.{Post}
use Rattle.cs_model_index.specs.Images.{image_posts}
use Rattle.cs_build.specs.Joining.{held_posts}
use Rattle.cs_build.proofs.JoiningLemmas.{joined_words}
use Rattle.cs_build.proofs.joining.numbers_of.Goals as goal

pub returns : goal.returns
returns c =
    let f : Post → ℕ = λ p. get_or c.args.first.now p.word 0 in
    let s : Post → ℕ = λ p. get_or c.args.second.now p.word 0 in
    let one : c.add_numbers.new.numbers.items ≡ map f (image_posts c.args.a.now) =
    c.in_ok-add_numbers.ensures ∙ ap₂ (λ (x y : List ℕ). x ++ y) c.in_ok-numbers.ensures.items (ap (map f) (ap held_posts c.as_slice.ensures ∙ ap image_posts c.a.view_is)) in
    c.in_ok-add_numbers-2.ensures ∙ ap₂ (λ (x y : List ℕ). x ++ y) one (ap (map s) (ap held_posts c.as_slice-2.ensures ∙ ap image_posts c.b.view_is))
    ∙ sym (joined_words c.args.a.now c.args.first.now c.args.b.now c.args.second.now)
