use Rattle.std.proofs.Common.{ℕ, ◌≡◌, ◌+◌, ◌<◌, ◌++◌, List, length, drop, get_or, map, append_assoc, append-nil, subst, sym, ap, ◌∙◌}
use Rattle.std.specs.List.{All}
use Rattle.std.proofs.lemmas.List.{map-append}
use Rattle.std.proofs.lemmas.List.Elements.{All-map}
use Rattle.cs_base.specs.declared.content.doc.Post.{Post}
use Rattle.cs_build.specs.Joining.{held_posts}
use Rattle.cs_build.proofs.JoiningLemmas.{all_behind, all_front, held_end, held_next, map_map}
use Rattle.cs_build.proofs.joining.add_numbers.Goals as goal

pub add_words-requires : goal.add_words-requires
add_words-requires c =
    let e = held_next c.args.blocks.now c.loop-block.block-index c.block-item.result c.loop-block-test.true c.block-item.is in
    subst (All (λ n. n < length c.args.shift.now)) (sym c.words.ensures)
    (All-map (λ n. n < length c.args.shift.now) (λ (p : Post). p.word) c.block-item.result.posts
    (all_front (λ (p : Post). p.word < length c.args.shift.now) c.block-item.result.posts _ (subst (All (λ p. p.word < length c.args.shift.now)) e c.loop-block.invariant.each)))

pub loop-block-preserved : goal.loop-block-preserved
loop-block-preserved c =
    let e = held_next c.args.blocks.now c.loop-block.block-index c.block-item.result c.loop-block-test.true c.block-item.is in
    let new : Post → ℕ = λ p. get_or c.args.shift.now p.word 0 in
    let rest : List Post = held_posts (drop (c.loop-block.block-index + 1) c.args.blocks.now) in
    let here : c.add_words.new.numbers.items ≡ c.loop-block.numbers.items ++ map new c.block-item.result.posts =
    c.in_ok-add_words.ensures ∙ ap (λ ws. c.loop-block.numbers.items ++ map (λ n. get_or c.args.shift.now n 0) ws) c.words.ensures
    ∙ ap (λ ns. c.loop-block.numbers.items ++ ns) (map_map (λ (p : Post). p.word) (λ n. get_or c.args.shift.now n 0) c.block-item.result.posts) in
    record {
      told =
          ap (λ ns. ns ++ map new rest) here ∙ append_assoc c.loop-block.numbers.items (map new c.block-item.result.posts) (map new rest)
          ∙ ap (λ ns. c.loop-block.numbers.items ++ ns) (sym (map-append new c.block-item.result.posts rest) ∙ ap (map new) (sym e))
          ∙ c.loop-block.invariant.told;
      each = all_behind (λ (p : Post). p.word < length c.args.shift.now) c.block-item.result.posts rest (subst (All (λ p. p.word < length c.args.shift.now)) e c.loop-block.invariant.each);
    }

pub returns : goal.returns
returns c =
    let new : Post → ℕ = λ p. get_or c.args.shift.now p.word 0 in
    sym (ap (λ ps. c.loop-block.numbers.items ++ map new ps) (held_end c.args.blocks.now c.loop-block.block-index c.loop-block-test.false) ∙ append-nil c.loop-block.numbers.items) ∙ c.loop-block.invariant.told
