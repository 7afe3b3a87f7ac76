use Rattle.std.proofs.Common.{◌≡◌, ◌∙◌, ◌++◌, ap, length, map, rules, sym}
use Rattle.std.specs.Prelude.{filter}
use Rattle.std.proofs.lemmas.List.{with_items_is}
use Rattle.std.proofs.lemmas.List.Sorted.{IsNonDecreasingBy-from_sort, answers_always}
use Rattle.cs_base.specs.declared.content.doc.Post.{Post}
use Rattle.cs_tables.specs.TableListings.{with_word}
use Rattle.cs_live.specs.Settling.{row_posts}
use Rattle.cs_live.specs.States.{renumbered}
use Rattle.cs_live.proofs.ByWordLemmas.{moved_by, moved_same, stable_each}
use Rattle.cs_live.proofs.rows_by_word.put_among.Goals as goal

pub returns-clause-ok : goal.returns-clause-ok
returns-clause-ok c held is =
    let first = c.args.first.now in
    let by = c.args.by_word.now.items in
    let more = row_posts c.args.second.now c.args.numbers.now c.args.rows.now in
    let copy = c.in_ok-all.all in
    let same : copy.items ≡ by = c.in_ok-all.ensures.items ∙ c.deref.ensures.value in
    let moved = with_items_is copy c.renumber_rows.new.posts (c.renumber_rows.auto.posts ∙ ap length c.deref_mut.ensures.value ∙ sym copy.ok.0)
    ∙ c.renumber_rows.ensures ∙ ap (map (renumbered first)) (c.deref_mut.ensures.value ∙ same) in
    let all : c.add_posts.new.posts.items ≡ map (renumbered first) by ++ more = c.add_posts.ensures ∙ ap (λ ps. ps ++ more) moved in
    let new = c.sort_by_key.new.self.items in
    let calls = answers_always _ _ _ (λ f a r next called. search rules) in
    moved_by first c.requires.rises held by more new is c.requires.words
    (IsNonDecreasingBy-from_sort (λ (p : Post). p.word) new (c.in_ok-sort_by_key.ensures.sorted (λ (p : Post). p.word) calls))
    (λ w. stable_each c.add_posts.new.posts.items new (c.sort_by_key.ensures.stable (λ (p : Post). p.word) calls) w ∙ ap (with_word w) all)
    (λ t. moved_same c.add_posts.new.posts.items new c.sort_by_key.ensures.permutation t ∙ ap (λ ps. length (filter t ps)) all)
