use Rattle.std.proofs.Common.{◌∙◌, ◌++◌, ◌≤◌, ◌<◌, ap, ap₂, get_or, map, subst, sym, length, arith}
use Rattle.std.specs.Ordering.{nat_cmp}
use Rattle.std.proofs.lemmas.List.Elements.{All-weaker}
use Rattle.std.specs.Cmp.Lexicographic.{slice_cmp}
use Rattle.cs_base.specs.content.Members.{members_in}
use Rattle.cs_base.specs.content.Orders.{AreDocs}
use Rattle.cs_merge.specs.Vocabularies.{AreOfWordSize}
use Rattle.cs_live.specs.Settling.{row_posts}
use Rattle.cs_live.specs.States.{AreByWord, AreOwnNumbers, renumbered}
use Rattle.cs_live.proofs.NumberLemmas.{own_numbers}
use Rattle.cs_live.proofs.SettledLemmas.{all_distinct, brought, met_distinct}
use Rattle.cs_live.proofs.settling.brought_in.Goals as goal

pub merged-requires-clause-b_words : goal.merged-requires-clause-b_words
merged-requires-clause-b_words c =
    subst AreOfWordSize (sym c.in_ok-own.ensures.words) (all_distinct (λ v. (1 ≤ length v) × (length v ≤ 138)) c.args.rows.now c.requires.row_sized)

pub from_words-words-requires-clause-few : goal.from_words-words-requires-clause-few
from_words-words-requires-clause-few c =
    let all = c.from_vec.ensures ∙ c.in_ok-both.ensures.words ∙ ap (λ ws. members_in (slice_cmp nat_cmp) (c.args.words.now ++ ws)) c.in_ok-own.ensures.words ∙ met_distinct c.args.words.now c.args.rows.now in
    let long = ap length all in
    let few = c.requires.few_words in
    omega (arith, long, few)

pub put_among-requires-clause-words : goal.put_among-requires-clause-words
put_among-requires-clause-words c =
    let long = c.in_ok-both.ensures.first.long in
    let same = ap length c.deref-first.ensures.value in
    All-weaker (λ p. p.word < length c.args.words.now) (λ p. p.word < length c.deref-first.result.now) (λ p lt. omega (arith, lt, long, same)) c.args.by_word.now.items c.requires.by_word

pub put_among-requires-clause-own : goal.put_among-requires-clause-own
put_among-requires-clause-own c e =
    let words = c.from_words-words.ensures ∙ c.from_vec.ensures in
    let merging = c.in_ok-both.field-0 in
    subst AreOwnNumbers (sym c.deref-first.ensures.value)
    (own_numbers c.args.words.now merging.words.items merging.first.items c.in_ok-both.ensures.first
    (ap length (sym words) ∙ c.has_own_words-none.ensures e ∙ ap length c.deref-first.ensures.value))

pub put_among-requires-clause-rises : goal.put_among-requires-clause-rises
put_among-requires-clause-rises c = subst AreDocs (sym c.deref-first.ensures.value) c.in_ok-both.ensures.first.rises

pub returns-clause-ok : goal.returns-clause-ok
returns-clause-ok c =
    let m = c.in_ok-both.field-0 in
    brought c.args.words.now c.args.shift.now c.args.by_word.now.items c.args.rows.now c.in_ok-own.field-0.words c.in_ok-own.field-0.numbers m _ c.put_among.new.by_word.items c.in_ok-both.ensures
    c.in_ok-own.ensures.words c.in_ok-own.ensures.numbers (c.from_words-words.ensures ∙ c.from_vec.ensures)
    (c.in_ok-shift.ensures ∙ ap (λ first. map (λ n. get_or first n 0) c.args.shift.now) c.deref-first.ensures.value)
    (λ held is. subst (λ ps. AreByWord ps c.put_among.new.by_word.items)
    (ap₂ (λ ps qs. ps ++ qs) (ap (λ first. map (renumbered first) held) c.deref-first.ensures.value)
    (ap₂ (λ second ns. row_posts second ns c.args.rows.now) c.deref.ensures.value c.as_slice.ensures)) (c.in_ok-put_among.ensures.ok held is))
