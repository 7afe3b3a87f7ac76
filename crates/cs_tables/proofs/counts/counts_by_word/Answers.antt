use Rattle.std.proofs.Common.{◌≤◌, ◌<◌, ◌+◌, ◌-◌, ◌∙◌, ℕ, List, length, get_or, length-set, ap, sym, subst, arith}
use Rattle.std.proofs.lemmas.Grind.{common_steps}
use Rattle.cs_base.specs.declared.content.doc.Post.{Post}
use Rattle.cs_base.specs.declared.content.limits.TheConstants.{MAX_DOCS, MAX_WORDS}
use Rattle.cs_tables.specs.Marks.{collected}
use Rattle.cs_tables.proofs.MarksLemmas.{each, has_room, in_range, seen_more}
use Rattle.cs_tables.proofs.CountedWords.{counts-are, words_within}
use Rattle.cs_tables.proofs.counts.counts_by_word.Goals as goal

pub word_range-low-requires : goal.word_range-low-requires
word_range-low-requires c =
    subst (λ (ws : List ℕ). (k : ℕ) (d : ℕ) → k < length ws → get_or ws k d < MAX_WORDS) (sym c.words-words.ensures)
    (words_within MAX_WORDS c.args.rows.now.posts c.requires.words)

pub loop-i-preserved : goal.loop-i-preserved
loop-i-preserved c =
    let low = c.word_range-low.result.0 in
    let many = c.word_range-low.result.1 in
    let rows = c.args.rows.now.posts in
    let words = c.words-words.result.now in
    let j = get_or words c.loop-i.i 0 - low in
    let m = c.index_mut.result.now in
    let below = each (λ (p : Post). p.doc < MAX_DOCS) rows c.requires.docs in
    let is = c.index_mut.ensures.value ∙ c.loop-i.invariant.each j m (in_range rows c.docs-docs.result.now words c.loop-i.i low many c.docs-docs.ensures c.words-words.ensures c.word_range-low.ensures.within c.loop-i-test.true) in
    let saws = c.see.ensures (has_room (low + j) c.loop-i.i rows m c.requires.sorted below is) in
    record {
      long = length-set c.loop-i.marks.items _ _ ∙ c.loop-i.invariant.long;
      each = seen_more rows c.docs-docs.result.now words c.loop-i.i low many c.loop-i.marks.items m c.see.new.self
          c.docs-docs.ensures c.words-words.ensures c.word_range-low.ensures.within c.loop-i-test.true c.loop-i.invariant.long c.loop-i.invariant.each c.index_mut.ensures.value saws;
    }

pub returns-clause-ok : goal.returns-clause-ok
returns-clause-ok c =
    c.in_ok-counted.ensures.ok ∙ ap (λ ms. collected c.word_range-low.result.0 ms) c.as_slice.ensures.value
    ∙ counts-are c.args.rows.now.posts c.word_range-low.result.0 c.word_range-low.result.1 c.loop-i.i c.loop-i.marks.items c.requires.sorted
    (each (λ (p : Post). p.doc < MAX_DOCS) c.args.rows.now.posts c.requires.docs) c.loop-i.invariant.long (grind (arith, common_steps)) c.loop-i.invariant.each
    (subst (λ (ws : List ℕ). (k : ℕ) → k < length ws → (c.word_range-low.result.0 ≤ get_or ws k 0) × (get_or ws k 0 < c.word_range-low.result.0 + c.word_range-low.result.1)) c.words-words.ensures c.word_range-low.ensures.within)
