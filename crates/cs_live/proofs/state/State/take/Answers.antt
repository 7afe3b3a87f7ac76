use Rattle.std.proofs.Common.{List, subst, sym}
use Rattle.cs_base.specs.content.Members.{members_in}
use Rattle.cs_base.specs.declared.content.doc.Post.{Post}
use Rattle.cs_rows.specs.IndexReading.{by_post}
use Rattle.cs_live.specs.States.{IsState, StateView}
use Rattle.cs_live.proofs.SettledLemmas.{by_word_known, good_size, taken}
use Rattle.cs_live.proofs.state.State.take.Goals as goal

pub brought_in-requires-clause-row_sized : goal.brought_in-requires-clause-row_sized
brought_in-requires-clause-row_sized c = good_size c.args.self.now.index.weights c.args.rows.now c.requires.waiting.good

pub brought_in-requires-clause-by_word : goal.brought_in-requires-clause-by_word
brought_in-requires-clause-by_word c = by_word_known _ c.self.invariant

pub invariant_of-self : goal.invariant_of-self
invariant_of-self c =
    let i = c.self.inside in
    let with_rows : List Post → StateView = λ by_word. record {
      index = i.index;
      words = i.words;
      shift = i.shift.items;
      present = i.present.items;
      whole = i.whole;
      held = members_in by_post by_word;
      by_word = by_word;
      added = i.added;
    } in
    subst (λ by_word. IsState (with_rows by_word)) (sym c.in_err-words.ensures.err) c.self.invariant

pub invariant_of-self-2 : goal.invariant_of-self-2
invariant_of-self-2 c =
    (taken _ c.args.self.now c.self.view_is c.requires.is c.args.rows.now c.requires.waiting _ c.deref.ensures.value c.in_ok-words.field-0 c.brought_in.new.by_word.items c.in_ok-words.ensures.ok
    c.requires.few_words c.requires.some).is

pub returns-clause-ok : goal.returns-clause-ok
returns-clause-ok c =
    taken _ c.args.self.now c.self.view_is c.requires.is c.args.rows.now c.requires.waiting _ c.deref.ensures.value c.in_ok-words.field-0 c.brought_in.new.by_word.items c.in_ok-words.ensures.ok
    c.requires.few_words c.requires.some
