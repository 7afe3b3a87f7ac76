use Rattle.std.proofs.Common.{◌≡◌, ◌∙◌, true, ap, length, replicate, subst, sym}
use Rattle.std.specs.List.{range_with_len}
use Rattle.cs_base.specs.content.Members.{members_in}
use Rattle.cs_base.proofs.MembersLemmas.{none_listed}
use Rattle.cs_rows.specs.IndexReading.{by_post}
use Rattle.cs_rows.proofs.StockLemmas.{by_post_exact, by_post_total}
use Rattle.cs_file.specs.Indexes.{IsIndex}
use Rattle.cs_live.specs.States.{IsState, StateView, opened_state}
use Rattle.cs_live.proofs.BeginningLemmas.{opened_is}
use Rattle.cs_live.proofs.state.State.opened.Goals as goal

abbrev made : goal.After-new-2 → StateView
made c = record {
  index = c.args.index;
  words = c.in_ok-words.words;
  shift = c.in_ok-shift.shift.items;
  present = c.in_ok-present.present.items;
  whole = true;
  held = members_in by_post c.new.result.items;
  by_word = c.new.result.items;
  added = c.new-2.result;
}

is_opened : (c : goal.After-new-2) → opened_state c.args.index ≡ made c
is_opened c =
    let i = c.args.index in
    let words : c.in_ok-words.words ≡ i.words = c.in_ok-words.ensures.ok ∙ ap (λ x. x.words) c.index.view_is in
    let shift : c.in_ok-shift.shift.items ≡ range_with_len 0 (length i.words) = c.in_ok-shift.ensures ∙ ap (range_with_len 0) (c.len.ensures.value ∙ ap length words) in
    let present : c.in_ok-present.present.items ≡ replicate i.docs true = c.in_ok-present.ensures.items_if_clones_equal (λ y e. e) ∙ ap (λ x. replicate x.docs true) c.index.view_is in
    let none = none_listed by_post by_post_total by_post_exact ∙ sym (ap (members_in by_post) c.new.ensures.items) in
    λ j. record {
      index = i;
      words = sym words j;
      shift = sym shift j;
      present = sym present j;
      whole = true;
      held = none j;
      by_word = sym c.new.ensures.items j;
      added = sym c.new-2.ensures j;
    }

pub invariant_of-result : goal.invariant_of-result
invariant_of-result c = subst IsState (is_opened c) (opened_is c.args.index (subst IsIndex c.index.view_is c.index.invariant.index))

pub returns : goal.returns
returns c = sym (is_opened c)
