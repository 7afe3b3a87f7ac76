use Rattle.std.proofs.Common.{◌≡◌, ◌∙◌, ◌&&◌, ◌≤◌, ap, subst, sym, set, false}
use Rattle.std.specs.Prelude.{All, nat_le}
use Rattle.cs_base.specs.content.Members.{members_in}
use Rattle.cs_rows.specs.IndexReading.{by_post}
use Rattle.cs_live.specs.States.{IsState, StateView, without_doc}
use Rattle.cs_live.proofs.ByWordLemmas.{all_by, placed}
use Rattle.cs_live.proofs.RemovedLemmas.{without_is}
use Rattle.cs_live.proofs.state.State.remove.Goals as goal
use Rattle.cs_live.proofs.state.State.remove.Goals.{then-self, else-self}

pub forget-requires : goal.forget-requires
forget-requires c =
    let by_word = c.self.inside.by_word.items in
    let is = c.self.invariant in
    subst (λ n. All (λ p. n ≤ p.doc) by_word) (sym c.docs_of_index-first.ensures)
    (all_by (λ p. c.self.inside.index.docs ≤ p.doc) (members_in by_post by_word) by_word is.by_word is.held_later)

abbrev before : goal.After-forget → StateView
before c =
    let i = c.self.inside in
    record { index = i.index; words = i.words; shift = i.shift.items; present = i.present.items; whole = i.whole; held = members_in by_post i.by_word.items; by_word = i.by_word.items; added = i.added }

abbrev after : goal.After-forget → StateView
after c =
    let i = c.self.inside in
    record {
      index = i.index;
      words = i.words;
      shift = i.shift.items;
      present = set i.present.items c.args.doc false;
      whole = c.if-self.self;
      held = members_in by_post c.forget.new.by_word.items;
      by_word = c.forget.new.by_word.items;
      added = i.added;
    }

is_without : (c : goal.After-forget) → without_doc (before c) c.args.doc ≡ after c
is_without c =
    let i = c.self.inside in
    let new = without_doc (before c) c.args.doc in
    let whole : c.if-self.self ≡ (i.whole && nat_le i.index.docs c.args.doc) = elim c.if-self.branch [
      | then-self w ↦ w.self-is ∙ ap (λ n. nat_le n c.args.doc) c.docs_of_index-first.ensures ∙ sym (ap (λ b. b && nat_le i.index.docs c.args.doc) w.if-self.true)
      | else-self w ↦ w.self-is ∙ w.if-self.false ∙ sym (ap (λ b. b && nat_le i.index.docs c.args.doc) w.if-self.false)
    ] in
    let is = without_is (before c) c.self.invariant c.args.doc in
    let held = placed new.held new.by_word is.held_sorted is.by_word ∙ ap (members_in by_post) (sym c.forget.ensures) in
    λ j. record {
      index = i.index;
      words = i.words;
      shift = i.shift.items;
      present = set i.present.items c.args.doc false;
      whole = sym whole j;
      held = held j;
      by_word = sym c.forget.ensures j;
      added = i.added;
    }

pub invariant_of-self : goal.invariant_of-self
invariant_of-self c = subst IsState (is_without c) (without_is (before c) c.self.invariant c.args.doc)

pub returns : goal.returns
returns c = sym (is_without c) ∙ ap (λ s. without_doc s c.args.doc) c.self.view_is
