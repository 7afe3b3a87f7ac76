use Rattle.std.proofs.Common.{◌≡◌, ℕ, ◌+◌, ◌≤◌, ◌++◌, ◌∷◌, [], true, not, nat_le, length, map, refl, sym, ap, ap₂, subst, ◌∙◌, arith}
use Rattle.std.proofs.lemmas.Bool.Decides.{nat_tests}
use Rattle.std.proofs.lemmas.List.Sums.{count_by-le-length}
use Rattle.cs_base.specs.declared.content.limits.TheConstants.{MAX_WORDS}
use Rattle.cs_model.specs.Corpus.{rows_of}
use Rattle.cs_model_changes.specs.Joined.{later_row}
use Rattle.cs_live.specs.Lives.{IsOnlyDoc, HasAdded, IsLiveKept, IsLiveState, LiveView, own_rows}
use Rattle.cs_live.specs.Settling.{HaveWordSize, words_met}
use Rattle.cs_live.proofs.AddingLemmas.{own_good}
use Rattle.cs_live.proofs.ChangedLemmas.{behind_added}
use Rattle.cs_live.proofs.LiveLemmas.{added_kept, added_live, empty_good, is_added}
use Rattle.cs_live.proofs.SettledLemmas.{good_size}
use Rattle.cs_live.proofs.live.Live.add.Goals as goal

pub has_room-requires-clause-row_sized : goal.has_room-requires-clause-row_sized
has_room-requires-clause-row_sized c =
    subst (λ rs. HaveWordSize rs) (sym c.deref.ensures.value) (good_size c.self.inside.state.index.weights c.self.inside.rows.items c.self.invariant.live.waiting.good)

pub has_room-requires-clause-own_sized : goal.has_room-requires-clause-own_sized
has_room-requires-clause-own_sized c =
    let w = c.index_weights-weights.result in
    let n = c.numbers_given-number.result in
    let doc = c.args.doc in
    let accepted : IsOnlyDoc w doc = subst (λ v. IsOnlyDoc v doc) (sym (c.index_weights-weights.ensures.is ∙ ap (λ (v : LiveView). v.state.index.weights) c.self.view_is)) c.requires.accepted in
    subst (λ rs. HaveWordSize rs) (sym (c.deref-2.ensures.value ∙ c.in_ok-title.ensures.ok.rows))
    (good_size w (map (later_row n) (rows_of w (doc ∷ []))) (own_good w n doc accepted))

pub overflow_add-self : goal.overflow_add-self
overflow_add-self c =
    let kept = c.self.invariant in
    let counted = kept.counted in
    let few = kept.live.state.few_docs in
    let count = kept.live.state.count in
    let gone = count_by-le-length not c.self.inside.state.present in
    omega (arith, counted, few, count, gone)

le_from : (n m : ℕ) → nat_le n m ≡ true → n ≤ m
le_from n m h = grind (arith, nat_tests)

pub bring_many_in-requires : goal.bring_many_in-requires
bring_many_in-requires c =
    let kept = c.self.invariant in
    let l : LiveView = record { state = c.self.inside.state; rows = c.self.inside.rows.items; met = c.self.inside.met; changes = c.self.inside.changes; answers = c.self.inside.answers; held = c.self.inside.held } in
    let doc = c.args.doc in
    let own = own_rows l doc in
    let own_is : c.in_ok-title.field-0.rows.items ≡ own = c.in_ok-title.ensures.ok.rows
    ∙ ap₂ (λ v n. map (later_row n) (rows_of v (doc ∷ []))) c.index_weights-weights.ensures.is c.numbers_given-number.ensures.number in
    let long = c.len-2.ensures in
    let own_long : c.len-2.result ≡ length own = (let many = c.in_ok-title.field-0.rows.ok.0 in let same = ap length own_is in omega (arith, many, same, long)) in
    let fit : nat_le (length (words_met l.state.words (l.rows ++ own))) MAX_WORDS ≡ true =
    sym (c.in_ok-has_room.ensures ∙ ap₂ (λ xs ys. nat_le (length (words_met l.state.words (xs ++ ys))) MAX_WORDS) c.deref.ensures.value (c.deref-2.ensures.value ∙ own_is))
    ∙ c.if-not-branch.false in
    let few = c.if-number-ge-MAX_DOCS.false in
    let number = c.numbers_given-number.ensures.number in
    let rows = c.if-len-self.false in
    let few_rows = kept.live.few_rows in
    let same = c.len.ensures in
    let live = added_live l kept doc (subst (λ (v : LiveView). IsOnlyDoc v.state.index.weights doc) (sym c.self.view_is) c.requires.accepted) c.in_ok-title.field-0.title
    c.put_document.new.state c.put_document.new.rows.items (c.self.inside.met + c.len-2.result)
    c.in_ok-title.ensures.ok.title c.in_ok-put_document.ensures.state (c.in_ok-put_document.ensures.rows ∙ ap (λ rs. l.rows ++ rs) own_is) (ap (λ n. c.self.inside.met + n) own_long)
    (omega (arith, few, number)) c.in_ok-title.ensures.ok.text (omega (arith, rows, few_rows, own_long, long, same))
    (le_from (length (words_met l.state.words (l.rows ++ own))) MAX_WORDS fit) in
    let few_wait = live.few in
    let few_met = live.few_rows in
    record {
      is = live.state;
      waiting = live.waiting;
      few = omega (arith, few_wait, few_met);
      few_words = live.few_words;
    }

-- ---- an index before and after
abbrev before : goal.After-forget → LiveView
before c = record { state = c.self.inside.state; rows = c.self.inside.rows.items; met = c.self.inside.met; changes = c.self.inside.changes; answers = c.self.inside.answers; held = c.self.inside.held }

abbrev after : goal.After-forget → LiveView
after c = record {
  state = c.bring_many_in.new.state;
  rows = c.bring_many_in.new.rows.items;
  met = c.self.inside.met + c.len-2.result;
  changes = c.self.inside.changes + 1;
  answers = c.forget.new.answers;
  held = c.forget.new.held;
}

accepted : (c : goal.After-forget) → IsOnlyDoc (before c).state.index.weights c.args.doc
accepted c = subst (λ (v : LiveView). IsOnlyDoc v.state.index.weights c.args.doc) (sym c.self.view_is) c.requires.accepted

own_is : (c : goal.After-forget) → c.in_ok-title.field-0.rows.items ≡ own_rows (before c) c.args.doc
own_is c =
    c.in_ok-title.ensures.ok.rows
    ∙ ap₂ (λ v n. map (later_row n) (rows_of v (c.args.doc ∷ []))) c.index_weights-weights.ensures.is c.numbers_given-number.ensures.number

rows_are : (c : goal.After-forget) → c.put_document.new.rows.items ≡ (before c).rows ++ own_rows (before c) c.args.doc
rows_are c = c.in_ok-put_document.ensures.rows ∙ ap (λ l. c.self.inside.rows.items ++ l) (own_is c)

own_long : (c : goal.After-forget) → c.len-2.result ≡ length (own_rows (before c) c.args.doc)
own_long c =
    let many = c.in_ok-title.field-0.rows.ok.0 in
    let same = ap length (own_is c) in
    let long = c.len-2.ensures in
    omega (arith, many, same, long)

words_fit : (c : goal.After-forget) → length (words_met (before c).state.words ((before c).rows ++ own_rows (before c) c.args.doc)) ≤ MAX_WORDS
words_fit c =
    le_from (length (words_met (before c).state.words ((before c).rows ++ own_rows (before c) c.args.doc))) MAX_WORDS
    (sym (c.in_ok-has_room.ensures ∙ ap₂ (λ xs ys. nat_le (length (words_met (before c).state.words (xs ++ ys))) MAX_WORDS) c.deref.ensures.value (c.deref-2.ensures.value ∙ own_is c))
    ∙ c.if-not-branch.false)

put_live : (c : goal.After-forget) → IsLiveState c.put_document.new.state c.put_document.new.rows.items (c.self.inside.met + c.len-2.result)
put_live c =
    let kept = c.self.invariant in
    let own = own_long c in
    let few = c.if-number-ge-MAX_DOCS.false in
    let number = c.numbers_given-number.ensures.number in
    let rows = c.if-len-self.false in
    let few_rows = kept.live.few_rows in
    let long = c.len-2.ensures in
    let same = c.len.ensures in
    added_live (before c) kept c.args.doc (accepted c) c.in_ok-title.field-0.title c.put_document.new.state c.put_document.new.rows.items (c.self.inside.met + c.len-2.result)
    c.in_ok-title.ensures.ok.title c.in_ok-put_document.ensures.state (rows_are c) (ap (λ n. c.self.inside.met + n) own)
    (omega (arith, few, number)) c.in_ok-title.ensures.ok.text (omega (arith, rows, few_rows, own, long, same)) (words_fit c)

pub invariant_of-self-2 : goal.invariant_of-self-2
invariant_of-self-2 c =
    added_kept (before c) c.self.invariant c.args.doc (accepted c) c.in_ok-title.field-0.title c.put_document.new.state c.put_document.new.rows.items (c.self.inside.met + c.len-2.result)
    c.in_ok-title.ensures.ok.title c.in_ok-put_document.ensures.state (rows_are c) (ap (λ n. c.self.inside.met + n) (own_long c))
    (after c) c.self.inside.answers.capacity c.bring_many_in.ensures refl refl c.forget.ensures.answers c.forget.ensures.held (put_live c)

added_here : (c : goal.After-forget) → HasAdded c.args.self.now c.args.doc (after c)
added_here c =
    subst (λ v. HasAdded v c.args.doc (after c)) c.self.view_is
    (is_added (before c) c.self.invariant c.args.doc (accepted c) c.in_ok-title.field-0.title c.put_document.new.state c.put_document.new.rows.items (c.self.inside.met + c.len-2.result)
    c.in_ok-title.ensures.ok.title c.in_ok-put_document.ensures.state (rows_are c) (ap (λ n. c.self.inside.met + n) (own_long c))
    (after c) c.self.inside.answers.capacity c.bring_many_in.ensures refl refl c.forget.ensures.answers c.forget.ensures.held refl)

pub returns-clause-added : goal.returns-clause-added
returns-clause-added c = added_here c

pub returns-clause-behind : goal.returns-clause-behind
returns-clause-behind c b cs stands behind =
    let kept : IsLiveKept c.args.self.now = subst IsLiveKept c.self.view_is c.self.invariant in
    behind_added c.args.self.now kept.live.state b stands cs behind c.args.doc (after c) (added_here c)

pub returns-clause-good : goal.returns-clause-good
returns-clause-good c b = empty_good (after c) c.self.inside.answers.capacity c.forget.ensures.answers c.forget.ensures.held b
