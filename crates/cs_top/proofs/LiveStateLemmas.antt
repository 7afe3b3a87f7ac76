-- The state of a live corpus that an index under changes is in, and what is told of a change.
--
--   changed_by_addition, changed_by_deletion     what changes make of a corpus, with one more
--   tells_memory, tells_said            there was no memory, and a text alone
--   added_tells, full_tells             a document was added, and one for which there is no room
--   deleted_tells, absent_tells         a document was deleted, and none has the number
--   some_number, no_number, unnumbered  by whether digits have a number's form
--   removed_there, removed_absent       by what a deletion answered
--   read_line_tells, refused_outcome, nothing_added     a line whose document is read, one that is refused, and one without a document
use Rattle.std.proofs.Common.{◌≡◌, ◌≢◌, ◌==◌, ℕ, ◌+◌, Bool, true, false, List, [], ◌∷◌, ◌++◌, length, length-append, inl, inr, refl, sym, ◌∙◌, ap, ap₂, subst, arith}
use Rattle.std.specs.Prelude.{◌↔◌, MatchOption, Result, Ok, Err, Some, None, fold, if◌then◌else◌}
use Rattle.std.specs.FinMap as finmap
use Rattle.std.proofs.lemmas.List.{append-nil, nil_from_length}
use Rattle.std.proofs.lemmas.Bool.Decides.{nat_tests}
use Rattle.std.proofs.lemmas.List.Sums.{fold-append}
use Rattle.std.proofs.lemmas.Option.{same_Some}
use Rattle.cs_base.specs.content.Members.{members_in}
use Rattle.cs_base.specs.content.Orders.{by_row}
use Rattle.cs_base.specs.declared.content.doc.Doc.{Doc}
use Rattle.cs_base.specs.declared.content.scores.Weights.{Weights}
use Rattle.cs_file.specs.Indexes.{IndexView, StandsFor, index_in}
use Rattle.cs_live.specs.Lives.{AreGoodNow, HasAdded, IsBehind, IsRemoved, IsStateOf, LiveView, NamesFull, changes_in, changing, full_now, full_of, has_document, next_number}
use Rattle.cs_live.specs.declared.fault.AddFault.{AddFault}
use Rattle.cs_live.specs.declared.fault.RemoveFault.{RemoveFault}
use Rattle.cs_live.specs.declared.fault.RemoveFault.TheVariants as removals
use Rattle.cs_model.specs.Collection.{CollectionRefusal, document, line_refusal}
use Rattle.cs_model.specs.Corpus.{Corpus, doc_rows}
use Rattle.cs_model.specs.Digits.{has_digits, number_of}
use Rattle.cs_model.specs.Outputs.{memory_text}
use Rattle.cs_model_changes.specs.Changes.{Change, Changing, added, applied, deleted, started}
use Rattle.cs_model_index.specs.Sections.{file_corpus, image_of}
use Rattle.cs_model_live.specs.Courses.{IsChanged, additions_in}
use Rattle.cs_model_live.specs.LiveLines.{Outcome as Became, absent_text, added_outcome, by_refusals, change_text, deleted_outcome, document_text, done, full_text, said, second_line}
use Rattle.cs_model_live.specs.LiveStates.{Full, LiveState, changed, full_refusal, next_doc}
use Rattle.cs_model_live.specs.declared.limits.TheConstants.{MAX_DOC_DIGITS}
use Rattle.cs_top.specs.LiveAnswering.{IsLiveAt, Tells}
use Rattle.cs_top.specs.LiveTexts.{told_bytes}
use Rattle.cs_top.specs.declared.live.outcomes.Outcome.{Outcome}
use Rattle.cs_top.specs.declared.live.outcomes.Outcome.TheVariants.{Added, Deleted}

-- ---- changes, one more
additions_behind : (a b : List Change) → additions_in (a ++ b) ≡ additions_in a ++ additions_in b
additions_behind [] b = refl
additions_behind (added doc ∷ a) b = ap (λ l. doc ∷ l) (additions_behind a b)
additions_behind (deleted d ∷ a) b = additions_behind a b

module _ (w : Weights) (k : Corpus) (cs : List Change) (s : LiveState) (h : IsChanged w k cs s) where
  abbrev before : Changing
  before = fold (applied w) (started k) cs

  one_more : (c : Change) → fold (applied w) (started k) (cs ++ c ∷ []) ≡ applied w before c
  one_more c = fold-append (applied w) (started k) cs (c ∷ [])

  counted_more : (c : Change) → s.changes + 1 ≡ length (cs ++ c ∷ [])
  counted_more c = let n = h.changes in omega (arith, n, length-append cs (c ∷ []))

  pub changed_by_addition : (doc : Doc) → next_doc k s ≡ before.next → IsChanged w k (cs ++ added doc ∷ []) (changed w k s (added doc))
  changed_by_addition doc next = record {
    corpus =
        (λ i. record { titles = finmap.insert (h.corpus i).titles (next i) doc.title; rows = members_in by_row ((h.corpus i).rows ++ doc_rows w (next i, doc)) })
        ∙ sym (ap (λ x. x.corpus) (one_more (added doc)));
    changes = counted_more (added doc);
    additions = ap (λ ds. ds ++ doc ∷ []) h.additions ∙ sym (additions_behind cs (added doc ∷ []));
  }

  pub changed_by_deletion : (d : ℕ) → IsChanged w k (cs ++ deleted d ∷ []) (changed w k s (deleted d))
  changed_by_deletion d = record {
    corpus = ap (λ y. (applied w (record { corpus = y; next = before.next }) (deleted d)).corpus) h.corpus ∙ sym (ap (λ x. x.corpus) (one_more (deleted d)));
    changes = counted_more (deleted d);
    additions = h.additions ∙ sym (append-nil (additions_in cs)) ∙ sym (additions_behind cs (deleted d ∷ []));
  }

-- ---- weights
file_weights : (b : List ℕ) → (index_in b).weights ≡ (image_of b).weights
unfolding index_in image_of
file_weights b = refl

index_weights : (b : List ℕ) (i : IndexView) → StandsFor b i → i.weights ≡ (image_of b).weights
index_weights b i stands = ap (λ (x : IndexView). x.weights) stands.index ∙ file_weights b

-- ---- what is told where nothing changes
module _ (b : List ℕ) (s : LiveState) (m : Became) (o : Outcome) where
  pub tells_memory : told_bytes o ≡ memory_text ++ 10 ∷ [] → Tells b s m o s
  tells_memory is = inr (is, refl)

  pub tells_said : (t : List ℕ) → m ≡ said t → told_bytes o ≡ t ++ 10 ∷ [] → Tells b s m o s
  tells_said t only is = subst (λ x. Tells b s x o s) (sym only) (inl (is, refl))

-- ---- over an index under changes
module _ (b : List ℕ) (l : LiveView) (s : LiveState) (h : IsLiveAt b l s) where
  abbrev w : Weights
  w = (image_of b).weights

  abbrev k : Corpus
  k = file_corpus b

  weigh : l.state.index.weights ≡ w
  weigh = index_weights b l.state.index h.stands

  by_file : IsChanged w k h.at.made s
  by_file = subst (λ v. IsChanged v k h.at.made s) weigh h.at.state

  behind_file : fold (applied w) (started k) h.at.made ≡ changing l b
  behind_file = subst (λ v. fold (applied v) (started k) h.at.made ≡ changing l b) weigh h.at.behind.corpus

  counted : s.changes ≡ changes_in l
  counted = by_file.changes ∙ sym h.at.behind.changes

  live_behind : (c : Change) (new : LiveView) → new.state.index ≡ l.state.index → IsBehind b (h.at.made ++ c ∷ []) new → AreGoodNow b new → IsChanged w k (h.at.made ++ c ∷ []) (changed w k s c) → IsLiveAt b new (changed w k s c)
  live_behind c new index behind good is = record {
    stands = subst (StandsFor b) (sym index) h.stands;
    at = record {
      made = h.at.made ++ c ∷ [];
      behind = behind;
      state = subst (λ v. IsChanged v k (h.at.made ++ c ∷ []) (changed w k s c)) (sym (ap (λ (i : IndexView). i.weights) index ∙ weigh)) is;
    };
    good = good;
  }

  -- ---- additions
  module _ (of : IsStateOf b l s) (doc : Doc) where
    full_same : full_refusal w k s doc ≡ full_now l doc
    full_same = subst (λ v. full_refusal v k s doc ≡ full_now l doc) weigh (of.full doc)

    abbrev became : Became
    became = by_refusals None (full_refusal w k s doc) doc

    pub added_tells : (n m : ℕ) (new : LiveView) → n ≡ next_number l → m ≡ changes_in new → HasAdded l doc new
        → ((cs : List Change) → StandsFor b l.state.index → IsBehind b cs l → IsBehind b (cs ++ added doc ∷ []) new) → AreGoodNow b new → full_now l doc ≡ None
        → (e : LiveState) × Tells b s became (Added n m) e × IsLiveAt b new e
    added_tells n m new number count is behind good room =
        let first : n ≡ next_doc k s = number ∙ sym of.next in
        let second : m ≡ s.changes + 1 = count ∙ is.changes ∙ ap (λ x. x + 1) (sym counted) in
        let next : next_doc k s ≡ (fold (applied w) (started k) h.at.made).next = of.next ∙ sym (ap (λ (x : Changing). x.next) behind_file) in (
          changed w k s (added doc),
          subst (λ x. Tells b s (by_refusals None x doc) (Added n m) (changed w k s (added doc))) (sym (full_same ∙ room)) (inl (ap₂ (λ x y. told_bytes (Added x y)) first second, refl)),
          live_behind (added doc) new is.index (behind h.at.made h.stands h.at.behind) good (changed_by_addition w k h.at.made s by_file doc next),
        )

    pub full_tells : (f : Full) (o : Outcome) → full_now l doc ≡ Some f → told_bytes o ≡ full_text f ++ 10 ∷ [] → Tells b s became o s
    full_tells f o full is = tells_said b s became o (full_text f) (ap (λ x. by_refusals None x doc) (full_same ∙ full)) is

    -- by the fault that says so
    pub fault_tells : (e v : AddFault) (f : Full) (o : Outcome) (new : LiveView) → NamesFull l doc e → e ≡ v → full_of v ≡ Some f → told_bytes o ≡ full_text f ++ 10 ∷ [] → new ≡ l
        → (x : LiveState) × Tells b s became o x × IsLiveAt b new x
    fault_tells e v f o new named is full told same =
        let cause : MatchOption (Some f) (Unit {0}) (λ x. full_now l doc ≡ Some x) = subst (λ x. MatchOption x (Unit {0}) (λ y. full_now l doc ≡ Some y)) full (subst (NamesFull l doc) is named) in
        (s, full_tells f o cause told, subst (λ x. IsLiveAt b x s) (sym same) h)

  -- ---- where nothing changes
  pub stays_told : (m : Became) (o : Outcome) (new : LiveView) → Tells b s m o s → new ≡ l → (x : LiveState) × Tells b s m o x × IsLiveAt b new x
  stays_told m o new tells same = (s, tells, subst (λ x. IsLiveAt b x s) (sym same) h)

  -- ---- deletions
  module _ (digits : List ℕ) (d : ℕ) (form : has_digits MAX_DOC_DIGITS digits ≡ true) (number : d ≡ number_of digits) (there : finmap.contains_key s.corpus.titles d ≡ has_document l d) where
    known : finmap.contains_key s.corpus.titles (number_of digits) ≡ has_document l d
    known = ap (finmap.contains_key s.corpus.titles) (sym number) ∙ there

    became_deleted : has_document l d ≡ true → deleted_outcome s digits ≡ done (deleted (number_of digits))
    became_deleted has = let k : finmap.contains_key s.corpus.titles (number_of digits) ≡ true = known ∙ has in rw (form, k) refl

    became_absent : has_document l d ≡ false → deleted_outcome s digits ≡ said absent_text
    became_absent has = let k : finmap.contains_key s.corpus.titles (number_of digits) ≡ false = known ∙ has in rw (form, k) refl

    pub deleted_tells : (m : ℕ) (new : LiveView) → has_document l d ≡ true → m ≡ changes_in new → IsRemoved l d new
        → ((cs : List Change) → StandsFor b l.state.index → IsBehind b cs l → IsBehind b (cs ++ deleted d ∷ []) new) → AreGoodNow b new
        → (e : LiveState) × Tells b s (deleted_outcome s digits) (Deleted m) e × IsLiveAt b new e
    deleted_tells m new has count is behind good =
        let second : m ≡ s.changes + 1 = count ∙ is.changes ∙ ap (λ x. x + 1) (sym counted) in
        let became : deleted_outcome s digits ≡ done (deleted d) = became_deleted has ∙ ap (λ x. done (deleted x)) (sym number) in (
          changed w k s (deleted d),
          subst (λ x. Tells b s x (Deleted m) (changed w k s (deleted d))) (sym became) (inl (ap (λ x. told_bytes (Deleted x)) second, refl)),
          live_behind (deleted d) new is.index (behind h.at.made h.stands h.at.behind) good (changed_by_deletion w k h.at.made s by_file d),
        )

    pub absent_tells : (o : Outcome) → has_document l d ≡ false → told_bytes o ≡ absent_text ++ 10 ∷ [] → Tells b s (deleted_outcome s digits) o s
    absent_tells o has is = tells_said b s (deleted_outcome s digits) o absent_text (became_absent has) is

-- ---- numbers
pub some_number : (t : Bool) (n d : ℕ) → Some d ≡ (if t then Some n else None) → (t ≡ true) × (d ≡ n)
some_number true n d e = (refl, same_Some d n e)
some_number false n d e = absurd cc

pub no_number : (t : Bool) (n : ℕ) → None ≡ (if t then Some n else None) → t ≡ false
no_number true n e = absurd cc
no_number false n e = refl

pub unnumbered : (s : LiveState) (digits : List ℕ) → has_digits MAX_DOC_DIGITS digits ≡ false → deleted_outcome s digits ≡ said change_text
unnumbered s digits form = rw form refl

pub removed_there : {T : Type 0} (r : Result T RemoveFault) (x : T) (has : Bool) → r ≡ Ok x → ((r ≡ Err removals.Absent) ↔ (has ≡ false)) → has ≡ true
removed_there r x true is absent = refl
removed_there r x false is absent = let wrong = sym is ∙ absent.1 refl in absurd cc

pub removed_absent : {T : Type 0} (r : Result T RemoveFault) (e : RemoveFault) (has : Bool) → r ≡ Err e → e ≡ removals.Absent → ((r ≡ Err removals.Absent) ↔ (has ≡ false)) → has ≡ false
removed_absent r e has is same absent = absent.0 (is ∙ ap (λ x. Err x) same)

-- ---- lines that add
pub no_bytes : (l : List ℕ) → true ≡ (length l == 0) → l ≡ []
no_bytes l h = nil_from_length l (grind (arith, nat_tests))

pub read_line_tells : (b : List ℕ) (s : LiveState) (line : List ℕ) (doc : Doc) (o : Outcome) (e : LiveState) → line ≢ [] → line_refusal (second_line line) ≡ None → doc ≡ document (second_line line)
    → Tells b s (by_refusals None (full_refusal (image_of b).weights (file_corpus b) s doc) doc) o e → Tells b s (added_outcome (image_of b).weights (file_corpus b) s line) o e
read_line_tells b s [] doc o e some read is h = absurd (some refl)
read_line_tells b s (x ∷ line) doc o e some read is h =
    let f = full_refusal (image_of b).weights (file_corpus b) s in
    subst (λ m. Tells b s m o e) (ap (λ d. by_refusals None (f d) d) is ∙ ap (λ r. by_refusals r (f (document (second_line (x ∷ line)))) (document (second_line (x ∷ line)))) (sym read)) h

pub refused_outcome : (b : List ℕ) (s : LiveState) (line : List ℕ) (r : CollectionRefusal) → line ≢ [] → line_refusal (second_line line) ≡ Some r → added_outcome (image_of b).weights (file_corpus b) s line ≡ said (document_text r)
refused_outcome b s [] r some is = absurd (some refl)
refused_outcome b s (x ∷ line) r some is =
    ap (λ q. by_refusals q (full_refusal (image_of b).weights (file_corpus b) s (document (second_line (x ∷ line)))) (document (second_line (x ∷ line)))) is

pub nothing_added : (b : List ℕ) (s : LiveState) (line : List ℕ) → line ≡ [] → added_outcome (image_of b).weights (file_corpus b) s line ≡ said change_text
nothing_added b s [] is = refl
nothing_added b s (x ∷ line) is = absurd cc
