-- Lines, one after another, and the first refusal among them.
use Rattle.std.proofs.Common.{◌≡◌, ℕ, ◌+◌, ◌<◌, ◌≤◌, Bool, true, false, nat_le, List, [], ◌∷◌, ◌++◌, length, map, take, drop, get_or, inl, inr, refl, sym, ap, subst, ◌∙◌, arith, eqb}
use Rattle.std.specs.List.{slice_split, position_or_len}
use Rattle.memchr.specs.Find.{IsFirstByte, is_byte}
use Rattle.std.specs.Prelude.{Option, Some, None, MatchOption}
use Rattle.std.specs.Str.Lines.{lines, lines_of_parts, strip_carriage_return}
use Rattle.std.proofs.lemmas.Bool.{false_from_ne_true, le-leb}
use Rattle.std.proofs.lemmas.Bool.Decides.{nat_tests}
use Rattle.std.proofs.lemmas.List.{map-append, take_all, drop_all}
use Rattle.std.proofs.lemmas.List.Elements.{All-from_get_or}
use Rattle.std.proofs.lemmas.List.Splits.{slice_split_first, slice_split_none, length-slice_split}
use Rattle.std.proofs.lemmas.List.Sums.{position_or_len_is}
use Rattle.cs_base.specs.declared.content.limits.TheConstants.{MAX_COLLECTION_BYTES}
use Rattle.cs_model.specs.Collection.{CollectionRefusal, doc_lines, docs_refusal, line_refusal, weights_lines, weights_refusal, without_mark}
use Rattle.cs_model.specs.Words.{is_filled}
use Rattle.cs_model.specs.First.{first_reason}
use Rattle.cs_docs.specs.declared.fault.DocFault.{DocFault}
use Rattle.cs_docs.specs.Lines.{Shows}
use Rattle.cs_docs.specs.FaultRefusals.{refusal_of, IsCauseOf, front_refusal, refusal_from}
use Rattle.cs_model.proofs.FirstLemmas.{first-append, first-append_some}
use Rattle.cs_docs.specs.LinesRead.{doc_lines_from, doc_lines_of, documents_from}

-- behind the first part there are further ones
more_parts : (x : List ℕ) (ps : List (List ℕ)) → 0 < length ps → lines_of_parts (x ∷ ps) ≡ strip_carriage_return x ∷ lines_of_parts ps
more_parts x [] h = absurd (omega arith)
more_parts x (p ∷ ps) h = refl

-- the first line ends at the first LF
pub line_at : (bs : List ℕ) (i : ℕ) → i < length bs → ((k : ℕ) → k < i → eqb (get_or bs k 0) 10 ≡ false) → eqb (get_or bs i 0) 10 ≡ true
    → lines bs ≡ strip_carriage_return (take i bs) ∷ lines (drop (i + 1) bs)
line_at bs i l before here =
    let at : position_or_len (λ b. eqb b 10) bs ≡ i = position_or_len_is (λ b. eqb b 10) bs i 0 (omega arith) before (λ _. here) in
    let first : slice_split (λ b. eqb b 10) bs ≡ take i bs ∷ slice_split (λ b. eqb b 10) (drop (i + 1) bs) =
    slice_split_first (λ b. eqb b 10) bs 0 (omega (arith, at)) ∙ ap (λ n. take n bs ∷ slice_split (λ b. eqb b 10) (drop (n + 1) bs)) at in
    ap lines_of_parts first
    ∙ more_parts (take i bs) (slice_split (λ b. eqb b 10) (drop (i + 1) bs)) (omega (arith, length-slice_split (λ b. eqb b 10) (drop (i + 1) bs)))

-- the first LF as `memchr` finds it
pub line_ends_at : (bs : List ℕ) (i : ℕ) → IsFirstByte (is_byte 10) bs (Some i) → lines bs ≡ strip_carriage_return (take i bs) ∷ lines (drop (i + 1) bs)
line_ends_at bs i h = line_at bs i h.0.high (λ k l. false_from_ne_true _ (h.0.before k (omega arith) l)) h.1

some_line : (bs : List ℕ) → 0 < length bs → lines_of_parts (bs ∷ []) ≡ bs ∷ []
some_line [] h = absurd (omega arith)
some_line (b ∷ bs) h = let some : eqb (length (b ∷ bs)) 0 ≡ false = grind (arith, nat_tests) in rw some refl

-- without LF the rest is the last line
pub last_line : (bs : List ℕ) → 0 < length bs → IsFirstByte (is_byte 10) bs None → lines bs ≡ bs ∷ []
last_line bs some h =
    ap lines_of_parts (slice_split_none (λ b. eqb b 10) bs (All-from_get_or (λ b. eqb b 10 ≡ false) bs 0 (λ k l. false_from_ne_true _ (h k (omega arith) l))))
    ∙ some_line bs some

-- the first line by its length and the place behind it
pub shown_line : (bs : List ℕ) (len next : ℕ) → 0 < length bs → Shows bs len next → lines bs ≡ take len bs ∷ lines (drop next bs)
shown_line bs len next some (inl h) =
    line_ends_at bs h.0 h.2 ∙ ap (λ l. l ∷ lines (drop (h.0 + 1) bs)) (sym h.3) ∙ ap (λ n. take len bs ∷ lines (drop n bs)) (sym h.1)
shown_line bs len next some (inr h) =
    last_line bs some h.0 ∙ ap (λ l. l ∷ []) (sym (take_all len bs (omega (arith, h.1)))) ∙ ap (λ l. take len bs ∷ lines l) (sym (drop_all next bs (omega (arith, h.2))))

-- ---- refusals

module _ (d n : ℕ) where
  doc_lines_at : (b : Bool) (l : List ℕ) (ls : List (List ℕ)) → is_filled l ≡ b → doc_lines_from d n (l ∷ ls) ≡ doc_lines_from d n (l ∷ []) ++ doc_lines_from (d + length (documents_from d n (l ∷ []))) (n + 1) ls
  doc_lines_at true l ls h =
      let one : d + 1 ≡ d + length (documents_from d n (l ∷ [])) = rw h refl in
      rw h refl
  doc_lines_at false l ls h = rw h (ap (λ m. doc_lines_from m (n + 1) ls) (omega arith))

  refusals_next : (l : List ℕ) (ls : List (List ℕ)) → refusal_from d n (l ∷ ls) ≡ first_reason (map line_refusal (doc_lines_from d n (l ∷ [])) ++ map line_refusal (doc_lines_from (d + length (documents_from d n (l ∷ []))) (n + 1) ls))
  refusals_next l ls = ap (λ ks. first_reason (map line_refusal ks)) (doc_lines_at (is_filled l) l ls refl) ∙ ap first_reason (map-append line_refusal (doc_lines_from d n (l ∷ [])) (doc_lines_from (d + length (documents_from d n (l ∷ []))) (n + 1) ls))

  refused_next : (l : List ℕ) (ls : List (List ℕ)) (r : CollectionRefusal) → refusal_from d n (l ∷ []) ≡ Some r → refusal_from d n (l ∷ ls) ≡ Some r
  refused_next l ls r h = refusals_next l ls ∙ first-append_some (map line_refusal (doc_lines_from d n (l ∷ []))) (map line_refusal (doc_lines_from (d + length (documents_from d n (l ∷ []))) (n + 1) ls)) r h

  cause_at : (o : Option CollectionRefusal) (l : List ℕ) (ls : List (List ℕ)) → MatchOption o (Unit {0}) (λ x. refusal_from d n (l ∷ []) ≡ Some x) → MatchOption o (Unit {0}) (λ x. refusal_from d n (l ∷ ls) ≡ Some x)
  cause_at None l ls h = tt
  cause_at (Some r) l ls h = refused_next l ls r h

  -- the cause of a line's fault is that of the lines from it on
  pub cause_next : (l : List ℕ) (ls : List (List ℕ)) (e : DocFault) → IsCauseOf (refusal_from d n (l ∷ [])) e → IsCauseOf (refusal_from d n (l ∷ ls)) e
  cause_next l ls e h = cause_at (refusal_of e) l ls h

-- ---- the weights line before the documents

-- reasons behind which there is none
pub first-append_none : {R : Type 0} (rs qs : List (Option R)) → first_reason qs ≡ None → first_reason (rs ++ qs) ≡ first_reason rs
first-append_none [] qs h = h
first-append_none (None ∷ rs) qs h = first-append_none rs qs h
first-append_none (Some r ∷ rs) qs h = refl

-- where none stands, none does behind
pub none_behind : {R : Type 0} (rs qs : List (Option R)) → first_reason (rs ++ qs) ≡ None → first_reason qs ≡ None
none_behind [] qs h = h
none_behind (None ∷ rs) qs h = none_behind rs qs h
none_behind (Some r ∷ rs) qs h = absurd (cc)

module _ (rs qs : List (Option CollectionRefusal)) where
  front_at : (o : Option CollectionRefusal) → MatchOption o (Unit {0}) (λ x. first_reason rs ≡ Some x) → MatchOption o (Unit {0}) (λ x. first_reason (rs ++ qs) ≡ Some x)
  front_at None h = tt
  front_at (Some r) h = first-append_some rs qs r h

  -- the cause of a fault in front is that of all
  pub front_cause : (e : DocFault) → IsCauseOf (first_reason rs) e → IsCauseOf (first_reason (rs ++ qs)) e
  front_cause e h = front_at (refusal_of e) h

  -- so is one behind where there is none in front
  pub behind_cause : (e : DocFault) → first_reason rs ≡ None → IsCauseOf (first_reason qs) e → IsCauseOf (first_reason (rs ++ qs)) e
  behind_cause e none h = subst (λ r. IsCauseOf r e) (sym (first-append rs qs none)) h

-- a collection that isn't too large is refused for its lines
pub small_refusal : (c : List ℕ) → length c ≤ MAX_COLLECTION_BYTES → docs_refusal c ≡ first_reason (map weights_refusal (weights_lines c) ++ map line_refusal (doc_lines c))
small_refusal c h = let small : nat_le (length c) MAX_COLLECTION_BYTES ≡ true = le-leb (length c) MAX_COLLECTION_BYTES h in rw small refl

-- a collection whose text, without the mark, has these lines behind its weights line
module _ (c text : List ℕ) (n : ℕ) (ls : List (List ℕ)) (small : length c ≤ MAX_COLLECTION_BYTES) (same : text ≡ without_mark c) where
  told : doc_lines_of (lines text) ≡ doc_lines_from 0 n ls → doc_lines c ≡ doc_lines_from 0 n ls
  told h = ap (λ t. doc_lines_of (lines t)) (sym same) ∙ h

  fine : front_refusal (lines text) ≡ None → first_reason (map weights_refusal (weights_lines c)) ≡ None
  fine h = ap (λ t. front_refusal (lines t)) (sym same) ∙ h

  pub accepted_by : front_refusal (lines text) ≡ None → doc_lines_of (lines text) ≡ doc_lines_from 0 n ls → refusal_from 0 n ls ≡ None → docs_refusal c ≡ None
  accepted_by front docs rest =
      small_refusal c small
      ∙ first-append (map weights_refusal (weights_lines c)) (map line_refusal (doc_lines c)) (fine front)
      ∙ ap (λ ks. first_reason (map line_refusal ks)) (told docs) ∙ rest

  pub cause_in_front : (e : DocFault) → IsCauseOf (front_refusal (lines text)) e → IsCauseOf (docs_refusal c) e
  cause_in_front e h =
      let here : IsCauseOf (first_reason (map weights_refusal (weights_lines c))) e = subst (λ t. IsCauseOf (front_refusal (lines t)) e) same h in
      subst (λ r. IsCauseOf r e) (sym (small_refusal c small)) (front_cause (map weights_refusal (weights_lines c)) (map line_refusal (doc_lines c)) e here)

  pub cause_behind : (e : DocFault) → front_refusal (lines text) ≡ None → doc_lines_of (lines text) ≡ doc_lines_from 0 n ls → IsCauseOf (refusal_from 0 n ls) e → IsCauseOf (docs_refusal c) e
  cause_behind e front docs h =
      let here : IsCauseOf (first_reason (map line_refusal (doc_lines c))) e = subst (λ ks. IsCauseOf (first_reason (map line_refusal ks)) e) (sym (told docs)) h in
      subst (λ r. IsCauseOf r e) (sym (small_refusal c small)) (behind_cause (map weights_refusal (weights_lines c)) (map line_refusal (doc_lines c)) e (fine front) here)
