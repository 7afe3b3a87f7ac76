-- How far a script has been answered, over any relation of lines and texts.
use Rattle.std.proofs.Common.{◌≡◌, ◌≢◌, ℕ, suc, ◌+◌, ◌≤◌, true, List, [], ◌∷◌, ◌++◌, length, take, drop, cond, append_assoc, append-nil, inl, inr, refl, sym, ◌∙◌, ap, subst, arith}
use Rattle.std.specs.Prelude.{Option, Some, None, filter, map}
use Rattle.std.specs.List.{enumerate_from, prefix_len}
use Rattle.std.specs.Option.{is_none}
use Rattle.std.specs.Str.Lines.{lines}
use Rattle.std.proofs.Math.Seq.{take-append_seam}
use Rattle.std.proofs.lemmas.List.{drop_all, length-append}
use Rattle.cs_base.specs.outside.Causes.{Rose}
use Rattle.cs_base.specs.outside.Outside.{Grew, GrewByPrefix}
use Rattle.cs_base.proofs.GrewLemmas.{grew_none, grew_twice, grew_begun, grew_then_begun}
use Rattle.cs_model.specs.Words.{is_filled}
use Rattle.cs_model.specs.First.{first_reason}
use Rattle.cs_model.specs.Outputs.{ScriptFault, MayPut, OneEach, line_fault, first_fault, is_readable, readable_lines, put_of}
use Rattle.cs_model.proofs.OutputLemmas.{one_each-push, put_of-push}
use Rattle.cs_indexing.specs.CommandLine.{Ending, done, usage, refused, damaged, absent, failed, no_memory, script_refused, changed, merge_refused}
use Rattle.cs_indexing.specs.Met.{Wrote}
use Rattle.cs_top.specs.Answering.{Costs, worst}
use Rattle.cs_top.specs.ScriptEndings.{MayPutAll, ScriptEnds, ScriptEndsBy, ShortTally, Tally, StopsAt, Reaches, EndsAt}
use Rattle.cs_top.specs.declared.lines.Place.{Place}
use Rattle.cs_top.specs.declared.script.WhatCame.{WhatCame}
use Rattle.cs_top.specs.declared.script.WhatCame.TheVariants.{Answered}
use Rattle.cs_top.proofs.TallyLemmas.{tally_none, tally_same, tally_more, short_here, short_failed, short_put}

-- ---- the lines from a place on
abbrev kept : List (ℕ × List ℕ) → List (ℕ × List ℕ)
kept ls = filter (λ l. is_filled l.1) ls

-- those that have bytes, each with its number
abbrev pub lines_at : List ℕ → Place → List (ℕ × List ℕ)
lines_at s p = kept (enumerate_from (p.number + 1) (lines (drop p.at s)))

some_bytes : (l : List ℕ) → l ≢ [] → is_filled l ≡ true
some_bytes [] h = absurd (h refl)
some_bytes (b ∷ l) h = grind arith

kept_some : (n : ℕ) (l : List ℕ) (ls : List (List ℕ)) → l ≢ [] → kept (enumerate_from n (l ∷ ls)) ≡ (n, l) ∷ kept (enumerate_from (n + 1) ls)
kept_some n l ls some = ap (λ b. cond b ((n, l) ∷ kept (enumerate_from (n + 1) ls)) (kept (enumerate_from (n + 1) ls))) (some_bytes l some)

kept_none : (n : ℕ) (l : List ℕ) (ls : List (List ℕ)) → l ≡ [] → kept (enumerate_from n (l ∷ ls)) ≡ kept (enumerate_from (n + 1) ls)
kept_none n l ls none = ap (λ x. kept (enumerate_from n (x ∷ ls))) none

lines_at-end : (s : List ℕ) (p : Place) → length s ≤ p.at → lines_at s p ≡ []
lines_at-end s p h = ap (λ x. kept (enumerate_from (p.number + 1) (lines x))) (drop_all p.at s h)

-- ---- lines that are read, and the first that isn't
module _ (l : ℕ × List ℕ) (ls : List (ℕ × List ℕ)) where
  abbrev readable_by : Option ScriptFault → List (List ℕ)
  readable_by f = map (λ m. m.1) (take (cond (is_none f) (1 + prefix_len is_readable ls) 0) (l ∷ ls))

  readable-read : line_fault l ≡ None → readable_lines (l ∷ ls) ≡ l.1 ∷ readable_lines ls
  unfolding readable_lines
  readable-read h =
      let one : 1 + prefix_len is_readable ls ≡ suc (prefix_len is_readable ls) = omega arith in
      ap readable_by h ∙ ap (λ n. map (λ m. m.1) (take n (l ∷ ls))) one

  readable-fault : (f : ScriptFault) → line_fault l ≡ Some f → readable_lines (l ∷ ls) ≡ []
  unfolding readable_lines
  readable-fault f h = ap readable_by h

  fault-read : line_fault l ≡ None → first_fault (l ∷ ls) ≡ first_fault ls
  fault-read h = ap (λ x. first_reason (x ∷ map line_fault ls)) h

  fault-here : (f : ScriptFault) → line_fault l ≡ Some f → first_fault (l ∷ ls) ≡ Some f
  fault-here f h = ap (λ x. first_reason (x ∷ map line_fault ls)) h

readable-nil : readable_lines [] ≡ []
unfolding readable_lines
readable-nil = refl

fault-nil : first_fault [] ≡ None
fault-nil = refl

-- ---- what is put so far
-- some lines were answered, and this came of them; what is left decides the rest
pub record HasAnswered (R : MayPutAll) (all left : List (ℕ × List ℕ)) (old now : Option (List ℕ)) (came : WhatCame) (before count : ℕ) : Type 0 where
  pub done : List (List ℕ)
  pub texts : List (List ℕ)
  pub even : length texts ≡ length done
  pub so_far : readable_lines all ≡ done ++ readable_lines left
  pub fault : first_fault all ≡ first_fault left
  pub answered : R done texts
  pub grew : Grew old (put_of texts) now
  pub tally : Tally came before count texts

pub at_start : (R : MayPutAll) (all left : List (ℕ × List ℕ)) (w : Option (List ℕ)) (n m : ℕ) → R [] [] → all ≡ left → m ≡ n → HasAnswered R all left w w Answered n m
at_start R all left w n m none e same = record { done = []; texts = []; even = refl; so_far = ap readable_lines e; fault = ap first_fault e; answered = none; grew = grew_none w; tally = tally_none n m same }

-- those that have texts are the first ones
first_ones : (ls ts all rest : List (List ℕ)) → length ts ≡ length ls → all ≡ ls ++ rest → take (length ts) all ≡ ls
first_ones ls ts all rest even is = ap (take (length ts)) is ∙ ap (λ n. take n (ls ++ rest)) even ∙ take-append_seam ls rest

module _ {R : MayPutAll} {all left : List (ℕ × List ℕ)} {old now : Option (List ℕ)} {came : WhatCame} {before count : ℕ} (h : HasAnswered R all left old now came before count) where
  so_far-read : (l : ℕ × List ℕ) (ls : List (ℕ × List ℕ)) → left ≡ l ∷ ls → line_fault l ≡ None → readable_lines all ≡ h.done ++ l.1 ∷ readable_lines ls
  so_far-read l ls is read = h.so_far ∙ ap (λ x. h.done ++ readable_lines x) is ∙ ap (λ x. h.done ++ x) (readable-read l ls read)

  one_more : (l : ℕ × List ℕ) (ls : List (ℕ × List ℕ)) → left ≡ l ∷ ls → line_fault l ≡ None → readable_lines all ≡ (h.done ++ l.1 ∷ []) ++ readable_lines ls
  one_more l ls is read = so_far-read l ls is read ∙ sym (append_assoc h.done (l.1 ∷ []) (readable_lines ls))

  even-more : (l t : List ℕ) → length (h.texts ++ t ∷ []) ≡ length (h.done ++ l ∷ [])
  even-more l t = let e = h.even in omega (arith, length-append h.texts (t ∷ []), length-append h.done (l ∷ []), e)

  -- a line was answered, and what may be put is Q then
  pub answers : (Q : MayPutAll) (l : ℕ × List ℕ) (ls : List (ℕ × List ℕ)) (t : List ℕ) (new : Option (List ℕ)) (met : WhatCame) (n : ℕ) → left ≡ l ∷ ls → line_fault l ≡ None → Q (h.done ++ l.1 ∷ []) (h.texts ++ t ∷ []) → Costs met count n t
      → Grew now (t ++ 10 ∷ []) new → HasAnswered Q all ls old new (worst came met) before n
  answers Q l ls t new met n is read a cost g = record {
    done = h.done ++ l.1 ∷ [];
    texts = h.texts ++ t ∷ [];
    even = even-more l.1 t;
    so_far = one_more l ls is read;
    fault = h.fault ∙ ap first_fault is ∙ fault-read l ls read;
    answered = a;
    grew = subst (λ b. Grew old b new) (sym (put_of-push h.texts t)) (grew_twice old (put_of h.texts) (t ++ 10 ∷ []) now new h.grew g);
    tally = tally_more came met before count n h.texts t h.tally cost;
  }

  -- what may be put may be said in other words
  abbrev pub as_put : (Q : MayPutAll) → Q h.done h.texts → HasAnswered Q all left old now came before count
  as_put Q a = record { done = h.done; texts = h.texts; even = h.even; so_far = h.so_far; fault = h.fault; answered = a; grew = h.grew; tally = h.tally }

  all_put : readable_lines left ≡ [] → R (readable_lines all) h.texts × Grew old (put_of h.texts) now
  all_put none =
      let same : readable_lines all ≡ h.done = h.so_far ∙ ap (λ x. h.done ++ x) none ∙ append-nil h.done in
      (subst (λ ls. R ls h.texts) (sym same) h.answered, h.grew)

  module _ (first last : ℕ) where
    abbrev whole : Option (List ℕ) → Wrote
    whole new = record { old = old; new = new; before = first; now = last }

    abbrev Ended : Ending → Option (List ℕ) → ℕ → Type 0
    Ended e new n = (ts : List (List ℕ)) × ScriptEndsBy R e all ts (whole new) × ShortTally e (whole new) before n ts

    -- the script ended at a line, for which a text by A might be put
    pub stops : (A : MayPut) → ((l t : List ℕ) → A l t → R (h.done ++ l ∷ []) (h.texts ++ t ∷ [])) → (e : Ending) (l : ℕ × List ℕ) (ls : List (ℕ × List ℕ)) (new : Option (List ℕ)) (n : ℕ) → left ≡ l ∷ ls
        → StopsAt A e l (record { old = now; new = new; before = first; now = last }) count n → Ended e new n
    stops A push (script_refused f) l ls new n is st =
        let put : R (readable_lines all) h.texts × Grew old (put_of h.texts) new =
        subst (λ w. R (readable_lines all) h.texts × Grew old (put_of h.texts) w) (sym st.2) (all_put (ap readable_lines is ∙ readable-fault l ls f st.1)) in
        (h.texts, (h.fault ∙ ap first_fault is ∙ fault-here l ls f st.1, put), short_here came f (whole new) before count n h.texts st.3 h.tally)
    stops A push failed l ls new n is (some, read, rose, (met, t, a, cost, begun)) =
        let one : R (h.done ++ l.1 ∷ []) (h.texts ++ t ∷ []) = push l.1 t a in
        let first : R (take (length (h.texts ++ t ∷ [])) (readable_lines all)) (h.texts ++ t ∷ []) =
        subst (λ x. R x (h.texts ++ t ∷ [])) (sym (first_ones (h.done ++ l.1 ∷ []) (h.texts ++ t ∷ []) (readable_lines all) (readable_lines ls) (even-more l.1 t) (one_more l ls is read))) one in
        let some : GrewByPrefix old (put_of (h.texts ++ t ∷ [])) new =
        subst (λ b. GrewByPrefix old b new) (sym (put_of-push h.texts t)) (grew_then_begun old (put_of h.texts) (t ++ 10 ∷ []) now new h.grew begun) in
        (h.texts ++ t ∷ [], ((first, some), λ low. absurd (low rose)), short_put came met (whole new) before count n h.texts t rose h.tally cost)
    stops A push done l ls new n is st = absurd st
    stops A push usage l ls new n is st = absurd st
    stops A push (refused r) l ls new n is st = absurd st
    stops A push (damaged rule at) l ls new n is st = absurd st
    stops A push (absent name) l ls new n is st = absurd st
    stops A push no_memory l ls new n is st = absurd st
    stops A push changed l ls new n is st = absurd st
    stops A push (merge_refused r) l ls new n is st = absurd st

    -- a file failed
    pub unread : (new : Option (List ℕ)) (n : ℕ) → new ≡ now → Rose count n → Ended failed new n
    unread new n same rose =
        let first : R (take (length h.texts) (readable_lines all)) h.texts = subst (λ x. R x h.texts) (sym (first_ones h.done h.texts (readable_lines all) (readable_lines left) h.even h.so_far)) h.answered in
        subst (λ w. Ended failed w n) (sym same) (h.texts, ((first, grew_begun old (put_of h.texts) now h.grew), λ low. h.grew), short_failed came (whole now) before count n h.texts h.tally rose)

  -- nothing is left
  pub at_end : (first last : ℕ) → left ≡ [] → (ts : List (List ℕ)) × ScriptEndsBy R done all ts (record { old = old; new = now; before = first; now = last }) × Tally came before count ts
  at_end first last none = (h.texts, (h.fault ∙ ap first_fault none ∙ fault-nil, all_put (ap readable_lines none ∙ readable-nil)), h.tally)

-- ---- one line of a script
some_of : (A : MayPut) (e : Ending) (l : ℕ × List ℕ) (w : Wrote) (n m : ℕ) → StopsAt A e l w n m → l.1 ≢ []
some_of A (script_refused f) l w n m st = st.0
some_of A failed l w n m st = st.0
some_of A done l w n m st = absurd st
some_of A usage l w n m st = absurd st
some_of A (refused r) l w n m st = absurd st
some_of A (damaged rule at) l w n m st = absurd st
some_of A (absent name) l w n m st = absurd st
some_of A no_memory l w n m st = absurd st
some_of A changed l w n m st = absurd st
some_of A (merge_refused r) l w n m st = absurd st

module _ (s : List ℕ) (p : Place) {R : MayPutAll} {all : List (ℕ × List ℕ)} {old now : Option (List ℕ)} {came : WhatCame} {before count : ℕ} (h : HasAnswered R all (lines_at s p) old now came before count) where
  pub left_at : (q : Place) (l : List ℕ) → lines (drop p.at s) ≡ l ∷ lines (drop q.at s) → q.number ≡ p.number + 1 → lines_at s p ≡ kept (enumerate_from q.number (l ∷ lines (drop q.at s)))
  left_at q l is n = ap (λ ls. kept (enumerate_from (p.number + 1) ls)) is ∙ ap (λ m. kept (enumerate_from m (l ∷ lines (drop q.at s)))) (sym n)

  -- behind a line without bytes
  pub goes_past : (q : Place) (l : List ℕ) (new : Option (List ℕ)) (met : WhatCame) (n : ℕ) → lines (drop p.at s) ≡ l ∷ lines (drop q.at s) → q.number ≡ p.number + 1 → l ≡ [] → new ≡ now → met ≡ Answered → n ≡ count
      → HasAnswered R all (lines_at s q) old new (worst came met) before n
  goes_past q l new met n is next none same plain calm =
      let rest : HasAnswered R all (lines_at s q) old now came before count = subst (λ ls. HasAnswered R all ls old now came before count) (left_at q l is next ∙ kept_none q.number l (lines (drop q.at s)) none) h in
      record {
        done = rest.done;
        texts = rest.texts;
        even = rest.even;
        so_far = rest.so_far;
        fault = rest.fault;
        answered = rest.answered;
        grew = subst (λ w. Grew old (put_of rest.texts) w) (sym same) rest.grew;
        tally = tally_same came met before count n rest.texts plain calm rest.tally;
      }

  -- behind a line that is read, where what may be put is Q then
  pub goes_behind : (Q : MayPutAll) (q : Place) (l t : List ℕ) (new : Option (List ℕ)) (met : WhatCame) (n : ℕ) → lines (drop p.at s) ≡ l ∷ lines (drop q.at s) → q.number ≡ p.number + 1 → l ≢ [] → line_fault (q.number, l) ≡ None
      → Q (h.done ++ l ∷ []) (h.texts ++ t ∷ []) → Costs met count n t → Grew now (t ++ 10 ∷ []) new → HasAnswered Q all (lines_at s q) old new (worst came met) before n
  goes_behind Q q l t new met n is next some read a cost g =
      answers h Q (q.number, l) (lines_at s q) t new met n (left_at q l is next ∙ kept_some q.number l (lines (drop q.at s)) some) read a cost g

  -- the script ends at the line
  pub ends_at_line : (A : MayPut) → ((l t : List ℕ) → A l t → R (h.done ++ l ∷ []) (h.texts ++ t ∷ [])) → (first last : ℕ) (e : Ending) (new : Option (List ℕ)) (n : ℕ) → EndsAt A e s p (record { old = now; new = new; before = first; now = last }) count n
      → ((ts : List (List ℕ)) × ScriptEndsBy R e all ts (record { old = old; new = new; before = first; now = last }) × ShortTally e (record { old = old; new = new; before = first; now = last }) before n ts)
  ends_at_line A push first last e new n (inl (is, same, rose, later)) =
      subst (λ x. (ts : List (List ℕ)) × ScriptEndsBy R x all ts (record { old = old; new = new; before = first; now = last }) × ShortTally x (record { old = old; new = new; before = first; now = last }) before n ts) (sym is)
      (unread h first last new n same rose)
  ends_at_line A push first last e new n (inr (l, ls, is, st)) =
      stops h first last A push e (p.number + 1, l) (kept (enumerate_from (p.number + 1 + 1) ls)) new n
      (ap (λ x. kept (enumerate_from (p.number + 1) x)) is ∙ kept_some (p.number + 1) l ls (some_of A e (p.number + 1, l) _ _ _ st)) st

  -- the file is at its end
  pub ends_done : (first last : ℕ) → length s ≤ p.at → (ts : List (List ℕ)) × ScriptEndsBy R done all ts (record { old = old; new = now; before = first; now = last }) × Tally came before count ts
  ends_done first last far = at_end h first last (lines_at-end s p far)

-- ---- where each text is put for its own line
module _ (s : List ℕ) (p : Place) {A : MayPut} {all : List (ℕ × List ℕ)} {old now : Option (List ℕ)} {came : WhatCame} {before count : ℕ} (h : HasAnswered (OneEach A) all (lines_at s p) old now came before count) where
  push : (l t : List ℕ) → A l t → OneEach A (h.done ++ l ∷ []) (h.texts ++ t ∷ [])
  push l t a = one_each-push A h.done h.texts l t h.answered a

  -- the script goes on behind the line
  pub goes_on : (q : Place) (new : Option (List ℕ)) (met : WhatCame) (n : ℕ) → Reaches A s p q now new met count n → HasAnswered (OneEach A) all (lines_at s q) old new (worst came met) before n
  goes_on q new met n (l, is, next, inl (none, same, plain, calm)) = goes_past s p h q l new met n is next none same plain calm
  goes_on q new met n (l, is, next, inr (some, read, (t, a, cost, g))) = goes_behind s p h (OneEach A) q l t new met n is next some read (push l t a) cost g

  -- the script ends at the line
  pub ends_here : (first last : ℕ) (e : Ending) (new : Option (List ℕ)) (n : ℕ) → EndsAt A e s p (record { old = now; new = new; before = first; now = last }) count n
      → ((ts : List (List ℕ)) × ScriptEnds A e all ts (record { old = old; new = new; before = first; now = last }) × ShortTally e (record { old = old; new = new; before = first; now = last }) before n ts)
  ends_here first last e new n st = ends_at_line s p h A push first last e new n st
