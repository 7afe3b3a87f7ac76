-- What holds of courses.
--
--   StandsFor s c       a state of a live corpus is a corpus under changes
--   courses_change      a course makes its changes of what it stands for
--   courses_are_changes, courses_go_on     the laws
use Rattle.std.proofs.Common.{◌≡◌, ℕ, suc, ◌+◌, max, List, [], ◌∷◌, ◌++◌, map, length, length-append, append_assoc, refl, sym, ◌∙◌, ap, subst, arith}
use Rattle.std.specs.Prelude.{fold}
use Rattle.std.specs.List.{enumerate_from}
use Rattle.std.specs.FinMap as finmap
use Rattle.std.proofs.lemmas.List.{append-nil}
use Rattle.cs_base.specs.content.Members.{members_in}
use Rattle.cs_base.specs.content.Orders.{by_row}
use Rattle.cs_base.specs.declared.content.scores.Weights.{Weights}
use Rattle.cs_model.specs.Corpus.{Corpus, by_number, doc_rows}
use Rattle.cs_model_changes.specs.Changes.{Change, Changing, added, applied, deleted, first_behind, started}
use Rattle.cs_model_index.proofs.ImageLemmas.{titles_listed}
use Rattle.cs_model_live.specs.Courses.{Course, IsChanged, IsLineStep, own, failed, additions_in, made, step_changes}
use Rattle.cs_model_live.specs.LiveLines.{Outcome, changes_of, done, outcome, outcome_state, said}
use Rattle.cs_model_live.specs.LiveStates.{LiveState, before_changes, changed, next_doc}

-- ---- courses go on
pub courses_go_on : (w : Weights) (k : Corpus) (s m e : LiveState) (ls ks ts us : List (List ℕ)) → Course w k s ls ts m → Course w k m ks us e → Course w k s (ls ++ ks) (ts ++ us) e
courses_go_on w k s m e [] ks [] us c d = subst (λ x. Course w k x ks us e) c d
courses_go_on w k s m e [] ks (t ∷ ts) us c d = absurd c
courses_go_on w k s m e (l ∷ ls) ks [] us c d = absurd c
courses_go_on w k s m e (l ∷ ls) ks (t ∷ ts) us c d = (c.0, c.1, courses_go_on w k c.0 m e ls ks ts us c.2 d)

-- ---- a state is a corpus under changes
record StandsFor (k : Corpus) (s : LiveState) (c : Changing) : Type 0 where
  corpus : s.corpus ≡ c.corpus
  next : next_doc k s ≡ c.next

behind_from : (a : ℕ) (ts : List (List ℕ)) → max a (first_behind (map (λ e. e.0) (enumerate_from a ts))) ≡ a + length ts
behind_from a [] = omega arith
behind_from a (t ∷ ts) = omega (arith, behind_from (a + 1) ts)

numbered-length : {X : Type 0} (a : ℕ) (xs : List X) → length (enumerate_from a xs) ≡ length xs
numbered-length a [] = refl
numbered-length a (x ∷ xs) = ap suc (numbered-length (a + 1) xs)

first_next : (k : Corpus) (titles : List (List ℕ)) → by_number titles ≡ k.titles → next_doc k (before_changes k) ≡ (started k).next
first_next k titles h =
    let behind : first_behind (finmap.keys (by_number titles)) ≡ length titles = ap (λ es. first_behind (map (λ e. e.0) es)) (titles_listed titles) ∙ omega (arith, behind_from 0 titles) in
    let many : finmap.len (by_number titles) ≡ length titles = finmap.len-entries (by_number titles) ∙ ap length (titles_listed titles) ∙ numbered-length 0 titles in
    let len : finmap.len k.titles ≡ length titles = ap finmap.len (sym h) ∙ many in
    let next : first_behind (finmap.keys k.titles) ≡ length titles = ap (λ m. first_behind (finmap.keys m)) (sym h) ∙ behind in
    omega (arith, len, next)

change_stands : (w : Weights) (k : Corpus) (s : LiveState) (c : Changing) (x : Change) → StandsFor k s c → StandsFor k (changed w k s x) (applied w c x)
change_stands w k s c (added doc) h =
    let count = length-append s.additions (doc ∷ []) in
    record {
      corpus = λ i. record { titles = finmap.insert (h.corpus i).titles (h.next i) doc.title; rows = members_in by_row ((h.corpus i).rows ++ doc_rows w (h.next i, doc)) };
      next = let n = h.next in omega (arith, count, n);
    }
change_stands w k s c (deleted d) h = record {
  corpus = ap (λ y. (applied w (record { corpus = y; next = c.next }) (deleted d)).corpus) h.corpus;
  next = h.next;
}

-- ---- courses make changes
fold_one : (w : Weights) (k : Corpus) (s : LiveState) (c : Changing) (o : Outcome) → StandsFor k s c → StandsFor k (outcome_state w k s o) (fold (applied w) c (changes_of o))
fold_one w k s c (said t) h = h
fold_one w k s c (done x) h = change_stands w k s c x h

step_stands : (w : Weights) (k : Corpus) (s : LiveState) (l t : List ℕ) (e : LiveState) (c : Changing) (h : IsLineStep w k s l t e) → StandsFor k s c → StandsFor k e (fold (applied w) c (step_changes w k s l t e h))
step_stands w k s l t e c (own a b) h = subst (λ x. StandsFor k x (fold (applied w) c (changes_of (outcome w k s l)))) (sym b) (fold_one w k s c (outcome w k s l) h)
step_stands w k s l t e c (failed a b) h = subst (λ x. StandsFor k x c) (sym b) h

in_turn : (w : Weights) (s : Changing) (before after : List Change) → fold (applied w) s (before ++ after) ≡ fold (applied w) (fold (applied w) s before) after
in_turn w s [] after = refl
in_turn w s (c ∷ before) after = in_turn w (applied w s c) before after

course_stands : (w : Weights) (k : Corpus) (s : LiveState) (ls ts : List (List ℕ)) (e : LiveState) (c : Changing) (h : Course w k s ls ts e) → StandsFor k s c → StandsFor k e (fold (applied w) c (made w k s ls ts e h))
course_stands w k s [] [] e c h st = subst (λ x. StandsFor k x c) (sym h) st
course_stands w k s [] (t ∷ ts) e c h st = absurd h
course_stands w k s (l ∷ ls) [] e c h st = absurd h
course_stands w k s (l ∷ ls) (t ∷ ts) e c h st =
    let step = step_changes w k s l t h.0 h.1 in
    let more = made w k h.0 ls ts e h.2 in
    subst (StandsFor k e) (sym (in_turn w c step more)) (course_stands w k h.0 ls ts e (fold (applied w) c step) h.2 (step_stands w k s l t h.0 c h.1 st))

-- how many changes, and which additions
record Counts (s : LiveState) (cs : List Change) (e : LiveState) : Type 0 where
  changes : e.changes ≡ s.changes + length cs
  additions : e.additions ≡ s.additions ++ additions_in cs

no_counts : (s : LiveState) → Counts s [] s
no_counts s = record { changes = omega arith; additions = sym (append-nil s.additions) }

one_counts : (w : Weights) (k : Corpus) (s : LiveState) (o : Outcome) → Counts s (changes_of o) (outcome_state w k s o)
one_counts w k s (said t) = no_counts s
one_counts w k s (done (added doc)) = record { changes = refl; additions = refl }
one_counts w k s (done (deleted d)) = record { changes = refl; additions = sym (append-nil s.additions) }

additions_behind : (a b : List Change) → additions_in (a ++ b) ≡ additions_in a ++ additions_in b
additions_behind [] b = refl
additions_behind (added doc ∷ a) b = ap (λ l. doc ∷ l) (additions_behind a b)
additions_behind (deleted d ∷ a) b = additions_behind a b

both_count : (s m e : LiveState) (a b : List Change) → Counts s a m → Counts m b e → Counts s (a ++ b) e
both_count s m e a b h i = record {
  changes = let x = h.changes in let y = i.changes in omega (arith, x, y, length-append a b);
  additions = i.additions ∙ ap (λ l. l ++ additions_in b) h.additions ∙ append_assoc s.additions (additions_in a) (additions_in b) ∙ ap (λ l. s.additions ++ l) (sym (additions_behind a b));
}

step_counts : (w : Weights) (k : Corpus) (s : LiveState) (l t : List ℕ) (e : LiveState) (h : IsLineStep w k s l t e) → Counts s (step_changes w k s l t e h) e
step_counts w k s l t e (own a b) = subst (Counts s (changes_of (outcome w k s l))) (sym b) (one_counts w k s (outcome w k s l))
step_counts w k s l t e (failed a b) = subst (Counts s []) (sym b) (no_counts s)

course_counts : (w : Weights) (k : Corpus) (s : LiveState) (ls ts : List (List ℕ)) (e : LiveState) (h : Course w k s ls ts e) → Counts s (made w k s ls ts e h) e
course_counts w k s [] [] e h = subst (Counts s []) (sym h) (no_counts s)
course_counts w k s [] (t ∷ ts) e h = absurd h
course_counts w k s (l ∷ ls) [] e h = absurd h
course_counts w k s (l ∷ ls) (t ∷ ts) e h = both_count s h.0 e (step_changes w k s l t h.0 h.1) (made w k h.0 ls ts e h.2) (step_counts w k s l t h.0 h.1) (course_counts w k h.0 ls ts e h.2)

pub courses_are_changes : (w : Weights) (k : Corpus) (titles : List (List ℕ)) (ls ts : List (List ℕ)) (e : LiveState) → by_number titles ≡ k.titles → (c : Course w k (before_changes k) ls ts e) → IsChanged w k (made w k (before_changes k) ls ts e c) e
courses_are_changes w k titles ls ts e h c =
    let counts = course_counts w k (before_changes k) ls ts e c in
    record {
      corpus = (course_stands w k (before_changes k) ls ts e (started k) c (record { corpus = refl; next = first_next k titles h })).corpus;
      changes = let n = counts.changes in omega (arith, n);
      additions = counts.additions;
    }
