-- A script that adds documents, deletes them and asks, answered line by line; and how it ended, as `live` says it.
--
--   live_start                       before the first line
--   live_goes_on, live_ends_here, live_ends_done     behind a line, at one at which it ends, and at the end of the file
--   live_ended                       how its script ended
use Rattle.std.proofs.Common.{◌≡◌, ℕ, suc, ◌≤◌, List, [], ◌∷◌, ◌++◌, length, inl, inr, refl, sym, ap, subst, arith}
use Rattle.std.specs.Prelude.{Option, Result, IfOk, IfErr}
use Rattle.std.proofs.lemmas.List.Elements.{All-nil, All-push}
use Rattle.cs_base.specs.outside.Causes.{Rose}
use Rattle.cs_model.specs.Corpus.{Corpus}
use Rattle.cs_model.specs.Outputs.{IsChangedText, failed_reads, readable_lines}
use Rattle.cs_base.specs.declared.content.scores.Weights.{Weights}
use Rattle.cs_model_index.specs.Sections.{file_corpus, image_of}
use Rattle.cs_model_live.proofs.CourseLemmas.{courses_go_on}
use Rattle.cs_model_live.specs.Courses.{Course}
use Rattle.cs_model_live.specs.LiveStates.{LiveState, before_changes}
use Rattle.cs_indexing.specs.CommandLine.{Ending, done, failed}
use Rattle.cs_indexing.specs.Met.{Wrote}
use Rattle.cs_indexing.specs.Views.{of_script, stop_ending}
use Rattle.cs_indexing.specs.declared.unread.ScriptStop.{ScriptStop}
use Rattle.cs_top.proofs.AnsweredLemmas.{HasAnswered, as_put, at_start, ends_at_line, ends_done, goes_behind, goes_past, lines_at, unread}
use Rattle.cs_top.proofs.ScriptLemmas.{index_ended}
use Rattle.cs_top.specs.Answering.{CameCounts, worst}
use Rattle.cs_top.specs.LiveRuns.{IsToldCourse, LiveScript}
use Rattle.cs_top.specs.LiveSteps.{IsLiveStep, IsToldCourseTo, LineText, LiveReaches}
use Rattle.cs_top.specs.ScriptEndings.{EndsAt, ScriptEndsBy, ShortTally, Tally, script_ending}
use Rattle.cs_top.specs.declared.lines.Place.{Place}
use Rattle.cs_top.specs.declared.script.WhatCame.{WhatCame}
use Rattle.cs_top.specs.declared.script.WhatCame.TheVariants.{Answered}

-- ---- courses
no_course : (b : List ℕ) → IsToldCourseTo b (before_changes (file_corpus b)) [] []
no_course b = record { course = refl; unchanged = All-nil (λ t. ¬ IsChangedText t) }

course_more : (b : List ℕ) (s e : LiveState) (ls ts : List (List ℕ)) (l t : List ℕ) → IsToldCourseTo b s ls ts → IsLiveStep b s l t e → IsToldCourseTo b e (ls ++ l ∷ []) (ts ++ t ∷ [])
course_more b s e ls ts l t h step = record {
  course = courses_go_on (image_of b).weights (file_corpus b) (before_changes (file_corpus b)) s e ls (l ∷ []) ts (t ∷ []) h.course (e, step.step, refl);
  unchanged = All-push (λ t. ¬ IsChangedText t) ts t h.unchanged step.unchanged;
}

told_course : (b : List ℕ) (e : LiveState) (ls ts : List (List ℕ)) → IsToldCourseTo b e ls ts → IsToldCourse b ls ts
told_course b e ls ts h = record { course = (e, h.course); unchanged = h.unchanged }

length_course : (w : Weights) (k : Corpus) (s e : LiveState) (ls ts : List (List ℕ)) → Course w k s ls ts e → length ts ≡ length ls
length_course w k s e [] [] c = refl
length_course w k s e [] (t ∷ ts) c = absurd c
length_course w k s e (l ∷ ls) [] c = absurd c
length_course w k s e (l ∷ ls) (t ∷ ts) c = ap suc (length_course w k c.0 e ls ts c.2)

-- ---- line by line
pub live_start : (b : List ℕ) (all left : List (ℕ × List ℕ)) (w : Option (List ℕ)) (n m : ℕ) → all ≡ left → m ≡ n → HasAnswered (IsToldCourseTo b (before_changes (file_corpus b))) all left w w Answered n m
live_start b all left w n m is same = at_start (IsToldCourseTo b (before_changes (file_corpus b))) all left w n m (no_course b) is same

-- a file failed before the first line
pub live_unread : (b : List ℕ) (all : List (ℕ × List ℕ)) (w : Option (List ℕ)) (first last before now : ℕ) → Rose before now
    → (ts : List (List ℕ)) × ScriptEndsBy (IsToldCourse b) failed all ts (record { old = w; new = w; before = first; now = last }) × ShortTally failed (record { old = w; new = w; before = first; now = last }) before now ts
live_unread b all w first last before now rose =
    unread (at_start (IsToldCourse b) all all w before before (told_course b (before_changes (file_corpus b)) [] [] (no_course b)) refl refl) first last w now refl rose

-- of no lines
pub counts_none : (n m : ℕ) → m ≡ n → CameCounts Answered n m
counts_none n m calm = record { later = omega (arith, calm); read = λ e. absurd (cc e); quiet = λ other. calm }

module _ (b : List ℕ) (s : LiveState) (x : List ℕ) (p : Place) {all : List (ℕ × List ℕ)} {old now : Option (List ℕ)} {came : WhatCame} {before count : ℕ} (h : HasAnswered (IsToldCourseTo b s) all (lines_at x p) old now came before count) where
  -- the script goes on behind the line, in the state that it leads to
  pub live_goes_on : (q : Place) (new : Option (List ℕ)) (met : WhatCame) (n : ℕ) (e : LiveState) → LiveReaches b s x p q now new met count n e
      → HasAnswered (IsToldCourseTo b e) all (lines_at x q) old new (worst came met) before n
  live_goes_on q new met n e (l, is, next, inl (none, same, plain, calm, stays)) =
      subst (λ m. HasAnswered (IsToldCourseTo b m) all (lines_at x q) old new (worst came met) before n) (sym stays) (goes_past x p h q l new met n is next none same plain calm)
  live_goes_on q new met n e (l, is, next, inr (some, read, (t, step, cost, g))) =
      goes_behind x p h (IsToldCourseTo b e) q l t new met n is next some read (course_more b s e h.done h.texts l t h.answered step) cost g

  abbrev told : HasAnswered (IsToldCourse b) all (lines_at x p) old now came before count
  told = as_put h (IsToldCourse b) (told_course b s h.done h.texts h.answered)

  push : (l t : List ℕ) → LineText b s l t → IsToldCourse b (h.done ++ l ∷ []) (h.texts ++ t ∷ [])
  push l t (e, step) = told_course b e (h.done ++ l ∷ []) (h.texts ++ t ∷ []) (course_more b s e h.done h.texts l t h.answered step)

  -- the script ends at the line
  pub live_ends_here : (first last : ℕ) (e : Ending) (new : Option (List ℕ)) (n : ℕ) → EndsAt (LineText b s) e x p (record { old = now; new = new; before = first; now = last }) count n
      → ((ts : List (List ℕ)) × ScriptEndsBy (IsToldCourse b) e all ts (record { old = old; new = new; before = first; now = last }) × ShortTally e (record { old = old; new = new; before = first; now = last }) before n ts)
  live_ends_here first last e new n st = ends_at_line x p told (LineText b s) push first last e new n st

  -- the file is at its end
  pub live_ends_done : (first last : ℕ) → length x ≤ p.at → (ts : List (List ℕ)) × ScriptEndsBy (IsToldCourse b) done all ts (record { old = old; new = now; before = first; now = last }) × Tally came before count ts
  live_ends_done first last far = ends_done x p told first last far

-- ---- of `live`
pub live_ended : (b : List ℕ) (ls : List (ℕ × List ℕ)) (before now : ℕ) (w : Wrote) (r : Result WhatCame ScriptStop)
    → IfOk r (λ came. (ts : List (List ℕ)) × ScriptEndsBy (IsToldCourse b) done ls ts w × Tally came before now ts)
    → IfErr r (λ s. (ts : List (List ℕ)) × ScriptEndsBy (IsToldCourse b) (stop_ending (of_script s)) ls ts w × ShortTally (stop_ending (of_script s)) w before now ts) → LiveScript b (script_ending r) ls before now w
live_ended b ls before now w =
    index_ended (IsToldCourse b) (λ ls ts. IsToldCourse b ls ts × (failed_reads ts ≡ 0)) (IsToldCourse b) ls before now w (λ e ts h. h) (λ ts h none. (h, none))
    (λ ts h. length_course (image_of b).weights (file_corpus b) (before_changes (file_corpus b)) h.course.0 (readable_lines ls) ts h.course.1)
