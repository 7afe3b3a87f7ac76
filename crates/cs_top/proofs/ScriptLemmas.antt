-- How a script ended, over other relations of a line and its text, and as `ask` and `replay` say it.
--
--   ends_by          what a relation says another one says too
--   made_only        over a file in memory a line has its text or that of want of memory, with or without excerpts
--   over_made, there_made, some_made, over_held     what is answered over: a file that was made, and one that is held
--   index_ended, replay_ended, index_caused     how a script over an index file ended, as `replay` says it, and why
use Rattle.std.proofs.Common.{◌≡◌, ℕ, ◌+◌, ◌≤◌, Bool, true, false, List, [], ◌∷◌, length, take, inl, inr, refl, sym, ap, ◌∙◌, subst, arith}
use Rattle.std.specs.Prelude.{Option, Some, None, is_some, if◌then◌else◌, Result, Ok, Err, IfOk, IfErr, OnOk}
use Rattle.std.specs.Str.{bytes_eq}
use Rattle.std.proofs.lemmas.List.{take_all}
use Rattle.std.proofs.lemmas.Slice.Eq.{bytes_eq-Decides}
use Rattle.cs_model.specs.Corpus.{Corpus}
use Rattle.cs_model.specs.Outputs.{MayPut, OneEach, IsAnswer, failed_reads, put_of, read_text, readable_lines}
use Rattle.cs_model.proofs.OutputLemmas.{length-one_each}
use Rattle.cs_base.specs.outside.Outside.{Held, file_bytes}
use Rattle.cs_base.proofs.GrewLemmas.{grew_begun}
use Rattle.cs_engine.specs.Keeping.{EngineView, AreGood}
use Rattle.cs_file.specs.Indexes.{IndexView, HasAllBlocks, StandsFor}
use Rattle.cs_model_index.specs.Sections.{file_corpus}
use Rattle.cs_indexing.specs.CommandLine.{Ending, done, usage, refused, damaged, absent, failed, no_memory, script_refused, changed, merge_refused}
use Rattle.cs_indexing.specs.Met.{Wrote, held_bytes}
use Rattle.cs_indexing.specs.Views.{fault_seen, of_script, stop_ending}
use Rattle.cs_indexing.specs.declared.unread.ScriptStop.{ScriptStop}
use Rattle.cs_indexing.specs.declared.unread.ScriptStop.TheVariants as scripts
use Rattle.cs_top.specs.Answering.{AnswersOver, CameCounts, FileView, IsReplayed, IsThere, MayAnswer, bytes_there}
use Rattle.cs_top.specs.HitForms.{AtHand, MayShow}
use Rattle.cs_top.specs.ScriptRuns.{IndexScript, ReplayCaused, ReplayScript}
use Rattle.cs_top.specs.ScriptEndings.{MayPutAll, ScriptCaused, ScriptEnds, ScriptEndsBy, ShortTally, Tally, script_ending}
use Rattle.cs_top.specs.declared.script.WhatCame.{WhatCame}
use Rattle.cs_top.specs.declared.script.WhatCame.TheVariants as came

each_by : (A B : MayPut) → ((l t : List ℕ) → A l t → B l t) → (ls ts : List (List ℕ)) → OneEach A ls ts → OneEach B ls ts
each_by A B f [] [] h = tt
each_by A B f [] (t ∷ ts) h = absurd h
each_by A B f (l ∷ ls) [] h = absurd h
each_by A B f (l ∷ ls) (t ∷ ts) h = (f l t h.0, each_by A B f ls ts h.1)

pub ends_by : (A B : MayPut) → ((l t : List ℕ) → A l t → B l t) → (e : Ending) (ls : List (ℕ × List ℕ)) (ts : List (List ℕ)) (w : Wrote) → ScriptEnds A e ls ts w → ScriptEnds B e ls ts w
ends_by A B f done ls ts w h = (h.0, (each_by A B f (readable_lines ls) ts h.1.0, h.1.1))
ends_by A B f (script_refused r) ls ts w h = (h.0, (each_by A B f (readable_lines ls) ts h.1.0, h.1.1))
ends_by A B f failed ls ts w h = ((each_by A B f (take (length ts) (readable_lines ls)) ts h.0.0, h.0.1), h.1)
ends_by A B f usage ls ts w h = absurd h
ends_by A B f (refused r) ls ts w h = absurd h
ends_by A B f (damaged rule at) ls ts w h = absurd h
ends_by A B f (absent name) ls ts w h = absurd h
ends_by A B f no_memory ls ts w h = absurd h
ends_by A B f changed ls ts w h = absurd h
ends_by A B f (merge_refused r) ls ts w h = absurd h

some_none : (o : Option (List ℕ)) → is_some o ≡ true → o ≡ None → ⊥
some_none None some none = absurd cc
some_none (Some b) some none = absurd cc

pub made_only : (docs : AtHand) (f : FileView) (k : Corpus) → is_some f.made ≡ true → (l t : List ℕ) → MayAnswer docs f k l t → MayShow docs k l t
made_only docs f k some l t (inl a) = a
made_only docs f k some l t (inr r) = absurd (some_none f.made some r.0)

replayed : (docs : AtHand) (f : FileView) (k : Corpus) → docs ≡ None → (l t : List ℕ) → MayAnswer docs f k l t → IsReplayed k l t
replayed docs f k titled l t may = plain (subst (λ (d : AtHand). MayAnswer d f k l t) titled may)
  where
    plain : MayAnswer None f k l t → IsReplayed k l t
    plain (inl a) = inl a
    plain (inr (made, accepted, is)) = inr (accepted, is)

-- ---- where no text says that a read failed
counted : (t : List ℕ) (ts : List (List ℕ)) (b : Bool) → bytes_eq t read_text ≡ b → failed_reads (t ∷ ts) ≡ (if b then 1 + failed_reads ts else failed_reads ts)
unfolding failed_reads
counted t ts true e = rw e (omega arith)
counted t ts false e = rw e refl

plain_by : (k : Corpus) (l t : List ℕ) (b : Bool) → bytes_eq t read_text ≡ b → b ≡ false → IsReplayed k l t → IsAnswer k l t
plain_by k l t b e never (inl a) = a
plain_by k l t b e never (inr r) = let yes : true ≡ false = sym ((bytes_eq-Decides t read_text).1 r.1) ∙ e ∙ never in absurd cc

one_plain : (k : Corpus) (l t : List ℕ) (ls ts : List (List ℕ)) (b : Bool) → bytes_eq t read_text ≡ b → failed_reads (t ∷ ts) ≡ 0 → IsReplayed k l t → (failed_reads ts ≡ 0 → OneEach (IsAnswer k) ls ts) → OneEach (IsAnswer k) (l ∷ ls) (t ∷ ts)
one_plain k l t ls ts true e none h rest = let many = counted t ts true e in absurd (omega (arith, many, none))
one_plain k l t ls ts false e none h rest = let same = counted t ts false e in (plain_by k l t false e refl h, rest (sym same ∙ none))

plain_each : (k : Corpus) (ls ts : List (List ℕ)) → failed_reads ts ≡ 0 → OneEach (IsReplayed k) ls ts → OneEach (IsAnswer k) ls ts
plain_each k [] [] none h = tt
plain_each k [] (t ∷ ts) none h = absurd h
plain_each k (l ∷ ls) [] none h = absurd h
plain_each k (l ∷ ls) (t ∷ ts) none h = one_plain k l t ls ts (bytes_eq t read_text) refl none h.0 (λ rest. plain_each k ls ts rest h.1)

-- ---- of scripts over an index file
-- What is put is said by Q, and so by R; where no text says that a read failed, A says it too.
module _ (Q A R : MayPutAll) (ls : List (ℕ × List ℕ)) (before now : ℕ) (w : Wrote) (by : (e : Ending) (ts : List (List ℕ)) → ScriptEndsBy Q e ls ts w → ScriptEndsBy R e ls ts w)
    (plain : (ts : List (List ℕ)) → R (readable_lines ls) ts → failed_reads ts ≡ 0 → A (readable_lines ls) ts) (even : (ts : List (List ℕ)) → R (readable_lines ls) ts → length ts ≡ length (readable_lines ls)) where
  pub index_ended : (r : Result WhatCame ScriptStop) → IfOk r (λ came. (ts : List (List ℕ)) × ScriptEndsBy Q done ls ts w × Tally came before now ts)
      → IfErr r (λ s. (ts : List (List ℕ)) × ScriptEndsBy Q (stop_ending (of_script s)) ls ts w × ShortTally (stop_ending (of_script s)) w before now ts) → IndexScript A R (script_ending r) ls before now w
  index_ended (Ok came.Answered) (ts, h, t) short = let put = by done ts h in (ts, (put.0, (plain ts put.1.0 (t.clean (λ e. cc e)), put.1.1)))
  index_ended (Ok came.Read) (ts, h, t) short =
      let put = by done ts h in
      let all : R (take (length ts) (readable_lines ls)) ts =
      subst (λ x. R x ts) (sym (take_all (length ts) (readable_lines ls) (let e = even ts put.1.0 in omega (arith, e)))) put.1.0 in
      (ts, ((all, grew_begun w.old (put_of ts) w.new put.1.1), λ low. put.1.1), t.rose, λ low few. put)
  index_ended (Ok came.Changed) (ts, h, t) short = absurd (t.unchanged refl)
  index_ended (Err (scripts.Unread x)) whole (ts, h, t) = (ts, by (script_refused (fault_seen x)) ts h, t.rose)
  index_ended (Err scripts.Failed) whole (ts, h, t) = (ts, by failed ts h, t.rose, λ low few. absurd (few (t.more refl low)))

pub replay_ended : (docs : AtHand) (f : FileView) (k : Corpus) (ls : List (ℕ × List ℕ)) (before now : ℕ) (w : Wrote) → docs ≡ None
    → (r : Result WhatCame ScriptStop) → IfOk r (λ came. (ts : List (List ℕ)) × ScriptEnds (MayAnswer docs f k) done ls ts w × Tally came before now ts)
    → IfErr r (λ s. (ts : List (List ℕ)) × ScriptEnds (MayAnswer docs f k) (stop_ending (of_script s)) ls ts w × ShortTally (stop_ending (of_script s)) w before now ts) → ReplayScript k (script_ending r) ls before now w
replay_ended docs f k ls before now w titled =
    index_ended (OneEach (MayAnswer docs f k)) (OneEach (IsAnswer k)) (OneEach (IsReplayed k)) ls before now w
    (λ e ts. ends_by (MayAnswer docs f k) (IsReplayed k) (replayed docs f k titled) e ls ts w) (λ ts h none. plain_each k (readable_lines ls) ts none h) (λ ts h. length-one_each (IsReplayed k) (readable_lines ls) ts h)

-- a result that is known is put into a whole run that begins before it
pub index_caused : (r : Result WhatCame ScriptStop) (made : Bool) (from before now first last : ℕ) → before ≡ from → IfOk r (λ came. CameCounts came before now) → OnOk r (last ≡ first)
    → IfErr r (λ s. ScriptCaused (stop_ending (of_script s)) made before now first last) → ReplayCaused (script_ending r) from now first last
index_caused (Ok came.Answered) made from before now first last calm c quiet short = (c.quiet (λ e. cc e) ∙ calm, quiet)
index_caused (Ok came.Read) made from before now first last calm c quiet short = subst (λ n. ReplayCaused failed n now first last) calm (inl (c.read refl), c.later, omega (arith, quiet))
index_caused (Ok came.Changed) made from before now first last calm c quiet short = (c.quiet (λ e. cc e) ∙ calm, quiet)
index_caused (Err (scripts.Unread x)) made from before now first last calm c quiet short = (subst (λ n. n ≤ now) calm short.0, short.2)
index_caused (Err scripts.Failed) made from before now first last calm c quiet short = subst (λ n. ReplayCaused failed n now first last) calm short

-- ---- what is answered over
module _ (e : EngineView) (f : FileView) (held : Option Held) where
  pub over_made : (b s : List ℕ) (k : Corpus) → f ≡ record { made = Some s; name = []; size = 0 } → s ≡ b → StandsFor b e.index → AreGood b e → k ≡ file_corpus b → AnswersOver e f held k
  over_made b s k is p st good q = (b, ap (λ x. bytes_there x held) is ∙ ap (λ x. Some x) p, st, good, q)

  pub over_held : (h : Held) (name : List ℕ) (size : ℕ) → f ≡ record { made = None; name = name; size = size } → held ≡ Some h → StandsFor (held_bytes h name) e.index → AreGood (held_bytes h name) e
      → AnswersOver e f held (file_corpus (held_bytes h name))
  over_held h name size q is st good = (held_bytes h name, ap (λ x. bytes_there x held) q ∙ ap (λ x. file_bytes x name) is, st, good, refl)

module _ (i : IndexView) (f : FileView) (held : Option Held) where
  pub there_made : (b s : List ℕ) → f ≡ record { made = Some s; name = []; size = 0 } → s ≡ b → HasAllBlocks (Some b) i → IsThere i f held
  there_made b s e p fits = record {
    sized = λ none. let wrong : Some s ≡ None = sym (ap (λ x. x.made) e) ∙ none in absurd cc;
    fits = subst (λ o. HasAllBlocks o i) (sym (ap (λ x. bytes_there x held) e ∙ ap (λ x. Some x) p)) fits;
  }

  pub some_made : (s : List ℕ) → f ≡ record { made = Some s; name = []; size = 0 } → is_some f.made ≡ true
  some_made s e = ap (λ x. is_some x.made) e

-- ---- what holds of a result that is known
pub ok_there : {T E : Type 0} (r : Result T E) (x y : T) (P : T → Type 0) → r ≡ Ok x → x ≡ y → IfOk r P → P y
ok_there r x y P e p h = subst P p (ok_at r x P e h)
  where
    ok_at : {T E : Type 0} (r : Result T E) (x : T) (P : T → Type 0) → r ≡ Ok x → IfOk r P → P x
    ok_at r x P e h = subst (λ z. IfOk z P) e h

pub err_there : {T E : Type 0} (r : Result T E) (x : E) (P : E → Type 0) → r ≡ Err x → IfErr r P → P x
err_there r x P e h = subst (λ z. IfErr z P) e h
