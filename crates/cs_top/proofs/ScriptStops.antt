-- What holds at each ending by which a run with a script may stop holds at the ending of its stop.
--
--   short_of, short_by                      a stop of a script
--   live_first, live_second, live_unopened      a `live` ends before its script, over files that tell
--   ask_absent, ask_refused, index_absent, index_damaged     so an `ask`, and a `replay` or a `live`, end before their script
--   index_ends                              so these end with their script
use Rattle.std.proofs.Common.{◌≡◌, ◌⊎◌, ℕ, List, inl, inr, sym, subst}
use Rattle.std.specs.Prelude.{Result, Ok, Err, IfOk, IfErr}
use Rattle.std.specs.FinMap as map
use Rattle.cs_base.specs.outside.Outside.{Held, IsHeld}
use Rattle.cs_model.specs.Outputs.{ScriptFault}
use Rattle.cs_indexing.specs.CommandLine.{Ending, failed, script_refused}
use Rattle.cs_indexing.specs.Met.{Wrote, held_bytes, AreHeld}
use Rattle.cs_indexing.specs.Views.{IsAbsence, IsDamage, IsMissing, IsOfIndex, IsOfSource, fault_seen, of_script, stop_ending}
use Rattle.cs_indexing.specs.declared.ending.RunStop.{RunStop}
use Rattle.cs_indexing.specs.declared.ending.RunStop.TheVariants as stops
use Rattle.cs_indexing.specs.declared.unread.ScriptStop.{ScriptStop}
use Rattle.cs_indexing.specs.declared.unread.ScriptStop.TheVariants as scripts
use Rattle.cs_indexing.specs.declared.words.Form.TheVariants as forms
use Rattle.cs_indexing.specs.declared.words.HitForm.{HitForm}
use Rattle.cs_indexing.proofs.StopLemmas.{absence_by, index_by, source_by}
use Rattle.cs_top.specs.LiveRuns.{LiveTold}
use Rattle.cs_top.specs.PutTexts.{EndsBy, EndsOf, IsOwnText, OwnText, PutsTextsOf}
use Rattle.cs_top.specs.ScriptRuns.{AskEnds, IndexEnds}
use Rattle.cs_top.specs.ScriptEndings.{script_ending}
use Rattle.cs_top.specs.declared.script.WhatCame.{WhatCame}
use Rattle.cs_top.specs.declared.script.WhatCame.TheVariants as came
use Rattle.cs_top.proofs.PutTextLemmas.{nothing_put, nothing_put_of, puts_some_of}

module _ (P : Ending → Type 0) where
  -- of a result that is a script's stop
  pub short_of : (own : OwnText) (w : Wrote) (r : Result WhatCame ScriptStop) (x : ScriptStop) (s : RunStop) → ((f : ScriptFault) → EndsOf own (script_refused f) w → P (script_refused f)) → (EndsOf own failed w → P failed)
      → r ≡ Err x → IfErr r (λ y. EndsOf own (stop_ending (of_script y)) w) → s ≡ of_script x → P (stop_ending s)
  short_of own w r x s line fault is ends from =
      subst (λ y. P (stop_ending y)) (sym from) (script_by x (subst (λ z. IfErr z (λ y. EndsOf own (stop_ending (of_script y)) w)) is ends))
    where
      script_by : (x : ScriptStop) → EndsOf own (stop_ending (of_script x)) w → P (stop_ending (of_script x))
      script_by (scripts.Unread f) e = line (fault_seen f) e
      script_by scripts.Failed e = fault e

  pub short_by : (form : HitForm) (w : Wrote) (r : Result WhatCame ScriptStop) (x : ScriptStop) (s : RunStop) → ((f : ScriptFault) → EndsBy form (script_refused f) w → P (script_refused f)) → (EndsBy form failed w → P failed)
      → r ≡ Err x → IfErr r (λ y. EndsBy form (stop_ending (of_script y)) w) → s ≡ of_script x → P (stop_ending s)
  short_by form = short_of (IsOwnText form)

-- ---- over any files, where nothing was put
module _ (a s : List ℕ) (w : Wrote) (x : RunStop) (same : w.new ≡ w.old) where
  pub ask_absent : (form : HitForm) (name : List ℕ) → IsAbsence x name → (name ≡ a) ⊎ (name ≡ s) → AskEnds form (stop_ending x) a s w
  ask_absent form name is one = absence_by (λ e. AskEnds form e a s w) x name is (one, same) (nothing_put form w same)

  pub ask_refused : (form : HitForm) → IsOfSource forms.Collection x → AskEnds form (stop_ending x) a s w
  ask_refused form is = source_by (λ e. AskEnds form e a s w) forms.Collection x is (λ r has. (has, same)) (nothing_put form w same) same

  pub index_absent : (own : OwnText) (name : List ℕ) → IsAbsence x name → (name ≡ a) ⊎ (name ≡ s) → IndexEnds own (stop_ending x) a s w
  index_absent own name is one = absence_by (λ e. IndexEnds own e a s w) x name is (one, same) (nothing_put_of own w same)

  pub index_damaged : (own : OwnText) → IsOfIndex x → IndexEnds own (stop_ending x) a s w
  index_damaged own is = index_by (λ e. IndexEnds own e a s w) x is (λ rule at. same) (nothing_put_of own w same) same

-- with its script
pub index_ends : (own : OwnText) (i s : List ℕ) (w : Wrote) (r : Result WhatCame ScriptStop) → IfOk r (λ came. PutsTextsOf own came w.old w.new)
    → IfErr r (λ x. EndsOf own (stop_ending (of_script x)) w) → IndexEnds own (script_ending r) i s w
index_ends own i s w (Ok came.Answered) put cut = put
index_ends own i s w (Ok came.Read) put cut = puts_some_of own came.Read w put
index_ends own i s w (Ok came.Changed) put cut = put
index_ends own i s w (Err (scripts.Unread f)) put cut = cut
index_ends own i s w (Err scripts.Failed) put cut = cut

-- ---- of `live`, over files that tell, where nothing was put
module _ (h : Held) (i s : List ℕ) (before now : ℕ) (w : Wrote) (same : w.new ≡ w.old) where
  pub live_first : (x : RunStop) → IsAbsence x i → IsMissing x (map.get h i) → LiveTold (stop_ending x) h i s before now w
  live_first (stops.Absent said) is missing = inl (inl (is, missing), same)
  live_first stops.Failed is missing = inl (tt, same)
  live_first stops.Usage is missing = absurd is
  live_first (stops.Collection f) is missing = absurd is
  live_first stops.Memory is missing = absurd is
  live_first (stops.Script f) is missing = absurd is
  live_first (stops.Damaged rule at) is missing = absurd is
  live_first stops.Changed is missing = absurd is
  live_first (stops.Merge f) is missing = absurd is

  pub live_second : (x : RunStop) → IsHeld (map.get h i) → IsAbsence x s → IsMissing x (map.get h s) → LiveTold (stop_ending x) h i s before now w
  live_second (stops.Absent said) first is missing = inl (inr (is, first, missing), same)
  live_second stops.Failed first is missing = inl (tt, same)
  live_second stops.Usage first is missing = absurd is
  live_second (stops.Collection f) first is missing = absurd is
  live_second stops.Memory first is missing = absurd is
  live_second (stops.Script f) first is missing = absurd is
  live_second (stops.Damaged rule at) first is missing = absurd is
  live_second stops.Changed first is missing = absurd is
  live_second (stops.Merge f) first is missing = absurd is

  pub live_unopened : (x : RunStop) → AreHeld h i s → IsOfIndex x → IsDamage (held_bytes h i) x → LiveTold (stop_ending x) h i s before now w
  live_unopened (stops.Damaged rule at) both is broken = inl ((both, broken), same)
  live_unopened stops.Failed both is broken = inl (tt, same)
  live_unopened stops.Memory both is broken = inl (both, same)
  live_unopened stops.Usage both is broken = absurd is
  live_unopened (stops.Absent said) both is broken = absurd is
  live_unopened (stops.Collection f) both is broken = absurd is
  live_unopened (stops.Script f) both is broken = absurd is
  live_unopened stops.Changed both is broken = absurd is
  live_unopened (stops.Merge f) both is broken = absurd is
