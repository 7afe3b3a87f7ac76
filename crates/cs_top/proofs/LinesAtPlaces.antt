-- What a line that was read says of the line at its place in the script.
use Rattle.std.proofs.Common.{◌≡◌, ◌≢◌, ℕ, ◌+◌, ◌<◌, List, [], ◌∷◌, length, drop, inl, inr, sym, ◌∙◌, arith}
use Rattle.std.specs.Prelude.{Option, Some, None}
use Rattle.std.specs.Str.Lines.{lines}
use Rattle.cs_base.specs.declared.content.limits.TheConstants.{MAX_SCRIPT_LINE_BYTES}
use Rattle.cs_model.specs.Outputs.{MayPut, line_fault, script_line_too_long}
use Rattle.cs_model_live.specs.LiveStates.{LiveState}
use Rattle.cs_indexing.specs.CommandLine.{Ending, done, usage, refused, damaged, absent, failed, no_memory, script_refused, changed, merge_refused}
use Rattle.cs_indexing.specs.Met.{Wrote}
use Rattle.cs_top.specs.LiveSteps.{LivePasses, LiveReaches}
use Rattle.cs_top.specs.ScriptEndings.{StopsAt, IsFirstLine, EndsAt, Passes, Reaches}
use Rattle.cs_top.specs.declared.lines.Place.{Place}
use Rattle.cs_top.specs.declared.script.WhatCame.{WhatCame}
use Rattle.cs_top.proofs.LineTexts.{fault-too_long}

long_some : (l : List ℕ) → MAX_SCRIPT_LINE_BYTES < length l → l ≢ []
long_some [] h e = omega arith
long_some (b ∷ l) h e = absurd cc

unread : (n : ℕ) (l : List ℕ) → MAX_SCRIPT_LINE_BYTES < length l → line_fault (n, l) ≡ None → ⊥
unread n l long none = let some : Some (script_line_too_long n) ≡ None = sym (fault-too_long n l long) ∙ none in absurd cc

module _ (A : MayPut) (s l : List ℕ) (p : Place) (at : ℕ) (w : Wrote) (before now : ℕ) where
  pub ends_at : (e : Ending) → IsFirstLine (drop p.at s) l (drop at s) → StopsAt A e (p.number + 1, l) w before now → EndsAt A e s p w before now
  ends_at e (inl is) h = inr (l, lines (drop at s), is, h)
  ends_at failed (inr (long, more)) h = absurd (unread (p.number + 1) l long h.1)
  ends_at (script_refused f) (inr (long, more)) h =
      inr (more.0, more.1, more.2, (long_some more.0 more.3, fault-too_long (p.number + 1) more.0 more.3 ∙ sym (fault-too_long (p.number + 1) l long) ∙ h.1, h.2, h.3))
  ends_at done (inr x) h = absurd h
  ends_at usage (inr x) h = absurd h
  ends_at (refused r) (inr x) h = absurd h
  ends_at (damaged rule at) (inr x) h = absurd h
  ends_at (absent n) (inr x) h = absurd h
  ends_at no_memory (inr x) h = absurd h
  ends_at changed (inr x) h = absurd h
  ends_at (merge_refused r) (inr x) h = absurd h

  pub reaches_by : (q : Place) (old new : Option (List ℕ)) (came : WhatCame) → IsFirstLine (drop p.at s) l (drop q.at s) → q.number ≡ p.number + 1 → Passes A (q.number, l) old new came before now → Reaches A s p q old new came before now
  reaches_by q old new came (inl is) n h = (l, is, n, h)
  reaches_by q old new came (inr (long, more)) n (inl (none, same, plain, calm)) = absurd (long_some l long none)
  reaches_by q old new came (inr (long, more)) n (inr (some, read, put)) = absurd (unread q.number l long read)

module _ (b : List ℕ) (s : LiveState) (x l : List ℕ) (p : Place) (before now : ℕ) where
  pub live_reaches : (q : Place) (old new : Option (List ℕ)) (came : WhatCame) (e : LiveState) → IsFirstLine (drop p.at x) l (drop q.at x) → q.number ≡ p.number + 1 → LivePasses b s (q.number, l) old new came before now e
      → LiveReaches b s x p q old new came before now e
  live_reaches q old new came e (inl is) n h = (l, is, n, h)
  live_reaches q old new came e (inr (long, more)) n (inl (none, same, plain, calm, stays)) = absurd (long_some l long none)
  live_reaches q old new came e (inr (long, more)) n (inr (some, read, put)) = absurd (unread q.number l long read)
