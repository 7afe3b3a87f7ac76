-- What a run of the program does, command by command.
--
--   Idle x e m                   the run ended as x, and left all as it was
--   Ran e command m              a whole run: usage where the words aren't in the table, else the record of the command
--   IsAble command h             files, by their names, from which a command can do all
--   Finishes m result            where no count rose, the status is 0 or 7
--   Completes command m result   a command that can do all does it, or memory runs out; of files that don't tell that is said of
--                                `trial` alone. `serve` leaves no request unanswered then
use Rattle.std.specs.Prelude.{◌≡◌, ◌⊎◌, ℕ, Option, Some, None}
use Rattle.std.specs.Option.{ForSome}
use Rattle.cs_base.specs.outside.Causes.{Rose}
use Rattle.cs_base.specs.outside.Outside.{Held}
use Rattle.cs_indexing.specs.Build.{BuildRan, CanBuild}
use Rattle.cs_indexing.specs.CommandLine.{Command, build, ask, replay, serve, trial, upgrade, merge, live, Ending, usage}
use Rattle.cs_indexing.specs.Merge.{MergeRan, CanMerge}
use Rattle.cs_indexing.specs.Met.{Met, LeavesAll}
use Rattle.cs_indexing.specs.Upgrade.{UpgradeRan, CanUpgrade}
use Rattle.cs_top.specs.LiveRuns.{LiveRan}
use Rattle.cs_top.specs.ScriptRuns.{AskRan, CanAsk, ReplayRan, CanReplay}
use Rattle.cs_top.specs.Serve.{ServeRan, ServesAll, CanServe}
use Rattle.cs_top.specs.Trial.{TrialRan}

-- a run that ends as x before it meets anything
pub record Idle {H : Type 0} (x e : Ending) (m : Met H) : Type 0 where
  pub ends : e ≡ x
  pub leaves : LeavesAll m

-- a whole run: each command has its own record
abbrev pub Ran : {H : Type 0} → Ending → Option Command → Met H → Type 0
Ran e None m = Idle usage e m
Ran e (Some (build form c i)) m = BuildRan form e c i m
Ran e (Some (ask form c s)) m = AskRan form e c s m
Ran e (Some (replay i s)) m = ReplayRan e i s m
Ran e (Some (serve i p n)) m = ServeRan e i p n m
Ran e (Some (trial n)) m = TrialRan e n m
Ran e (Some (upgrade i n)) m = UpgradeRan e i n m
Ran e (Some (merge a b n)) m = MergeRan e a b n m
Ran e (Some (live i s)) m = LiveRan e i s m

-- files from which a command can do all; `trial` needs none
abbrev pub IsAble : Option Command → Held → Type 0
IsAble (Some (build form c i)) h = CanBuild form h c
IsAble (Some (ask form c s)) h = CanAsk h c s
IsAble (Some (replay i s)) h = CanReplay h i s
IsAble (Some (serve i p n)) h = CanServe h i
IsAble (Some (trial n)) h = Unit {0}
IsAble (Some (upgrade i n)) h = CanUpgrade h i
IsAble (Some (merge a b n)) h = CanMerge h a b
IsAble (Some (live i s)) h = CanReplay h i s
IsAble None h = ⊥

-- where no count rose all was done, or memory ran out
abbrev pub Finishes : {H : Type 0} → Met H → ℕ → Type 0
Finishes m result = ¬ Rose m.files_before m.files_now → ¬ Rose m.out.before m.out.now → ¬ Rose m.net.old.faults m.net.new.faults → (result ≡ 0) ⊎ (result ≡ 7)

-- No run gives up by itself: what can be done is done, or memory ran out. No words that aren't in the table can be. Where `serve` is
-- done and no read and no send failed, each connection has exactly what answers its bytes, or its beginning and the memory response.
abbrev pub Completes : {H : Type 0} → Option Command → Met H → ℕ → Type 0
Completes (Some (trial n)) m result = Finishes m result
Completes (Some (serve i p n)) m result =
    ForSome m.held (λ h. CanServe h i → Finishes m result × (result ≡ 0 → ¬ Rose m.files_before m.files_now → ¬ Rose m.net.old.send_faults m.net.new.send_faults → ServesAll h i m.net))
Completes command m result = ForSome m.held (λ h. IsAble command h → Finishes m result)
