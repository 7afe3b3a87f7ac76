-- What a run meets outside, before and after it. Each meaning is optional: None where the object doesn't tell.
--
--   Wrote, wrote           what a sink told before and after, and how often it had failed
--   HubSeen, hub_seen           what a hub tells, how often `listen` and `next` have failed, and how often `send`
--   Listened, listened     the same before and after
--   Met, met               the files that were held and are held, what was put, how often calls had failed, and the
--                          hub
--   LeavesAll m            files, out and hub are as they were
--   held_bytes h name      what a file holds; no bytes where it isn't held
--   AreHeld h a b          both files are held
--   OfBytes held name P    over files that tell, P holds of what the file holds
--   HasToldSize held name n    over files that tell, the file is held and has n bytes
use Rattle.std.specs.Prelude.{◌≡◌, ℕ, List, Option, Some}
use Rattle.std.specs.Option.{ForSome}
use Rattle.std.specs.FinMap as map
use Rattle.cs_base.specs.declared.outside.files.Files.{Ghosts as FilesGhosts}
use Rattle.cs_base.specs.declared.outside.hub.Hub.{Ghosts as HubGhosts}
use Rattle.cs_base.specs.declared.outside.sink.Sink.{Ghosts as SinkGhosts}
use Rattle.cs_base.specs.outside.Hub.{Listening, Talk}
use Rattle.cs_base.specs.outside.Outside.{Held, IsHeld, bytes_of, size_of}

-- what a sink tells, and its count of faults; a count never falls
pub record Wrote : Type 0 where
  pub old : Option (List ℕ)
  pub new : Option (List ℕ)
  pub before : ℕ
  pub now : ℕ

-- the same of a sink, from what it was to what it is
abbrev pub wrote : {O : Type 0} → SinkGhosts O → O → O → Wrote
wrote sink old new = record { old = sink.written old; new = sink.written new; before = sink.faults old; now = sink.faults new }

-- what a hub tells, its talk maybe not, its count of failures of `listen` and `next`, and that of failures of `send`
pub record HubSeen : Type 0 where
  pub state : Listening
  pub talk : Option Talk
  pub faults : ℕ
  pub send_faults : ℕ

-- the same of a hub as it is
abbrev pub hub_seen : {H : Type 0} → HubGhosts H → H → HubSeen
hub_seen tells hub = record { state = tells.state hub; talk = tells.talk hub; faults = tells.faults hub; send_faults = tells.send_faults hub }

-- the same before and after
pub record Listened : Type 0 where
  pub old : HubSeen
  pub new : HubSeen

-- the same of a hub, from what it was to what it is
abbrev pub listened : {H : Type 0} → HubGhosts H → H → H → Listened
listened tells old new = record { old = hub_seen tells old; new = hub_seen tells new }

-- what a run meets; a hub is seen whole, whatever it tells
pub record Met (H : Type 0) : Type 0 where
  pub held : Option Held
  pub held_now : Option Held
  pub files_before : ℕ
  pub files_now : ℕ
  pub out : Wrote
  pub net : Listened
  pub hub : H
  pub hub_now : H

-- what files, hub and out tell of themselves, from what they were to what they are
abbrev pub met : {F H O : Type 0} → FilesGhosts F → HubGhosts H → SinkGhosts O → F × H × O → F × H × O → Met H
met files hub sink old new = record {
  held = files.held old.0;
  held_now = files.held new.0;
  files_before = files.faults old.0;
  files_now = files.faults new.0;
  out = wrote sink old.2 new.2;
  net = listened hub old.1 new.1;
  hub = old.1;
  hub_now = new.1;
}

-- files, out and hub are as they were, and none of them failed
pub record LeavesAll {H : Type 0} (m : Met H) : Type 0 where
  pub put : m.out.new ≡ m.out.old
  pub out_count : m.out.now ≡ m.out.before
  pub files : m.held_now ≡ m.held
  pub files_count : m.files_now ≡ m.files_before
  pub hub : m.hub_now ≡ m.hub

-- what a file holds, over files that tell; no bytes where it isn't held
abbrev pub held_bytes : Held → List ℕ → List ℕ
held_bytes h name = bytes_of (map.get h name)

-- both files are held
abbrev pub AreHeld : Held → List ℕ → List ℕ → Type 0
AreHeld h a b = IsHeld (map.get h a) × IsHeld (map.get h b)

-- P holds of what the file holds; nothing is said over files that don't tell
abbrev pub OfBytes : Option Held → List ℕ → (List ℕ → Type 0) → Type 0
OfBytes held name P = ForSome held (λ h. P (held_bytes h name))

-- the file is held and has n bytes, maybe none; nothing is said over files that don't tell
abbrev pub HasToldSize : Option Held → List ℕ → ℕ → Type 0
HasToldSize held name n = ForSome held (λ h. size_of (map.get h name) ≡ Some n)
