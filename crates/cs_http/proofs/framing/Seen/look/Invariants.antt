use Rattle.std.proofs.Common.{ℕ, List, ◌++◌, ◌<◌, ◌≡◌, ◌+◌, take}
use Rattle.cs_base.specs.declared.content.limits.TheConstants.{MAX_HEAD_BYTES}
use Rattle.cs_http.specs.Looking.{IsSeen}
use Rattle.cs_http.proofs.framing.Seen.look.Given as goal

abbrev pub invariant-loop-byte : goal.invariant-loop-byte
invariant-loop-byte l = record {
  seen : (before : List ℕ) → IsSeen before l.fn.self → IsSeen (before ++ take l.byte-index l.more) l.seen;
  few : l.seen.count < MAX_HEAD_BYTES;
  counted : l.seen.count ≡ l.fn.self.count + l.byte-index;
}
