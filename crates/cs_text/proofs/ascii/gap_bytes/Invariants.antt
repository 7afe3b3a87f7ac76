use Rattle.std.proofs.Common.{◌≡◌, ℕ, ◌<◌, ◌-◌, ◌≤◌, false, length, get_or}
use Rattle.std.specs.Char.{is_ascii_alphanumeric}
use Rattle.cs_text.proofs.ascii.gap_bytes.Given as goal

abbrev pub invariant-loop-end : goal.invariant-loop-end
invariant-loop-end l = record {
  within : l.end ≤ length l.bytes;
  gaps : (k : ℕ) → k < l.end → is_ascii_alphanumeric (get_or l.bytes k 0) ≡ false;
}

abbrev pub decreases-loop-end : goal.decreases-loop-end
decreases-loop-end l = length l.bytes - l.end
