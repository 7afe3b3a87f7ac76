use Rattle.std.proofs.Common.{◌≡◌, ◌<◌, take}
use Rattle.cs_model.specs.Digits.{number_of}
use Rattle.cs_text.proofs.DigitLemmas.{tens}
use Rattle.cs_text.proofs.number.number_of.Given as goal

abbrev pub invariant-loop-byte : goal.invariant-loop-byte
invariant-loop-byte l = record {
  told : l.number ≡ number_of (take l.byte-index l.bytes);
  small : l.number < tens l.byte-index;
}
