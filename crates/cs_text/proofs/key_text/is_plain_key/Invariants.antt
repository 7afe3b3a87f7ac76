use Rattle.std.proofs.Common.{◌≡◌, take}
use Rattle.std.specs.List.{list_all}
use Rattle.cs_text.specs.KeyBytes.{is_key_byte}
use Rattle.cs_text.proofs.key_text.is_plain_key.Given as goal

abbrev pub invariant-loop-byte : goal.invariant-loop-byte
invariant-loop-byte l = l.plain ≡ list_all is_key_byte (take l.byte-index l.byte-items)
