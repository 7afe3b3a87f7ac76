use Rattle.std.proofs.Common.{◌≡◌, take, reverse}
use Rattle.httparse.specs.Grammar.{skip_ows}
use Rattle.cs_http.proofs.fields.skip_back.Given as goal

abbrev pub invariant-loop-i : goal.invariant-loop-i
invariant-loop-i l = skip_ows (reverse (take l.i l.bytes)) ≡ skip_ows (reverse l.bytes)
