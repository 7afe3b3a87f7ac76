use Rattle.std.proofs.Common.{◌≡◌, ◌∷◌, ◌*◌, ◌≤◌, take, length}
use Rattle.std.specs.Prelude.{flat_map}
use Rattle.cs_file.proofs.sizes.vocabulary_len.Given as goal

abbrev pub invariant-loop-n : goal.invariant-loop-n
invariant-loop-n l = record {
  told : l.bytes ≡ length (flat_map (λ w. length w ∷ w) (take l.n l.words));
  few : l.bytes ≤ 256 * l.n;
}
