use Rattle.std.proofs.Common.{◌≡◌, ◌++◌, ◌<◌, drop, get_or, length, map}
use Rattle.std.specs.List.{All}
use Rattle.cs_build.specs.Joining.{held_posts}
use Rattle.cs_build.proofs.joining.add_numbers.Given as goal

abbrev pub invariant-loop-block : goal.invariant-loop-block
invariant-loop-block l = record {
  told : l.numbers.items ++ map (λ p. get_or l.shift p.word 0) (held_posts (drop l.block-index l.blocks)) ≡ l.fn.numbers.items ++ map (λ p. get_or l.shift p.word 0) (held_posts l.blocks);
  each : All (λ p. p.word < length l.shift) (held_posts (drop l.block-index l.blocks));
}
