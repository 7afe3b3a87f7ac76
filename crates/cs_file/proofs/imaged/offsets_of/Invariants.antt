use Rattle.std.proofs.Common.{◌≡◌, length, take}
use Rattle.std.specs.List.{flat_map}
use Rattle.cs_model_index.specs.Layout.{offsets_from}
use Rattle.cs_file.proofs.imaged.offsets_of.Given as goal

abbrev pub invariant-loop-title : goal.invariant-loop-title
invariant-loop-title l = record {
  told : l.offsets.items ≡ offsets_from 0 (take l.title-index l.titles);
  at : l.at ≡ length (flat_map (λ t. t) (take l.title-index l.titles));
}
