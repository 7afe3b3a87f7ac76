use Rattle.std.proofs.Common.{subst}
use Rattle.cs_merge.specs.Merging.{IsOfFile}
use Rattle.cs_model_index.specs.Images.{Image}
use Rattle.cs_model_index.specs.Layout.{file}
use Rattle.cs_file.specs.WholeImages.{IsFileImage}
use Rattle.cs_merge.specs.Merging.{AcceptedAreMerged}
use Rattle.cs_indexing.proofs.merge.merged.Goals as goal

-- the image of an index file is one that can be merged
of_file : AcceptedAreMerged → (im : Image) → IsFileImage im → IsOfFile im
of_file law im is = subst IsOfFile is.read (law (file im) is.bytes is.accepted)

pub merge-requires-clause-first : goal.merge-requires-clause-first
merge-requires-clause-first c = of_file c.files_are_taken.ensures c.args.a.now c.requires.first

pub merge-requires-clause-second : goal.merge-requires-clause-second
merge-requires-clause-second c = of_file c.files_are_taken.ensures c.args.b.now c.requires.second
