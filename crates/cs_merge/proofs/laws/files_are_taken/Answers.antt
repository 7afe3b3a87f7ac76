use Rattle.cs_build.proofs.CollectionFiles.{blocks_accepted, blocks_read}
use Rattle.cs_model_index.proofs.ReadCorpora.{corpora_read}
use Rattle.cs_model_index.proofs.ReadImages.{images_read}
use Rattle.cs_merge.proofs.FileRuleLemmas.{target_few, words_accepted}
use Rattle.cs_merge.proofs.laws.files_are_taken.Goals as goal

pub returns : goal.returns
returns c = λ b bytes e. record {
  corpus = corpora_read blocks_accepted blocks_read b bytes e;
  image = images_read blocks_accepted blocks_read b bytes e;
  words = words_accepted b bytes e;
  target = target_few b bytes e;
}
