use Rattle.cs_model_serving.proofs.ReaderLemmas.{reads_head, head_is_read, reads_none, none_is_read}
use Rattle.cs_model_serving.proofs.laws.heads_are_read.Goals as goal

pub returns : goal.returns
returns c = record {
  some = λ bytes h. (reads_head bytes h, head_is_read bytes h);
  none = λ bytes. ((λ e h. reads_none bytes h e), none_is_read bytes);
}
