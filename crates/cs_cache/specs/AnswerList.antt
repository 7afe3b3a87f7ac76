-- What a contract sees of kept answers.
--
-- Source: `KeptList` of cs_model_kept, whose words say what the calls do.
--
--   AnswerList             entries under the keys of their queries, the one used last in front, and how many there may be
--   answer_list es n       these entries, of which there may be n
use Rattle.std.specs.Prelude.{ℕ}
use Rattle.cs_base.specs.declared.content.doc.Post.{Post}
use Rattle.cs_model_kept.specs.Entries.{EntryOf}
use Rattle.cs_model_kept.specs.KeptList.{KeptOf}

-- entries under the keys of their queries, their rows told by posts, the one used last in front, and how many there may be
pub record AnswerList : Type 0 where
  pub entries : KeptOf (EntryOf Post)
  pub capacity : ℕ

-- these entries, of which there may be n; there may be none yet
abbrev pub answer_list : KeptOf (EntryOf Post) → ℕ → AnswerList
answer_list es n = record { entries = es; capacity = n }
