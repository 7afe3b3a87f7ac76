use Rattle.std.proofs.Common.{subst}
use Rattle.std.specs.List.{All}
use Rattle.std.specs.Str.{IsUtf8}
use Rattle.cs_docs.proofs.row_list.push_words.Goals as goal

pub returns-clause-utf8 : goal.returns-clause-utf8
returns-clause-utf8 c = subst (All IsUtf8) c.in_ok-words.ensures.ok c.in_ok-words.ensures.utf8
