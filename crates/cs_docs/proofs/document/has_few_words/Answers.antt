use Rattle.std.proofs.Common.{arith}
use Rattle.std.proofs.lemmas.Bool.{MatchBool-at_true}
use Rattle.cs_docs.proofs.PlainLemmas.{few_words}
use Rattle.cs_docs.proofs.document.has_few_words.Goals as goal

pub returns-then-column-lt-MAX_DOC_WORDS : goal.returns-then-column-lt-MAX_DOC_WORDS
returns-then-column-lt-MAX_DOC_WORDS c = λ e. omega (arith, few_words c.args.column.now (MatchBool-at_true _ _ e c.is_ascii.ensures.cases))
