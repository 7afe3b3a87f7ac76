-- A corpus to which documents are added, and from which they are deleted.
--
-- Source: this engine's own.
--
-- The weights of the collection are an argument, `w`, and so is the corpus at the beginning, `k`, whose documents are numbered from 0 without gaps.
--
--   LiveState               the corpus now, how many changes there were, and all documents added so far
--   before_changes k        k before the first change
--   next_doc k s            the number that the next document gets
--   changed w k s c         s after the change c
--   met_rows w k docs       the rows of k and of added documents, also of those that were deleted since
--   Full                    what there is no more room for: documents, rows or words
--   full_refusal w k s d    what there is no room for where the document d is added; None where it may be
use Rattle.std.specs.Prelude.{ℕ, ◌+◌, not, nat_le, nat_lt, List, [], ◌∷◌, ◌++◌, filter, length, Option}
use Rattle.std.specs.List.{enumerate_from, flat_map}
use Rattle.std.specs.FinMap as map
use Rattle.cs_base.specs.content.Members.{members_in}
use Rattle.cs_base.specs.content.Orders.{by_row}
use Rattle.cs_base.specs.declared.content.doc.Doc.{Doc}
use Rattle.cs_base.specs.declared.content.doc.Row.{Row}
use Rattle.cs_base.specs.declared.content.limits.TheConstants.{MAX_DOCS, MAX_ROWS, MAX_WORDS}
use Rattle.cs_base.specs.declared.content.scores.Weights.{Weights}
use Rattle.cs_model.specs.Answers.{in_doc}
use Rattle.cs_model.specs.Corpus.{Corpus, distinct_words, doc_rows}
use Rattle.cs_model.specs.First.{first_reason, unless}
use Rattle.cs_model_changes.specs.Changes.{Change, added, deleted}

-- the corpus now, the number of changes so far, and the documents added so far, in order and with those that were deleted since
pub record LiveState : Type 0 where
  pub corpus : Corpus
  pub changes : ℕ
  pub additions : List Doc

-- before the first change
abbrev pub before_changes : Corpus → LiveState
before_changes k = record { corpus = k; changes = 0; additions = [] }

-- the documents of k and those added so far are so many, each number below having been given to one of them
abbrev pub next_doc : Corpus → LiveState → ℕ
next_doc k s = map.len k.titles + length s.additions

-- an addition gives the next number to a document, with its title and its rows; a deletion takes the title and the rows of a
-- number away, which are none where no document has it
abbrev pub changed : Weights → Corpus → LiveState → Change → LiveState
changed w k s (added doc) = record {
  corpus = record { titles = map.insert s.corpus.titles (next_doc k s) doc.title; rows = members_in by_row (s.corpus.rows ++ doc_rows w (next_doc k s, doc)) };
  changes = s.changes + 1;
  additions = s.additions ++ doc ∷ [];
}
changed w k s (deleted d) = record {
  corpus = record { titles = map.remove s.corpus.titles d; rows = filter (λ r. not (in_doc d r)) s.corpus.rows };
  changes = s.changes + 1;
  additions = s.additions;
}

-- the rows of k and of documents that are numbered behind its own, whether they are still there or not; of no documents those of k
abbrev pub met_rows : Weights → Corpus → List Doc → List Row
met_rows w k docs = members_in by_row (k.rows ++ flat_map (doc_rows w) (enumerate_from (map.len k.titles) docs))

-- what there is no more room for
pub data Full : Type 0 where
  full_docs : Full
  full_rows : Full
  full_words : Full

-- what there is no room for where this document is added: first documents, then rows, then distinct words, those of deleted documents counted; None where
-- there is room for all
abbrev pub full_refusal : Weights → Corpus → LiveState → Doc → Option Full
full_refusal w k s doc = first_reason (
    unless (nat_lt (next_doc k s) MAX_DOCS) full_docs
    ∷ unless (nat_le (length (met_rows w k (s.additions ++ doc ∷ []))) MAX_ROWS) full_rows
    ∷ unless (nat_le (length (distinct_words (met_rows w k (s.additions ++ doc ∷ [])))) MAX_WORDS) full_words
    ∷ [])
