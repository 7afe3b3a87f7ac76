-- The table of some rows: their words with the number of documents that have each, in order.
--
--   with_word w rows         the rows whose word has the number w
--   doc_count rows           how many documents the rows have
--   post_completion rows w   the word w with the number of documents that have it in the rows
--   by_docs                  completions: documents descending, then the word's number ascending, which is the order of the words' bytes
--   post_table rows          the completions of the rows, in order
--   completion h             a counted word that is written as a scored document
use Rattle.std.specs.Prelude.{ℕ, List, map, length, filter, ◌==◌}
use Rattle.std.specs.declared.cmp.Ordering.{Ordering}
use Rattle.std.specs.Ordering.{nat_cmp, then_cmp, on, flip_args}
use Rattle.cs_base.specs.content.Members.{members_in}
use Rattle.cs_base.specs.content.Orders.{docs_of}
use Rattle.cs_base.specs.declared.content.doc.Post.{Post}
use Rattle.cs_base.specs.declared.content.doc.Scored.{Scored}
use Rattle.cs_tables.specs.declared.tables.Completion.{Completion}

-- the rows whose word has this number
abbrev pub with_word : ℕ → List Post → List Post
with_word w rows = filter (λ p. p.word == w) rows

-- how many documents the rows have: 0 where there is no row
abbrev pub doc_count : List Post → ℕ
doc_count rows = length (docs_of rows)

-- a word with the number of documents that have it in the rows
abbrev pub post_completion : List Post → ℕ → Completion
post_completion rows w = record { word = w; docs = doc_count (with_word w rows) }

-- the greatest number of documents first, and at equal numbers the least word
abbrev pub by_docs : Completion → Completion → Ordering
by_docs = then_cmp (on (λ c. c.docs) (flip_args nat_cmp)) (on (λ c. c.word) nat_cmp)

-- the words of the rows with their numbers of documents, in order; of no rows there is none
abbrev pub post_table : List Post → List Completion
post_table rows = members_in by_docs (map (λ p. post_completion rows p.word) rows)

-- the word and the number that a scored document stands for
abbrev pub completion : Scored → Completion
completion h = record { word = h.doc; docs = h.score }
