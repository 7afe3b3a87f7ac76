-- What a pass over rows by document knows of each word.
--
--   post_words rows       the numbers of the rows' words, ascending, each once
--   counted_word rows w   word w with its number of documents, written as a scored document
--   saw m d               the mark m after a row in document d
--   mark_of w rows        the mark of word w after the rows
--   kept w n              word w with n documents, where there is one
--   collected w marks     the words from w on that have a document, by their marks
use Rattle.std.specs.Prelude.{ℕ, ◌+◌, List, [], ◌∷◌, ◌++◌, map, fold, ◌==◌, nat_lt, if◌then◌else◌}
use Rattle.std.specs.Ordering.{nat_cmp}
use Rattle.cs_base.specs.content.Members.{members_in}
use Rattle.cs_base.specs.declared.content.doc.Post.{Post}
use Rattle.cs_base.specs.declared.content.doc.Scored.{Scored}
use Rattle.cs_tables.specs.TableListings.{doc_count, with_word}
use Rattle.cs_tables.specs.declared.counts.Mark.{Mark}
use Rattle.cs_tables.specs.declared.counts.TheConstants.{NO_DOC}

-- the words of the rows by their numbers, each once; of no rows there is none
abbrev pub post_words : List Post → List ℕ
post_words rows = members_in nat_cmp (map (λ p. p.word) rows)

-- a word with the number of documents that have it in the rows
abbrev pub counted_word : List Post → ℕ → Scored
counted_word rows w = record { doc = w; score = doc_count (with_word w rows) }

-- a document counts where it isn't the last one seen
abbrev pub saw : Mark → ℕ → Mark
saw m d = if m.last == d then m else record { docs = m.docs + 1; last = d }

-- a row changes the mark of its own word alone
abbrev pub sees : ℕ → Mark → Post → Mark
sees w m p = if p.word == w then saw m p.doc else m

-- the mark of word w; before any row there is no document
abbrev pub mark_of : ℕ → List Post → Mark
mark_of w rows = fold (sees w) (record { docs = 0; last = NO_DOC }) rows

-- a word with its number of documents, where there is one
abbrev pub kept : ℕ → ℕ → List Scored
kept w n = if nat_lt 0 n then record { doc = w; score = n } ∷ [] else []

-- the words that have a document, from w on
abbrev pub collected : ℕ → List Mark → List Scored
collected w [] = []
collected w (m ∷ marks) = kept w m.docs ++ collected (w + 1) marks
