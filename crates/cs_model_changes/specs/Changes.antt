-- A corpus under changes: documents are added and deleted, and no number comes to a second document.
--
-- Source: this engine's own.
--
-- The weights `w` are those of the collection, for the scores of what is added.
--
--   Change               one document more, or the document of a number taken away
--   Changing             a corpus under changes, with the next number
--   first_behind ns      the first number behind all of ns; behind none of them 0
--   started k            k before the first change
--   applied w s c        s after the change c
--   now w k changes      the corpus k after changes, in order; after none it is k
--   IsGone d k           no title and no row of k is of the document d
--   AdditionsJoin        the law that adding documents to a corpus of documents joins it with theirs
--   DeletedAreGone       the law that a deleted document stays away, and its number comes to no other one
use Rattle.std.specs.Prelude.{◌≡◌, ℕ, ◌+◌, max, not, true, false, List, [], ◌∷◌, ◌++◌, map, fold, filter, None}
use Rattle.std.specs.List.{list_any}
use Rattle.std.specs.FinMap as map
use Rattle.cs_base.specs.content.Members.{members_in}
use Rattle.cs_base.specs.content.Orders.{by_row}
use Rattle.cs_base.specs.declared.content.doc.Doc.{Doc}
use Rattle.cs_base.specs.declared.content.scores.Weights.{Weights}
use Rattle.cs_model.specs.Answers.{in_doc}
use Rattle.cs_model.specs.Corpus.{Corpus, corpus_of, doc_rows}
use Rattle.cs_model_changes.specs.Joined.{joined}

-- a change: a document is added, or the document of a number is deleted
pub data Change : Type 0 where
  added : Doc → Change
  deleted : ℕ → Change

-- a corpus under changes, with the next number, which no document has had; before the first document it may be 0
pub record Changing : Type 0 where
  pub corpus : Corpus
  pub next : ℕ

-- the first number that is greater than each of these; 0 where there is none
abbrev pub first_behind : List ℕ → ℕ
first_behind [] = 0
first_behind (n ∷ ns) = max (n + 1) (first_behind ns)

-- before the first change the next number is the first one behind all documents; of no document 0
abbrev pub started : Corpus → Changing
started k = record { corpus = k; next = first_behind (map.keys k.titles) }

-- an addition gives the next number to a document, with its title and its rows; a deletion takes the title and the rows of a
-- number away, which are none where no document has it, and leaves the next number as it is
abbrev pub applied : Weights → Changing → Change → Changing
applied w s (added doc) = record {
  corpus = record { titles = map.insert s.corpus.titles s.next doc.title; rows = members_in by_row (s.corpus.rows ++ doc_rows w (s.next, doc)) };
  next = s.next + 1;
}
applied w s (deleted d) = record {
  corpus = record { titles = map.remove s.corpus.titles d; rows = filter (λ r. not (in_doc d r)) s.corpus.rows };
  next = s.next;
}

-- the corpus after changes, one after the other; after none it is the same
abbrev pub now : Weights → Corpus → List Change → Corpus
now w k changes = (fold (applied w) (started k) changes).corpus

-- nothing of the document d is there; of a corpus with no document each number is
pub record IsGone (d : ℕ) (k : Corpus) : Type 0 where
  pub titles : map.get k.titles d ≡ None
  pub rows : list_any (in_doc d) k.rows ≡ false

-- the documents that are added to a corpus of documents get the numbers that joining gives them; either list may be empty
abbrev pub AdditionsJoin : Type 0
AdditionsJoin = (w : Weights) (ds es : List Doc) → now w (corpus_of w ds) (map added es) ≡ joined (corpus_of w ds) (corpus_of w es)

-- a document that is there after some changes, and is deleted then, isn't there after any further changes, which may be none
abbrev pub DeletedAreGone : Type 0
DeletedAreGone = (w : Weights) (k : Corpus) (before after : List Change) (d : ℕ) → map.contains_key (now w k before).titles d ≡ true → IsGone d (now w k (before ++ deleted d ∷ after))
