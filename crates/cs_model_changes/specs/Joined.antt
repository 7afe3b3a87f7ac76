-- Two corpora as one: the documents of the second are numbered behind those of the first.
--
-- Source: this engine's own.
--
--   later_title n t      the title t, with n added to its document's number
--   later_row n r        the row r, with n added to its document's number
--   joined a b           the titles and rows of a, and those of b with the number of a's documents added to their numbers;
--                        with a corpus of no document the other one
--   JoinedAreCorpora     the law that the corpus of a list of documents and further ones is their two corpora joined
use Rattle.std.specs.Prelude.{◌≡◌, ℕ, ◌+◌, List, ◌++◌, map}
use Rattle.std.specs.FinMap as map
use Rattle.cs_base.specs.content.Members.{members_in}
use Rattle.cs_base.specs.content.Orders.{by_row}
use Rattle.cs_base.specs.declared.content.doc.Doc.{Doc}
use Rattle.cs_base.specs.declared.content.doc.Row.{Row}
use Rattle.cs_base.specs.declared.content.scores.Weights.{Weights}
use Rattle.cs_model.specs.Corpus.{Corpus, corpus_of}

-- a title with its document's number, n higher; for n = 0 the same
abbrev pub later_title : ℕ → ℕ × List ℕ → ℕ × List ℕ
later_title n t = (t.0 + n, t.1)

-- a row whose document's number is n higher, at the same position and with the same word and score; for n = 0 the same
abbrev pub later_row : ℕ → Row → Row
later_row n r = record { doc = r.doc + n; word = r.word; pos = r.pos; score = r.score }

-- the documents of a under their numbers, and those of b with the number of a's documents added to theirs, so that none
-- comes to another where a's are numbered from 0 without gaps; with no document of a it is b, and with none of b it is a
abbrev pub joined : Corpus → Corpus → Corpus
joined a b =
    let n = map.len a.titles in
    record { titles = map.from_entries (map.entries a.titles ++ map (later_title n) (map.entries b.titles)); rows = members_in by_row (a.rows ++ map (later_row n) b.rows) }

-- so what is asked of the two collections as one is asked of their corpora joined; either list may be empty
abbrev pub JoinedAreCorpora : Type 0
JoinedAreCorpora = (w : Weights) (ds es : List Doc) → corpus_of w (ds ++ es) ≡ joined (corpus_of w ds) (corpus_of w es)
