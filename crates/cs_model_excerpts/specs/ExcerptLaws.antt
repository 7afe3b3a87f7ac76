-- Laws of excerpts.
--
-- Source: none; they speak of the definitions.
--
--   HasDocument k w d doc    the rows of document d of the corpus k are those of `doc` with the weights w
--   MarksAreOwn              which text words serve a part depends on the part and the document's rows alone
--   ExcerptsAreOwn           so does the excerpt
--   CorporaHaveOwnWords      a corpus of documents has the rows of each of them
--   ShortestAreFirst         the run that is shown is the shortest, and of those of one length the first
use Rattle.std.specs.Prelude.{◌≡◌, ℕ, ◌<◌, List, length, filter, Bool, Option, get_or}
use Rattle.cs_base.specs.content.Members.{members_in}
use Rattle.cs_base.specs.content.Orders.{by_row}
use Rattle.cs_base.specs.declared.content.doc.Doc.{Doc}
use Rattle.cs_base.specs.declared.content.query.Part.{Part}
use Rattle.cs_base.specs.declared.content.query.Query.{Query}
use Rattle.cs_base.specs.declared.content.scores.Weights.{Weights}
use Rattle.cs_model.specs.Answers.{in_doc}
use Rattle.cs_model.specs.Corpus.{Corpus, corpus_of, doc_rows}
use Rattle.cs_model.specs.Words.{words}
use Rattle.cs_model_excerpts.specs.Excerpts.{excerpt, marks_in, own_excerpt}
use Rattle.cs_model_excerpts.specs.OwnWords.{part_marks}
use Rattle.cs_model_excerpts.specs.Runs.{IsBest, shortest}

-- of document d the corpus has the rows of `doc`, with these weights, and no others; what it has of other documents may be anything
abbrev pub HasDocument : Corpus → Weights → ℕ → Doc → Type 0
HasDocument k w d doc = filter (in_doc d) k.rows ≡ members_in by_row (doc_rows w (d, doc))

-- joins are included: over whatever corpus, and whatever the hits of an inner query are, they serve no text word
abbrev pub MarksAreOwn : Type 0
MarksAreOwn = (k : Corpus) (w : Weights) (d : ℕ) (doc : Doc) → HasDocument k w d doc → (part : Part) → marks_in k d doc part ≡ part_marks (words doc.text) part

-- so the excerpt of a document is the same over each corpus that has it, under whichever number
abbrev pub ExcerptsAreOwn : Type 0
ExcerptsAreOwn = (k : Corpus) (w : Weights) (d : ℕ) (doc : Doc) → HasDocument k w d doc → (q : Query) → excerpt k q d doc ≡ own_excerpt q doc

-- each document of a list has its own rows in their corpus
abbrev pub CorporaHaveOwnWords : Type 0
CorporaHaveOwnWords = (w : Weights) (docs : List Doc) (d : ℕ) (doc : Doc) → d < length docs → doc ≡ get_or docs d doc → HasDocument (corpus_of w docs) w d doc

-- whatever run is the best one, or None where there is none, is the one that is found
abbrev pub ShortestAreFirst : Type 0
ShortestAreFirst = (parts : List (List Bool)) (n : ℕ) (best : Option (ℕ × ℕ)) → IsBest parts n best → shortest parts n ≡ best
