-- An index under changes, with what is kept of answers.
--
-- Source: this engine's own, over `Changes` of cs_model_changes and `LiveStates` of cs_model_live.
--
--   LiveView                a state, the rows of added documents that it hasn't yet, how many rows the index and all added documents have, how
--                           many changes there were, what is kept of answers, and the ranges of words that are held
--   next_number l           the number that the next document gets
--   changes_in l            how many changes there were
--   has_document l d        a number is that of a document
--   rows_now l b            of the bytes of the index, all rows
--   changing l b            the corpus now, with the next number
--   rows_met l b docs       of the bytes of the index, the rows of the index and of these documents, which were added
--   IsBehind b cs l         the corpus now, and all that is counted, is that of the bytes after the changes cs
--   IsStateOf b l s         the state s of a live corpus is that of the index under changes
--   IsOnlyDoc w doc         a document that is read of a collection with these weights, and the only one there
--   own_rows l doc          its rows under the next number
--   full_now l doc          what there is no room for where the document is added; None where it may be
--   full_of e, NamesFull l doc e     the refusal that a fault names is this one; want of memory names none
--   AreGoodNow b l          what is kept and held is that of the corpus now
--   IsAfterNow k q l r new  what is kept after a reply, of a corpus
--   most_held               how many bytes what is held of ranges of words has at most
--   IsSettled s waited new  a state, and rows that waited brought into it
--   IsGoodRow w r           a row that an index file may have
--   AreWaiting s rows       rows of added documents, behind all that a state has in memory
--   KeepsCorpus s waited new left    a state and rows that wait in place of others: the same corpus, and the same words that were met
--   IsLiveState s rows met  what always holds of a state and these rows
--   IsAddition w n doc a, HasTooManyRows w doc e     what is added of a document, and why its rows can't be
--   IsFresh rows a held     nothing is kept and held while rows wait
--   IsLiveKept l            what always holds of an index under changes
--   HasAdded l doc new      what an addition leaves
--   IsRemoved l d new       what a deletion leaves
--   CountsChanges l         each change added a number or took one away
use Rattle.std.specs.Prelude.{◌≡◌, ◌⊎◌, ℕ, ◌+◌, ◌*◌, ◌^◌, ◌≤◌, ◌<◌, Bool, not, true, false, nat_le, nat_lt, List, [], ◌∷◌, ◌++◌, length, count_by, fold, map, slice_index_or, All, MatchOption}
use Rattle.std.specs.Prelude.{Option, None, Some, Result}
use Rattle.std.specs.FinMap as map
use Rattle.std.specs.List.Sorted.{IsStrictlySortedBy}
use Rattle.cs_base.specs.content.Orders.{by_spot}
use Rattle.cs_base.specs.declared.content.doc.Doc.{Doc}
use Rattle.cs_base.specs.declared.content.doc.Row.{Row}
use Rattle.cs_base.specs.declared.content.limits.TheConstants.{MAX_DOCS, MAX_ROWS, MAX_WORDS}
use Rattle.cs_base.specs.declared.content.scores.Weights.{Weights}
use Rattle.cs_base.specs.declared.content.query.Query.{Query}
use Rattle.cs_model.specs.Replies.{Reply}
use Rattle.cs_cache.specs.AnswerList.{AnswerList, answer_list}
use Rattle.cs_engine.specs.HeldRanges.{FitsRange}
use Rattle.cs_engine.specs.Keeping.{AreGoodFor, IsAfterFor, KeepsFitting, engine_with}
use Rattle.cs_rows.specs.Sources.{seen}
use Rattle.cs_rows.specs.Stocked.{corpus_in}
use Rattle.cs_engine.specs.declared.held.HeldRange.{HeldRange}
use Rattle.cs_engine.specs.declared.note.Note.{Note}
use Rattle.cs_file.specs.declared.fault.FetchFault.{FetchFault}
use Rattle.cs_file.specs.Indexes.{StandsFor}
use Rattle.cs_model.specs.Collection.{docs_refusal, documents, weights}
use Rattle.cs_model.specs.Corpus.{Corpus, distinct_words, rows_of}
use Rattle.cs_model.specs.First.{first_reason, unless}
use Rattle.cs_model_changes.specs.Changes.{Change, Changing, added, applied, deleted, started}
use Rattle.cs_model_changes.specs.Joined.{later_row}
use Rattle.cs_model_index.specs.BlockRules.{is_scored}
use Rattle.cs_model_index.specs.FileRules.{is_word}
use Rattle.cs_model_index.specs.Numbered.{post_of, rows_at}
use Rattle.cs_model_index.specs.Partitions.{is_facet}
use Rattle.cs_model_index.specs.Sections.{file_corpus}
use Rattle.cs_model_live.specs.Courses.{additions_in}
use Rattle.cs_model_live.specs.LiveStates.{Full, LiveState, full_docs, full_refusal, full_rows, full_words, met_rows, next_doc}
use Rattle.cs_live.specs.Settling.{words_met}
use Rattle.cs_live.specs.States.{IsState, StateView, source_now, stock_now}
use Rattle.std.specs.Str.{is_utf8}
use Rattle.cs_live.specs.declared.adding.Addition.{Addition}
use Rattle.cs_live.specs.declared.fault.AddFault.{AddFault}
use Rattle.cs_live.specs.declared.fault.AddFault.TheVariants as faults

-- titles and numbers of all documents are in the state; before the first change no rows wait
pub record LiveView : Type 0 where
  pub state : StateView
  pub rows : List Row
  pub met : ℕ
  pub changes : ℕ
  pub answers : AnswerList
  pub held : List HeldRange

-- a number that no document has had
abbrev pub next_number : LiveView → ℕ
next_number l = length l.state.present

-- additions and deletions
abbrev pub changes_in : LiveView → ℕ
changes_in l = l.changes

-- not so behind the last number
abbrev pub has_document : LiveView → ℕ → Bool
has_document l d = slice_index_or l.state.present d false

-- ---- the corpus
-- by document, position and word; those that wait come last
abbrev pub rows_now : LiveView → List ℕ → List Row
rows_now l b = rows_at l.state.words (stock_now l.state b).posts ++ l.rows

-- it counts only where the bytes stand for the index
abbrev pub changing : LiveView → List ℕ → Changing
changing l b = record { corpus = record { titles = (stock_now l.state b).titles; rows = rows_now l b }; next = next_number l }

-- also of documents that are gone since
abbrev pub rows_met : LiveView → List ℕ → List Doc → List Row
rows_met l b docs = met_rows l.state.index.weights (file_corpus b) docs

-- so `(changing l b).corpus` is `now` of the corpus of the bytes; after no changes it is that corpus
pub record IsBehind (b : List ℕ) (cs : List Change) (l : LiveView) : Type 0 where
  pub corpus : fold (applied l.state.index.weights) (started (file_corpus b)) cs ≡ changing l b
  pub changes : l.changes ≡ length cs
  pub added : length l.state.added ≡ length (additions_in cs)
  pub rows : l.met ≡ length (rows_met l b (additions_in cs))
  pub words : words_met l.state.words l.rows ≡ distinct_words (rows_met l b (additions_in cs))

-- ---- additions
-- no rule refuses it
pub record IsOnlyDoc (w : Weights) (doc : Doc) : Type 0 where
  pub collection : List ℕ
  pub accepted : docs_refusal collection ≡ None
  pub weights : weights collection ≡ w
  pub documents : doc ∷ [] ≡ documents collection

-- each once, by position and word
abbrev pub own_rows : LiveView → Doc → List Row
own_rows l doc = map (later_row (next_number l)) (rows_of l.state.index.weights (doc ∷ []))

-- first documents, then rows, then distinct words
abbrev pub full_now : LiveView → Doc → Option Full
full_now l doc = first_reason (
    unless (nat_lt (next_number l) MAX_DOCS) full_docs
    ∷ unless (nat_le (l.met + length (own_rows l doc)) MAX_ROWS) full_rows
    ∷ unless (nat_le (length (words_met l.state.words (l.rows ++ own_rows l doc))) MAX_WORDS) full_words
    ∷ [])

-- the same numbers are those of documents, and a document has room in both or in neither, and is refused for the same cause
pub record IsStateOf (b : List ℕ) (l : LiveView) (s : LiveState) : Type 0 where
  pub corpus : s.corpus ≡ (changing l b).corpus
  pub changes : s.changes ≡ l.changes
  pub next : next_doc (file_corpus b) s ≡ next_number l
  pub documents : (d : ℕ) → map.contains_key s.corpus.titles d ≡ has_document l d
  pub full : (doc : Doc) → full_refusal l.state.index.weights (file_corpus b) s doc ≡ full_now l doc

-- of want of memory None
abbrev pub full_of : AddFault → Option Full
full_of faults.FullDocs = Some full_docs
full_of faults.FullRows = Some full_rows
full_of faults.FullWords = Some full_words
full_of faults.Memory = None

-- want of memory has no cause
abbrev pub NamesFull : LiveView → Doc → AddFault → Type 0
NamesFull l doc e = MatchOption (full_of e) (Unit {0}) (λ f. full_now l doc ≡ Some f)

-- the rows are few enough for a collection
pub record IsAddition (w : Weights) (n : ℕ) (doc : Doc) (a : Addition) : Type 0 where
  pub title : a.title ≡ doc.title
  pub text : is_utf8 a.title ≡ true
  pub rows : a.rows.items ≡ map (later_row n) (rows_of w (doc ∷ []))
  pub few : length a.rows.items ≤ MAX_ROWS

-- its rows alone are too many
abbrev pub HasTooManyRows : Weights → Doc → AddFault → Type 0
HasTooManyRows w doc faults.FullDocs = ⊥
HasTooManyRows w doc faults.FullRows = MAX_ROWS < length (rows_of w (doc ∷ []))
HasTooManyRows w doc faults.FullWords = ⊥
HasTooManyRows w doc faults.Memory = Unit {0}

-- the document gets the next number; nothing that was kept or held of the corpus before is left
pub record HasAdded (l : LiveView) (doc : Doc) (new : LiveView) : Type 0 where
  pub index : new.state.index ≡ l.state.index
  pub corpus : (b : List ℕ) → StandsFor b l.state.index → changing new b ≡ applied l.state.index.weights (changing l b) (added doc)
  pub changes : changes_in new ≡ changes_in l + 1
  pub rows : new.met ≡ l.met + length (own_rows l doc)
  pub words : words_met new.state.words new.rows ≡ words_met l.state.words (l.rows ++ own_rows l doc)
  pub added : length new.state.added ≡ length l.state.added + 1
  pub answers : new.answers ≡ answer_list [] l.answers.capacity
  pub held : new.held ≡ []

-- ---- deletions
-- its title and its rows go, and all that is counted stays; nothing that was kept or held of the corpus before is left
pub record IsRemoved (l : LiveView) (d : ℕ) (new : LiveView) : Type 0 where
  pub index : new.state.index ≡ l.state.index
  pub corpus : (b : List ℕ) → StandsFor b l.state.index → changing new b ≡ applied l.state.index.weights (changing l b) (deleted d)
  pub changes : changes_in new ≡ changes_in l + 1
  pub added : new.state.added ≡ l.state.added
  pub rows : new.met ≡ l.met
  pub words : words_met new.state.words new.rows ≡ words_met l.state.words l.rows
  pub answers : new.answers ≡ answer_list [] l.answers.capacity
  pub held : new.held ≡ []

-- ---- requests
-- where rows wait, nothing is kept and held, which is good
abbrev pub AreGoodNow : List ℕ → LiveView → Type 0
AreGoodNow b l = AreGoodFor (corpus_in (stock_now l.state b)) (stock_now l.state b) (engine_with (seen (source_now l.state)) l.answers l.held)

-- the reply and what is kept behind it are those of a corpus; nothing is said of a refusal
abbrev pub IsAfterNow : Corpus → Query → LiveView → Result (Reply × Note) FetchFault → LiveView → Type 0
IsAfterNow k q l r new = IsAfterFor k q (engine_with (seen (source_now new.state)) l.answers l.held) r (engine_with (seen (source_now new.state)) new.answers new.held)

-- 240 MiB, as for an engine
abbrev pub most_held : ℕ
most_held = 240 * 2 ^ 20

-- ---- rows that wait
-- the state has the words and the rows too; of no rows nothing changes
pub record IsSettled (s : StateView) (waited : List Row) (new : StateView) : Type 0 where
  pub is : IsState new
  pub index : new.index ≡ s.index
  pub present : new.present ≡ s.present
  pub whole : new.whole ≡ s.whole
  pub added : new.added ≡ s.added
  pub words : new.words ≡ words_met s.words waited
  pub rows : (b : List ℕ) → StandsFor b s.index → rows_at new.words (stock_now new b).posts ≡ rows_at s.words (stock_now s b).posts ++ waited
  pub same : waited ≡ [] → new ≡ s

-- ---- what always holds
-- its word has a word's form, and its position and score are those of its column
pub record IsGoodRow (w : Weights) (r : Row) : Type 0 where
  pub word : is_word r.word ≡ true
  pub scored : is_scored w (is_facet r.word) (post_of [] r) ≡ true

-- in order, in documents that were added and are there, behind those of the state's posts in memory; of no rows it holds
pub record AreWaiting (s : StateView) (rows : List Row) : Type 0 where
  pub spots : IsStrictlySortedBy by_spot rows
  pub good : All (IsGoodRow s.index.weights) rows
  pub there : All (λ r. slice_index_or s.present r.doc false ≡ true) rows
  pub below : All (λ r. r.doc < length s.present) rows
  pub from : ℕ
  pub behind : s.index.docs ≤ from
  pub upto : from ≤ length s.present
  pub held_below : All (λ p. p.doc < from) s.held
  pub rows_from : All (λ r. from ≤ r.doc) rows

-- rows were brought in, or wait on; nothing is said of where they are
pub record KeepsCorpus (s : StateView) (waited : List Row) (new : StateView) (left : List Row) : Type 0 where
  pub is : IsState new
  pub waiting : AreWaiting new left
  pub few : length left ≤ length waited
  pub index : new.index ≡ s.index
  pub present : new.present ≡ s.present
  pub added : new.added ≡ s.added
  pub words : words_met new.words left ≡ words_met s.words waited
  pub rows : (b : List ℕ) → StandsFor b s.index → rows_at new.words (stock_now new b).posts ++ left ≡ rows_at s.words (stock_now s b).posts ++ waited

-- and there are few of all
pub record IsLiveState (s : StateView) (rows : List Row) (met : ℕ) : Type 0 where
  pub state : IsState s
  pub waiting : AreWaiting s rows
  pub few : length rows ≤ met
  pub few_rows : met ≤ MAX_ROWS
  pub few_words : length (words_met s.words rows) ≤ MAX_WORDS

-- so what is kept and held is that of the state
abbrev pub IsFresh : List Row → AnswerList → List HeldRange → Type 0
IsFresh rows answers held = (rows ≡ []) ⊎ ((answers.entries ≡ []) × (held ≡ []))

-- no number is added or goes twice
abbrev pub CountsChanges : LiveView → Type 0
CountsChanges l = l.changes ≡ length l.state.added + count_by not l.state.present

-- what is kept and held is in the range of the state
pub record IsLiveKept (l : LiveView) : Type 0 where
  pub live : IsLiveState l.state l.rows l.met
  pub counted : CountsChanges l
  pub fresh : IsFresh l.rows l.answers l.held
  pub answers : KeepsFitting (seen (source_now l.state)) l.answers.entries
  pub held : All (FitsRange (seen (source_now l.state))) l.held
