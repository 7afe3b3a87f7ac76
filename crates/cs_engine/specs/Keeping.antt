-- What an engine keeps of answers: what always holds of it, what it is where the store tells the index's own bytes, and what a
-- request leaves of it.
--
-- Source: this engine's own, over `KeptList` of cs_model_kept.
--
--   EngineView                an opened index, what is kept of answers, and the ranges of words that are held
--   engine_with i a h         an engine of this index, with these answers kept and these ranges held
--   FitsQuery i q e           an entry is in the range of an index, as that of the query q is
--   IsKeptEntry i e           the key of e is that of a query of the grammar, whose entry fits the index i
--   KeepsFitting i held       each entry does
--   FitsIndex e               each entry that an engine keeps, and each range that it holds, is in the range of its index
--   IsPlanned i held q keys p      p is the plan for the keys of a query by what is kept, each entry of which fits the index i
--   IsEntryOver k i q e       of the corpus k an entry is that of the query q
--   HoldsGood k i held        of it each kept entry is that of its key's own query
--   AreGoodFor k s e          of a corpus and a stock an engine keeps under each key the entry of the key's own query, and holds of each range
--                             what the stock has of it
--   AreGood b e               the same over the bytes b of its index
--   note_plan q a             the plan by which a query is answered from what is kept
--   became p o                what becomes of a query's own entry behind the plan p; of None, which was kept before or is too large
--   entries_behind a keys p o         the entries that a reply by the plan p leaves, where o is the query's own entry, if it wasn't kept before
--   WasHad n                  an answer was kept before exactly where the plan is Same
--   fronted q a               the entries that a query leaves where its own isn't kept
--   IsKeptBehind i q n old new      what is kept after a reply: what was used in front, and before it the query's own entry where it is kept
--   IsLeftBehind q old new    what is kept after a refusal: the same entries, the used one maybe in front
--   KeepsAnswers i q old r new       the one or the other
--   wants_memory a            an answer is a refusal for want of memory
--   IsHeldBehind a h          the ranges that are held behind an answer are within the bound, and none where memory is wanted
--   IsAfterFor k q old r new  what is kept after a reply, of a corpus
--   IsAfter b q old r new     the same over the bytes of the index
--   AnswersRight k s r old a new    the reply is that of the corpus, what is kept after it is so, and the engine is good
use Rattle.std.specs.Prelude.{◌≡◌, ◌⊎◌, ℕ, Bool, true, false, List, [], ◌∷◌, ◌≤◌, length, take, Option, Some, None, IfOk, Result, Ok, Err, if◌then◌else◌}
use Rattle.std.specs.List.{All}
use Rattle.cs_base.specs.declared.content.doc.Post.{Post}
use Rattle.cs_base.specs.declared.content.key.Keys.{Keys}
use Rattle.cs_base.specs.declared.content.query.Query.{Query, out-Query}
use Rattle.cs_base.specs.declared.index.plan.Kept.{Kept}
use Rattle.cs_base.specs.declared.index.plan.Kept.TheVariants as kept
use Rattle.cs_base.specs.declared.index.plan.Plan.{Plan}
use Rattle.cs_base.specs.declared.index.plan.Plan.TheVariants as plan
use Rattle.cs_cache.specs.AnswerList.{AnswerList}
use Rattle.cs_file.specs.Indexes.{IndexView}
use Rattle.cs_model.specs.Canonical.{canonical}
use Rattle.cs_model.specs.Corpus.{Corpus}
use Rattle.cs_model.specs.Keys.{keys_of}
use Rattle.cs_model.specs.Refusals.{IsOfGrammar}
use Rattle.cs_model.specs.Replies.{Reply}
use Rattle.cs_model.specs.Requests.{Request, reply_of}
use Rattle.cs_model_index.specs.Sections.{file_corpus}
use Rattle.cs_model_kept.specs.Entries.{EntryOf, entry_at, entry_of}
use Rattle.cs_model_kept.specs.KeptList.{KeptOf, GoodFor, after, kept_at, kept_by, kept_fresh, plan_by, put_in_front, to_front, used_key, is_same}
use Rattle.cs_engine.specs.HeldRanges.{AreHeldOver, FitsRange, range_bytes}
use Rattle.cs_rows.specs.IndexReading.{stock_of}
use Rattle.cs_rows.specs.Steps.{EntryFits, last_is_positive}
use Rattle.cs_rows.specs.Stocked.{Stock}
use Rattle.cs_file.specs.declared.fault.FetchFault.{FetchFault}
use Rattle.cs_file.specs.declared.fault.FetchFault.TheVariants as fetches
use Rattle.cs_engine.specs.declared.held.HeldRange.{HeldRange}
use Rattle.cs_engine.specs.declared.held.TheConstants.{MAX_HELD_BYTES}
use Rattle.cs_engine.specs.declared.note.Note.{Note}

-- an index that was opened, the kept entries with how many there may be, and ranges of words with what is held of them, the last used
-- first; an engine begins with none
pub record EngineView : Type 0 where
  pub index : IndexView
  pub answers : AnswerList
  pub held : List HeldRange

-- as it is seen
abbrev pub engine_with : IndexView → AnswerList → List HeldRange → EngineView
engine_with i a h = record { index = i; answers = a; held = h }

-- ---- over each store
-- its posts and its base are within the index, and its scores are those of so many parts
abbrev pub FitsQuery : IndexView → Query → EntryOf Post → Type 0
FitsQuery i q e = EntryFits i (last_is_positive q) (length (out-Query q).parts) e

-- the key is that of a query of the grammar, and the entry's rows and base are in the range of the index, as an entry of that
-- query's parts is
pub record IsKeptEntry (i : IndexView) (e : List ℕ × EntryOf Post) : Type 0 where
  pub query : Query
  pub of_grammar : IsOfGrammar query
  pub key : e.0 ≡ canonical query
  pub fits : EntryFits i (last_is_positive query) (length (out-Query query).parts) e.1

-- of no entry it holds
abbrev pub KeepsFitting : IndexView → KeptOf (EntryOf Post) → Type 0
KeepsFitting i held = All (IsKeptEntry i) held

-- an engine that keeps and holds nothing fits any index
abbrev pub FitsIndex : EngineView → Type 0
FitsIndex e = KeepsFitting e.index e.answers.entries × All (FitsRange e.index) e.held

-- Fresh where nothing is kept
pub record IsPlanned (i : IndexView) (held : KeptOf (EntryOf Post)) (q : Query) (keys : Keys) (p : Plan) : Type 0 where
  pub of_query : keys ≡ keys_of q
  pub by_kept : p ≡ plan_by held keys
  pub fit : KeepsFitting i held

-- the plan by the keys of the query; Fresh where nothing is kept
abbrev pub note_plan : Query → AnswerList → Plan
note_plan q a = plan_by a.entries (keys_of q)

-- an entry that wasn't kept before is kept now, unless it is too large; of one that isn't there the plan says which it was
abbrev pub became : Plan → Option (EntryOf Post) → Kept
became p None = if is_same p then kept.Had else kept.TooLarge
became p (Some e) = kept_fresh e

-- the used entry comes to the front, and the query's own before that where it is kept
abbrev pub entries_behind : AnswerList → Keys → Plan → Option (EntryOf Post) → KeptOf (EntryOf Post)
entries_behind a keys by_plan None = to_front a.entries (used_key keys by_plan)
entries_behind a keys by_plan (Some e) = put_in_front a.capacity (kept_fresh e) (keys.same, e) (to_front a.entries (used_key keys by_plan))

-- an answer that was used for its own query isn't kept a second time, and each other one is kept or too large
abbrev pub WasHad : Note → Type 0
WasHad n = (n.plan ≡ plan.Same → n.kept ≡ kept.Had) × (n.kept ≡ kept.Had → n.plan ≡ plan.Same)

-- the entries that a query leaves where its own isn't kept: the used one in front
abbrev pub fronted : Query → AnswerList → KeptOf (EntryOf Post)
fronted q a = to_front a.entries (used_key (keys_of q) (note_plan q a))

-- the used entry comes to the front, and where the query's own is kept now it stands before that, the last one going where there
-- are too many; over a store that doesn't tell, its own may be any that fits
abbrev pub IsKeptBehind : IndexView → Query → Kept → AnswerList → AnswerList → Type 0
IsKeptBehind i q kept.Kept old new = (e : EntryOf Post) × IsKeptEntry i (canonical q, e) × (new.entries ≡ take old.capacity ((canonical q, e) ∷ fronted q old))
IsKeptBehind i q kept.Had old new = new.entries ≡ fronted q old
IsKeptBehind i q kept.TooLarge old new = new.entries ≡ fronted q old

-- the same entries in the same order, or the used one in front
abbrev pub IsLeftBehind : Query → AnswerList → AnswerList → Type 0
IsLeftBehind q old new = (new.entries ≡ old.entries) ⊎ (new.entries ≡ fronted q old)

-- after a reply, and after a refusal; how many there may be stays
abbrev pub KeepsAnswers : IndexView → Query → AnswerList → Result (Reply × Note) FetchFault → AnswerList → Type 0
KeepsAnswers i q old (Ok r) new = (new.capacity ≡ old.capacity) × (r.1.plan ≡ note_plan q old) × WasHad r.1 × IsKeptBehind i q r.1.kept old new
KeepsAnswers i q old (Err e) new = (new.capacity ≡ old.capacity) × IsLeftBehind q old new

-- no other refusal is
abbrev pub wants_memory : {T : Type 0} → Result T FetchFault → Bool
wants_memory (Ok x) = false
wants_memory (Err fetches.Memory) = true
wants_memory (Err fetches.Read) = false
wants_memory (Err (fetches.Changed rule at)) = false

-- of any other answer the bound alone is said
abbrev pub IsHeldBehind : {T : Type 0} → Result T FetchFault → List HeldRange → Type 0
IsHeldBehind a held = (range_bytes held ≤ MAX_HELD_BYTES) × (a ≡ Err fetches.Memory → held ≡ [])

-- ---- of a corpus
-- with its rows told by the words of the index
abbrev pub IsEntryOver : Corpus → IndexView → Query → EntryOf Post → Type 0
IsEntryOver k i q e = entry_at i.words e ≡ entry_of k q

-- no entries are good
abbrev pub HoldsGood : Corpus → IndexView → KeptOf (EntryOf Post) → Type 0
HoldsGood k i held = GoodFor k (kept_at i.words held)

-- an engine that keeps and holds nothing is good
pub record AreGoodFor (k : Corpus) (s : Stock) (e : EngineView) : Type 0 where
  pub kept : HoldsGood k e.index e.answers.entries
  pub held : AreHeldOver s e.held

-- under each key stands the entry of the key's own query over the corpus of the bytes, and what is held of ranges of words is that of
-- the bytes
abbrev pub AreGood : List ℕ → EngineView → Type 0
AreGood b e = AreGoodFor (file_corpus b) (stock_of b) e

-- the entries of the corpus are those that a query leaves, its own kept unless it is too large; nothing is said of a refusal
abbrev pub IsAfterFor : Corpus → Query → EngineView → Result (Reply × Note) FetchFault → EngineView → Type 0
IsAfterFor k q old (Ok r) new =
    (r.1.kept ≡ kept_by r.1.plan (entry_of k q))
    × (kept_at new.index.words new.answers.entries ≡ after (kept_at old.index.words old.answers.entries) old.answers.capacity q r.1.kept k)
IsAfterFor k q old (Err e) new = Unit {0}

-- the same of the corpus of the bytes
abbrev pub IsAfter : List ℕ → Query → EngineView → Result (Reply × Note) FetchFault → EngineView → Type 0
IsAfter b q old r new = IsAfterFor (file_corpus b) q old r new

-- the same of a refusal, which has no reply
pub record AnswersRight (k : Corpus) (s : Stock) (r : Request) (old : EngineView) (a : Result (Reply × Note) FetchFault) (new : EngineView) : Type 0 where
  pub reply : IfOk a (λ x. x.0 ≡ reply_of k r)
  pub good : AreGoodFor k s new
  pub after : IsAfterFor k r.query old a new
