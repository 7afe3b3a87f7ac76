-- The state of an index under changes: documents added behind those of the index, and documents that are gone.
--
-- Source: this engine's own, over `Sources` of cs_rows.
--
--   StateView            an index, the words of it and of what was added, the number of each word of the index among these, which numbers are
--                        those of documents, whether all of the index are there, the rows of added documents that are there in order of place,
--                        the same rows in the order of their words, and the titles of all that were added
--   AreOwnNumbers shift  each word of the index has its own number, as where no words were added
--   rank shift n         how many words of the index have a number below n
--   renumbered shift p   a post of the index with the number that its word has now
--   now_posts shift present posts    posts of the index as they are now, without those of documents that are gone
--   AreByWord held by_word           rows in the order of their words, those of a word as they stand in the first list
--   titles_now present titles        titles at the numbers that are those of documents
--   stock_now s b        what a state has over the bytes of its index
--   source_now s          a state as a source
--   opened_state i       an index before the first change
--   with_title s t       one document more, without rows
--   without_doc s d      the document of a number gone
--   IsState s            what always holds of a state
--   IsFetched i told k shift present lo hi listed posts    what a fetch of a block gives: its posts that are sought, as they are now
--   AreScoredNow shift present docs words scores ..    documents, words and scores of posts as they are now, of those of posts
--   IsScoredNow i told k shift present f    the same of the posts of a block
--   IsTitle i told present added d t     the title of a document of the index or of an added one, and of a number that is none's the empty text
use Rattle.std.specs.Prelude.{◌≡◌, ℕ, ◌+◌, ◌-◌, ◌≤◌, ◌<◌, ◌==◌, ◌&&◌, Bool, true, false, not, nat_le, nat_lt, List, [], ◌∷◌, ◌++◌, length, filter, map, replicate, take}
use Rattle.std.specs.Prelude.{Option, slice_index_or, slice_set, if◌then◌else◌}
use Rattle.std.specs.List.{All, range_with_len}
use Rattle.std.specs.FinMap as map
use Rattle.std.specs.List.Sorted.{IsNonDecreasingBy, IsStrictlySortedBy}
use Rattle.std.specs.Ordering.{nat_cmp}
use Rattle.std.specs.Cmp.Lexicographic.{slice_cmp}
use Rattle.std.specs.Str.{IsUtf8, is_utf8}
use Rattle.cs_base.specs.content.Orders.{AreSorted}
use Rattle.cs_base.specs.declared.content.doc.Post.{Post}
use Rattle.cs_base.specs.declared.content.limits.TheConstants.{MAX_DOCS, MAX_WORDS}
use Rattle.cs_base.specs.declared.content.scores.TheConstants.{MAX_ROW_SCORE}
use Rattle.cs_file.specs.CallAnswers.{AreScoredOf, IsRanged}
use Rattle.cs_file.specs.Indexes.{IndexView, IsIndex, block_posts}
use Rattle.cs_file.specs.declared.fetched.Fetched.{Fetched}
use Rattle.cs_tables.specs.TableListings.{with_word}
use Rattle.cs_tables.specs.WordCounts.{is_chosen}
use Rattle.cs_merge.specs.Vocabularies.{AreOfWordSize, IsShift}
use Rattle.cs_model.specs.Corpus.{by_number}
use Rattle.cs_model_index.specs.Sections.{image_of}
use Rattle.cs_rows.specs.IndexReading.{WhereStood, stock_of}
use Rattle.cs_rows.specs.Sources.{IsIn, SourceView, is_there}
use Rattle.cs_rows.specs.Stocked.{Stock, title_at}

-- a state without changes has all numbers of its index, and no rows and titles
pub record StateView : Type 0 where
  pub index : IndexView
  pub words : List (List ℕ)
  pub shift : List ℕ
  pub present : List Bool
  pub whole : Bool
  pub held : List Post
  pub by_word : List Post
  pub added : List (List ℕ)

-- of no numbers it holds
abbrev pub AreOwnNumbers : List ℕ → Type 0
AreOwnNumbers shift = (n : ℕ) → n < length shift → slice_index_or shift n 0 ≡ n

-- of numbers that ascend; those of the first words are below n, and those of others aren't
abbrev pub rank : List ℕ → ℕ → ℕ
rank [] n = 0
rank (m ∷ ms) n = if nat_lt m n then rank ms n + 1 else 0

-- all else stays
abbrev pub renumbered : List ℕ → Post → Post
renumbered shift p = record { doc = p.doc; word = slice_index_or shift p.word 0; pos = p.pos; score = p.score }

-- in the order in which they were
abbrev pub now_posts : List ℕ → List Bool → List Post → List Post
now_posts shift present posts = map (renumbered shift) (filter (is_there present) posts)

-- the same rows, so that those of a range of words lie together; of no rows it holds
pub record AreByWord (held by_word : List Post) : Type 0 where
  pub ascending : IsNonDecreasingBy (λ p. p.word) by_word
  pub each : (w : ℕ) → with_word w by_word ≡ with_word w held
  pub same : (t : Post → Bool) → length (filter t by_word) ≡ length (filter t held)

-- each in its place in the list; a number that is gone has none
abbrev pub titles_now : List Bool → List (List ℕ) → map.FinMap nat_cmp (List ℕ)
titles_now present titles = map.retain_keys (by_number titles) (λ d. slice_index_or present d false)

-- the titles and the posts of added documents come behind those of the index
abbrev pub stock_now : StateView → List ℕ → Stock
stock_now s b = record {
  titles = titles_now s.present ((image_of b).titles ++ s.added);
  words = s.words;
  posts = now_posts s.shift s.present (stock_of b).posts ++ s.held;
  bytes = b;
}

-- its blocks are those of the index as they are now, and its rows in memory those of added documents by their words
abbrev pub source_now : StateView → SourceView
source_now s = record {
  index = s.index;
  docs = length s.present;
  present = s.present;
  words = s.words;
  held = s.by_word;
  before = rank s.shift;
  stock = stock_now s;
  blocks = λ b. map (now_posts s.shift s.present) (image_of b).blocks;
}

-- all of its documents are there, and none more
abbrev pub opened_state : IndexView → StateView
opened_state i = record {
  index = i;
  words = i.words;
  shift = range_with_len 0 (length i.words);
  present = replicate i.docs true;
  whole = true;
  held = [];
  by_word = [];
  added = [];
}

-- its number is the next one
abbrev pub with_title : StateView → List ℕ → StateView
with_title s t = record s { present = s.present ++ true ∷ []; added = s.added ++ t ∷ [] }

-- its rows in memory go, and those of blocks are left out from then on; its number comes to no other document
abbrev pub without_doc : StateView → ℕ → StateView
without_doc s d = record s {
  present = slice_set s.present d false;
  whole = s.whole && nat_le s.index.docs d;
  held = filter (λ p. not (p.doc == d)) s.held;
  by_word = filter (λ p. not (p.doc == d)) s.by_word;
}

-- whatever store its index was opened over; an added document's number is behind those of the index, and each row in memory is of a document
-- that is there
pub record IsState (s : StateView) : Type 0 where
  pub index : IsIndex s.index
  pub few_docs : length s.present ≤ MAX_DOCS
  pub few_words : length s.words ≤ MAX_WORDS
  pub ascending : IsStrictlySortedBy (slice_cmp nat_cmp) s.words
  pub texts : All IsUtf8 s.words
  pub sized : AreOfWordSize s.words
  pub shift : IsShift s.index.words s.words s.shift
  pub count : length s.present ≡ s.index.docs + length s.added
  pub whole : s.whole ≡ true → (d : ℕ) → d < s.index.docs → slice_index_or s.present d false ≡ true
  pub held : All (IsIn (source_now s)) s.held
  pub held_sorted : AreSorted s.held
  pub held_later : All (λ p. s.index.docs ≤ p.doc) s.held
  pub by_word : AreByWord s.held s.by_word
  pub titles : All (λ t. is_utf8 t ≡ true) s.added

-- ---- what is read
-- over each store they are in range and sought; of one that tells they are all that are read there
pub record IsFetched (i : IndexView) (told : Option (List ℕ)) (k : ℕ) (shift : List ℕ) (present : List Bool) (lo hi : ℕ) (listed : List Bool) (posts : List Post)
    : Type 0 where
  pub read : List Post
  pub ranged : All (IsRanged i) read
  pub sought : All (λ p. is_chosen (rank shift lo) (rank shift hi) (take i.docs listed) p ≡ true) read
  pub stood : WhereStood told i (λ b. read ≡ filter (is_chosen (rank shift lo) (rank shift hi) (take i.docs listed)) (block_posts b k))
  pub now : posts ≡ now_posts shift present read

-- of no posts there are none
abbrev pub AreScoredNow : List ℕ → List Bool → List ℕ → List ℕ → List ℕ → List ℕ → List ℕ → List ℕ → Type 0
AreScoredNow shift present docs words scores now_docs now_words now_scores =
    (posts : List Post) → AreScoredOf posts docs words scores → AreScoredOf (now_posts shift present posts) now_docs now_words now_scores

-- over each store they are in range; of one that tells they are all that are read there
pub record IsScoredNow (i : IndexView) (told : Option (List ℕ)) (k : ℕ) (shift : List ℕ) (present : List Bool) (f : Fetched) : Type 0 where
  pub docs : List ℕ
  pub words : List ℕ
  pub scores : List ℕ
  pub words_even : length words ≡ length docs
  pub scores_even : length scores ≡ length docs
  pub docs_within : All (λ d. d < i.docs) docs
  pub words_within : All (λ w. w < length i.words) words
  pub scores_within : All (λ s. (1 ≤ s) × (s ≤ MAX_ROW_SCORE)) scores
  pub stood : WhereStood told i (λ b. AreScoredOf (block_posts b k) docs words scores)
  pub now : AreScoredNow shift present docs words scores f.docs.items f.words.items f.scores.items

-- that of an added document is kept; none is read of a document that is gone
pub record IsTitle (i : IndexView) (told : Option (List ℕ)) (present : List Bool) (added : List (List ℕ)) (d : ℕ) (t : List ℕ) : Type 0 where
  pub text : is_utf8 t ≡ true
  pub gone : slice_index_or present d false ≡ false → t ≡ []
  pub old : slice_index_or present d false ≡ true → d < i.docs → WhereStood told i (λ b. t ≡ title_at (stock_of b).titles d)
  pub new : slice_index_or present d false ≡ true → i.docs ≤ d → t ≡ slice_index_or added (d - i.docs) []
