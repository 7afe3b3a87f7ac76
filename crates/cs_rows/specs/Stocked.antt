-- What is read of an index as a corpus in one order: titles, words, and posts, whose words are numbers.
--
-- Source: this engine's own, over the posts and rows of Numbered of cs_model_index.
--
--   Stock                  titles by document number, words and posts, and the bytes of the index file that they are read of
--   corpus_in s            the corpus of a stock
--   stock_docs s           the numbers of its documents
--   present_docs present   the numbers that are those of documents
--   IsKnown s p            the post's document and word are there
--   IsStocked s            what always holds of what is read of an index
--   IsPicked s posts       posts are some of the stock's, in order
--   HoldsBetween ws test lo hi   the words that pass a test are those from number lo up to hi, hi left out
--   is_between lo hi p     the post's word is one of these
--   named_rows s n         the rows of the facet words of a name
--   linked_posts link a b  the posts of b that are linked to a post of a
--   every ds               documents, each with the score 0
--   base_hits ds base      the documents that a base lists, of the documents ds, with their scores
--   base_docs ds base      their numbers
--   base_posts base posts  the posts of the documents that a base lists
--   named_at ws c          a completion with its word in place of the word's number
--   shown_at ws c          it as it is shown
--   title_at titles d      the title of document d; the empty text where there is none
--   named_rows_in s base n the rows of named_rows s n in the documents of a base
--   facet_at s base cut n  their table as it is shown, at most cut words of it
use Rattle.std.specs.Prelude.{ℕ, ◌≡◌, ◌≤◌, ◌<◌, ◌&&◌, Bool, true, false, nat_le, nat_lt, List, [], map, filter, take, length, slice_index_or}
use Rattle.std.specs.List.{All, Contains, range_with_len}
use Rattle.std.specs.Option.{unwrap_or}
use Rattle.std.specs.FinMap as map
use Rattle.std.specs.List.Sorted.{IsStrictlySortedBy}
use Rattle.std.specs.Ordering.{nat_cmp}
use Rattle.std.specs.Cmp.Lexicographic.{slice_cmp}
use Rattle.std.specs.Str.{IsUtf8}
use Rattle.cs_base.specs.declared.content.doc.Base.{Base}
use Rattle.cs_base.specs.declared.content.doc.Base.TheVariants as base
use Rattle.cs_base.specs.declared.content.doc.Post.{Post}
use Rattle.cs_base.specs.declared.content.doc.Row.{Row}
use Rattle.cs_base.specs.declared.content.doc.Scored.{Scored}
use Rattle.cs_base.specs.declared.content.query.Link.{Link}
use Rattle.cs_base.specs.declared.content.query.Link.TheVariants.{Phrase, Near}
use Rattle.cs_base.specs.content.Orders.{AreSorted}
use Rattle.cs_base.specs.declared.content.limits.TheConstants.{MAX_WORDS}
use Rattle.cs_base.specs.declared.content.scores.TheConstants.{MAX_ROW_SCORE}
use Rattle.cs_meet.specs.Filters.{follow, keep_docs, near}
use Rattle.cs_model.specs.Answers.{Completion, begins, is_listed, table_of}
use Rattle.cs_model.specs.Collection.{named}
use Rattle.cs_model.specs.Corpus.{Corpus}
use Rattle.cs_model.specs.Replies.{Shown, FacetShown}
use Rattle.cs_model.specs.Requests.{shown_of}
use Rattle.cs_model_index.specs.Numbered.{word_at, rows_at}
use Rattle.cs_tables.specs.declared.tables.Completion.{Completion as Numbered}

-- there may be no title, and numbers without one between others; the word of number 0 comes first
pub record Stock : Type 0 where
  pub titles : map.FinMap nat_cmp (List ℕ)
  pub words : List (List ℕ)
  pub posts : List Post
  pub bytes : List ℕ

-- what a query is asked over; of no posts it has no row
abbrev pub corpus_in : Stock → Corpus
corpus_in s = record { titles = s.titles; rows = rows_at s.words s.posts }

-- ascending; those that have a title
abbrev pub stock_docs : Stock → List ℕ
stock_docs s = map.keys s.titles

-- ascending; where each number is one, all from 0 on
abbrev pub present_docs : List Bool → List ℕ
present_docs present = filter (λ d. slice_index_or present d false) (range_with_len 0 (length present))

-- ---- what is read
-- its document has a title, its word is in the vocabulary, and its score is one that a row may have
pub record IsKnown (s : Stock) (p : Post) : Type 0 where
  pub doc : map.contains_key s.titles p.doc ≡ true
  pub word : p.word < length s.words
  pub score_from : 1 ≤ p.score
  pub score_to : p.score ≤ MAX_ROW_SCORE

-- words ascend and are texts, and there aren't too many; posts ascend and are known
pub record IsStocked (s : Stock) : Type 0 where
  pub words : IsStrictlySortedBy (slice_cmp nat_cmp) s.words
  pub few_words : length s.words ≤ MAX_WORDS
  pub texts : All IsUtf8 s.words
  pub sorted : AreSorted s.posts
  pub known : All (IsKnown s) s.posts

-- each of them is one of the stock's, once
pub record IsPicked (s : Stock) (posts : List Post) : Type 0 where
  pub sorted : AreSorted posts
  pub among : All (Contains s.posts) posts

-- ---- words
-- none where lo is hi or more
abbrev pub is_between : ℕ → ℕ → Post → Bool
is_between lo hi p = nat_le lo p.word && nat_lt p.word hi

-- where no word passes, lo is hi or more
abbrev pub HoldsBetween : List (List ℕ) → (List ℕ → Bool) → ℕ → ℕ → Type 0
HoldsBetween ws test lo hi = (n : ℕ) → n < length ws → test (word_at ws n) ≡ (nat_le lo n && nat_lt n hi)

-- the words that begin with a colon, the name and a colon
abbrev pub named_rows : Stock → List ℕ → List Row
named_rows s n = filter (λ r. begins (named n []) r.word) (rows_at s.words s.posts)

-- ---- links
-- as filters of posts; by their rows they are `linked_to`
abbrev pub linked_posts : Link → List Post → List Post → List Post
linked_posts Phrase a b = follow a b
linked_posts Near a b = near a b

-- ---- hits
-- in their order
abbrev pub every : List ℕ → List Scored
every ds = map (λ d. record { doc = d; score = 0 }) ds

-- a base that stands for all lists every document, with the score 0
abbrev pub base_hits : List ℕ → Base → List Scored
base_hits ds base.All = every ds
base_hits ds (base.Listed hs) = hs

-- in the order of the base
abbrev pub base_docs : List ℕ → Base → List ℕ
base_docs ds b = map (λ h. h.doc) (base_hits ds b)

-- of a base that stands for all they are all
abbrev pub base_posts : Base → List Post → List Post
base_posts base.All posts = posts
base_posts (base.Listed hs) posts = keep_docs posts (map (λ h. h.doc) hs)

-- ---- tables
-- its count stays
abbrev pub named_at : List (List ℕ) → Numbered → Completion
named_at ws c = record { docs = c.docs; word = word_at ws c.word }

-- without the leading colon of a facet word
abbrev pub shown_at : List (List ℕ) → Numbered → Shown
shown_at ws c = shown_of (named_at ws c)

-- as a hit is shown with it
abbrev pub title_at : map.FinMap nat_cmp (List ℕ) → ℕ → List ℕ
title_at titles d = unwrap_or (map.get titles d) []

-- in order; none where no document of the base has the facet
abbrev pub named_rows_in : Stock → Base → List ℕ → List Row
named_rows_in s b n = filter (λ r. is_listed (base_docs (stock_docs s) b) r.doc) (named_rows s n)

-- a facet that is asked is shown, also with no word
abbrev pub facet_at : Stock → Base → ℕ → List ℕ → FacetShown
facet_at s b cut n = record { name = n; table = map shown_of (take cut (table_of (named_rows_in s b n))) }
