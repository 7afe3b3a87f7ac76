-- Entries over the posts of an index, part by part.
--
-- Source: this engine's own.
--
--   entry_with b posts              the entry of this base and these posts
--   posts_hits positive b posts     the hits of an entry of this base and these posts; positive says whether the last part is
--   posts_after ds hits excluded posts  the entry behind one part more, whose posts these are, over the documents ds
--   with_no_score d                 the document d with the score 0
--   docs_after ds hits excluded posts   the documents of hits behind one part more, whose posts these are, over the documents ds
--   IsHitOf docs bound h            a hit's document is in range, and its score not above the bound
--   IsBaseOf docs bound b           a base's documents ascend and are in range, and no score of it is above the bound
--   most positive n                 the greatest score of a base of an entry of n parts
--   is_in_base b p                  a base lists the document of the post p
--   EntryFits i positive n e        an entry of n parts is in the range of an index
--   end_positive ps                 whether the last one of these parts is positive
--   last_is_positive q              whether the last part of a query is positive
--   AreFound s q hits posts         the hits of the query q, and posts that stand for its pairs
--   IsStep s hits p e               e is the entry of a query of these hits and of the part p
--   AreHitsOver s q hits            over a stock the hits of the query q
use Rattle.std.specs.Prelude.{◌≡◌, ℕ, ◌-◌, ◌*◌, ◌≤◌, ◌<◌, Bool, true, false, not, ◌==◌, List, [], map, fold, if◌then◌else◌}
use Rattle.std.specs.List.{All, list_any}
use Rattle.cs_base.specs.content.Orders.{AreByDoc, docs_of}
use Rattle.cs_base.specs.declared.content.doc.Base.{Base}
use Rattle.cs_base.specs.declared.content.doc.Base.TheVariants as base
use Rattle.cs_base.specs.declared.content.doc.Post.{Post}
use Rattle.cs_base.specs.declared.content.doc.Scored.{Scored}
use Rattle.cs_base.specs.declared.content.query.Query.{Query, out-Query}
use Rattle.cs_base.specs.declared.content.query.Part.{Part, out-Part}
use Rattle.cs_base.specs.declared.content.scores.TheConstants.{MAX_ROW_SCORE}
use Rattle.cs_file.specs.Indexes.{IndexView}
use Rattle.cs_meet.specs.Filters.{drop_docs}
use Rattle.cs_model.specs.Answers.{PartRows, pairs, parts_of}
use Rattle.cs_model_kept.specs.Entries.{EntryOf, base_of, entry_at, entry_after, is_begun}
use Rattle.cs_model_kept.specs.Entries as kept
use Rattle.cs_rank.specs.DocScores.{doc_scores}
use Rattle.cs_rows.specs.IndexReading.{AreWithin}
use Rattle.cs_model_index.specs.Numbered.{rows_at}
use Rattle.cs_rows.specs.Stocked.{Stock, base_hits, corpus_in, base_posts}

-- as it stands; of no posts it has no rows
abbrev pub entry_with : Base → List Post → EntryOf Post
entry_with b posts = record { base = b; rows = posts }

-- its posts over its base where the last part is positive, and else the base
abbrev pub posts_hits : Bool → Base → List Post → Base
posts_hits positive b posts = if positive then base.Listed (doc_scores b posts) else b

-- an excluded part takes hits away and leaves no posts, and a positive one leaves its posts in the hits
abbrev pub posts_after : List ℕ → Base → Bool → List Post → EntryOf Post
posts_after ds hits excluded posts = if excluded then record { base = base.Listed (drop_docs (base_hits ds hits) posts); rows = [] }
    else record { base = hits; rows = base_posts hits posts }

-- as of a query without a positive part
abbrev pub with_no_score : ℕ → Scored
with_no_score d = record { doc = d; score = 0 }

-- those without a post where the part is excluded, and those with one where it isn't
abbrev pub docs_after : List ℕ → Base → Bool → List Post → List ℕ
docs_after ds hits excluded posts = if excluded then map (λ h. h.doc) (drop_docs (base_hits ds hits) posts) else docs_of (base_posts hits posts)

-- the document is below docs, and the score at most the bound
pub record IsHitOf (docs bound : ℕ) (h : Scored) : Type 0 where
  pub doc : h.doc < docs
  pub score : h.score ≤ bound

-- All is, whatever the bound
abbrev pub IsBaseOf : ℕ → ℕ → Base → Type 0
IsBaseOf docs bound base.All = Unit {0}
IsBaseOf docs bound (base.Listed hs) = AreByDoc hs × All (IsHitOf docs bound) hs

-- a positive last part doesn't count; of no part 0
abbrev pub most : Bool → ℕ → ℕ
most positive n = MAX_ROW_SCORE * (if positive then n - 1 else n)

-- a base that stands for all has each document
abbrev pub is_in_base : Base → Post → Bool
is_in_base base.All p = true
is_in_base (base.Listed hs) p = list_any (λ h. h.doc == p.doc) hs

-- over each store: rows in order and in range, each in a document of the base, and a base in order and in range
pub record EntryFits (i : IndexView) (positive : Bool) (n : ℕ) (e : EntryOf Post) : Type 0 where
  pub parts : positive ≡ true → 1 ≤ n
  pub rows : AreWithin i e.rows
  pub base : IsBaseOf i.docs (most positive n) e.base
  pub in_base : All (λ p. is_in_base e.base p ≡ true) e.rows

-- not so without a part
abbrev pub end_positive : List Part → Bool
end_positive ps = fold (λ before p. not (out-Part p).excluded) false ps

-- not so of the empty query
abbrev pub last_is_positive : Query → Bool
last_is_positive q = end_positive (out-Query q).parts

-- the posts of the entry stand for the rows that the part leaves
abbrev pub IsStep : Stock → Base → PartRows → EntryOf Post → Type 0
IsStep s hits p e = entry_at s.words e ≡ entry_after (is_begun hits) (kept.listed (corpus_in s) hits) p

-- of a query without a part all documents are hits, and there are no posts
pub record AreFound (s : Stock) (q : Query) (hits : Base) (posts : List Post) : Type 0 where
  pub base : hits ≡ base_of (corpus_in s) (parts_of (corpus_in s) q)
  pub rows : rows_at s.words posts ≡ pairs (corpus_in s) (parts_of (corpus_in s) q)

-- with their scores; All of a query without a part
abbrev pub AreHitsOver : Stock → Query → Base → Type 0
AreHitsOver s q hits = hits ≡ base_of (corpus_in s) (parts_of (corpus_in s) q)
