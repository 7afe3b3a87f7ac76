-- What is kept of a query's answer, and how the answer of a longer query comes from it.
--
-- Source: Bast and Weber, "Type less, find more: fast autocompletion search with a succinct index" (SIGIR 2006), where the
-- result of a query is kept for the queries that go on from it. Base, scores and size are this engine's own.
--
-- Parts are those of a query with their rows, as `parts_of k q` gives them.
--
--   EntryOf R                 a base, and rows within it, each told by an R
--   Entry                     the same with the rows of a corpus
--   scored_hits k ps          the hits of parts with their scores, by document; none where there is no hit
--   base_of k ps              the same as a base, which is All where there is no part
--   ends_positive ps          whether the last part is positive; not so without a part
--   before_typed ps           the parts before a positive last one; all of them where the last one is excluded
--   entry k ps, entry_of k q  what is kept of parts, and of a query: the base of the parts before a positive last one, and the
--                             pairs; of the empty query All and no rows
--   listed_count b            how many documents a base lists; 0 for All
--   kept_entry_size e         the rows and the listed documents of an entry, counted together
--   over b rows               each document of rows, with its score in the base and the greatest score of its rows
--   hits_of positive e        the hits of the query whose entry e is, as a base; positive says whether its last part is
--   listed k b                the documents of a base with their scores; for All each document of the corpus with the score 0
--   is_begun b                whether there is a part before: a base isn't All
--   is_hit hs r               the document of the row r is one of the hits hs
--   without rows hs           those of the hits hs that have no row
--   entry_after begun hs p    the entry of a query and one part more, by whether the query has a part, its hits, and that part
--   nothing_kept              the entry of no part
--   extended k positive e p   the entry of a query and one part more, by the query's own entry
--   kept_steps k ps           the entry of parts, taken one after the other, with whether the last one is positive
--   entry_at ws e             the entry whose rows the posts of e stand for
use Rattle.std.specs.Prelude.{ℕ, ◌+◌, ◌-◌, ◌==◌, Bool, true, false, not, if◌then◌else◌, List, [], ◌∷◌, map, filter, fold, take, length}
use Rattle.std.specs.List.{list_any}
use Rattle.std.specs.FinMap as map
use Rattle.cs_base.specs.declared.content.doc.Base.{Base}
use Rattle.cs_base.specs.declared.content.doc.Base.TheVariants as base
use Rattle.cs_base.specs.declared.content.doc.Post.{Post}
use Rattle.cs_base.specs.declared.content.doc.Row.{Row}
use Rattle.cs_base.specs.declared.content.doc.Scored.{Scored}
use Rattle.cs_base.specs.declared.content.query.Query.{Query}
use Rattle.cs_base.specs.content.Bases.{base_score}
use Rattle.cs_model.specs.Answers.{PartRows, in_doc, row_docs, greatest_score, hits, pairs, parts_of, scored}
use Rattle.cs_model.specs.Corpus.{Corpus}
use Rattle.cs_model_index.specs.Numbered.{rows_at}

-- what is kept of a query: the hits from which its last part goes on, or its own where that part is excluded, and the rows of that
-- part in them, each told by an R; of both there may be none
pub record EntryOf (R : Type 0) : Type 0 where
  pub base : Base
  pub rows : List R

-- an entry with the rows of a corpus, of which there may be none
abbrev pub Entry : Type 0
Entry = EntryOf Row

-- ---- the entry of a query
-- the hits of parts with their scores, by document ascending; of no part each document with the score 0
abbrev pub scored_hits : Corpus → List PartRows → List Scored
scored_hits k ps = map (scored ps) (hits k ps)

-- the hits of parts as a base, which is All exactly where there is no part
abbrev pub base_of : Corpus → List PartRows → Base
base_of k [] = base.All
base_of k (p ∷ ps) = base.Listed (scored_hits k (p ∷ ps))

-- whether the last part is positive, as the one that is being typed mostly is; not so where there is no part
abbrev pub ends_positive : List PartRows → Bool
ends_positive [] = false
ends_positive (p ∷ []) = not p.excluded
ends_positive (p ∷ q ∷ ps) = ends_positive (q ∷ ps)

-- the parts of which a base speaks: those before a positive last one, and all of them where the last one is excluded; of no
-- part none
abbrev pub before_typed : List PartRows → List PartRows
before_typed ps = if ends_positive ps then take (length ps - 1) ps else ps

-- the entry of parts, its rows being their pairs by document, position and word; of no part All and no rows
abbrev pub entry : Corpus → List PartRows → Entry
entry k ps = record { base = base_of k (before_typed ps); rows = pairs k ps }

-- the entry of a query; of the empty query All and no rows
unfoldable pub entry_of : Corpus → Query → Entry
entry_of k q = entry k (parts_of k q)

-- ---- its size
-- how many documents a base lists; All lists none
abbrev pub listed_count : Base → ℕ
listed_count base.All = 0
listed_count (base.Listed hs) = length hs

-- the rows of an entry and the documents that its base lists, counted together; 0 for All and no rows
abbrev pub kept_entry_size : {R : Type 0} → EntryOf R → ℕ
kept_entry_size e = length e.rows + listed_count e.base

-- ---- hits out of an entry
-- the documents of rows by number, each with what the base gives it and the greatest score of its rows; none of no rows
abbrev pub over : Base → List Row → List Scored
over b rows = map (λ d. record { doc = d; score = base_score b d + greatest_score (filter (in_doc d) rows) }) (row_docs rows)

-- the hits of a query out of its entry: its rows over its base where the last part is positive, which may be none, and else the
-- base
abbrev pub hits_of : Bool → Entry → Base
hits_of positive e = if positive then base.Listed (over e.base e.rows) else e.base

-- ---- one part more
-- the documents that a base stands for, with their scores; for All every document of the corpus with the score 0
abbrev pub listed : Corpus → Base → List Scored
listed k base.All = map (λ d. record { doc = d; score = 0 }) (map.keys k.titles)
listed k (base.Listed hs) = hs

-- whether a base is of at least one part; All is of none
abbrev pub is_begun : Base → Bool
is_begun base.All = false
is_begun (base.Listed hs) = true

-- the row is in one of these hits; of none it isn't
abbrev pub is_hit : List Scored → Row → Bool
is_hit hs r = list_any (λ h. h.doc == r.doc) hs

-- the hits in which none of these rows is; all of them where there is no row
abbrev pub without : List Row → List Scored → List Scored
without rows hs = filter (λ h. not (list_any (in_doc h.doc) rows)) hs

-- the entry of a query and one part more, where `begun` says whether the query has a part, and `hs` are its hits with their
-- scores: an excluded part takes hits away and leaves no rows, and a positive one leaves its rows in the hits
abbrev pub entry_after : Bool → List Scored → PartRows → Entry
entry_after begun hs p = if p.excluded then record { base = base.Listed (without p.rows hs); rows = [] } else record { base = if begun then base.Listed hs else base.All; rows = filter (is_hit hs) p.rows }

-- the entry before the first part
abbrev pub nothing_kept : Entry
nothing_kept = record { base = base.All; rows = [] }

-- the entry of a query and one part more out of the query's own entry, where `positive` says whether the query's last part is;
-- it begins with `nothing_kept` and false
abbrev pub extended : Corpus → Bool → Entry → PartRows → Entry
extended k positive e p = entry_after (is_begun (hits_of positive e)) (listed k (hits_of positive e)) p

-- one part after the other, each with whether it is positive and the entry so far; of no part false and `nothing_kept`
abbrev pub kept_steps : Corpus → List PartRows → Bool × Entry
kept_steps k ps = fold (λ (so_far : Bool × Entry) p. (not p.excluded, extended k so_far.0 so_far.1 p)) (false, nothing_kept) ps

-- ---- entries by numbers of words
-- an entry whose rows are told by the numbers of their words, its base told as it is; of no posts it has no rows
abbrev pub entry_at : List (List ℕ) → EntryOf Post → Entry
entry_at ws e = record { base = e.base; rows = rows_at ws e.rows }
