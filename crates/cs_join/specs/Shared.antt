-- Joins over posts. A join is that of Bast and Weber (CIDR 2007): it asks for the words that the hits of an inner
-- query have.
--
--   is_shared_by hits r o    o is in one of the documents hits, and has the word of r
--   shares_word hits rows r  some row does so; in no document none does
--   shared rows hits         the rows whose word is also the word of a row in one of the documents hits
use Rattle.std.specs.Prelude.{ℕ, Bool, ◌&&◌, ◌==◌, List, filter}
use Rattle.std.specs.List.{list_any}
use Rattle.cs_base.specs.declared.content.doc.Post.{Post}
use Rattle.cs_meet.specs.Filters.{is_of_doc}

-- o has the word of r, and its document is one of hits; never where there is no hit
abbrev pub is_shared_by : List ℕ → Post → Post → Bool
is_shared_by hits r o = (o.word == r.word) && list_any (is_of_doc o) hits

-- a row in one of the documents hits has the word of r; a row in such a document shares its word with itself
abbrev pub shares_word : List ℕ → List Post → Post → Bool
shares_word hits rows r = list_any (is_shared_by hits r) rows

-- the rows that share their word so, in their order, whatever document they are in; none where there is no hit
abbrev pub shared : List Post → List ℕ → List Post
shared rows hits = filter (shares_word hits rows) rows
