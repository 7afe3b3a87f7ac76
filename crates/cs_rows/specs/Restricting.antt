-- The rows of a part in some documents.
--
-- Source: this engine's own.
--
--   rows_where t rows      those of rows whose document passes
--   restricted t l         the same of a linked atom
--   LinksStayWithin        links lead from rows in some documents to rows in these
--   ChainsStayWithin       and so do chains
--   UnionsStayWithin       alternatives have in them what each of them has there
use Rattle.std.specs.Prelude.{◌≡◌, ℕ, Bool, List, map, filter}
use Rattle.cs_base.specs.declared.content.doc.Row.{Row}
use Rattle.cs_base.specs.declared.content.query.Link.{Link}
use Rattle.cs_model.specs.Answers.{LinkedRows, chained, linked_to, union_of}

-- in their order
abbrev pub rows_where : (ℕ → Bool) → List Row → List Row
rows_where t rows = filter (λ r. t r.doc) rows

-- its link stays
abbrev pub restricted : (ℕ → Bool) → LinkedRows → LinkedRows
restricted t l = record { link = l.link; rows = rows_where t l.rows }

-- since a link stays within one document
abbrev pub LinksStayWithin : Type 0
LinksStayWithin = (t : ℕ → Bool) (link : Link) (x rows : List Row) → rows_where t (linked_to link x rows) ≡ linked_to link (rows_where t x) (rows_where t rows)

-- whatever the links are
abbrev pub ChainsStayWithin : Type 0
ChainsStayWithin = (t : ℕ → Bool) (x : List Row) (ls : List LinkedRows) → rows_where t (chained x ls) ≡ chained (rows_where t x) (map (restricted t) ls)

-- of no alternative none
abbrev pub UnionsStayWithin : Type 0
UnionsStayWithin = (t : ℕ → Bool) (chains : List (List Row)) → rows_where t (union_of chains) ≡ union_of (map (rows_where t) chains)
