-- What a reply says, and its text: compact JSON, keys in byte order.
--
-- Source: RFC 8259 for JSON; the keys are this engine's own.
--
--   shown_word w                     a word as it is shown: that of a facet without its leading colon
--   Shown                            a completion, or a facet's word without its leading colon, with the number of its
--                                    documents
--   HitShown                         a hit with its score and its title
--   FacetShown                       a facet's name with its table
--   Reply                            the completions, facet tables and hits that are shown, and how many there are before any
--                                    cut
--   shown_data s, table_data shown   the JSON value of a word; that of a table, without words the empty list
--   hit_data h, hits_data hits       the JSON value of a hit; that of hits, without hits the empty list
--   facet_members facets             each table under its name; without facets no members
--   total_data n m                   the JSON value of the numbers of completions and of hits
--   reply_data r                     the JSON value of r
--   reply_text r                     its text
--
-- The text of a reply is
--   {"completions":C,"facets":F,"hits":H,"total":{"completions":n,"hits":m}}
-- where C lists {"docs":n,"word":w}, F has a list like C under each name, and H lists {"doc":d,"score":s,"title":t}.
use Rattle.std.specs.Prelude.{ℕ, ◌==◌, if◌then◌else◌, List, [], ◌∷◌, map, fold, codes}
use Rattle.serde_json.specs.Data.{Data, array, object, string, number, unsigned, Members, no_members, member, put}
use Rattle.serde_json.specs.View.{items_of}
use Rattle.serde_json.specs.Written.{compact_text}
use Rattle.cs_base.specs.content.Bytes.{colon}

-- a word as it is shown, that of a facet without its leading colon; the empty text stays empty
abbrev pub shown_word : List ℕ → List ℕ
shown_word [] = []
shown_word (b ∷ bs) = if b == colon then bs else b ∷ bs

-- a word as it is shown, with the number of documents that have it
pub record Shown : Type 0 where
  pub docs : ℕ
  pub word : List ℕ

-- a hit: the document's number from 0, its score, and its title as it stands in the collection, which may be empty
pub record HitShown : Type 0 where
  pub doc : ℕ
  pub score : ℕ
  pub title : List ℕ

-- the table of a facet that was asked, empty where no hit has the facet
pub record FacetShown : Type 0 where
  pub name : List ℕ
  pub table : List Shown

-- what is shown, and the numbers of completions and of hits before any cut
pub record Reply : Type 0 where
  pub completions : List Shown
  pub facets : List FacetShown
  pub hits : List HitShown
  pub total_completions : ℕ
  pub total_hits : ℕ

-- a word and the number of its documents, as JSON
abbrev pub shown_data : Shown → Data
shown_data s = object (member (codes "docs") (number (unsigned s.docs)) (member (codes "word") (string s.word) no_members))

-- a table as the list of its words; without words it is the empty list
abbrev pub table_data : List Shown → Data
table_data shown = array (items_of (map shown_data shown))

-- a hit as JSON
abbrev pub hit_data : HitShown → Data
hit_data h =
    object (member (codes "doc") (number (unsigned h.doc))
    (member (codes "score") (number (unsigned h.score))
    (member (codes "title") (string h.title) no_members)))

-- the hits as a list; without hits it is the empty list
abbrev pub hits_data : List HitShown → Data
hits_data hits = array (items_of (map hit_data hits))

-- each table under its name, in byte order of the names; of two with one name the last stands, and of none there is no member
abbrev pub facet_members : List FacetShown → Members
facet_members facets = fold (λ members f. put f.name (table_data f.table) members) no_members facets

-- the numbers before any cut, as JSON
abbrev pub total_data : ℕ → ℕ → Data
total_data completions hits =
    object (member (codes "completions") (number (unsigned completions)) (member (codes "hits") (number (unsigned hits)) no_members))

-- a reply as JSON, all four keys there even where nothing is shown
abbrev pub reply_data : Reply → Data
reply_data r =
    object (member (codes "completions") (table_data r.completions)
    (member (codes "facets") (object (facet_members r.facets))
    (member (codes "hits") (hits_data r.hits)
    (member (codes "total") (total_data r.total_completions r.total_hits) no_members))))

-- the text of a reply, with no space and no LF outside its strings
unfoldable pub reply_text : Reply → List ℕ
reply_text r = compact_text (reply_data r)
