-- The text of a reply whose hits are shown with excerpts: compact JSON, keys in byte order.
--
-- Source: RFC 8259 for JSON; the keys are this engine's own.
--
--   excerpted_data p             the JSON value of a hit with its excerpt
--   excerpted_hits hits xs       that of hits and their excerpts, without hits the empty list
--   excerpted_reply r xs         that of a reply whose hits have these excerpts
--   excerpted_text r xs          its text
--
-- The text is that of the reply, but that H lists {"doc":d,"excerpt":x,"score":s,"title":t}.
use Rattle.std.specs.Prelude.{ℕ, List, map, codes}
use Rattle.std.specs.List.{zip}
use Rattle.serde_json.specs.Data.{Data, array, object, string, number, unsigned, no_members, member}
use Rattle.serde_json.specs.View.{items_of}
use Rattle.serde_json.specs.Written.{compact_text}
use Rattle.cs_model.specs.Replies.{HitShown, Reply, facet_members, table_data, total_data}

-- a hit with its excerpt, which may be the empty text
abbrev pub excerpted_data : HitShown × List ℕ → Data
excerpted_data p =
    object (member (codes "doc") (number (unsigned p.0.doc))
    (member (codes "excerpt") (string p.1)
    (member (codes "score") (number (unsigned p.0.score))
    (member (codes "title") (string p.0.title) no_members))))

-- each hit with the excerpt at its place, of which there are as many; without hits the empty list
abbrev pub excerpted_hits : List HitShown → List (List ℕ) → Data
excerpted_hits hits excerpts = array (items_of (map excerpted_data (zip hits excerpts)))

-- a reply as JSON, all four keys there even where nothing is shown
abbrev pub excerpted_reply : Reply → List (List ℕ) → Data
excerpted_reply r excerpts =
    object (member (codes "completions") (table_data r.completions)
    (member (codes "facets") (object (facet_members r.facets))
    (member (codes "hits") (excerpted_hits r.hits excerpts)
    (member (codes "total") (total_data r.total_completions r.total_hits) no_members))))

-- the text of a reply with excerpts, with no space and no LF outside its strings
unfoldable pub excerpted_text : Reply → List (List ℕ) → List ℕ
excerpted_text r excerpts = compact_text (excerpted_reply r excerpts)
