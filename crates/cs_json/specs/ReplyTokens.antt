-- The JSON tokens of a reply, in the order in which they are written.
--
--   data_tokens d                  the tokens of the value d
--   before_hits r, after_hits r    those of the reply r before its hits and behind them
--   facets_in_order facets         each table under its name, in the order of the facets; without facets no members
use Rattle.std.specs.Prelude.{List, [], ◌∷◌, ◌++◌, codes}
use Rattle.json.specs.Token.{Token, begin_object, end_object, key}
use Rattle.json.specs.Tree.{json_tokens}
use Rattle.serde_json.specs.Data.{Data, object, Members, no_members, member}
use Rattle.serde_json.specs.Written.{outline}
use Rattle.cs_model.specs.Replies.{FacetShown, Reply, facet_members, table_data, total_data}

-- the tokens of a value, each integer in decimal; a float, of which a reply has none, would have no text
abbrev pub data_tokens : Data → List Token
data_tokens d = json_tokens (outline d)

-- the tokens of a reply up to the key of its hits; the hits are not looked at
abbrev pub before_hits : Reply → List Token
before_hits r =
    begin_object ∷ (key (codes "completions") ∷ (data_tokens (table_data r.completions)
    ++ key (codes "facets") ∷ (data_tokens (object (facet_members r.facets)) ++ key (codes "hits") ∷ [])))

-- the tokens of a reply behind its hits, from the key of the totals on
abbrev pub after_hits : Reply → List Token
after_hits r = key (codes "total") ∷ (data_tokens (total_data r.total_completions r.total_hits) ++ end_object ∷ [])

-- each table under its name, in the order of the facets; without facets there is no member
abbrev pub facets_in_order : List FacetShown → Members
facets_in_order [] = no_members
facets_in_order (f ∷ fs) = member f.name (table_data f.table) (facets_in_order fs)
