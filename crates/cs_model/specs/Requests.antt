-- What a request asks, and the reply that a corpus gives to it.
--
-- Source: this engine's own.
--
--   Request                  the query; how many hits are shown; how many completions, and words of each facet table, are
--                            shown; how many hits are left out in front; the names of the facets asked
--   by_default q             what a query asks alone: the defaults, no hit left out in front, and no facet
--   shown_of c               a completion as it is shown
--   hit_shown k h            a hit with its title; the empty text where the corpus has no such document
--   facet_shown k ps cut n   the table of the facet n, cut to so many words
--   reply_to k ps r          the reply to a request whose parts have these rows: each list is ordered whole, counted, and
--                            then cut
--   reply_of k r             the reply to a request over a corpus; over the empty corpus its lists are empty, and its tables
--                            too
use Rattle.std.specs.Prelude.{ℕ, List, [], map, length, take, drop}
use Rattle.std.specs.Option.{unwrap_or}
use Rattle.std.specs.FinMap as map
use Rattle.cs_base.specs.declared.content.limits.TheConstants.{DEFAULT_HITS, DEFAULT_COMPLETIONS}
use Rattle.cs_base.specs.declared.content.query.Query.{Query}
use Rattle.cs_base.specs.declared.content.doc.Scored.{Scored}
use Rattle.cs_model.specs.Corpus.{Corpus}
use Rattle.cs_model.specs.Answers.{Completion, PartRows, parts_of, hits, ranked, table, facet_table}
use Rattle.cs_model.specs.Replies.{Reply, Shown, HitShown, FacetShown, shown_word}

-- what is asked; the query may be the empty one, each number 0, and no facet need be named
pub record Request : Type 0 where
  pub query : Query
  pub hits : ℕ
  pub completions : ℕ
  pub offset : ℕ
  pub facets : List (List ℕ)

-- what a query asks where nothing else is said, the empty query too
abbrev pub by_default : Query → Request
by_default q = record { query = q; hits = DEFAULT_HITS; completions = DEFAULT_COMPLETIONS; offset = 0; facets = [] }

-- ---- replies
-- a completion as it is shown, a facet's word without its leading colon
abbrev pub shown_of : Completion → Shown
shown_of c = record { docs = c.docs; word = shown_word c.word }

-- a hit with its title; the empty text where the corpus has no such document
abbrev pub hit_shown : Corpus → Scored → HitShown
hit_shown k h = record { doc = h.doc; score = h.score; title = unwrap_or (map.get k.titles h.doc) [] }

-- the first words of a facet's table under the facet's name; none where no hit has the facet, or `cut` is 0
abbrev pub facet_shown : Corpus → List PartRows → ℕ → List ℕ → FacetShown
facet_shown k ps cut n = record { name = n; table = map shown_of (take cut (facet_table k ps n)) }

-- the reply to a request whose parts are read already; without a part every document is a hit, and no completion is there
abbrev pub reply_to : Corpus → List PartRows → Request → Reply
reply_to k ps r = record {
  completions = map shown_of (take r.completions (table k ps));
  facets = map (facet_shown k ps r.completions) r.facets;
  hits = map (hit_shown k) (take r.hits (drop r.offset (ranked k ps)));
  total_completions = length (table k ps);
  total_hits = length (hits k ps);
}

-- the reply to a request over a corpus; without documents each of its lists is empty, but for the names of the facets asked
unfoldable pub reply_of : Corpus → Request → Reply
reply_of k r = reply_to k (parts_of k r.query) r
