-- What holds of entries, over each corpus.
--
-- Source: none of its own; these are laws about Entries.
--
--   followed q p        the query q with the part p behind its last one
--   has_part q          the query has a part
--   HitsAreOver         a query's entry has its hits: its rows over its base, or its base
--   BasesListHits       as a base, the hits of parts are listed as they are
--   EntriesExtend       the entry of a query and one part more, by the query's hits and that part's rows
--   EntriesAreSteps     the entry of parts is what one step for each of them gives
--   EntriesNarrow       the entry of a query out of that of a query with a shorter prefix
use Rattle.std.specs.Prelude.{◌≡◌, ℕ, Bool, nat_lt, List, [], ◌∷◌, ◌++◌, filter, length, Some}
use Rattle.std.specs.List.{Contains}
use Rattle.std.specs.Str.{IsUtf8}
use Rattle.cs_base.specs.declared.content.query.Query.{Query, roll-Query, out-Query}
use Rattle.cs_base.specs.declared.content.query.Part.{Part}
use Rattle.cs_model.specs.Answers.{PartRows, begins, parts_of, rows_of_part}
use Rattle.cs_model.specs.Corpus.{Corpus}
use Rattle.cs_model.specs.Keys.{last_prefix, shorter_words, with_prefix}
use Rattle.cs_model_kept.specs.Entries.{base_of, ends_positive, entry, entry_after, entry_of, extended, hits_of, listed, scored_hits, kept_steps}

-- a query with one part more behind its last one; of the empty query the query of that part alone
abbrev pub followed : Query → Part → Query
followed q p = roll-Query (record { parts = (out-Query q).parts ++ p ∷ [] })

-- whether a query has a part; the empty one has none
abbrev pub has_part : Query → Bool
has_part q = nat_lt 0 (length (out-Query q).parts)

-- the hits out of the entry are those of the parts, by both ways: the last part may be positive or not, and there may be none
abbrev pub HitsAreOver : Type 0
HitsAreOver = (k : Corpus) (ps : List PartRows) → hits_of (ends_positive ps) (entry k ps) ≡ base_of k ps

-- All stands for every document with the score 0, as the hits of no part are
abbrev pub BasesListHits : Type 0
BasesListHits = (k : Corpus) (ps : List PartRows) → listed k (base_of k ps) ≡ scored_hits k ps

-- nothing else of the query is needed than whether it has a part, and its hits with their scores, and of the part whether it is
-- excluded, and its rows
abbrev pub EntriesExtend : Type 0
EntriesExtend = (k : Corpus) (q : Query) (p : Part) → entry_of k (followed q p) ≡ entry_after (has_part q) (scored_hits k (parts_of k q)) (rows_of_part k p)

-- so the entry of parts with one more behind them comes from their own, and that of a query from nothing, one part after the
-- other
abbrev pub EntriesAreSteps : Type 0
EntriesAreSteps = (k : Corpus) (ps : List PartRows)
    → ((p : PartRows) → entry k (ps ++ p ∷ []) ≡ extended k (ends_positive ps) (entry k ps) p)
    × (kept_steps k ps ≡ (ends_positive ps, entry k ps))

-- where the prefix p is being typed, which is a text, and w is a word that p may have been before, the entry of the query has those
-- rows of the entry with w in that place whose word begins with p, and the same base
abbrev pub EntriesNarrow : Type 0
EntriesNarrow = (k : Corpus) (q : Query) (p w : List ℕ) → last_prefix q ≡ Some p → IsUtf8 p → Contains (shorter_words p) w
    → ((entry_of k q).rows ≡ filter (λ r. begins p r.word) (entry_of k (with_prefix w q)).rows)
    × ((entry_of k q).base ≡ (entry_of k (with_prefix w q)).base)
