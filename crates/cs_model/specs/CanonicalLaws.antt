-- What holds of canonical texts, for the queries of the grammar.
--
-- Source: none of its own; these are laws about Canonical, Grammar and Refusals.
--
--   AreReadAgain   the canonical text is accepted, and read as the query again
--   AreDifferent   different queries have different canonical texts
--   AreShort       it has at most `MAX_QUERY_BYTES` bytes
--   AreNoLonger    it is no longer than any text of the query, where each bracket that is open at the end counts as one byte
--                  more
--   KeepCounts     it has as many parts and atoms as any text of the query
use Rattle.std.specs.Prelude.{◌≡◌, ℕ, ◌+◌, ◌≤◌, List, length}
use Rattle.std.specs.Str.{chars, IsUtf8}
use Rattle.cs_base.specs.declared.content.limits.TheConstants.{MAX_QUERY_BYTES}
use Rattle.cs_base.specs.declared.content.query.Query.{Query}
use Rattle.cs_model.specs.Tokens.{tokens}
use Rattle.cs_model.specs.Grammar.{steps, query_of}
use Rattle.cs_model.specs.Refusals.{IsAccepted, IsOfGrammar, depth, parts_in, atoms_in}
use Rattle.cs_model.specs.Canonical.{canonical}

-- a canonical text, read as a key text, is accepted and means its query, as the empty one means the query without parts
abbrev pub AreReadAgain : Type 0
AreReadAgain = (q : Query) → IsOfGrammar q → IsUtf8 (canonical q) × IsAccepted (chars (canonical q)) × (query_of (chars (canonical q)) ≡ q)

-- two queries of the grammar never share a canonical text
abbrev pub AreDifferent : Type 0
AreDifferent = (q r : Query) → IsOfGrammar q → IsOfGrammar r → canonical q ≡ canonical r → q ≡ r

-- a canonical text keeps the limit on the bytes of a key text, and has no open bracket at its end that would count
abbrev pub AreShort : Type 0
AreShort = (q : Query) → IsOfGrammar q → length (canonical q) ≤ MAX_QUERY_BYTES

-- a canonical text meets the limit on bytes wherever any text of its query does
abbrev pub AreNoLonger : Type 0
AreNoLonger = (bs : List ℕ) → IsUtf8 bs → IsAccepted (chars bs) → length (canonical (query_of (chars bs))) ≤ length bs + depth (tokens (chars bs))

-- a canonical text meets the limits on parts and atoms wherever any text of its query does
abbrev pub KeepCounts : Type 0
KeepCounts = (bs : List ℕ) → IsUtf8 bs → IsAccepted (chars bs)
    → (parts_in (steps (tokens (chars (canonical (query_of (chars bs)))))) ≡ parts_in (steps (tokens (chars bs))))
    × (atoms_in (steps (tokens (chars (canonical (query_of (chars bs)))))) ≡ atoms_in (steps (tokens (chars bs))))
