-- The texts of faults: compact JSON, keys in byte order.
--
-- Source: RFC 8259 for JSON; keys and words are this engine's own.
--
--   error_data error       {"error":E}
--   limit_word which       the word of a limit: query, word, parts, atoms or depth
--   bad_data at            {"at":P,"error":"bad"}: the query is refused at the byte P
--   limit_data at which    {"at":P,"error":"limit","which":W}: a limit refuses it there
--   param_data name        {"error":"param","param":X}: the parameter X is refused
--   changed_data rule at   {"at":P,"error":"changed","rule":R}: the index file breaks the rule R at the byte P
--   error_text error       the text of error_data
--   bad_text at            that of bad_data
--   limit_text at which    that of limit_data
--   param_text name        that of param_data
--   changed_text rule at   that of changed_data
--
-- The words that stand for E are memory, read, head, body, head too long, path and method. A place is 0 at the first byte.
use Rattle.std.specs.Prelude.{ℕ, List, codes}
use Rattle.cs_base.specs.declared.content.query.Which.{Which}
use Rattle.cs_base.specs.declared.content.query.Which.TheVariants as limits
use Rattle.serde_json.specs.Data.{Data, object, string, number, unsigned, no_members, member}
use Rattle.serde_json.specs.Written.{compact_text}

-- a fault of which nothing but its word is said
abbrev pub error_data : List ℕ → Data
error_data error = object (member (codes "error") (string error) no_members)

-- the word of a limit, of each another one
abbrev pub limit_word : Which → List ℕ
limit_word limits.Query = codes "query"
limit_word limits.Word = codes "word"
limit_word limits.Parts = codes "parts"
limit_word limits.Atoms = codes "atoms"
limit_word limits.Depth = codes "depth"

-- the query isn't of the grammar: how many bytes stand before the refused character, before the first one 0
abbrev pub bad_data : ℕ → Data
bad_data at = object (member (codes "at") (number (unsigned at)) (member (codes "error") (string (codes "bad")) no_members))

-- a limit refuses the query: the place as for bad_data, and the limit's word
abbrev pub limit_data : ℕ → List ℕ → Data
limit_data at which =
    object (member (codes "at") (number (unsigned at))
    (member (codes "error") (string (codes "limit"))
    (member (codes "which") (string which) no_members)))

-- the parameter of this name is refused
abbrev pub param_data : List ℕ → Data
param_data name = object (member (codes "error") (string (codes "param")) (member (codes "param") (string name) no_members))

-- the index file isn't what it was at opening: the broken rule, and its place in bytes
abbrev pub changed_data : ℕ → ℕ → Data
changed_data rule at =
    object (member (codes "at") (number (unsigned at))
    (member (codes "error") (string (codes "changed"))
    (member (codes "rule") (number (unsigned rule)) no_members)))

-- the text of a fault of which nothing but its word is said
unfoldable pub error_text : List ℕ → List ℕ
error_text error = compact_text (error_data error)

-- the text of a query that the grammar refuses
unfoldable pub bad_text : ℕ → List ℕ
bad_text at = compact_text (bad_data at)

-- the text of a query that only a limit refuses
unfoldable pub limit_text : ℕ → List ℕ → List ℕ
limit_text at which = compact_text (limit_data at which)

-- the text of a refused parameter
unfoldable pub param_text : List ℕ → List ℕ
param_text name = compact_text (param_data name)

-- the text of an index file that changed
unfoldable pub changed_text : ℕ → ℕ → List ℕ
changed_text rule at = compact_text (changed_data rule at)
