-- What a string of parameters asks, or why it is refused.
--
-- Source: URL Standard, section 5 (application/x-www-form-urlencoded), for pieces, names, values and escapes; the parameters
-- are this engine's own.
--
--   decoded bytes             the text of a name or a value; bytes that are no UTF-8 are read as U+FFFD, one for each maximal
--                             subpart
--   first_value name pairs    the value of the first pair of that name; None where there is none
--   parameter name p          the value of the first parameter of that name; None where there is none
--   is_count most v           a value that is accepted as a count: there is none, or it is 1 to `MAX_COUNT_DIGITS` digits and
--                             at most `most`
--   count_of default v        the count of a value; the default where there is none
--   facet_names v             the names that a value lists between commas, each once, by bytes; none for no value
--   are_facets v              the names that a value lists have the form of a name, and are at most 8
--   RequestRefusal            why a string of parameters is no request: bad_param, a parameter's value; or bad_query, the
--                             query's key text
--   refused_at (at, f)        the query is refused at the byte `at` of its key text, with the fault f
--   asked_text p              the key text of the query that is asked; empty where no parameter q is there
--   request_refusal p         the first refusal, looked for in h, c, o, f and q in turn; None where nothing is refused
--   request_of p              what is asked; it counts where nothing is refused
--   query_refusal_text at f   the text that answers a query which is refused there, with this fault
--   refusal_text r            the text that answers a refused string
--   HoldsLimits r             what each request that isn't refused keeps: its limits, and facet names in order, each once
--
-- Pieces stand between the signs &, and an empty piece is none. A name ends before the first = of its piece, and without one
-- the value is empty. Other names than h, c, o, f and q ask nothing, and of two pieces with one name the first counts.
use Rattle.std.specs.Prelude.{◌≡◌, ℕ, ◌+◌, ◌-◌, ◌*◌, ◌≤◌, Bool, true, ◌&&◌, ◌==◌, nat_le, nat_lt, List, [], ◌∷◌, filter, length, fold, Option, Some, None, codes}
use Rattle.std.specs.Option.{option_map, unwrap_or}
use Rattle.std.specs.List.{find, list_all, slice_split}
use Rattle.std.specs.List.Sorted.{IsStrictlySortedBy}
use Rattle.std.specs.Ordering.{nat_cmp}
use Rattle.std.specs.Cmp.Lexicographic.{slice_cmp}
use Rattle.std.specs.Str.{bytes_eq, chars}
use Rattle.std.specs.Str.Lossy.{utf8_lossy}
use Rattle.form_urlencoded.specs.Form.{raw_pairs, decode}
use Rattle.cs_base.specs.content.Bytes.{comma}
use Rattle.cs_base.specs.content.Members.{members_in}
use Rattle.cs_base.specs.declared.content.query.Query.{out-Query}
use Rattle.cs_base.specs.declared.content.limits.TheConstants.{MAX_COUNT_DIGITS, MAX_SHOWN, MAX_OFFSET, MAX_FACETS, DEFAULT_HITS, DEFAULT_COMPLETIONS, MAX_PARTS}
use Rattle.cs_model.specs.KeyText.{norm}
use Rattle.cs_model.specs.Collection.{has_name_form}
use Rattle.cs_model.specs.Digits.{has_digits, number_of}
use Rattle.cs_model.specs.Words.{is_filled}
use Rattle.cs_model.specs.Grammar.{query_of}
use Rattle.cs_model.specs.Refusals.{QueryRefusal, Bad, Limit, IsOfGrammar}
use Rattle.cs_model.specs.First.{unless, first_reason}
use Rattle.cs_model.specs.FirstRefusal.{first_refusal}
use Rattle.cs_model.specs.Faults.{param_text, bad_text, limit_text, limit_word}
use Rattle.cs_model.specs.Requests.{Request}

-- ---- names and values
-- the text that the bytes of a name or a value stand for, a plus sign for a space and a percent sign with two digits of base
-- 16 for the byte they spell; of no bytes the empty text
abbrev pub decoded : List ℕ → List ℕ
decoded bytes = utf8_lossy (decode bytes)

-- the value of the first of these pairs that has the name; None where none has it
abbrev pub first_value : List ℕ → List (List ℕ × List ℕ) → Option (List ℕ)
first_value name pairs = option_map (λ pair. decoded pair.1) (find (λ pair. bytes_eq (decoded pair.0) name) pairs)

-- the value of the first parameter of this name, which may be empty; None where none has the name
unfoldable pub parameter : List ℕ → List ℕ → Option (List ℕ)
parameter name p = first_value name (raw_pairs p)

-- ---- counts
-- a value that is accepted as a count of at most `most`; a missing one is, the empty one isn't
abbrev pub is_count : ℕ → Option (List ℕ) → Bool
is_count most None = true
is_count most (Some v) = has_digits MAX_COUNT_DIGITS v && nat_le (number_of v) most

-- the number that an accepted value gives; the default where there is no value
abbrev pub count_of : ℕ → Option (List ℕ) → ℕ
count_of default None = default
count_of default (Some v) = number_of v

-- ---- facets
-- the names that are asked, each once, by bytes; none where there is no value, and none for an empty piece between commas
abbrev pub facet_names : Option (List ℕ) → List (List ℕ)
facet_names None = []
facet_names (Some v) = members_in (slice_cmp nat_cmp) (filter is_filled (slice_split (λ b. b == comma) v))

-- the names that a value lists are accepted, at most `MAX_FACETS` of them and each of the form of a name; so is a missing
-- value
abbrev pub are_facets : Option (List ℕ) → Bool
are_facets v = list_all has_name_form (facet_names v) && nat_le (length (facet_names v)) MAX_FACETS

-- ---- refusals
-- a parameter of this name whose value isn't accepted; or the first refusal of the query's key text, with its place
pub data RequestRefusal : Type 0 where
  bad_param : List ℕ → RequestRefusal
  bad_query : ℕ → QueryRefusal → RequestRefusal

-- the refusal of a query from its place and its fault, given together
abbrev pub refused_at : ℕ × QueryRefusal → RequestRefusal
refused_at r = bad_query r.0 r.1

-- the key text of the query; that of no parameter q is empty
abbrev pub asked_text : List ℕ → List ℕ
asked_text p = norm (unwrap_or (parameter (codes "q") p) [])

-- the first refusal of parameters; None where nothing is refused, as where there is no parameter
unfoldable pub request_refusal : List ℕ → Option RequestRefusal
request_refusal p = first_reason (
    unless (is_count MAX_SHOWN (parameter (codes "h") p)) (bad_param (codes "h"))
    ∷ unless (is_count MAX_SHOWN (parameter (codes "c") p)) (bad_param (codes "c"))
    ∷ unless (is_count MAX_OFFSET (parameter (codes "o") p)) (bad_param (codes "o"))
    ∷ unless (are_facets (parameter (codes "f") p)) (bad_param (codes "f"))
    ∷ option_map refused_at (first_refusal (chars (asked_text p)))
    ∷ [])

-- ---- requests
-- what parameters ask, which counts where nothing is refused; of no parameters the empty query, with the defaults and no
-- facet
unfoldable pub request_of : List ℕ → Request
request_of p = record {
  query = query_of (chars (asked_text p));
  hits = count_of DEFAULT_HITS (parameter (codes "h") p);
  completions = count_of DEFAULT_COMPLETIONS (parameter (codes "c") p);
  offset = count_of 0 (parameter (codes "o") p);
  facets = facet_names (parameter (codes "f") p);
}

-- ---- texts
-- the text that answers a refused query, at 0 where its first character is refused
abbrev pub query_refusal_text : ℕ → QueryRefusal → List ℕ
query_refusal_text at Bad = bad_text at
query_refusal_text at (Limit which) = limit_text at (limit_word which)

-- the text that answers refused parameters
abbrev pub refusal_text : RequestRefusal → List ℕ
refusal_text (bad_param name) = param_text name
refusal_text (bad_query at f) = query_refusal_text at f

-- ---- limits
-- what a request that isn't refused keeps: its limits, and that the names of facets ascend by bytes; there may be none
pub record HoldsLimits (r : Request) : Type 0 where
  pub query : IsOfGrammar r.query
  pub parts : length (out-Query r.query).parts ≤ MAX_PARTS
  pub hits : r.hits ≤ MAX_SHOWN
  pub completions : r.completions ≤ MAX_SHOWN
  pub offset : r.offset ≤ MAX_OFFSET
  pub names : list_all has_name_form r.facets ≡ true
  pub facets : IsStrictlySortedBy (slice_cmp nat_cmp) r.facets
  pub few : length r.facets ≤ MAX_FACETS
