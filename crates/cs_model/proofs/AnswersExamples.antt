-- Answers over the corpus of three documents: the definitions computed.
--
--   worked_text       a collection of three lines
--   worked            its corpus
--   reply-..          the replies to queries over it
--   text-..           what answers a string of parameters, byte for byte
use Rattle.std.proofs.Common.{◌≡◌, ℕ, List, [], ◌∷◌, ◌++◌, refl, ap, ◌∙◌, true, false, length, codes}
use Rattle.std.specs.Prelude.{filter}
use Rattle.std.proofs.Math.Seq.{take-nil, drop-nil}
use Rattle.std.specs.List.{flat_map, enumerate_from}
use Rattle.std.specs.Char.{encode_utf8}
use Rattle.std.specs.Prelude.{Some, None}
use Rattle.std.specs.Fmt.{digits}
use Rattle.std.specs.Str.{chars, is_utf8}
use Rattle.std.specs.Str.Lossy.{utf8_lossy, utf8_valid_len}
use Rattle.form_urlencoded.specs.Form.{raw_pairs, split}
use Rattle.percent_encoding.specs.Percent.{percent_decode}
use Rattle.json.specs.Print.{escape_byte}
use Rattle.std.specs.Ordering.{nat_cmp}
use Rattle.std.specs.FinMap.{FinMap, entries, find, get, from_entries, get-from_entries}
use Rattle.std.proofs.lemmas.Cmp.{nat_cmp_total}
use Rattle.caseless.proofs.Computing.{caseless}
use Rattle.ucd_category.proofs.Computing.{ucd_category}
use Rattle.unicode.specs.GeneralCategory.{general_category}
use Rattle.cs_base.specs.declared.content.doc.Row.{Row}
use Rattle.cs_base.specs.declared.content.query.Part.{out-roll-Part}
use Rattle.cs_base.specs.declared.content.query.Chain.{out-roll-Chain}
use Rattle.cs_base.proofs.OrdersLemmas.{by_row_total}
use Rattle.cs_base.specs.content.Orders.{by_row}
use Rattle.cs_model.specs.KeyText.{norm}
use Rattle.cs_model.specs.Words.{is_word_char, cut, words}
use Rattle.cs_model.specs.Collection.{documents}
use Rattle.cs_model.specs.Corpus.{Corpus, titles_of, doc_rows, rows_of, corpus}
use Rattle.cs_model.specs.Grammar.{query_of}
use Rattle.cs_model.specs.Answers.{PartRows, begins, greatest_score, parts_of}
use Rattle.cs_model.specs.Replies.{Reply, Shown, HitShown, reply_text}
use Rattle.cs_model.specs.Requests.{Request, by_default, reply_of}
use Rattle.cs_model.specs.Faults.{bad_text}
use Rattle.cs_model.specs.Refusals.{Bad}
use Rattle.cs_model.specs.Parameters.{parameter, bad_query, request_refusal, request_of}
use Rattle.cs_model.specs.Outputs.{text, text_by}
use Rattle.cs_base.specs.declared.content.scores.TheConstants.{USUAL_WEIGHTS}
use Rattle.cs_model.proofs.ListedMembers.{entries-sorted, members-listed}
use Rattle.cs_model.proofs.AnswersLemmas.{query_rolled, part_listed, chain_rolled, linked_rolled, prefix_rows, exact_rows, join_rows, listed_reply, reply-listed}
use lib.Utf8

-- ---- tests and scores
-- a word begins with each of its beginnings
begins-typ : begins (codes "typ") (codes "type") ≡ true
begins-typ = refl

-- every word begins with the empty text
begins-all : begins [] (codes "type") ≡ true
begins-all = refl

-- no word begins with a longer one
begins-longer : begins (codes "types") (codes "type") ≡ false
begins-longer = refl

abbrev pub row : ℕ → ℕ → ℕ → List ℕ → Row
row d p s w = record { doc = d; word = w; pos = p; score = s }

-- of no row the greatest score is 0
score-none : greatest_score [] ≡ 0
score-none = refl

-- a title word counts for more than a text word
score-title : greatest_score (row 0 11 1 (codes "a") ∷ row 0 1 4 (codes "ab") ∷ []) ≡ 4
score-title = refl

-- ---- the corpus
abbrev worked_text : List ℕ
worked_text =
    codes "Type less find more\tauthor=Bast;author=Weber;year=2006\tautocompletion search with a succinct index\n"
    ++ codes "The CompleteSearch engine\tauthor=Bast;year=2007\ttype ahead search and faceted search\n"
    ++ codes "Typed lambda calculi\tauthor=Church;year=1940\ttypes\n"

abbrev pub worked_entries : List (ℕ × List ℕ)
worked_entries = (0, codes "Type less find more") ∷ (1, codes "The CompleteSearch engine") ∷ (2, codes "Typed lambda calculi") ∷ []

pub worked_titles : FinMap nat_cmp (List ℕ)
worked_titles = from_entries worked_entries

abbrev pub worked_rows : List Row
worked_rows =
    row 0 0 2 (codes ":author:bast") ∷
    row 0 0 2 (codes ":author:weber") ∷
    row 0 0 2 (codes ":year:2006") ∷
    row 0 1 4 (codes "type") ∷
    row 0 2 4 (codes "less") ∷
    row 0 3 4 (codes "find") ∷
    row 0 4 4 (codes "more") ∷
    row 0 13 1 (codes "autocompletion") ∷
    row 0 14 1 (codes "search") ∷
    row 0 15 1 (codes "with") ∷
    row 0 16 1 (codes "a") ∷
    row 0 17 1 (codes "succinct") ∷
    row 0 18 1 (codes "index") ∷
    row 1 0 2 (codes ":author:bast") ∷
    row 1 0 2 (codes ":year:2007") ∷
    row 1 1 4 (codes "the") ∷
    row 1 2 4 (codes "completesearch") ∷
    row 1 3 4 (codes "engine") ∷
    row 1 12 1 (codes "type") ∷
    row 1 13 1 (codes "ahead") ∷
    row 1 14 1 (codes "search") ∷
    row 1 15 1 (codes "and") ∷
    row 1 16 1 (codes "faceted") ∷
    row 1 17 1 (codes "search") ∷
    row 2 0 2 (codes ":author:church") ∷
    row 2 0 2 (codes ":year:1940") ∷
    row 2 1 4 (codes "typed") ∷
    row 2 2 4 (codes "lambda") ∷
    row 2 3 4 (codes "calculi") ∷
    row 2 12 1 (codes "types") ∷
    []

abbrev pub worked : Corpus
worked = record { titles = worked_titles; rows = worked_rows }

-- a facet word stands in front of its document with the score 2, text words stand nine positions behind the title
rows-worked : rows_of USUAL_WEIGHTS (documents worked_text) ≡ worked_rows
unfolding words norm chars cut caseless is_word_char general_category ucd_category lib.Utf8.encode
rows-worked = members-listed by_row by_row_total (flat_map (doc_rows USUAL_WEIGHTS) (enumerate_from 0 (documents worked_text)))

titles-worked : titles_of (documents worked_text) ≡ worked_titles
unfolding worked_titles
titles-worked = refl

-- the text has this corpus
corpus-worked : corpus worked_text ≡ worked
corpus-worked = ap (λ rows. record { titles = titles_of (documents worked_text); rows = rows }) rows-worked ∙ ap (λ ts. record { titles = ts; rows = worked_rows }) titles-worked

pub titles-are : entries worked_titles ≡ worked_entries
unfolding worked_titles
titles-are = entries-sorted nat_cmp nat_cmp_total worked_entries

pub titles-found : (d : ℕ) → get worked_titles d ≡ find nat_cmp d worked_entries
unfolding worked_titles
titles-found d = get-from_entries nat_cmp_total worked_entries d

-- ---- rows of queries
abbrev pub positive : List Row → PartRows
positive rows = record { excluded = false; rows = rows }

abbrev pub typ_rows : List Row
typ_rows = row 0 1 4 (codes "type") ∷ row 1 12 1 (codes "type") ∷ row 2 1 4 (codes "typed") ∷ row 2 12 1 (codes "types") ∷ []

-- words that begin with `typ`
parts-prefix : parts_of worked (query_of (codes "typ")) ≡ positive typ_rows ∷ []
unfolding is_word_char encode_utf8
parts-prefix = simp (query_rolled, part_listed, chain_rolled, prefix_rows) refl

-- ---- replies
-- a query alone, with the defaults
abbrev asks : List ℕ → Request
asks text = by_default (query_of text)

abbrev shown : ℕ → List ℕ → Shown
shown docs word = record { docs = docs; word = word }

-- the three documents as hits
abbrev first : ℕ → HitShown
first score = record { doc = 0; score = score; title = codes "Type less find more" }

abbrev second : ℕ → HitShown
second score = record { doc = 1; score = score; title = codes "The CompleteSearch engine" }

abbrev third : ℕ → HitShown
third score = record { doc = 2; score = score; title = codes "Typed lambda calculi" }

-- a reply of which nothing is cut
abbrev pub whole : List Shown → List HitShown → Reply
whole completions hits = record { completions = completions; facets = []; hits = hits; total_completions = length completions; total_hits = length hits }

answered : (r : Request) → reply_of worked r ≡ listed_reply worked (parts_of worked r.query) r
unfolding reply_of
answered r = reply-listed worked (parts_of worked r.query) r

-- what computes the reply to a query of prefixes
ruleset of_prefixes = (query_rolled, part_listed, chain_rolled, prefix_rows, titles-are, titles-found)

-- completions with more documents first, hits with greater scores first
reply-prefix : reply_of worked (asks (codes "typ")) ≡ whole (shown 2 (codes "type") ∷ shown 1 (codes "typed") ∷ shown 1 (codes "types") ∷ []) (first 4 ∷ third 4 ∷ second 1 ∷ [])
unfolding is_word_char encode_utf8
reply-prefix = answered (asks (codes "typ")) ∙ simp of_prefixes refl

-- a hit has a row of each part
reply-two : reply_of worked (asks (codes "search typ")) ≡ whole (shown 2 (codes "type") ∷ []) (first 5 ∷ second 2 ∷ [])
unfolding is_word_char encode_utf8
reply-two = answered (asks (codes "search typ")) ∙ simp of_prefixes refl

-- with one letter more the best row of a document may be gone
reply-longer : reply_of worked (asks (codes "types")) ≡ whole (shown 1 (codes "types") ∷ []) (third 1 ∷ [])
unfolding is_word_char encode_utf8
reply-longer = answered (asks (codes "types")) ∙ simp of_prefixes refl

-- an exact word is that word alone
reply-exact : reply_of worked (asks (codes "type$")) ≡ whole (shown 2 (codes "type") ∷ []) (first 4 ∷ second 1 ∷ [])
unfolding is_word_char encode_utf8
reply-exact = answered (asks (codes "type$")) ∙ simp (of_prefixes, exact_rows) refl

-- in a phrase the second word stands directly behind the first
reply-phrase : reply_of worked (asks (codes "type-ahead")) ≡ whole (shown 1 (codes "ahead") ∷ []) (second 1 ∷ [])
unfolding is_word_char encode_utf8
reply-phrase = answered (asks (codes "type-ahead")) ∙ simp (of_prefixes, linked_rolled, out-roll-Part, out-roll-Chain) refl

-- nearness reaches eight positions, and `types` stands ten away
reply-near : reply_of worked (asks (codes "lambda..typ")) ≡ whole (shown 1 (codes "typed") ∷ []) (third 4 ∷ [])
unfolding is_word_char encode_utf8
reply-near = answered (asks (codes "lambda..typ")) ∙ simp (of_prefixes, linked_rolled, out-roll-Part, out-roll-Chain) refl

-- an excluded part takes its documents away, and as the last part it has no completion
reply-excluded : reply_of worked (asks (codes "typ -search")) ≡ whole [] (third 4 ∷ [])
unfolding is_word_char encode_utf8
reply-excluded = answered (asks (codes "typ -search")) ∙ simp of_prefixes refl

-- with excluded parts alone a hit has the score 0
reply-only_excluded : reply_of worked (asks (codes "-search")) ≡ whole [] (third 0 ∷ [])
unfolding is_word_char encode_utf8
reply-only_excluded = answered (asks (codes "-search")) ∙ simp of_prefixes refl

-- the part behind an excluded one is completed
reply-behind_excluded : reply_of worked (asks (codes "-search typ")) ≡ whole (shown 1 (codes "typed") ∷ shown 1 (codes "types") ∷ []) (third 4 ∷ [])
unfolding is_word_char encode_utf8
reply-behind_excluded = answered (asks (codes "-search typ")) ∙ simp of_prefixes refl

-- of two alternatives one is enough, and both are completed
reply-alternatives : reply_of worked (asks (codes "typed|ahead")) ≡ whole (shown 1 (codes "ahead") ∷ shown 1 (codes "typed") ∷ []) (third 4 ∷ second 1 ∷ [])
unfolding is_word_char encode_utf8
reply-alternatives = answered (asks (codes "typed|ahead")) ∙ simp (of_prefixes, out-roll-Part) refl

-- a bar at the end is dropped
reply-bar : reply_of worked (asks (codes "a|")) ≡ whole (shown 1 (codes "a") ∷ shown 1 (codes "ahead") ∷ shown 1 (codes "and") ∷ shown 1 (codes "autocompletion") ∷ []) (first 1 ∷ second 1 ∷ [])
unfolding is_word_char encode_utf8
reply-bar = answered (asks (codes "a|")) ∙ simp of_prefixes refl

-- a facet without a value has every value
reply-facet : reply_of worked (asks (codes "year:")) ≡ whole (shown 1 (codes "year:1940") ∷ shown 1 (codes "year:2006") ∷ shown 1 (codes "year:2007") ∷ []) (first 2 ∷ second 2 ∷ third 2 ∷ [])
unfolding is_word_char encode_utf8
reply-facet = answered (asks (codes "year:")) ∙ simp of_prefixes refl

-- the empty query has every document and no completion
reply-empty : reply_of worked (asks []) ≡ whole [] (first 0 ∷ second 0 ∷ third 0 ∷ [])
unfolding is_word_char encode_utf8
reply-empty = answered (asks []) ∙ simp (query_rolled, titles-are, titles-found) refl

-- ---- joins
-- two authors of the first document, one of them of the second too
abbrev bast_and_weber : List Row
bast_and_weber = row 0 0 2 (codes ":author:bast") ∷ row 0 0 2 (codes ":author:weber") ∷ row 1 0 2 (codes ":author:bast") ∷ []

-- what both of the next queries answer
abbrev joined : Reply
joined = whole (shown 2 (codes "type") ∷ []) (first 6 ∷ second 3 ∷ [])

reply-joined : (text : List ℕ) → parts_of worked (query_of text) ≡ positive bast_and_weber ∷ positive typ_rows ∷ [] → reply_of worked (asks text) ≡ joined
reply-joined text parts = answered (asks text) ∙ ap (λ ps. listed_reply worked ps (asks text)) parts ∙ simp (titles-are, titles-found) refl

-- a join keeps the words of its facet that the hits of its query have
reply-join : reply_of worked (asks (codes "author[search] typ")) ≡ joined
unfolding is_word_char encode_utf8
reply-join = reply-joined (codes "author[search] typ") (simp (query_rolled, part_listed, chain_rolled, prefix_rows, join_rows, titles-are) refl)

-- the second document is no hit of the inner query, and shares an author with one
reply-shared : reply_of worked (asks (codes "author[succinct] typ")) ≡ joined
unfolding is_word_char encode_utf8
reply-shared = reply-joined (codes "author[succinct] typ") (simp (query_rolled, part_listed, chain_rolled, prefix_rows, join_rows, titles-are) refl)

-- an open bracket without a query asks every author
reply-open_join : reply_of worked (asks (codes "author[")) ≡ whole (shown 2 (codes "author:bast") ∷ shown 1 (codes "author:church") ∷ shown 1 (codes "author:weber") ∷ []) (first 2 ∷ second 2 ∷ third 2 ∷ [])
unfolding is_word_char encode_utf8
reply-open_join = answered (asks (codes "author[")) ∙ simp (query_rolled, part_listed, chain_rolled, titles-are, titles-found, join_rows) refl

-- ---- cuts and facets
abbrev one_behind : Request
one_behind = record (asks []) { hits = 1; offset = 1 }

-- one hit behind the first is shown, and all are counted
reply-window : reply_of worked one_behind ≡ record { completions = []; facets = []; hits = second 0 ∷ []; total_completions = 0; total_hits = 3 }
reply-window = answered one_behind ∙ simp (query_rolled, titles-are, titles-found) refl

abbrev with_facets : Request
with_facets = record (asks (codes "search")) { facets = codes "author" ∷ codes "zzz" ∷ [] }

-- a facet's words over the hits; of a name that no document has there is none
reply-facets : reply_of worked with_facets ≡ record {
  completions = shown 2 (codes "search") ∷ [];
  facets = (record { name = codes "author"; table = shown 2 (codes "author:bast") ∷ shown 1 (codes "author:weber") ∷ [] }) ∷ (record { name = codes "zzz"; table = [] }) ∷ [];
  hits = first 1 ∷ second 1 ∷ [];
  total_completions = 1;
  total_hits = 2;
}
unfolding is_word_char encode_utf8
reply-facets = answered with_facets ∙ simp of_prefixes refl

-- ---- the empty collection
abbrev pub nothing : Corpus
nothing = record { titles = titles_of []; rows = [] }

pub corpus-nothing : corpus [] ≡ nothing
corpus-nothing = ap (λ rows. record { titles = titles_of []; rows = rows }) (members-listed by_row by_row_total [])

titles-none : entries (titles_of []) ≡ []
titles-none = entries-sorted nat_cmp nat_cmp_total []

none_stay : (rows : List Row) → filter (λ r. false) rows ≡ []
none_stay [] = refl
none_stay (r ∷ rows) = none_stay rows

-- every request that asks no facet is answered by nothing
pub reply-nothing : (r : Request) → r.facets ≡ [] → reply_of nothing r ≡ whole [] []
unfolding reply_of
reply-nothing r h = reply-listed nothing (parts_of nothing r.query) r ∙ simp (titles-none, none_stay, take-nil, drop-nil, h) refl

-- ---- texts
asked-prefix : request_of (codes "q=typ") ≡ asks (codes "typ")
unfolding request_of parameter raw_pairs split percent_decode utf8_lossy utf8_valid_len is_utf8 chars lib.Utf8.encode norm caseless
asked-prefix = refl

accepted-prefix : request_refusal (codes "q=typ") ≡ None
unfolding request_refusal parameter raw_pairs split percent_decode utf8_lossy utf8_valid_len is_utf8 chars lib.Utf8.encode norm caseless is_word_char
accepted-prefix = refl

-- the text of a reply
text-prefix : text worked (codes "q=typ") ≡
    codes "{\"completions\":[{\"docs\":2,\"word\":\"type\"},{\"docs\":1,\"word\":\"typed\"},{\"docs\":1,\"word\":\"types\"}],\"facets\":{},"
    ++ codes "\"hits\":[{\"doc\":0,\"score\":4,\"title\":\"Type less find more\"},{\"doc\":2,\"score\":4,\"title\":\"Typed lambda calculi\"},"
    ++ codes "{\"doc\":1,\"score\":1,\"title\":\"The CompleteSearch engine\"}],\"total\":{\"completions\":3,\"hits\":3}}"
unfolding text reply_text escape_byte digits
text-prefix = ap (text_by worked (codes "q=typ")) accepted-prefix ∙ ap (λ r. reply_text (reply_of worked r)) asked-prefix ∙ ap reply_text reply-prefix

refused-bars : request_refusal (codes "q=a||b") ≡ Some (bad_query 2 Bad)
unfolding request_refusal parameter raw_pairs split percent_decode utf8_lossy utf8_valid_len is_utf8 chars lib.Utf8.encode norm caseless is_word_char
refused-bars = refl

-- the text of a refused query
text-bars : text worked (codes "q=a||b") ≡ codes "{\"at\":2,\"error\":\"bad\"}"
unfolding text bad_text escape_byte digits
text-bars = ap (text_by worked (codes "q=a||b")) refused-bars

-- the text of a request over the empty collection
text-nothing : text (corpus []) (codes "q=typ") ≡ codes "{\"completions\":[],\"facets\":{},\"hits\":[],\"total\":{\"completions\":0,\"hits\":0}}"
unfolding text reply_text escape_byte digits
text-nothing =
    ap (text_by (corpus []) (codes "q=typ")) accepted-prefix
    ∙ ap (λ k. reply_text (reply_of k (request_of (codes "q=typ")))) corpus-nothing
    ∙ ap reply_text (reply-nothing (request_of (codes "q=typ")) (ap (λ r. r.facets) asked-prefix))
