-- Strings of parameters on worked texts: the definitions computed.
use Rattle.std.proofs.Common.{◌≡◌, [], ◌∷◌, refl, Some, None, codes}
use Rattle.std.specs.Str.{chars, is_utf8}
use Rattle.std.specs.Str.Lossy.{utf8_lossy, utf8_valid_len}
use Rattle.std.specs.Ordering.{nat_cmp}
use Rattle.std.specs.Cmp.Lexicographic.{slice_cmp}
use Rattle.std.proofs.lemmas.Cmp.{nat_list_cmp_total}
use Rattle.form_urlencoded.specs.Form.{raw_pairs, split}
use Rattle.percent_encoding.specs.Percent.{percent_decode}
use Rattle.caseless.proofs.Computing.{caseless}
use Rattle.cs_base.specs.declared.content.query.Query.{roll-Query}
use Rattle.cs_model.specs.KeyText.{norm}
use Rattle.cs_model.specs.Words.{is_word_char}
use Rattle.cs_model.specs.Refusals.{Bad}
use Rattle.cs_model.specs.Requests.{by_default}
use Rattle.cs_model.specs.Parameters.{parameter, bad_param, bad_query, request_refusal, request_of}
use Rattle.cs_model.proofs.ListedMembers.{members-listed}
use lib.Utf8

-- the parameter o is refused before the query is
refusal-offset : request_refusal (codes "q=a||b&o=x") ≡ Some (bad_param (codes "o"))
unfolding request_refusal parameter raw_pairs split percent_decode utf8_lossy utf8_valid_len is_utf8 chars lib.Utf8.encode
refusal-offset = refl

-- more hits than may be shown
refusal-many : request_refusal (codes "q=typ&h=101") ≡ Some (bad_param (codes "h"))
unfolding request_refusal parameter raw_pairs split percent_decode utf8_lossy utf8_valid_len is_utf8 chars lib.Utf8.encode
refusal-many = refl

-- an empty count is none
refusal-empty : request_refusal (codes "q=typ&h=") ≡ Some (bad_param (codes "h"))
unfolding request_refusal parameter raw_pairs split percent_decode utf8_lossy utf8_valid_len is_utf8 chars lib.Utf8.encode
refusal-empty = refl

-- the query is refused at a byte of its key text
refusal-query : request_refusal (codes "q=a||b") ≡ Some (bad_query 2 Bad)
unfolding request_refusal parameter raw_pairs split percent_decode utf8_lossy utf8_valid_len is_utf8 chars lib.Utf8.encode norm caseless is_word_char
refusal-query = refl

-- names and values are read behind their escapes
request-escapes : (request_of (codes "%68=%31%32")).hits ≡ 12
unfolding request_of parameter raw_pairs split percent_decode utf8_lossy utf8_valid_len is_utf8 chars lib.Utf8.encode
request-escapes = refl

-- of two values of one name the first counts
request-first : (request_of (codes "h=3&h=4")).hits ≡ 3
unfolding request_of parameter raw_pairs split percent_decode utf8_lossy utf8_valid_len is_utf8 chars lib.Utf8.encode
request-first = refl

-- the names of facets are listed by their bytes, each once
request-facets : (request_of (codes "f=year,author,,year")).facets ≡ codes "author" ∷ codes "year" ∷ []
unfolding request_of parameter raw_pairs split percent_decode utf8_lossy utf8_valid_len is_utf8 chars lib.Utf8.encode
request-facets = members-listed (slice_cmp nat_cmp) nat_list_cmp_total (codes "year" ∷ codes "author" ∷ codes "year" ∷ [])

-- the empty query, one hit behind the first
request-window : request_of (codes "q=&h=1&o=1") ≡ record (by_default (roll-Query (record { parts = [] }))) { hits = 1; offset = 1 }
unfolding request_of parameter raw_pairs split percent_decode utf8_lossy utf8_valid_len is_utf8 chars lib.Utf8.encode norm caseless is_word_char
request-window = refl

-- and it isn't refused
request-accepted : request_refusal (codes "q=&h=1&o=1") ≡ None
unfolding request_refusal parameter raw_pairs split percent_decode utf8_lossy utf8_valid_len is_utf8 chars lib.Utf8.encode norm caseless is_word_char
request-accepted = refl
