-- What worked bytes ask: the definitions computed.
use Rattle.std.proofs.Common.{◌≡◌, List, ℕ, [], ◌∷◌, ◌++◌, refl, codes}
use Rattle.std.specs.Str.{chars, is_utf8}
use Rattle.std.specs.Str.Lossy.{utf8_lossy, utf8_valid_len}
use Rattle.form_urlencoded.specs.Form.{raw_pairs, split}
use Rattle.percent_encoding.specs.Percent.{percent_decode}
use Rattle.caseless.proofs.Computing.{caseless}
use Rattle.httparse.specs.Grammar.{is_token_byte, trim_ows, print_request}
use Rattle.cs_model.specs.KeyText.{norm}
use Rattle.cs_model.specs.Parameters.{parameter, request_refusal, request_of}
use Rattle.cs_model.specs.Words.{is_word_char}
use Rattle.cs_model_serving.specs.Framing.{frame}
use Rattle.cs_model_serving.specs.HeadReader.{line_text, line_end, is_valid, read_head}
use Rattle.cs_model_serving.specs.Heads.{judge}
use Rattle.cs_hub.specs.DueReads.{heads_on, requests_on}
use lib.Utf8

abbrev ask_nothing : List ℕ
ask_nothing = codes "GET /search?q= HTTP/1.1\r\n\r\n"

-- after this one the connection is closed
abbrev ask_last : List ℕ
ask_last = codes "GET /search?h=1 HTTP/1.0\r\n\r\n"

abbrev other_path : List ℕ
other_path = codes "GET /x HTTP/1.1\r\n\r\n"

abbrev bad_query : List ℕ
bad_query = codes "GET /search?q=a%7C%7Cb HTTP/1.1\r\n\r\n"

-- two heads, a line feed in front of the second, and some bytes of a third
heads-two : heads_on (other_path ++ 10 ∷ ask_nothing ++ codes "GET /se") ≡ other_path ∷ ask_nothing ∷ []
unfolding heads_on frame judge read_head line_text line_end is_valid is_token_byte trim_ows print_request is_utf8 chars lib.Utf8.encode
heads-two = refl

-- neither a head that is refused nor parameters that are ask anything
requests-refused : requests_on (other_path ++ bad_query) ≡ []
unfolding heads_on frame judge read_head line_text line_end is_valid is_token_byte trim_ows print_request is_utf8 chars lib.Utf8.encode request_refusal
    parameter raw_pairs split percent_decode utf8_lossy utf8_valid_len norm caseless is_word_char
requests-refused = refl

-- one before the head that closes the connection, its own, and none behind it
requests-closing : requests_on (ask_nothing ++ other_path ++ ask_last ++ ask_nothing) ≡ request_of (codes "q=") ∷ request_of (codes "h=1") ∷ []
unfolding heads_on frame judge read_head line_text line_end is_valid is_token_byte trim_ows print_request is_utf8 chars lib.Utf8.encode request_refusal
    parameter raw_pairs split percent_decode utf8_lossy utf8_valid_len norm caseless is_word_char
requests-closing = refl
