-- What is answered to worked bytes, byte for byte: the definitions computed.
use Rattle.std.proofs.Common.{◌≡◌, true, false, Bool, List, ℕ, [], ◌∷◌, ◌++◌, refl, ap, ◌∙◌, codes, replicate}
use Rattle.std.specs.Fmt.{digits}
use Rattle.std.specs.Str.{chars, is_utf8}
use Rattle.std.specs.Str.Lossy.{utf8_lossy, utf8_valid_len}
use Rattle.form_urlencoded.specs.Form.{raw_pairs, split}
use Rattle.percent_encoding.specs.Percent.{percent_decode}
use Rattle.json.specs.Print.{escape_byte}
use Rattle.caseless.proofs.Computing.{caseless}
use Rattle.httparse.specs.Grammar.{is_token_byte, trim_ows, print_request}
use Rattle.cs_model.specs.KeyText.{norm}
use Rattle.cs_model.specs.Words.{is_word_char}
use Rattle.cs_model.specs.Corpus.{Corpus, corpus}
use Rattle.cs_model.specs.Faults.{error_text, bad_text}
use Rattle.cs_model.specs.Parameters.{parameter, request_refusal, request_of}
use Rattle.cs_model.specs.Replies.{reply_text}
use Rattle.cs_model.specs.Requests.{Request, reply_of}
use Rattle.cs_model.proofs.AnswersExamples.{corpus-nothing, reply-nothing}
use Rattle.cs_model_serving.specs.Framing.{frame}
use Rattle.cs_model_serving.specs.HeadReader.{line_text, line_end, is_valid, read_head}
use Rattle.cs_model_serving.specs.Heads.{judge}
use Rattle.cs_model_serving.specs.Responses.{Response, wrapped, response_bytes, all_bytes, response_to}
use Rattle.cs_model_serving.specs.Connections.{Served, serve, answers}
use lib.Utf8

-- ---- refusals, over any corpus
abbrev refusals : List ℕ
refusals =
    codes "GET /x HTTP/1.1\r\n\r\n" ++ codes "POST /search HTTP/1.1\r\n\r\n" ++ codes "GET /search?q=a%7C%7Cb HTTP/1.1\r\n\r\n"
    ++ codes "GET /search HTTP/1.1\r\nTransfer-Encoding: chunked\r\n\r\n"

abbrev response : ℕ → Bool → List ℕ → Response
response status close body = record { status = status; closes = close; body = body }

-- another path, another method, a refused query, and a body, after which the connection is closed
answers-refusals : (k : Corpus) → answers k refusals ≡ record {
  responses =
      response 404 false (codes "{\"error\":\"path\"}") ∷ response 405 false (codes "{\"error\":\"method\"}")
      ∷ response 400 false (codes "{\"at\":2,\"error\":\"bad\"}") ∷ response 400 true (codes "{\"error\":\"body\"}") ∷ [];
  rest = [];
  done = true;
}
unfolding answers serve frame response_to judge read_head line_text line_end is_valid is_token_byte trim_ows print_request is_utf8 chars lib.Utf8.encode request_refusal parameter raw_pairs split percent_decode utf8_lossy utf8_valid_len norm caseless is_word_char error_text bad_text escape_byte digits
answers-refusals k = refl

-- the bytes of the first two, and of the last
bytes-refusals : all_bytes (response 404 false (codes "{\"error\":\"path\"}") ∷ response 405 false (codes "{\"error\":\"method\"}") ∷ response 400 true (codes "{\"error\":\"body\"}") ∷ []) ≡
    codes "HTTP/1.1 404 Not Found\r\nContent-Type: application/json\r\nContent-Length: 16\r\n\r\n{\"error\":\"path\"}"
    ++ codes "HTTP/1.1 405 Method Not Allowed\r\nAllow: GET\r\nContent-Type: application/json\r\nContent-Length: 18\r\n\r\n{\"error\":\"method\"}"
    ++ codes "HTTP/1.1 400 Bad Request\r\nContent-Type: application/json\r\nContent-Length: 16\r\nConnection: close\r\n\r\n{\"error\":\"body\"}"
unfolding wrapped digits
bytes-refusals = refl

-- the length of a body is its number of bytes, not of its characters
abbrev accented : List ℕ
accented = 34 ∷ 195 ∷ 169 ∷ 34 ∷ []

bytes-characters : response_bytes (response 200 false accented) ≡ codes "HTTP/1.1 200 OK\r\nContent-Type: application/json\r\nContent-Length: 4\r\n\r\n" ++ accented
unfolding wrapped digits
bytes-characters = refl

-- ---- a head that is too long
answers-long : (k : Corpus) → (answers k (replicate 8192 97)).responses ≡ response 431 true (codes "{\"error\":\"head too long\"}") ∷ []
unfolding answers serve frame error_text escape_byte
answers-long k = refl

-- one byte fewer has no answer yet
answers-short : (k : Corpus) → (answers k (replicate 8191 97)).responses ≡ []
unfolding answers serve frame
answers-short k = refl

bytes-long : response_bytes (response 431 true (codes "{\"error\":\"head too long\"}")) ≡
    codes "HTTP/1.1 431 Request Header Fields Too Large\r\nContent-Type: application/json\r\nContent-Length: 25\r\nConnection: close\r\n\r\n{\"error\":\"head too long\"}"
unfolding wrapped digits
bytes-long = refl

-- ---- a reply, over the empty collection
abbrev found_nothing : List ℕ
found_nothing = codes "{\"completions\":[],\"facets\":{},\"hits\":[],\"total\":{\"completions\":0,\"hits\":0}}"

asked-nothing : (request_of (codes "q=")).facets ≡ []
unfolding request_of parameter raw_pairs split percent_decode utf8_lossy utf8_valid_len is_utf8 chars lib.Utf8.encode norm caseless
asked-nothing = refl

text-nothing : reply_text (reply_of (corpus []) (request_of (codes "q="))) ≡ found_nothing
unfolding reply_text escape_byte digits
text-nothing =
    ap (λ k. reply_text (reply_of k (request_of (codes "q=")))) corpus-nothing
    ∙ ap reply_text (reply-nothing (request_of (codes "q=")) asked-nothing)

abbrev ask_nothing : List ℕ
ask_nothing = codes "GET /search?q= HTTP/1.1\r\n\r\n"

-- the answer to the head, whatever the reply is
abbrev answers_reply : List ℕ → Served
answers_reply body = record { responses = response 200 false body ∷ []; rest = []; done = false }

answers-reply : (k : Corpus) → answers k ask_nothing ≡ answers_reply (reply_text (reply_of k (request_of (codes "q="))))
unfolding answers serve frame response_to judge read_head line_text line_end is_valid is_token_byte trim_ows print_request is_utf8 chars lib.Utf8.encode request_refusal parameter raw_pairs split percent_decode utf8_lossy utf8_valid_len norm caseless is_word_char
answers-reply k = refl

-- the empty query over the empty collection, in a head that came in two pieces
answers-nothing : answers (corpus []) ask_nothing ≡ answers_reply found_nothing
answers-nothing = answers-reply (corpus []) ∙ ap answers_reply text-nothing

bytes-nothing : response_bytes (response 200 false found_nothing) ≡ codes "HTTP/1.1 200 OK\r\nContent-Type: application/json\r\nContent-Length: 75\r\n\r\n" ++ found_nothing
unfolding wrapped digits
bytes-nothing = refl
