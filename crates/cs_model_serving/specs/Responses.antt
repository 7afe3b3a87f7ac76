-- Responses, and their bytes.
--
-- Source: RFC 9110, section 15, for statuses and their reasons, and RFC 6585, section 5, for 431; RFC 9110, 10.2.1, for Allow; RFC 9112, sections 4, 5 and 9.6, for the
-- lines. Which status comes when, and the bodies, are this engine's own.
--
--   Response                  a status, whether the connection is closed after it, and its body
--   is_status n               the status is one of those that are sent
--   reason status             the words of a status
--   head_line text            a line of a head: the text, CR and LF
--   wrapped status c body     the bytes of a response; the connection is closed after it where c
--   response_bytes r          those of r; a body without bytes has the length 0
--   all_bytes rs              those of responses one after the other; of none nothing
--   status_by r               400 for parameters with a refusal, else 200
--   to_params k p c           the response to parameters over a corpus: the reply, or the first refusal
--   to_refused r              the response to bytes that aren't answered with a reply
--   to_judgement k j          the response to a judgement
--   response_to k bytes       the response to the bytes of a head, or of what should be one
--   too_long                  the response where no head ends within the limit
--   read_failed c             the response in the place of a reply where the index wasn't read
--   index_changed rule at c   that where the index isn't what it was at opening
--   out_of_memory             the response where memory ran out
--   memory_bytes              its bytes, which are constant
use Rattle.std.specs.Prelude.{ℕ, Bool, true, ◌==◌, if◌then◌else◌, List, [], ◌∷◌, ◌++◌, length, Option, Some, None, codes}
use Rattle.std.specs.List.{flat_map, list_any}
use Rattle.std.specs.Fmt.{decimal}
use Rattle.cs_model.specs.Corpus.{Corpus}
use Rattle.cs_model.specs.Faults.{error_text, changed_text}
use Rattle.cs_model.specs.Outputs.{text_by}
use Rattle.cs_model.specs.Parameters.{RequestRefusal, request_refusal}
use Rattle.cs_model_serving.specs.Heads.{HeadRefusal, not_head, with_body, other_path, other_method, Judgement, refused, asks, judge}

-- ---- bytes
-- what is sent for one head: its status, whether the connection is closed after it, its body, which may be empty
pub record Response : Type 0 where
  pub status : ℕ
  pub closes : Bool
  pub body : List ℕ

-- the status is one of the seven that are sent; 0 isn't
abbrev pub is_status : ℕ → Bool
is_status n = list_any (λ s. s == n) (200 ∷ 400 ∷ 404 ∷ 405 ∷ 431 ∷ 500 ∷ 503 ∷ [])

-- the words of a status; it counts for those seven
abbrev pub reason : ℕ → List ℕ
reason status =
    if status == 200 then codes "OK"
    else if status == 400 then codes "Bad Request"
    else if status == 404 then codes "Not Found"
    else if status == 405 then codes "Method Not Allowed"
    else if status == 431 then codes "Request Header Fields Too Large"
    else if status == 500 then codes "Internal Server Error"
    else codes "Service Unavailable"

-- a line of a head, with CR and LF at its end; without text it is those two alone
abbrev pub head_line : List ℕ → List ℕ
head_line text = text ++ 13 ∷ 10 ∷ []

-- the bytes of a response: the status line, Allow where the method isn't allowed, the body's type and its number of bytes,
-- Connection where the connection is closed after it, an empty line and the body, which may be empty
unfoldable pub wrapped : ℕ → Bool → List ℕ → List ℕ
wrapped status close body =
    head_line (codes "HTTP/1.1 " ++ decimal status ++ codes " " ++ reason status)
    ++ (if status == 405 then head_line (codes "Allow: GET") else [])
    ++ head_line (codes "Content-Type: application/json")
    ++ head_line (codes "Content-Length: " ++ decimal (length body))
    ++ (if close then head_line (codes "Connection: close") else [])
    ++ head_line []
    ++ body

-- the bytes of a response
abbrev pub response_bytes : Response → List ℕ
response_bytes r = wrapped r.status r.closes r.body

-- the bytes of responses, one after the other; of none nothing
abbrev pub all_bytes : List Response → List ℕ
all_bytes rs = flat_map response_bytes rs

-- ---- what is answered
-- the status for parameters of which this is the first refusal; where there is none, that of a reply
abbrev pub status_by : Option RequestRefusal → ℕ
status_by None = 200
status_by (Some r) = 400

-- the response to parameters over a corpus, which for no parameters is the reply to the empty query
abbrev pub to_params : Corpus → List ℕ → Bool → Response
to_params k p close = record { status = status_by (request_refusal p); closes = close; body = text_by k p (request_refusal p) }

-- the response to what isn't answered with a reply; bytes that are no head, and a body, close the connection in any case
abbrev pub to_refused : HeadRefusal → Response
to_refused not_head = record { status = 400; closes = true; body = error_text (codes "head") }
to_refused with_body = record { status = 400; closes = true; body = error_text (codes "body") }
to_refused (other_path close) = record { status = 404; closes = close; body = error_text (codes "path") }
to_refused (other_method close) = record { status = 405; closes = close; body = error_text (codes "method") }

-- the response to a judgement
abbrev pub to_judgement : Corpus → Judgement → Response
to_judgement k (refused r) = to_refused r
to_judgement k (asks p close) = to_params k p close

-- the response to the bytes of a head; to bytes that are none, as no bytes, that of not_head
unfoldable pub response_to : Corpus → List ℕ → Response
response_to k bytes = to_judgement k (judge bytes)

-- ---- without a head, or without a reply
-- the response where no head ends within the limit; the connection is closed after it
abbrev pub too_long : Response
too_long = record { status = 431; closes = true; body = error_text (codes "head too long") }

-- in the place of a reply: the index wasn't read
abbrev pub read_failed : Bool → Response
read_failed close = record { status = 500; closes = close; body = error_text (codes "read") }

-- in the place of a reply: the index breaks this rule at this byte, and didn't at opening
abbrev pub index_changed : ℕ → ℕ → Bool → Response
index_changed rule at close = record { status = 500; closes = close; body = changed_text rule at }

-- in the place of any response, or of none: memory ran out; the connection is closed after it
abbrev pub out_of_memory : Response
out_of_memory = record { status = 503; closes = true; body = error_text (codes "memory") }

-- the bytes of this response, which are constant, so that they can be sent without memory; `MemoryIsConstant` says that they are
unfoldable pub memory_bytes : List ℕ
memory_bytes =
    head_line (codes "HTTP/1.1 503 Service Unavailable")
    ++ head_line (codes "Content-Type: application/json")
    ++ head_line (codes "Content-Length: 18")
    ++ head_line (codes "Connection: close")
    ++ head_line []
    ++ codes "{\"error\":\"memory\"}"
