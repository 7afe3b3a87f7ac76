-- Framing and heads on worked bytes: the definitions computed.
use Rattle.std.proofs.Common.{◌≡◌, true, false, List, ℕ, [], ◌∷◌, ◌++◌, map, refl, codes, replicate, flat_map}
use Rattle.std.specs.Str.{chars, is_utf8}
use Rattle.httparse.specs.Grammar.{is_token_byte, trim_ows, print_request}
use Rattle.cs_model_serving.specs.declared.framed.Framed.{Framed}
use Rattle.cs_model_serving.specs.declared.framed.Framed.TheVariants.{Head, More, TooLong}
use Rattle.cs_model_serving.specs.Framing.{frame}
use Rattle.cs_model_serving.specs.HeadReader.{line_text, line_end, is_valid, read_head}
use Rattle.cs_model_serving.specs.Heads.{Judgement, not_head, with_body, other_path, other_method, refused, asks, judge}
use lib.Utf8

-- ---- framing
-- bytes, each with how they are framed
abbrev framings : List (List ℕ × Framed)
framings =
    -- lines end in CR LF or in LF alone, and the second empty line ends the head
    (codes "GET / HTTP/1.1\r\n\r\nGET", Head 0 18)
    ∷ (codes "GET / HTTP/1.1\n\nGET", Head 0 16)
    -- an LF and a CR LF in front are empty lines, and so is what ends the head
    ∷ (codes "\n\r\na\n\r\n", Head 3 7)
    -- a line of two CRs isn't empty
    ∷ (codes "a\n\r\r\n", More)
    -- a CR before bytes that are to come is no line yet
    ∷ (codes "a\r\n\r", More)
    -- empty lines alone, one byte fewer than a head may have, and as many
    ∷ (replicate 8191 10, More)
    ∷ (replicate 8192 10, TooLong)
    ∷ []

framed : map (λ c. frame c.0) framings ≡ map (λ c. c.1) framings
unfolding frame
framed = refl

-- ---- heads
-- a head with this start line, these lines of fields and its empty line
abbrev head : List ℕ → List ℕ → List ℕ
head start fields = start ++ codes "\r\n" ++ fields ++ codes "\r\n"

abbrev search : List ℕ → List ℕ
search fields = head (codes "GET /search?q=a HTTP/1.1") fields

-- so many fields
abbrev fields : ℕ → List ℕ
fields n = flat_map (λ b. b ∷ codes ":\r\n") (replicate n 97)

-- bytes, each with their judgement
abbrev judgements : List (List ℕ × Judgement)
judgements =
    (search [], asks (codes "q=a") false)
    -- without a question mark nothing is asked, which is the empty query
    ∷ (head (codes "GET /search HTTP/1.1") [], asks [] false)
    -- a second question mark belongs to the parameters
    ∷ (head (codes "GET /search?a?b HTTP/1.1") [], asks (codes "a?b") false)
    -- digits 0 announce no body, any other length does, in any case of the name
    ∷ (search (codes "Content-Length: 00\r\n"), asks (codes "q=a") false)
    ∷ (search (codes "content-LENGTH: 1\r\n"), refused with_body)
    ∷ (search (codes "Transfer-Encoding: chunked\r\n"), refused with_body)
    -- the word `close` stands among pieces between commas; a longer word isn't it
    ∷ (search (codes "Connection: keep-alive, CLOSE\r\n"), asks (codes "q=a") true)
    ∷ (search (codes "Connection: closed\r\n"), asks (codes "q=a") false)
    -- after HTTP/1.0 the connection is closed
    ∷ (head (codes "GET /search?q=a HTTP/1.0") (codes "Connection: keep-alive\r\n"), asks (codes "q=a") true)
    -- the path is judged before the method, and a body before both
    ∷ (head (codes "POST /x HTTP/1.1") [], refused (other_path false))
    ∷ (head (codes "HEAD /search HTTP/1.1") (codes "Connection: close\r\n"), refused (other_method true))
    ∷ (head (codes "POST /x HTTP/1.1") (codes "Content-Length: 5\r\n"), refused with_body)
    -- bytes behind a head, a space before a colon, and a folded line are no head
    ∷ (search [] ++ codes "x", refused not_head)
    ∷ (search (codes "a : b\r\n"), refused not_head)
    ∷ (search (codes "a: b\r\n c\r\n"), refused not_head)
    -- 64 fields are a head, 65 are none
    ∷ (search (fields 64), asks (codes "q=a") false)
    ∷ (search (fields 65), refused not_head)
    ∷ []

judged : map (λ c. judge c.0) judgements ≡ map (λ c. c.1) judgements
unfolding judge read_head line_text line_end is_valid is_token_byte trim_ows print_request is_utf8 chars lib.Utf8.encode
judged = refl
