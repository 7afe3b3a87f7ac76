-- What a request head asks, or why it is refused.
--
-- Source: RFC 9110 and RFC 9112 for methods, targets, fields and bodies; which heads are answered is this engine's own.
--
--   NameValue               a field's name, and its value without spaces and tabs at both ends
--   fields_of h             the fields of a head
--   is_named name f         the field has this name, in any case of ASCII letters
--   is_zero value           one or more digits 0
--   announces f             the field announces a body: Transfer-Encoding, or a Content-Length other than zero
--   has_body h              some field does
--   path_of target          the target before its first `?`, or all of it where there is none
--   params_of target        what stands behind that `?`, or nothing
--   says_close value        among the pieces between commas, without spaces and tabs at both ends, is the word `close`
--   closes h                the connection is closed after the response: HTTP/1.0, or some field Connection says `close`
--   HeadRefusal             why a head isn't answered with a reply: not_head, with_body, other_path, other_method
--   head_refusal h          the first of these that stands against a head; None where the search is asked
--   Judgement               refused, or what is asked: the parameters, and whether the connection is closed after it
--   judged_by h r           the judgement of a head with this first refusal
--   judge bytes             the judgement of bytes; those that are no head, as no bytes, are refused so
use Rattle.std.specs.Prelude.{ℕ, Bool, not, ◌&&◌, ◌||◌, ◌==◌, nat_lt, List, [], ◌∷◌, map, length, Option, Some, None, codes}
use Rattle.std.specs.List.{list_any, list_all, slice_split, before_first, after_first}
use Rattle.std.specs.Str.{bytes_eq, str_eq_ignore_ascii_case}
use Rattle.httparse.specs.Grammar.{RequestHead, trim_ows}
use Rattle.httparse.specs.Spans.{name_and_value}
use Rattle.cs_model.specs.First.{unless, first_reason}
use Rattle.cs_model_serving.specs.HeadReader.{read_head}

-- ---- fields
-- a name, and a value without the white space around it, which may be empty
abbrev pub NameValue : Type 0
NameValue = List ℕ × List ℕ

-- the fields of a head, in order; a head may have none
abbrev pub fields_of : RequestHead → List NameValue
fields_of h = map name_and_value h.fields

-- the field's name is this one, capital letters taken for small ones
abbrev pub is_named : List ℕ → NameValue → Bool
is_named name f = str_eq_ignore_ascii_case f.0 name

-- the value is one or more digits 0; the empty value isn't
abbrev pub is_zero : List ℕ → Bool
is_zero value = nat_lt 0 (length value) && list_all (λ b. b == 48) value

-- the field announces a body: Transfer-Encoding whatever its value, Content-Length unless it is zero
abbrev pub announces : NameValue → Bool
announces f = is_named (codes "transfer-encoding") f || (is_named (codes "content-length") f && not (is_zero f.1))

-- a field announces a body; without fields none does
abbrev pub has_body : RequestHead → Bool
has_body h = list_any announces (fields_of h)

-- ---- targets
-- the byte is the sign `?`
abbrev pub is_question : ℕ → Bool
is_question b = b == 63

-- the target up to but without its first `?`; the whole target where it has none
abbrev pub path_of : List ℕ → List ℕ
path_of target = before_first is_question target

-- what stands behind the first `?`; nothing where there is none
abbrev pub params_of : List ℕ → List ℕ
params_of target = after_first is_question target

-- ---- closing
-- one of the pieces between commas is the word `close` and nothing else, in any case; the empty value has one empty piece
abbrev pub says_close : List ℕ → Bool
says_close value = list_any (λ piece. str_eq_ignore_ascii_case (trim_ows piece) (codes "close")) (slice_split (λ b. b == 44) value)

-- the field is a Connection that says `close`
abbrev pub is_closing : NameValue → Bool
is_closing f = is_named (codes "connection") f && says_close f.1

-- the connection is to be closed after the response: after HTTP/1.0 always, after HTTP/1.1 where some field says so
abbrev pub closes : RequestHead → Bool
closes h = h.minor == 0 || list_any is_closing (fields_of h)

-- ---- the judgement
-- why bytes aren't answered with a reply; of the last two with whether the connection is closed after the response
pub data HeadRefusal : Type 0 where
  not_head : HeadRefusal
  with_body : HeadRefusal
  other_path : Bool → HeadRefusal
  other_method : Bool → HeadRefusal

-- the first reason, in this order; None for a GET of `/search` without a body
abbrev pub head_refusal : RequestHead → Option HeadRefusal
head_refusal h = first_reason (
    unless (not (has_body h)) with_body
    ∷ unless (bytes_eq (path_of h.target) (codes "/search")) (other_path (closes h))
    ∷ unless (bytes_eq h.method (codes "GET")) (other_method (closes h))
    ∷ [])

-- refused, or what is asked: the parameters, which may be empty, and whether the connection is closed after the response
pub data Judgement : Type 0 where
  refused : HeadRefusal → Judgement
  asks : List ℕ → Bool → Judgement

-- the judgement of a head of which this is the first refusal
abbrev pub judged_by : RequestHead → Option HeadRefusal → Judgement
judged_by h None = asks (params_of h.target) (closes h)
judged_by h (Some r) = refused r

-- the judgement of what was read; where no head was read, not_head
abbrev pub judged_head : Option RequestHead → Judgement
judged_head None = refused not_head
judged_head (Some h) = judged_by h (head_refusal h)

-- the judgement of the bytes that are to be a head as a whole; no bytes aren't
unfoldable pub judge : List ℕ → Judgement
judge bytes = judged_head (read_head bytes)
