-- The request head that some bytes are, as a function of them.
--
-- Source: RFC 9112, sections 2 to 5, in the grammar of the library httparse under its default settings, which states it as a
-- relation. `AreHeads` of ServingLaws says that this function is that relation.
--
--   IsHead bytes h      the bytes are, as a whole, the head h of at most 64 fields, by that grammar
--   IsNoHead bytes      they are no such head
--   ends_in_return l    whether the line's last byte is CR
--   line_text l         a line without the CR at its end, of which there may be none
--   line_end l          how the line ends: CR LF or LF
--   line_field l        the field that a line can be: the name before its first colon, the value behind it
--   version_of text     the minor version that the bytes of a version end with
--   head_by             the head that lines can be: empty lines in front, the start line, lines of fields, the closing line
--   lines_head lines    the only head that lines can be
--   is_head_field f     the name is a token, and each byte of the value may stand in one
--   is_valid h          each part of the head is of its class
--   tested bytes h      the guess h, where it is valid, printed as the bytes and has few enough fields
--   read_head bytes     the head that the bytes are; None where they are none, as no bytes are
--
-- The function guesses the one head that the bytes can be, line by line, and tests the guess: its parts are of their classes,
-- and it is printed as these bytes.
use Rattle.std.specs.Prelude.{◌≤◌, ℕ, ◌-◌, Bool, ◌&&◌, nat_lt, nat_le, nat_eq, if◌then◌else◌, List, [], ◌∷◌, map, length, take, drop, slice_index, Option, Some, None}
use Rattle.std.specs.List.{list_all, ends_with, before_first, after_first, slice_index_or}
use Rattle.std.specs.Str.{bytes_eq, is_utf8}
use Rattle.httparse.specs.Grammar.{LineEnd, crlf, lf, Field, RequestHead, ReadsRequest, print_request, is_token, is_uri_byte, is_value_byte}
use Rattle.cs_base.specs.declared.content.limits.TheConstants.{MAX_HEAD_FIELDS}
use Rattle.cs_model.specs.Collection.{is_colon, is_space}
use Rattle.cs_model_serving.specs.Framing.{ended_lines, front_lines, text_lines, closing_lines}

-- ---- the grammar
-- the bytes are this head, with no byte behind it and at most `MAX_HEAD_FIELDS` fields; no bytes aren't
abbrev pub IsHead : List ℕ → RequestHead → Type 0
IsHead bytes h = ReadsRequest bytes h [] × (length h.fields ≤ MAX_HEAD_FIELDS)

-- the bytes are no such head, as no bytes are
abbrev pub IsNoHead : List ℕ → Type 0
IsNoHead bytes = (h : RequestHead) → ¬ (IsHead bytes h)

-- ---- lines
-- the last byte of the line is CR; the line without bytes has none
abbrev pub ends_in_return : List ℕ → Bool
ends_in_return l = ends_with nat_eq l (13 ∷ [])

-- a line without the CR at its end, of which one is left out where there are more; without such a CR it stays as it is
unfoldable pub line_text : List ℕ → List ℕ
line_text l = if ends_in_return l then take (length l - 1) l else l

-- how a line ends: in CR LF where its last byte is CR, else in LF alone, as the line without bytes
unfoldable pub line_end : List ℕ → LineEnd
line_end l = if ends_in_return l then crlf else lf

-- ---- the guess
-- the field that a line can be; without a colon its value is empty
abbrev pub line_field : List ℕ → Field
line_field l = record {
  name = before_first is_colon (line_text l);
  raw = after_first is_colon (line_text l);
  end = line_end l;
}

-- the minor version in the place of the last byte of `HTTP/1.0`; it counts where that is a digit
abbrev pub version_of : List ℕ → ℕ
version_of text = slice_index text 7 - 48

-- the head that these lines can be: method, target and version between spaces, then the fields
abbrev pub head_by : List (List ℕ) → List ℕ → List (List ℕ) → List ℕ → RequestHead
head_by front start fields closing = record {
  blank = map line_end front;
  method = before_first is_space (line_text start);
  target = before_first is_space (after_first is_space (line_text start));
  minor = version_of (after_first is_space (after_first is_space (line_text start)));
  line_end = line_end start;
  fields = map line_field fields;
  last = line_end closing;
}

-- the only head that lines can be; a line that is missing is taken for the line without bytes
abbrev pub lines_head : List (List ℕ) → RequestHead
lines_head lines = head_by (front_lines lines) (slice_index_or (text_lines lines) 0 []) (drop 1 (text_lines lines)) (slice_index_or (closing_lines lines) 0 [])

-- ---- the test
-- the name is a token, and each byte of the value may stand in one
abbrev pub is_head_field : Field → Bool
is_head_field f = is_token f.name && list_all is_value_byte f.raw

-- each part is of its class: the target has a byte and is UTF-8, the version is HTTP/1.0 or HTTP/1.1
unfoldable pub is_valid : RequestHead → Bool
is_valid h =
    is_token h.method && (nat_lt 0 (length h.target) && (list_all is_uri_byte h.target && is_utf8 h.target))
    && (nat_le h.minor 1 && list_all is_head_field h.fields)

-- the guess, where it is valid, is printed as the bytes and has few enough fields
abbrev pub tested : List ℕ → RequestHead → Option RequestHead
tested bytes h =
    if is_valid h && (bytes_eq bytes (print_request h) && nat_le (length h.fields) MAX_HEAD_FIELDS) then Some h else None

-- the head that the bytes are as a whole; None where they are none, as no bytes are
unfoldable pub read_head : List ℕ → Option RequestHead
read_head bytes = tested bytes (lines_head (ended_lines bytes))
