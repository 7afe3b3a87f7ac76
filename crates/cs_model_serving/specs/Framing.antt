-- Where a request head stands among bytes that aren't read yet.
--
-- Source: RFC 9112, sections 2.1 and 2.2: lines, the empty line that ends a head, LF alone as the end of a line, empty lines in
-- front of a head. The limit of its bytes is this engine's own.
--
--   is_line_feed b        whether the byte is LF
--   ended_lines bytes     the bytes cut at each LF: each line without its LF; what stands behind the last LF is no line yet
--   is_empty_line l       nothing stands before the LF, or one CR alone
--   lines_len lines       the number of bytes of lines, each with its LF; 0 for no lines
--   front_lines lines     the empty lines in front; none where the first line isn't empty
--   later_lines lines     the lines behind these; none where each line is empty
--   text_lines lines      of them those before the next empty line; none where no line has text
--   closing_lines lines   that next empty line and the lines behind it; none where no empty line comes
--   place_by              the place of a head from the numbers of bytes in front and of its text, and the closing lines
--   place_in lines        the bytes in front of a head, and the bytes up to its end; None where no head ends among the lines
--   framed_by n place     what framing finds, by the number of all bytes and the place of a head that ends within the limit
--   frame bytes           what framing finds in the bytes: Head, More or TooLong; in no bytes More
--
-- Only the first `MAX_HEAD_BYTES` bytes are looked at, so a head whose last LF is a byte behind them is too long.
use Rattle.std.specs.Prelude.{ℕ, ◌+◌, Bool, true, false, not, ◌==◌, nat_lt, if◌then◌else◌, List, [], ◌∷◌, length, take, drop, take_while, count_by, sum_by, Option, Some, None}
use Rattle.std.specs.List.{slice_split, prefix_len}
use Rattle.cs_base.specs.declared.content.limits.TheConstants.{MAX_HEAD_BYTES}
use Rattle.cs_model_serving.specs.declared.framed.Framed.{Framed}
use Rattle.cs_model_serving.specs.declared.framed.Framed.TheVariants.{Head, More, TooLong}

-- ---- lines
-- the byte is LF, and no other ends a line
abbrev pub is_line_feed : ℕ → Bool
is_line_feed b = b == 10

-- the lines of the bytes, as many as they have LFs, each without its LF; a CR stays, and without an LF there is no line
abbrev pub ended_lines : List ℕ → List (List ℕ)
ended_lines bytes = take (count_by is_line_feed bytes) (slice_split is_line_feed bytes)

-- nothing but at most one CR stands before the LF; two CRs make a line that isn't empty
abbrev pub is_empty_line : List ℕ → Bool
is_empty_line [] = true
is_empty_line (b ∷ []) = b == 13
is_empty_line (b ∷ c ∷ bs) = false

-- how many bytes lines have, the LF of each included; 0 for no lines
abbrev pub lines_len : List (List ℕ) → ℕ
lines_len lines = sum_by (λ l. length l + 1) lines

-- ---- heads
-- the empty lines in front, which are skipped; none where the first line isn't empty
abbrev pub front_lines : List (List ℕ) → List (List ℕ)
front_lines lines = take_while is_empty_line lines

-- the lines from the first on that isn't empty; none where each is
abbrev pub later_lines : List (List ℕ) → List (List ℕ)
later_lines lines = drop (prefix_len is_empty_line lines) lines

-- the lines from the first that isn't empty up to the next empty one; none where each is empty
abbrev pub text_lines : List (List ℕ) → List (List ℕ)
text_lines lines = take_while (λ l. not (is_empty_line l)) (later_lines lines)

-- the lines from that next empty one on; none where it hasn't come
abbrev pub closing_lines : List (List ℕ) → List (List ℕ)
closing_lines lines = drop (prefix_len (λ l. not (is_empty_line l)) (later_lines lines)) (later_lines lines)

-- the place of a head, which ends behind the first closing line; None where there is none
abbrev pub place_by : ℕ → ℕ → List (List ℕ) → Option (ℕ × ℕ)
place_by skip text [] = None
place_by skip text (closing ∷ lines) = Some (skip, skip + text + (length closing + 1))

-- the bytes in front of the first head among the lines, and the bytes up to its end; None where no head ends among them
abbrev pub place_in : List (List ℕ) → Option (ℕ × ℕ)
place_in lines = place_by (lines_len (front_lines lines)) (lines_len (text_lines lines)) (closing_lines lines)

-- what is found where this is the place of a head; where there is none, n bytes are too many from `MAX_HEAD_BYTES` on
abbrev pub framed_by : ℕ → Option (ℕ × ℕ) → Framed
framed_by n (Some place) = Head place.0 place.1
framed_by n None = if nat_lt n MAX_HEAD_BYTES then More else TooLong

-- what is found in the bytes, of which the first `MAX_HEAD_BYTES` are looked at; of no bytes there are to be more
unfoldable pub frame : List ℕ → Framed
frame bytes = framed_by (length bytes) (place_in (ended_lines (take MAX_HEAD_BYTES bytes)))
