-- What was seen of bytes among which no head ends, so that looking can go on where more bytes come.
--
--   open_line b       what stands behind the last LF; all bytes where there is none
--   tail_of line      what stands in a line that isn't ended: nothing, one CR, or anything else
--   seen_of b         what is seen of bytes
--   IsSeen b s        no head ends in the bytes, of which there are fewer than one may have, and s is what is seen of them
--   look_by b f       what looking gives, by what framing finds
--   within_limit s    what looking gives where no head ends and this is seen
--   IsBelowLimit l    where more bytes may come, there are fewer than a head may have
--   IsPlaced n m l    looking at m bytes behind n finds the end of a head behind those n, and counts all
--   look_of b         what looking at bytes gives: what framing finds, and at More what is seen
use Rattle.std.specs.Prelude.{◌≡◌, ℕ, ◌+◌, ◌<◌, ◌≤◌, ◌==◌, nat_lt, if◌then◌else◌, List, [], ◌∷◌, length, drop}
use Rattle.cs_base.specs.declared.content.limits.TheConstants.{MAX_HEAD_BYTES}
use Rattle.cs_model.specs.Words.{is_filled}
use Rattle.cs_model_serving.specs.declared.framed.Framed.{Framed}
use Rattle.cs_model_serving.specs.declared.framed.Framed.TheVariants as framed
use Rattle.cs_model_serving.specs.Framing.{ended_lines, lines_len, front_lines, later_lines, frame}
use Rattle.cs_http.specs.declared.framing.LineState.{LineState}
use Rattle.cs_http.specs.declared.framing.LineState.TheVariants.{Empty, Return, Text}
use Rattle.cs_http.specs.declared.framing.Seen.{Seen}
use Rattle.cs_http.specs.declared.framing.Look.{Look}
use Rattle.cs_http.specs.declared.framing.Look.TheVariants.{Head, More, TooLong}

-- the bytes behind the last LF; all bytes where there is none
unfoldable pub open_line : List ℕ → List ℕ
open_line b = drop (lines_len (ended_lines b)) b

-- what stands in such a line; two CRs are text
abbrev pub tail_of : List ℕ → LineState
tail_of [] = Empty
tail_of (b ∷ []) = if b == 13 then Return else Text
tail_of (b ∷ c ∷ bs) = Text

-- what is seen of bytes: their number, that of the empty lines in front, what the last line has, and whether a line that isn't
-- empty was ended; of no bytes nothing
unfoldable pub seen_of : List ℕ → Seen
seen_of b = record {
  count = length b;
  skip = lines_len (front_lines (ended_lines b));
  tail = tail_of (open_line b);
  begun = is_filled (later_lines (ended_lines b));
}

-- more bytes are to come behind these, and this is what is seen of them
pub record IsSeen (b : List ℕ) (s : Seen) : Type 0 where
  pub more : frame b ≡ framed.More
  pub seen : s ≡ seen_of b

-- what looking gives where framing finds this
abbrev pub look_by : List ℕ → Framed → Look
look_by b (framed.Head skip end) = Head skip end
look_by b framed.More = More (seen_of b)
look_by b framed.TooLong = TooLong

-- what looking at bytes gives
abbrev pub look_of : List ℕ → Look
look_of b = look_by b (frame b)

-- what looking gives where no head ends, by how many bytes were seen
abbrev pub within_limit : Seen → Look
within_limit s = if nat_lt s.count MAX_HEAD_BYTES then More s else TooLong

-- where more bytes may come, fewer were seen than a head may have; otherwise nothing is said
abbrev pub IsBelowLimit : Look → Type 0
IsBelowLimit (Head skip end) = Unit {0}
IsBelowLimit (More s) = s.count < MAX_HEAD_BYTES
IsBelowLimit TooLong = Unit {0}

-- looking at m bytes behind n finds the end of a head behind those n, and counts all; of a head that is too long nothing is said
abbrev pub IsPlaced : ℕ → ℕ → Look → Type 0
IsPlaced n m (Head skip end) = (n < end) × (end ≤ n + m)
IsPlaced n m (More s) = s.count ≡ n + m
IsPlaced n m TooLong = Unit {0}
