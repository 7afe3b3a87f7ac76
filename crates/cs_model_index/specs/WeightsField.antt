-- The header's last number, which tells the weights of a collection where they aren't the usual ones.
--
-- Source: this engine's own.
--
--   three_bytes a b c    the number of these three bytes, the highest first
--   usual                that of the usual weights
--   field_of w           the number that stands for weights: 0 for the usual ones, and else that of the three
--   weights_of n         the weights of a number; they count only where it is a field
--   is_field n           a number that stands for some weights
use Rattle.std.specs.Prelude.{ℕ, ◌+◌, ◌*◌, ◌/◌, ◌%◌, ◌^◌, Bool, not, ◌&&◌, ◌||◌, ◌==◌, nat_le, nat_lt, if◌then◌else◌}
use Rattle.cs_base.specs.declared.content.scores.TheConstants.{USUAL_WEIGHTS}
use Rattle.cs_base.specs.declared.content.scores.Weights.{Weights}

-- the first is the highest; each is below 256
unfoldable pub three_bytes : ℕ → ℕ → ℕ → ℕ
three_bytes a b c = a * 65536 + b * 256 + c

-- 4, 2 and 1
abbrev pub usual : ℕ
usual = three_bytes USUAL_WEIGHTS.title USUAL_WEIGHTS.facet USUAL_WEIGHTS.text

-- title, facet and text behind a byte 0; for the usual ones that byte and three more
unfoldable pub field_of : Weights → ℕ
field_of w = if three_bytes w.title w.facet w.text == usual then 0 else three_bytes w.title w.facet w.text

-- the usual ones for 0
unfoldable pub weights_of : ℕ → Weights
weights_of n = if n == 0 then USUAL_WEIGHTS else record { title = n / 65536; facet = n / 256 % 256; text = n % 256 }

-- 0, or three bytes of which none is 0 and which aren't those of the usual weights
unfoldable pub is_field : ℕ → Bool
is_field n = n == 0 || (nat_lt n (2 ^ 24) && (nat_le 1 (n / 65536) && (nat_le 1 (n / 256 % 256) && (nat_le 1 (n % 256) && not (n == usual)))))
