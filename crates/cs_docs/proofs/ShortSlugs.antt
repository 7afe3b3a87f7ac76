-- A slug is short, as each cut text is.
use Rattle.std.proofs.Common.{◌≡◌, ℕ, ◌≤◌, List, [], ◌∷◌, length, ap, arith}
use Rattle.std.specs.Prelude.{Some}
use Rattle.std.specs.List.{join_with_byte}
use Rattle.std.specs.Str.{chars}
use Rattle.cs_base.specs.declared.content.limits.TheConstants.{MAX_PLAIN_WORD_BYTES}
use Rattle.cs_model.proofs.FittingLemmas.{fitting-fits}
use Rattle.cs_model.specs.Words.{cut, slug, slug_of, words}

short_cut : (cs : List ℕ) → length (cut cs) ≤ MAX_PLAIN_WORD_BYTES
unfolding cut
short_cut cs = fitting-fits MAX_PLAIN_WORD_BYTES cs

short_slug_of : (ws : List (List ℕ)) (s : List ℕ) → slug_of ws ≡ Some s → length s ≤ MAX_PLAIN_WORD_BYTES
short_slug_of [] s h = absurd (cc)
short_slug_of (w ∷ ws) s h =
    let same : cut (chars (join_with_byte 95 (w ∷ ws))) ≡ s = cc in
    omega (arith, ap length same, short_cut (chars (join_with_byte 95 (w ∷ ws))))

pub short_slug : (v s : List ℕ) → slug v ≡ Some s → length s ≤ MAX_PLAIN_WORD_BYTES
short_slug v s h = short_slug_of (words v) s h
