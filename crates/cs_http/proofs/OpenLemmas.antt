-- One byte more behind bytes: their lines, and what stands behind the last of them.
--
--   feed_ends         an LF ends the line that is open
--   byte_opens        any other byte stands in it
--   size-open         the bytes of the lines and of the open one are all bytes
use Rattle.std.proofs.Common.{◌≡◌, ℕ, ◌+◌, ⊎_elim, false, List, [], ◌∷◌, ◌++◌, length, drop, sym, ap, ap₂, subst, ◌∙◌, arith, append_assoc, append-nil, length-append, length-drop}
use Rattle.std.proofs.Math.Seq.{drop-append-add}
use Rattle.std.proofs.lemmas.Bool.{cases_Bool, eqb-true}
use Rattle.std.proofs.lemmas.List.Sums.{sum_by-cons}
use Rattle.cs_model_serving.specs.Framing.{is_line_feed, ended_lines, lines_len}
use Rattle.cs_model_serving.proofs.LineLemmas.{HasNoFeed, no_feed_nil, no_feed_push, ended_none, ended_first, ended_size}
use Rattle.cs_http.specs.Looking.{open_line}

open_none : (text : List ℕ) → HasNoFeed text → open_line text ≡ text
unfolding open_line
open_none text h = ap (λ ls. drop (lines_len ls) text) (ended_none text h)

open_first : (text bytes : List ℕ) → HasNoFeed text → open_line (text ++ 10 ∷ bytes) ≡ open_line bytes
unfolding open_line
open_first text bytes h =
    let size : lines_len (ended_lines (text ++ 10 ∷ bytes)) ≡ length (text ++ 10 ∷ []) + lines_len (ended_lines bytes) =
    omega (arith, ap lines_len (ended_first text bytes h), sum_by-cons (λ l. length l + 1) text (ended_lines bytes), length-append text (10 ∷ [])) in
    ap₂ drop size (sym (append_assoc text (10 ∷ []) bytes)) ∙ drop-append-add (text ++ 10 ∷ []) bytes (lines_len (ended_lines bytes))

regroup : (text bytes : List ℕ) (b : ℕ) → text ++ b ∷ bytes ≡ (text ++ b ∷ []) ++ bytes
regroup text bytes b = sym (append_assoc text (b ∷ []) bytes)

-- what a byte c more makes of the lines and of the open one, given what it should
record Puts (c : ℕ) (lines : List ℕ → List (List ℕ)) (left : List ℕ → List ℕ) (b : List ℕ) : Type 0 where
  ended : ended_lines (b ++ c ∷ []) ≡ ended_lines b ++ lines (open_line b)
  «open» : open_line (b ++ c ∷ []) ≡ left (open_line b)

-- it makes that of bytes where it does of a text without LF
put_at : (c : ℕ) (lines : List ℕ → List (List ℕ)) (left : List ℕ → List ℕ) (text bytes : List ℕ) → HasNoFeed text → Puts c lines left bytes → Puts c lines left (text ++ 10 ∷ bytes)
put_at c lines left text bytes h on = record {
  ended =
      ap ended_lines (append_assoc text (10 ∷ bytes) (c ∷ [])) ∙ ended_first text (bytes ++ c ∷ []) h ∙ ap (λ ls. text ∷ ls) on.ended
      ∙ ap₂ (λ a l. a ++ lines l) (sym (ended_first text bytes h)) (sym (open_first text bytes h));
  «open» = ap open_line (append_assoc text (10 ∷ bytes) (c ∷ [])) ∙ open_first text (bytes ++ c ∷ []) h ∙ on.«open» ∙ ap left (sym (open_first text bytes h));
}

abbrev PutsText : ℕ → (List ℕ → List (List ℕ)) → (List ℕ → List ℕ) → Type 0
PutsText c lines left = (text : List ℕ) → HasNoFeed text → Puts c lines left text

put_from : (c : ℕ) (lines : List ℕ → List (List ℕ)) (left : List ℕ → List ℕ) → PutsText c lines left → (bytes text : List ℕ) → HasNoFeed text → Puts c lines left (text ++ bytes)
put_from c lines left is [] text h = subst (Puts c lines left) (sym (append-nil text)) (is text h)
put_from c lines left is (b ∷ bytes) text h =
    ⊎_elim
    (λ e. subst (λ d. Puts c lines left (text ++ d ∷ bytes)) (sym (eqb-true b 10 e)) (put_at c lines left text bytes h (put_from c lines left is bytes [] no_feed_nil)))
    (λ e. subst (Puts c lines left) (sym (regroup text bytes b)) (put_from c lines left is bytes (text ++ b ∷ []) (no_feed_push text b h e)))
    (cases_Bool (is_line_feed b))

feed_text : PutsText 10 (λ l. l ∷ []) (λ l. [])
feed_text text h = record {
  ended = ended_first text [] h ∙ ap₂ (λ a l. a ++ l ∷ []) (sym (ended_none text h)) (sym (open_none text h));
  «open» = open_first text [] h ∙ open_none [] no_feed_nil;
}

byte_text : (c : ℕ) → is_line_feed c ≡ false → PutsText c (λ l. []) (λ l. l ++ c ∷ [])
byte_text c e text h =
    let longer = no_feed_push text c h e in
    record {
      ended = ended_none (text ++ c ∷ []) longer ∙ ap (λ ls. ls ++ []) (sym (ended_none text h));
      «open» = open_none (text ++ c ∷ []) longer ∙ ap (λ l. l ++ c ∷ []) (sym (open_none text h));
    }

pub record Feeds (b : List ℕ) : Type 0 where
  pub ended : ended_lines (b ++ 10 ∷ []) ≡ ended_lines b ++ open_line b ∷ []
  pub «open» : open_line (b ++ 10 ∷ []) ≡ []

pub feed_ends : (b : List ℕ) → Feeds b
feed_ends b = let p = put_from 10 (λ l. l ∷ []) (λ l. []) feed_text b [] no_feed_nil in record { ended = p.ended; «open» = p.«open» }

pub record Opens (b : List ℕ) (c : ℕ) : Type 0 where
  pub ended : ended_lines (b ++ c ∷ []) ≡ ended_lines b
  pub «open» : open_line (b ++ c ∷ []) ≡ open_line b ++ c ∷ []

pub byte_opens : (b : List ℕ) (c : ℕ) → is_line_feed c ≡ false → Opens b c
byte_opens b c e = let p = put_from c (λ l. []) (λ l. l ++ c ∷ []) (byte_text c e) b [] no_feed_nil in record { ended = p.ended ∙ append-nil (ended_lines b); «open» = p.«open» }

pub size-open : (b : List ℕ) → length b ≡ lines_len (ended_lines b) + length (open_line b)
unfolding open_line
size-open b = omega (arith, ended_size b, length-drop (lines_len (ended_lines b)) b)
