-- The first line of a text, seen through a window onto its front.
use Rattle.std.proofs.Common.{◌≡◌, ◌≢◌, ℕ, ◌+◌, ◌-◌, ◌<◌, ◌≤◌, Bool, true, false, min, List, [], ◌∷◌, ◌++◌, length, take, drop, get_or, ltb, eqb, cond, inl, inr, refl, sym, ap, subst, ◌∙◌, arith}
use Rattle.std.specs.Prelude.{Some, None}
use Rattle.std.specs.List.{All, position_or_len}
use Rattle.std.specs.Str.Lines.{lines, strip_carriage_return}
use Rattle.std.proofs.lemmas.Bool.{false_from_ne_true}
use Rattle.std.proofs.lemmas.Bool.Decides.{nat_tests}
use Rattle.std.proofs.lemmas.Grind.{common_steps}
use Rattle.std.proofs.lemmas.List.{take_all, take-take, drop-drop, drop_all, get_or-take, take-append-le, length-take, length-drop}
use Rattle.std.proofs.lemmas.List.Elements.{All-from_get_or, All-take}
use Rattle.std.proofs.lemmas.List.Sums.{fails_before_first, passes_at_first}
use Rattle.memchr.specs.Find.{IsFirstByte, is_byte}
use Rattle.cs_base.specs.declared.content.limits.TheConstants.{MAX_SCRIPT_LINE_BYTES}
use Rattle.cs_docs.specs.Lines.{Shows}
use Rattle.cs_docs.proofs.LinesLemmas.{line_at, last_line}
use Rattle.cs_top.specs.ScriptEndings.{IsFirstLine}

stripped : (l : List ℕ) (t : Bool) → length l ≤ length (cond t (take (length l - 1) l) l) + 1
stripped l true = grind (arith, common_steps)
stripped l false = grind (arith, common_steps)

-- at most one byte is lost
length-strip : (l : List ℕ) → length l ≤ length (strip_carriage_return l) + 1
length-strip l = stripped l _

differs : false ≡ true → ⊥
differs h = cc

-- a first line of more than n bytes
abbrev IsLong : List ℕ → ℕ → Type 0
IsLong s n = (first : List ℕ) × (ls : List (List ℕ)) × (lines s ≡ first ∷ ls) × (n < length first)

module _ (s : List ℕ) (n : ℕ) (long : n + 2 ≤ length s) (no_lf : (k : ℕ) → k < n + 2 → eqb (get_or s k 0) 10 ≡ false) where
  abbrev place : ℕ
  place = position_or_len (λ b. eqb b 10) s

  behind : (t : Bool) → ltb place (n + 2) ≡ t → n + 2 ≤ place
  behind true h =
      let low : place < n + 2 = grind (arith, nat_tests) in
      let hit : eqb (get_or s place 0) 10 ≡ true = passes_at_first (λ b. eqb b 10) s 0 (omega arith) in
      absurd (differs (sym (no_lf place low) ∙ hit))
  behind false h = grind (arith, nat_tests)

  at_place : (t : Bool) → ltb place (length s) ≡ t → IsLong s n
  at_place true h =
      let low : place < length s = grind (arith, nat_tests) in
      let far : n + 2 ≤ place = behind _ refl in
      let one = length-strip (take place s) in (
        strip_carriage_return (take place s),
        lines (drop (place + 1) s),
        line_at s place low (λ k l. fails_before_first (λ b. eqb b 10) s k 0 l) (passes_at_first (λ b. eqb b 10) s 0 low),
        omega (arith, one, length-take place s),
      )
  at_place false h =
      let all : length s ≤ place = grind (arith, nat_tests) in
      (s, [], last_line s (omega arith) (λ k a l e. differs (sym (fails_before_first (λ b. eqb b 10) s k 0 (omega arith)) ∙ e)), omega arith)

  -- without LF among its first bytes
  pub is_long : IsLong s n
  is_long = at_place _ refl

module _ (b w tail : List ℕ) (at size room len next : ℕ) (whole : length b ≡ size) (before : at < size) (is_room : room ≡ min (size - at) (MAX_SCRIPT_LINE_BYTES + 2))
    (read : w ≡ take room (drop at b)) (within : len ≤ length w) where
  abbrev s : List ℕ
  s = drop at b

  length-s : length s ≡ size - at
  length-s = length-drop at b ∙ ap (λ n. n - at) whole

  length-w : length w ≡ room
  length-w = ap length read ∙ length-take room s ∙ omega (arith, length-s)

  same_byte : (k : ℕ) → k < room → get_or s k 0 ≡ get_or w k 0
  same_byte k l = sym (get_or-take room s k 0 l) ∙ ap (λ x. get_or x k 0) (sym read)

  shown : take len (w ++ tail) ≡ take len w
  shown = take-append-le len w tail within

  rest : drop (at + next) b ≡ drop next s
  rest = sym (drop-drop next at b)

  ends : (i : ℕ) → next ≡ i + 1 → IsFirstByte (is_byte 10) w (Some i) → take len w ≡ strip_carriage_return (take i w) → lines s ≡ take len w ∷ lines (drop next s)
  ends i n h l =
      let low : i < room = subst (λ m. i < m) length-w h.0.high in
      let front : take i w ≡ take i s = ap (take i) read ∙ take-take i room s (omega arith) in
      line_at s i (omega (arith, length-s)) (λ k m. ap (λ x. eqb x 10) (same_byte k (omega arith)) ∙ false_from_ne_true _ (h.0.before k (omega arith) m)) (ap (λ x. eqb x 10) (same_byte i low) ∙ h.1)
      ∙ ap (λ x. strip_carriage_return x ∷ lines (drop (i + 1) s)) (sym front)
      ∙ ap (λ x. x ∷ lines (drop (i + 1) s)) (sym l)
      ∙ ap (λ m. take len w ∷ lines (drop m s)) (sym n)

  unended : IsFirstByte (is_byte 10) w None → len ≡ length w → next ≡ length w → room ≡ length s → lines s ≡ take len w ∷ lines (drop next s)
  unended h l n all =
      let same : w ≡ s = read ∙ take_all room s (omega arith) in
      let nothing : drop next s ≡ [] = drop_all next s (omega (arith, length-w)) in
      last_line s (omega (arith, length-s)) (subst (λ x. IsFirstByte (is_byte 10) x None) same h)
      ∙ ap (λ x. x ∷ []) (sym same ∙ sym (take_all len w (omega arith)))
      ∙ ap (λ x. take len w ∷ lines x) (sym nothing)

  too_long : IsFirstByte (is_byte 10) w None → room ≡ MAX_SCRIPT_LINE_BYTES + 2 → IsLong s MAX_SCRIPT_LINE_BYTES
  too_long h full = is_long s MAX_SCRIPT_LINE_BYTES (omega (arith, length-s)) (λ k l. ap (λ x. eqb x 10) (same_byte k (omega arith)) ∙ false_from_ne_true _ (h k (omega arith) (omega (arith, length-w))))

  by_room : (t : Bool) → ltb (size - at) (MAX_SCRIPT_LINE_BYTES + 2) ≡ t → IsFirstByte (is_byte 10) w None → len ≡ length w → next ≡ length w → IsFirstLine s (take len w) (drop next s)
  by_room true t h l n = inl (unended h l n (grind (arith, nat_tests, length-s)))
  by_room false t h l n =
      let full : room ≡ MAX_SCRIPT_LINE_BYTES + 2 = grind (arith, nat_tests) in
      inr (subst (λ m. MAX_SCRIPT_LINE_BYTES < m) (sym (length-take len w)) (omega (arith, length-w)), too_long h full)

  by_end : Shows w len next → IsFirstLine s (take len w) (drop next s)
  by_end (inl h) = inl (ends h.0 h.1 h.2 h.3)
  by_end (inr h) = by_room _ refl h.0 h.1 h.2

  -- what the window shows is the line at its place in the file, or both are too long
  pub window_line : Shows w len next → IsFirstLine (drop at b) (take len (w ++ tail)) (drop (at + next) b)
  window_line h = subst (λ x. IsFirstLine s x (drop (at + next) b)) (sym shown) (subst (λ x. IsFirstLine s (take len w) x) (sym rest) (by_end h))

-- ---- a line ends at its LF
strip_all : (l : List ℕ) (t : Bool) → All (λ b. b ≢ 10) l → All (λ b. b ≢ 10) (cond t (take (length l - 1) l) l)
strip_all l true h = All-take (λ b. b ≢ 10) (length l - 1) l h
strip_all l false h = h

shown_all : (w : List ℕ) (len next : ℕ) → Shows w len next → All (λ b. b ≢ 10) (take len w)
shown_all w len next (inl h) =
    let front : All (λ b. b ≢ 10) (take h.0 w) = All-from_get_or (λ b. b ≢ 10) (take h.0 w) 0 (λ k l e.
    let low : k < h.0 = let size = length-take h.0 w in omega (arith, size, l) in
    h.2.0.before k (omega arith) low (ap (λ x. eqb x 10) (sym (get_or-take h.0 w k 0 low) ∙ e))) in
    subst (All (λ b. b ≢ 10)) (sym h.3) (strip_all (take h.0 w) _ front)
shown_all w len next (inr h) = All-take (λ b. b ≢ 10) len w (All-from_get_or (λ b. b ≢ 10) w 0 (λ k l e. h.0 k (omega arith) l (ap (λ x. eqb x 10) e)))

-- so it has none, also where more stands behind the window
pub no_feed : (w tail : List ℕ) (len next : ℕ) → len ≤ length w → Shows w len next → All (λ b. b ≢ 10) (take len (w ++ tail))
no_feed w tail len next within h = subst (All (λ b. b ≢ 10)) (sym (take-append-le len w tail within)) (shown_all w len next h)
