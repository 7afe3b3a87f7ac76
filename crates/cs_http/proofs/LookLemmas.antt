-- Looking at one byte more behind bytes that were seen.
--
--   IsOld             what was seen, field by field
--   put_seen          a byte that isn't LF
--   end_text          an LF behind text
--   end_head          an LF that ends a head
--   end_blank         an LF of an empty line in front
--   look_stays        a head that is found, or is too long, stays so where more bytes come
--   look_more         at More, what is seen is seen of these bytes
--   seen_nothing      what is seen of no bytes
--   placed_..         where a head ends, by how many bytes were seen
use Rattle.std.proofs.Common.{◌≡◌, ℕ, ◌+◌, ◌<◌, ◌≤◌, ⊎_elim, Bool, true, false, cond, nat_lt, ◌==◌, List, [], ◌∷◌, ◌++◌, length, take, Option, Some, None, refl, sym, ap, ap₂, subst, ◌∙◌, arith, append_assoc, length-append, get_or, drop, suc, drop-cons, take-append-drop}
use Rattle.std.proofs.lemmas.Bool.{cases_Bool}
use Rattle.std.proofs.lemmas.List.{take_all}
use Rattle.std.proofs.lemmas.List.Sums.{sum_by-append}
use Rattle.cs_base.specs.declared.content.limits.TheConstants.{MAX_HEAD_BYTES}
use Rattle.cs_model.specs.Words.{is_filled}
use Rattle.cs_model_serving.specs.declared.framed.Framed.{Framed}
use Rattle.cs_model_serving.specs.declared.framed.Framed.TheVariants as framed
use Rattle.cs_model_serving.specs.Framing.{is_line_feed, ended_lines, is_empty_line, lines_len, front_lines, later_lines, place_in, framed_by, frame}
use Rattle.cs_model_serving.proofs.FrameLemmas.{frame-head, frame-too_long, frame-few, frame-nil}
use Rattle.cs_http.specs.declared.framing.LineState.{LineState}
use Rattle.cs_http.specs.declared.framing.LineState.TheVariants.{Empty, Return, Text}
use Rattle.cs_http.specs.declared.framing.Seen.{Seen}
use Rattle.cs_http.specs.declared.framing.Look.{Look}
use Rattle.cs_http.specs.declared.framing.Look.TheVariants.{Head, More, TooLong}
use Rattle.cs_http.specs.Looking.{open_line, tail_of, seen_of, IsSeen, look_by, look_of, within_limit, IsPlaced}
use Rattle.cs_http.proofs.OpenLemmas.{feed_ends, byte_opens, size-open}
use Rattle.cs_http.proofs.PushedLines.{push_begun, push_blank}

-- ---- bytes within the limit
frame-small : (b : List ℕ) → length b ≤ MAX_HEAD_BYTES → frame b ≡ framed_by (length b) (place_in (ended_lines b))
unfolding frame
frame-small b h = ap (λ l. framed_by (length b) (place_in (ended_lines l))) (take_all MAX_HEAD_BYTES b h)

limited : (b : List ℕ) (t : Bool) → look_by b (cond t framed.More framed.TooLong) ≡ cond t (More (seen_of b)) TooLong
limited b true = refl
limited b false = refl

seen-count : (b : List ℕ) → (seen_of b).count ≡ length b
unfolding seen_of
seen-count b = refl

look_none : (b : List ℕ) → length b ≤ MAX_HEAD_BYTES → place_in (ended_lines b) ≡ None → look_of b ≡ within_limit (seen_of b)
look_none b h none =
    ap (look_by b) (frame-small b h ∙ ap (framed_by (length b)) none) ∙ limited b (nat_lt (length b) MAX_HEAD_BYTES)
    ∙ ap (λ n. cond (nat_lt n MAX_HEAD_BYTES) (More (seen_of b)) TooLong) (sym (seen-count b))

look_head : (b : List ℕ) (skip end : ℕ) → length b ≤ MAX_HEAD_BYTES → place_in (ended_lines b) ≡ Some (skip, end) → look_of b ≡ Head skip end
look_head b skip end h some = ap (look_by b) (frame-small b h ∙ ap (framed_by (length b)) some)

-- ---- what was seen
pub record IsOld (b : List ℕ) (s : Seen) : Type 0 where
  pub count : s.count ≡ length b
  pub skip : s.skip ≡ lines_len (front_lines (ended_lines b))
  pub tail : s.tail ≡ tail_of (open_line b)
  pub begun : s.begun ≡ is_filled (later_lines (ended_lines b))
  pub few : length b < MAX_HEAD_BYTES
  pub none : place_in (ended_lines b) ≡ None

no_head : (n : ℕ) (o : Option (ℕ × ℕ)) → framed_by n o ≡ framed.More → o ≡ None
no_head n None h = refl
no_head n (Some p) h = absurd (cc)

pub old_of : (b : List ℕ) (s : Seen) → IsSeen b s → IsOld b s
unfolding seen_of
old_of b s is =
    let few = frame-few b is.more in
    record {
      count = ap (λ s. s.count) is.seen;
      skip = ap (λ s. s.skip) is.seen;
      tail = ap (λ s. s.tail) is.seen;
      begun = ap (λ s. s.begun) is.seen;
      few = few;
      none = no_head (length b) (place_in (ended_lines b)) (sym (frame-small b (omega (arith, few))) ∙ is.more);
    }

-- what is seen of bytes, from its fields
seen_by : (b : List ℕ) (count skip : ℕ) (tail : LineState) (begun : Bool) → count ≡ length b → skip ≡ lines_len (front_lines (ended_lines b)) → tail ≡ tail_of (open_line b) → begun ≡ is_filled (later_lines (ended_lines b)) → record { count = count; skip = skip; tail = tail; begun = begun } ≡ seen_of b
unfolding seen_of
seen_by b count skip tail begun e f g h = λ i. record { count = e i; skip = f i; tail = g i; begun = h i }

longer : (b : List ℕ) (c : ℕ) → length (b ++ c ∷ []) ≡ length b + 1
longer b c = length-append b (c ∷ [])

-- ---- one byte more
pub put_seen : (b : List ℕ) (s : Seen) (c : ℕ) (tail : LineState) → IsOld b s → is_line_feed c ≡ false → tail ≡ tail_of (open_line b ++ c ∷ [])
    → within_limit (record { count = s.count + 1; skip = s.skip; tail = tail; begun = s.begun }) ≡ look_of (b ++ c ∷ [])
put_seen b s c tail old other is =
    let opens = byte_opens b c other in
    let size = longer b c in
    ap within_limit (seen_by (b ++ c ∷ []) (s.count + 1) s.skip tail s.begun (omega (arith, size, old.count))
    (old.skip ∙ ap (λ ls. lines_len (front_lines ls)) (sym opens.ended))
    (is ∙ ap tail_of (sym opens.«open»))
    (old.begun ∙ ap (λ ls. is_filled (later_lines ls)) (sym opens.ended)))
    ∙ sym (look_none (b ++ c ∷ []) (omega (arith, size, old.few)) (ap place_in opens.ended ∙ old.none))

-- ---- an LF more
one_byte : (b : ℕ) (t : Bool) → (b == 13) ≡ t → cond t Return Text ≡ Text → (b == 13) ≡ false
one_byte b true e h = absurd (cc)
one_byte b false e h = e

text_tail : (l : List ℕ) → tail_of l ≡ Text → is_empty_line l ≡ false
text_tail [] h = absurd (cc)
text_tail (b ∷ []) h = one_byte b (b == 13) refl h
text_tail (b ∷ c ∷ l) h = refl

other_tail : (b : ℕ) (t : Bool) → (b == 13) ≡ t → (cond t Return Text ≡ Text → ⊥) → (b == 13) ≡ true
other_tail b true e h = e
other_tail b false e h = absurd (h refl)

empty_tail : (l : List ℕ) → (tail_of l ≡ Text → ⊥) → is_empty_line l ≡ true
empty_tail [] h = refl
empty_tail (b ∷ []) h = other_tail b (b == 13) refl h
empty_tail (b ∷ c ∷ l) h = absurd (h refl)

-- the lines behind an LF more
abbrev pushed : List ℕ → List (List ℕ)
pushed b = ended_lines b ++ open_line b ∷ []

fed_seen : (b : List ℕ) (skip : ℕ) (begun : Bool) → length b < MAX_HEAD_BYTES → place_in (pushed b) ≡ None → skip ≡ lines_len (front_lines (pushed b)) → begun ≡ is_filled (later_lines (pushed b))
    → within_limit (record { count = length b + 1; skip = skip; tail = Empty; begun = begun }) ≡ look_of (b ++ 10 ∷ [])
fed_seen b skip begun few none e f =
    let feeds = feed_ends b in
    let size = longer b 10 in
    ap within_limit (seen_by (b ++ 10 ∷ []) (length b + 1) skip Empty begun (sym size)
    (e ∙ ap (λ ls. lines_len (front_lines ls)) (sym feeds.ended))
    (ap tail_of (sym feeds.«open»))
    (f ∙ ap (λ ls. is_filled (later_lines ls)) (sym feeds.ended)))
    ∙ sym (look_none (b ++ 10 ∷ []) (omega (arith, size, few)) (ap place_in feeds.ended ∙ none))

pub end_text : (b : List ℕ) (s : Seen) → IsOld b s → s.tail ≡ Text
    → within_limit (record { count = s.count + 1; skip = s.skip; tail = Empty; begun = true }) ≡ look_of (b ++ 10 ∷ [])
end_text b s old is =
    let lines = ended_lines b in
    let l = open_line b in
    let text : is_empty_line l ≡ false = text_tail l (sym old.tail ∙ is) in
    ap (λ n. within_limit (record { count = n + 1; skip = s.skip; tail = Empty; begun = true })) old.count
    ∙ ⊎_elim
    (λ e. let p = push_begun lines l old.none e in fed_seen b s.skip true old.few (p.none text) (old.skip ∙ ap lines_len (sym p.front)) (sym p.begun))
    (λ e. let p = push_blank lines l e in fed_seen b s.skip true old.few p.none (old.skip ∙ ap lines_len (sym (p.begins text).0)) (sym (p.begins text).1))
    (cases_Bool (is_filled (later_lines lines)))

pub end_head : (b : List ℕ) (s : Seen) → IsOld b s → (s.tail ≡ Text → ⊥) → s.begun ≡ true → Head s.skip (s.count + 1) ≡ look_of (b ++ 10 ∷ [])
end_head b s old other begun =
    let lines = ended_lines b in
    let l = open_line b in
    let empty : is_empty_line l ≡ true = empty_tail l (λ e. other (old.tail ∙ e)) in
    let p = push_begun lines l old.none (sym old.begun ∙ begun) in
    let size = longer b 10 in
    let end : s.count + 1 ≡ lines_len lines + (length l + 1) = omega (arith, old.count, size-open b) in
    ap₂ Head old.skip end
    ∙ sym (look_head (b ++ 10 ∷ []) (lines_len (front_lines lines)) (lines_len lines + (length l + 1)) (omega (arith, size, old.few)) (ap place_in (feed_ends b).ended ∙ p.ends empty))

pub end_blank : (b : List ℕ) (s : Seen) → IsOld b s → (s.tail ≡ Text → ⊥) → s.begun ≡ false
    → within_limit (record { count = s.count + 1; skip = s.count + 1; tail = Empty; begun = false }) ≡ look_of (b ++ 10 ∷ [])
end_blank b s old other begun =
    let lines = ended_lines b in
    let l = open_line b in
    let empty : is_empty_line l ≡ true = empty_tail l (λ e. other (old.tail ∙ e)) in
    let p = push_blank lines l (sym old.begun ∙ begun) in
    let skip : length b + 1 ≡ lines_len (pushed b) = omega (arith, size-open b, sum_by-append (λ l. length l + 1) lines (l ∷ [])) in
    ap (λ n. within_limit (record { count = n + 1; skip = n + 1; tail = Empty; begun = false })) old.count
    ∙ fed_seen b (length b + 1) false old.few p.none (skip ∙ ap lines_len (sym (p.skips empty).0)) (sym (p.skips empty).1)

-- ---- more bytes
-- what is found, and no more is to come
abbrev pub IsFound : Look → Type 0
IsFound (Head skip end) = Unit {0}
IsFound (More s) = ⊥
IsFound TooLong = Unit {0}

stays_by : (b more : List ℕ) (f : Framed) → frame b ≡ f → IsFound (look_by b f) → look_by (b ++ more) (frame (b ++ more)) ≡ look_by b f
stays_by b more (framed.Head skip end) h is = ap (look_by (b ++ more)) (frame-head b more skip end h)
stays_by b more framed.More h is = absurd is
stays_by b more framed.TooLong h is = ap (look_by (b ++ more)) (frame-too_long b more h)

pub look_stays : (b more : List ℕ) (l : Look) → l ≡ look_of b → IsFound l → l ≡ look_of (b ++ more)
look_stays b more l is found = is ∙ sym (stays_by b more (frame b) refl (subst IsFound is found))

more_by : (b : List ℕ) (s : Seen) (f : Framed) → frame b ≡ f → More s ≡ look_by b f → IsSeen b s
more_by b s (framed.Head skip end) h is = absurd (cc)
more_by b s framed.More h is = record { more = h; seen = (cc) }
more_by b s framed.TooLong h is = absurd (cc)

pub look_more : (b : List ℕ) (s : Seen) → More s ≡ look_of b → IsSeen b s
look_more b s is = more_by b s (frame b) refl is

pub seen_look : (b : List ℕ) (s : Seen) → IsSeen b s → More s ≡ look_of b
seen_look b s is = ap More is.seen ∙ ap (look_by b) (sym is.more)

pub seen_nothing : IsSeen [] (record { count = 0; skip = 0; tail = Empty; begun = false })
unfolding seen_of open_line
seen_nothing = record { more = frame-nil; seen = refl }

pub found_of : (l : Look) → ((s : Seen) → l ≡ More s → ⊥) → IsFound l
found_of (Head skip end) h = tt
found_of (More s) h = absurd (h s refl)
found_of TooLong h = tt

-- what is found at a byte of more bytes is found in all of them
pub look_found : (before more : List ℕ) (i d : ℕ) (l : Look) → i < length more → l ≡ look_of ((before ++ take i more) ++ get_or more i d ∷ []) → IsFound l → l ≡ look_of (before ++ more)
look_found before more i d l less is found =
    let all : ((before ++ take i more) ++ get_or more i d ∷ []) ++ drop (suc i) more ≡ before ++ more =
    append_assoc (before ++ take i more) (get_or more i d ∷ []) (drop (suc i) more) ∙ append_assoc before (take i more) (get_or more i d ∷ drop (suc i) more)
    ∙ ap (λ bs. before ++ (take i more ++ bs)) (sym (drop-cons more i d less)) ∙ ap (λ bs. before ++ bs) (take-append-drop i more) in
    subst (λ b. l ≡ look_of b) all (look_stays ((before ++ take i more) ++ get_or more i d ∷ []) (drop (suc i) more) l is found)

-- ---- places
pub placed_next : (n : ℕ) (l : Look) → IsPlaced (n + 1) 0 l → IsPlaced n 1 l
placed_next n (Head skip end) h = (omega (arith, h.0), omega (arith, h.1))
placed_next n (More s) h = omega (arith, h)
placed_next n TooLong h = tt

pub placed_found : (n k i m : ℕ) (l : Look) → k ≡ n + i → i < m → IsFound l → IsPlaced k 1 l → IsPlaced n m l
placed_found n k i m (Head skip end) e less found h = (omega (arith, e, h.0), omega (arith, e, less, h.1))
placed_found n k i m (More s) e less found h = absurd found
placed_found n k i m TooLong e less found h = tt
