-- Each prefix of the canonical text of pieces passes, where the whole of it is within the limits.
--
--   Fine ts            the newest character of each of the token lists passes
--   fine_toks          the tokens of well formed pieces are such, where these are within the limits
--   fronts             then each prefix of the text passes
use Rattle.std.proofs.Common.{◌≡◌, ℕ, zero, suc, ◌+◌, ◌≤◌, List, [], ◌∷◌, ◌++◌, map, length, take, refl, ap, ◌∙◌, sym, Bool, true, false, not, arith, length-append, None}
use Rattle.std.specs.Char.{encode_utf8}
use Rattle.std.proofs.lemmas.Bool.{lt-ltb}
use Rattle.cs_base.specs.declared.content.limits.TheConstants.{MAX_ATOMS, MAX_DEPTH, MAX_PARTS, MAX_PLAIN_WORD_BYTES, MAX_QUERY_BYTES}
use Rattle.cs_model.specs.declared.kinds.Class.{Class}
use Rattle.cs_model.specs.declared.kinds.Class.TheVariants as c
use Rattle.cs_model.specs.declared.kinds.Tie.{Tie}
use Rattle.cs_model.specs.declared.kinds.Tie.TheVariants.{Begins, Alternative, Linked as LinkedBy}
use Rattle.cs_model.specs.Collection.{has_name_form}
use Rattle.cs_model.specs.Tokens.{Token, Word, Value, Run, Gap, Dollar, Bar, Colon, Close, class_of, grown, with_next, tokens_after, size}
use Rattle.cs_model.specs.Grammar.{steps, reading}
use Rattle.cs_model.specs.Refusals.{refused, verdict, parts_in, atoms_in, depth, newest}
use Rattle.cs_model.specs.Canonical.{link_text}
use Rattle.cs_model.proofs.Pieces.{Piece, Plain, Whole, Valued, WholeValued, Opens, Closes, step_of, IsWord, IsValue, IsNameWord, fresh, TieFits, open_in, Well, between, told, space_toks, between_toks, toks}
use Rattle.cs_model.proofs.PieceTokens.{opens, between_opens, between_steps, steps_toks, tokens_told}
use Rattle.cs_model.proofs.PieceText.{printed}
use Rattle.cs_model.proofs.PassedTokens.{Passes, passed}
use Rattle.cs_model.proofs.KeptPieces.{cost}
use Rattle.cs_model.proofs.MaximalTokens.{size_after}

abbrev pub Fine : List Token → Type 0
Fine [] = Unit {0}
Fine (t ∷ ts) = Passes (t ∷ ts) × Fine ts

-- ---- sizes
size_toks : (ps : List Piece) → Well ps → size (toks ps) ≡ cost ps
size_toks ps h = ap size (sym (tokens_told ps h)) ∙ omega (arith, size_after (told ps) [])

size_between : (t : Tie) (f : Bool) (ts : List Token) → size (between_toks t f ts) ≡ size ts + length (between t f)
size_between (Begins true) true ts = omega arith
size_between (Begins true) false ts = omega arith
size_between (Begins false) true ts = omega arith
size_between (Begins false) false ts = omega arith
size_between Alternative f ts = omega arith
size_between (LinkedBy l) f ts = omega arith

-- ---- limits
-- the pieces are within the limits of parts and atoms
pub record Few (ps : List Piece) : Type 0 where
  pub parts : parts_in (map step_of ps) ≤ MAX_PARTS
  pub atoms : atoms_in (map step_of ps) ≤ MAX_ATOMS

pub few_before : (p : Piece) (ps : List Piece) → Few (p ∷ ps) → Few ps
few_before (Plain t w) ps f = record { parts = omega (arith, f.parts); atoms = omega (arith, f.atoms) }
few_before (Whole t w) ps f = record { parts = omega (arith, f.parts); atoms = omega (arith, f.atoms) }
few_before (Valued t n v) ps f = record { parts = omega (arith, f.parts); atoms = omega (arith, f.atoms) }
few_before (WholeValued t n v) ps f = record { parts = omega (arith, f.parts); atoms = omega (arith, f.atoms) }
few_before (Opens t n) ps f = record { parts = omega (arith, f.parts); atoms = omega (arith, f.atoms) }
few_before Closes ps f = record { parts = f.parts; atoms = f.atoms }

shallow : (ps : List Piece) → Well ps → open_in ps ≤ MAX_DEPTH
shallow [] h = omega arith
shallow (Opens t n ∷ ps) h = omega (arith, h.0.2)
shallow (Closes ∷ ps) h = omega (arith, shallow ps h.1)
shallow (p ∷ ps) h = shallow ps h.1

-- tokens with the steps of such pieces pass, where none is refused and they aren't too long
passes_as : (ts : List Token) (ps : List Piece) → steps ts ≡ map step_of ps → Well ps → Few ps → refused ts ≡ false → newest ts ≤ MAX_PLAIN_WORD_BYTES → size ts + open_in ps ≤ MAX_QUERY_BYTES → Passes ts
passes_as ts ps e h f r n s =
    let deep : depth ts ≡ open_in ps = ap (λ ss. length (reading ss).open_now) e ∙ (printed ps h).deep in
    record {
      fine = r;
      small = omega (arith, deep, s);
      short = n;
      parts = omega (arith, ap parts_in e, f.parts);
      atoms = omega (arith, ap atoms_in e, f.atoms);
      shallow = omega (arith, deep, shallow ps h);
    }

-- ---- what stands between atoms
gap_fine : (ps : List Piece) → refused (Gap 1 ∷ toks ps) ≡ false
gap_fine [] = refl
gap_fine (Closes ∷ ps) = refl
gap_fine (p ∷ ps) = refl

run_fine : (r : List ℕ) (ps : List Piece) → refused (Run r ∷ toks ps) ≡ false
run_fine r [] = refl
run_fine r (Closes ∷ ps) = refl
run_fine r (p ∷ ps) = refl

minus_fine : (f : Bool) (ps : List Piece) → refused (Run (45 ∷ []) ∷ space_toks f (toks ps)) ≡ false
minus_fine true ps = run_fine (45 ∷ []) ps
minus_fine false ps = refl

bar_fine : (ps : List Piece) → fresh ps ≡ false → refused (Bar ∷ toks ps) ≡ false
bar_fine [] h = cc
bar_fine (Opens t n ∷ ps) h = cc
bar_fine (p ∷ ps) h = refl

space_passes : (f : Bool) (ps : List Piece) → Well ps → Few ps → cost ps + length (between (Begins false) f) + open_in ps ≤ MAX_QUERY_BYTES → Fine (toks ps) → Fine (space_toks f (toks ps))
space_passes true ps h f s t = t
space_passes false ps h f s t = (passes_as (Gap 1 ∷ toks ps) ps (steps_toks ps h) h f (gap_fine ps) (omega arith) (omega (arith, s, size_toks ps h)), t)

less_room : (f : Bool) → length (between (Begins false) f) ≤ length (between (Begins true) f)
less_room true = omega arith
less_room false = omega arith

between_fine : (t : Tie) (ps : List Piece) (f : Bool) → Well ps → TieFits t ps → Few ps → cost ps + length (between t f) + open_in ps ≤ MAX_QUERY_BYTES → Fine (toks ps) → Fine (between_toks t f (toks ps))
between_fine (Begins false) ps f h k few s t = space_passes f ps h few s t
between_fine (Begins true) ps f h k few s t = (
  passes_as (Run (45 ∷ []) ∷ space_toks f (toks ps)) ps (between_steps (Begins true) f (toks ps) ∙ steps_toks ps h) h few (minus_fine f ps) (omega arith)
      (omega (arith, s, size_toks ps h, size_between (Begins true) f (toks ps))),
  space_passes f ps h few (omega (arith, s, less_room f)) t,
)
between_fine Alternative ps f h k few s t = (passes_as (Bar ∷ toks ps) ps (steps_toks ps h) h few (bar_fine ps k) (omega arith) (omega (arith, s, size_toks ps h)), t)
between_fine (LinkedBy l) ps f h k few s t = (passes_as (Run (link_text l) ∷ toks ps) ps (steps_toks ps h) h few (run_fine (link_text l) ps) (omega arith) (omega (arith, s, size_toks ps h)), t)

-- ---- atoms
word_fine : (w : List ℕ) (ts : List Token) → opens ts ≡ true → refused (Word w ∷ ts) ≡ false
word_fine w [] h = refl
word_fine w (Dollar ∷ ts) h = cc
word_fine w (Close ∷ ts) h = cc
word_fine w (t ∷ ts) h = refl

-- a word behind pieces, for an atom that takes n bytes
fine_word : (t : Tie) (w : List ℕ) (ps : List Piece) (n : ℕ) → IsWord w → TieFits t ps → Well ps → Few (Plain t w ∷ ps) → size (Word w ∷ between_toks t (fresh ps) (toks ps)) + n + open_in ps ≤ MAX_QUERY_BYTES
    → Fine (toks ps) → Fine (Word w ∷ between_toks t (fresh ps) (toks ps))
fine_word t w ps n hw k h few s fine = (
  passes_as (Word w ∷ between_toks t (fresh ps) (toks ps)) (Plain t w ∷ ps) (steps_toks (Plain t w ∷ ps) ((k, hw), h)) ((k, hw), h) few
      (word_fine w (between_toks t (fresh ps) (toks ps)) (between_opens t ps)) hw.short (omega (arith, s)),
  between_fine t ps (fresh ps) h k (few_before (Plain t w) ps few) (omega (arith, s, size_between t (fresh ps) (toks ps), size_toks ps h)) fine,
)

value_fine : (n v : List ℕ) (ts : List Token) → has_name_form n ≡ true → refused (Value v ∷ Colon ∷ Word n ∷ ts) ≡ false
value_fine n v ts h = ap not h

-- a value behind its name
fine_value : (t : Tie) (n v : List ℕ) (ps : List Piece) (m : ℕ) → IsNameWord n → IsValue v → TieFits t ps → Well ps → Few (Valued t n v ∷ ps)
    → size (Value v ∷ Colon ∷ Word n ∷ between_toks t (fresh ps) (toks ps)) + m + open_in ps ≤ MAX_QUERY_BYTES → Fine (toks ps) → Fine (Value v ∷ Colon ∷ Word n ∷ between_toks t (fresh ps) (toks ps))
fine_value t n v ps m hn hv k h few s fine =
    let ts : List Token = between_toks t (fresh ps) (toks ps) in
    let plain : Few (Plain t n ∷ ps) = record { parts = few.parts; atoms = few.atoms } in (
      passes_as (Value v ∷ Colon ∷ Word n ∷ ts) (Valued t n v ∷ ps) (steps_toks (Valued t n v ∷ ps) ((k, hn, hv), h)) ((k, hn, hv), h) few (value_fine n v ts hn.form) hv.short (omega (arith, s)),
      (
        passes_as (Colon ∷ Word n ∷ ts) (Plain t n ∷ ps) (steps_toks (Plain t n ∷ ps) ((k, hn.word), h)) ((k, hn.word), h) plain refl (omega arith) (omega (arith, s)),
        fine_word t n ps (1 + length v + m) hn.word k h plain (omega (arith, s)) fine,
      ),
    )

some_takes_dollar : (v : List ℕ) (ts : List Token) → 1 ≤ length v → refused (Dollar ∷ Value v ∷ ts) ≡ false
some_takes_dollar [] ts h = absurd (omega (arith, h))
some_takes_dollar (x ∷ v) ts h = refl

close_fine : (ps : List Piece) → Well ps → 1 ≤ open_in ps → refused (Close ∷ toks ps) ≡ false
close_fine ps h o =
    let deep : depth (toks ps) ≡ open_in ps = ap (λ ss. length (reading ss).open_now) (steps_toks ps h) ∙ (printed ps h).deep in
    ap not (lt-ltb 0 (depth (toks ps)) (omega (arith, deep, o)))

-- the text within the limit, and room for the brackets that are open
abbrev pub Fitting : List Piece → Type 0
Fitting ps = size (toks ps) + open_in ps ≤ MAX_QUERY_BYTES

before_size : (t : Tie) (ps : List Piece) → size (toks ps) ≤ size (between_toks t (fresh ps) (toks ps))
before_size t ps = omega (arith, size_between t (fresh ps) (toks ps))

pub fine_toks : (ps : List Piece) → Well ps → Few ps → Fitting ps → Fine (toks ps)
fine_toks [] h few s = tt
fine_toks (Plain t w ∷ ps) h few s =
    fine_word t w ps 0 h.0.1 h.0.0 h.1 few (omega (arith, s)) (fine_toks ps h.1 (few_before (Plain t w) ps few) (omega (arith, s, before_size t ps)))
fine_toks (Whole t w ∷ ps) h few s =
    let plain : Few (Plain t w ∷ ps) = record { parts = few.parts; atoms = few.atoms } in (
      passes_as (toks (Whole t w ∷ ps)) (Whole t w ∷ ps) (steps_toks (Whole t w ∷ ps) h) h few refl (omega arith) s,
      fine_word t w ps 1 h.0.1 h.0.0 h.1 plain (omega (arith, s)) (fine_toks ps h.1 (few_before (Whole t w) ps few) (omega (arith, s, before_size t ps))),
    )
fine_toks (Valued t n v ∷ ps) h few s =
    fine_value t n v ps 0 h.0.1 h.0.2 h.0.0 h.1 few (omega (arith, s)) (fine_toks ps h.1 (few_before (Valued t n v) ps few) (omega (arith, s, before_size t ps)))
fine_toks (WholeValued t n v ∷ ps) h few s =
    let plain : Few (Valued t n v ∷ ps) = record { parts = few.parts; atoms = few.atoms } in (
      passes_as (toks (WholeValued t n v ∷ ps)) (WholeValued t n v ∷ ps) (steps_toks (WholeValued t n v ∷ ps) h) h few
          (some_takes_dollar v (Colon ∷ Word n ∷ between_toks t (fresh ps) (toks ps)) h.0.3) (omega arith) s,
      fine_value t n v ps 1 h.0.1 h.0.2 h.0.0 h.1 plain (omega (arith, s)) (fine_toks ps h.1 (few_before (WholeValued t n v) ps few) (omega (arith, s, before_size t ps))),
    )
fine_toks (Opens t n ∷ ps) h few s =
    let plain : Few (Plain t n ∷ ps) = record { parts = few.parts; atoms = few.atoms } in (
      passes_as (toks (Opens t n ∷ ps)) (Opens t n ∷ ps) (steps_toks (Opens t n ∷ ps) h) h few (ap not h.0.1.form) (omega arith) s,
      fine_word t n ps 1 h.0.1.word h.0.0 h.1 plain (omega (arith, s)) (fine_toks ps h.1 (few_before (Opens t n) ps few) (omega (arith, s, before_size t ps))),
    )
fine_toks (Closes ∷ ps) h few s = (
  passes_as (toks (Closes ∷ ps)) (Closes ∷ ps) (steps_toks (Closes ∷ ps) h) h few (close_fine ps h.1 h.0) (omega arith) s,
  fine_toks ps h.1 (few_before Closes ps few) (omega (arith, s, h.0)),
)

-- ---- prefixes
-- the newest token shorter
shorter_word : (w x : List ℕ) (ts : List Token) → Passes (Word (w ++ x) ∷ ts) → Passes (Word w ∷ ts)
shorter_word w x ts p =
    let more : length (w ++ x) ≡ length w + length x = length-append w x in
    record { fine = p.fine; small = omega (arith, p.small, more); short = omega (arith, p.short, more); parts = p.parts; atoms = p.atoms; shallow = p.shallow }

shorter_value : (v x : List ℕ) (ts : List Token) → Passes (Value (v ++ x) ∷ ts) → Passes (Value v ∷ ts)
shorter_value v x (Colon ∷ Word n ∷ ts) p =
    let more : length (v ++ x) ≡ length v + length x = length-append v x in
    record { fine = p.fine; small = omega (arith, p.small, more); short = omega (arith, p.short, more); parts = p.parts; atoms = p.atoms; shallow = p.shallow }
shorter_value v x (Colon ∷ ts) p =
    let more : length (v ++ x) ≡ length v + length x = length-append v x in
    record { fine = p.fine; small = omega (arith, p.small, more); short = omega (arith, p.short, more); parts = p.parts; atoms = p.atoms; shallow = p.shallow }
shorter_value v x ts p =
    let more : length (v ++ x) ≡ length v + length x = length-append v x in
    record { fine = p.fine; small = omega (arith, p.small, more); short = omega (arith, p.short, more); parts = p.parts; atoms = p.atoms; shallow = p.shallow }

shorter_run : (r x : List ℕ) (ts : List Token) → Passes (Run (r ++ x) ∷ ts) → Passes (Run r ∷ ts)
shorter_run r x ts p = record { fine = p.fine; small = omega (arith, p.small, length-append r x); short = omega arith; parts = p.parts; atoms = p.atoms; shallow = p.shallow }

shorter_gap : (n m : ℕ) (ts : List Token) → Passes (Gap (n + m) ∷ ts) → Passes (Gap n ∷ ts)
shorter_gap n m ts p = record { fine = p.fine; small = omega (arith, p.small); short = omega arith; parts = p.parts; atoms = p.atoms; shallow = p.shallow }

back : (k : Class) (x : List ℕ) (ts : List Token) → Fine (grown k x ts) → Fine ts
back c.Letter x (Word w ∷ ts) f = (shorter_word w x ts f.0, f.1)
back c.Letter x (Value v ∷ ts) f = (shorter_value v x ts f.0, f.1)
back c.Letter x ts f = f.1
back c.Dot x (Run r ∷ ts) f = (shorter_run r x ts f.0, f.1)
back c.Dot x ts f = f.1
back c.Joiner x (Value v ∷ ts) f = (shorter_value v (95 ∷ []) ts f.0, f.1)
back c.Joiner x (Run r ∷ ts) f = (shorter_run r x ts f.0, f.1)
back c.Joiner x ts f = f.1
back c.Dollar x ts f = f.1
back c.Bar x ts f = f.1
back c.Colon x ts f = f.1.1
back c.Open x ts f = f.1
back c.Close x ts f = f.1
back c.Other x (Gap n ∷ ts) f = (shorter_gap n (length x) ts f.0, f.1)
back c.Other x ts f = f.1

all_back : (cs : List ℕ) (ts : List Token) → Fine (tokens_after ts cs) → Fine ts
all_back [] ts f = f
all_back (x ∷ cs) ts f = back (class_of x) (encode_utf8 x) ts (all_back cs (with_next x ts) f)

fine_verdict : (ts : List Token) → Fine ts → verdict ts ≡ None
fine_verdict [] f = refl
fine_verdict (t ∷ ts) f = passed (t ∷ ts) f.0

pub fronts : (cs : List ℕ) (ts : List Token) → Fine (tokens_after ts cs) → (k : ℕ) → verdict (tokens_after ts (take k cs)) ≡ None
fronts cs ts f zero = fine_verdict ts (all_back cs ts f)
fronts [] ts f (suc k) = fine_verdict ts f
fronts (x ∷ cs) ts f (suc k) = fronts cs (with_next x ts) f k
