-- The pieces of an accepted text.
--
--   Pieced ts      pieces with the steps of the tokens, which are well formed and have a text that is no longer
--   pieced         kept tokens have such
use Rattle.std.proofs.Common.{◌≡◌, ℕ, ◌+◌, ◌≤◌, ◌<◌, List, [], ◌∷◌, ◌++◌, map, length, refl, ap, ◌∙◌, sym, Bool, true, false, not, arith, length-append}
use Rattle.std.specs.Prelude.{◌&&◌, ◌==◌, nat_lt, if◌then◌else◌, encode_utf8_all}
use Rattle.std.specs.Str.{chars}
use Rattle.std.proofs.lemmas.Bool.{not-false, ltb-true}
use Rattle.std.proofs.lemmas.Str.{encodes-chars}
use Rattle.cs_base.specs.declared.content.limits.TheConstants.{MAX_DEPTH}
use Rattle.cs_base.specs.declared.content.query.Link.TheVariants.{Near}
use Rattle.cs_base.specs.declared.content.query.Atom.{Prefix, Exact}
use Rattle.cs_model.specs.declared.kinds.Spot.{Spot}
use Rattle.cs_model.specs.declared.kinds.Spot.TheVariants.{Front, BehindAtom, Elsewhere}
use Rattle.cs_model.specs.declared.kinds.Tie.{Tie}
use Rattle.cs_model.specs.declared.kinds.Tie.TheVariants.{Begins, Linked as LinkedBy}
use Rattle.cs_model.specs.Tokens.{Token, Word, Value, Run, Gap, Dollar, Bar, Colon, Open, Close, size}
use Rattle.cs_model.specs.Collection.{has_name_form, named}
use Rattle.cs_model.specs.Grammar.{Leaf, Enter, Leave, spot, tie, run_tie, front_tie, link_tie, steps, reading}
use Rattle.cs_model.specs.Refusals.{takes_bar, depth}
use Rattle.cs_model.proofs.Pieces.{Piece, Plain, Whole, Valued, WholeValued, Opens, Closes, step_of, IsWord, IsValue, IsNameWord, fresh, linkable, TieFits, open_in, Well, space, between, told}
use Rattle.cs_model.proofs.PieceTokens.{opens}
use Rattle.cs_model.proofs.PieceText.{between_bytes, sign_behind, facet_bytes, dollar_alone, open_alone, close_alone, linked_behind, printed}
use Rattle.cs_model.proofs.PassedTokens.{Kept}
use Rattle.cs_model.proofs.SizeLemmas.{encodes-append}

-- the bytes of the pieces' text
abbrev pub cost : List Piece → ℕ
cost ps = length (encode_utf8_all (told ps))

pub record Pieced (ts : List Token) : Type 0 where
  pub pieces : List Piece
  pub same : map step_of pieces ≡ steps ts
  pub well : Well pieces
  pub small : cost pieces ≤ size ts
  pub linked : spot ts ≡ BehindAtom → linkable pieces ≡ true
  pub behind : takes_bar ts ≡ true → fresh pieces ≡ false
  pub room : spot ts ≡ Front → cost pieces + length (space (fresh pieces)) ≤ size ts
  pub fits : opens ts ≡ true → TieFits (tie ts) pieces
  pub tied : opens ts ≡ true → cost pieces + length (between (tie ts) (fresh pieces)) ≤ size ts

no_true : {X : Type 0} → true ≡ false → X
no_true h = absurd (let no : true ≡ false = h in cc)

no_false : {X : Type 0} → false ≡ true → X
no_false h = absurd (let no : false ≡ true = h in cc)

space_cost : (f : Bool) → length (space f) ≤ 1
space_cost true = omega arith
space_cost false = omega arith

begins_cost : (f : Bool) → length (between (Begins false) f) ≤ 1
begins_cost true = omega arith
begins_cost false = omega arith

excluded_cost : (f : Bool) → length (between (Begins true) f) ≡ length (space f) + 1
excluded_cost true = omega arith
excluded_cost false = omega arith

-- ---- atoms behind pieces
more_cost : (t : Tie) (ps : List Piece) (xs bytes : List ℕ) (n m : ℕ) → cost ps + length (between t (fresh ps)) ≤ n → encode_utf8_all xs ≡ bytes → length bytes ≤ m
    → length (encode_utf8_all (told ps ++ (between t (fresh ps) ++ xs))) ≤ n + m
more_cost t ps xs bytes n m h e le =
    omega (
      arith,
      h,
      ap length e,
      le,
      ap length (encodes-append (told ps) (between t (fresh ps) ++ xs)),
      length-append (encode_utf8_all (told ps)) (encode_utf8_all (between t (fresh ps) ++ xs)),
      ap length (encodes-append (between t (fresh ps)) xs),
      length-append (encode_utf8_all (between t (fresh ps))) (encode_utf8_all xs),
      ap length (between_bytes t (fresh ps)),
    )

-- pieces with the steps of the tokens, which are no longer
record Covers (ts : List Token) (ps : List Piece) : Type 0 where
  same : map step_of ps ≡ steps ts
  well : Well ps
  small : cost ps ≤ size ts

-- tokens that end in an atom, behind which a link may stand
behind_atom : (ts : List Token) (ps : List Piece) → Covers ts ps → spot ts ≡ BehindAtom → opens ts ≡ false → linkable ps ≡ true → Pieced ts
behind_atom ts ps c at shut link = record {
  pieces = ps;
  same = c.same;
  well = c.well;
  small = c.small;
  linked = λ e. link;
  behind = λ e. linked_behind ps link;
  room = λ e. absurd (let no : BehindAtom ≡ Front = sym at ∙ e in cc);
  fits = λ e. no_false (sym shut ∙ e);
  tied = λ e. no_false (sym shut ∙ e);
}

word_pieced : (w : List ℕ) (ts : List Token) → IsWord w → opens ts ≡ true → Pieced ts → Pieced (Word w ∷ ts)
word_pieced w ts h o p = behind_atom (Word w ∷ ts) (Plain (tie ts) w ∷ p.pieces) (record {
  same = ap (λ ss. Leaf (tie ts) (Prefix w) ∷ ss) p.same;
  well = ((p.fits o, h), p.well);
  small = more_cost (tie ts) p.pieces (chars w) w (size ts) (length w) (p.tied o) (encodes-chars w h.utf8) (omega arith);
}) refl refl refl

exact_cost : (w : List ℕ) → IsWord w → encode_utf8_all (chars w ++ 36 ∷ []) ≡ w ++ 36 ∷ []
exact_cost w h = sign_behind (chars w) 36 dollar_alone ∙ ap (λ l. l ++ 36 ∷ []) (encodes-chars w h.utf8)

exact_pieced : (w : List ℕ) (ts : List Token) → IsWord w → opens ts ≡ true → Pieced ts → Pieced (Dollar ∷ Word w ∷ ts)
exact_pieced w ts h o p =
    let le = more_cost (tie ts) p.pieces (chars w ++ 36 ∷ []) (w ++ 36 ∷ []) (size ts) (length w + 1) (p.tied o) (exact_cost w h) (omega (arith, length-append w (36 ∷ []))) in
    behind_atom (Dollar ∷ Word w ∷ ts) (Whole (tie ts) w ∷ p.pieces) (record { same = ap (λ ss. Leaf (tie ts) (Exact w) ∷ ss) p.same; well = ((p.fits o, h), p.well); small = omega (arith, le) }) refl refl refl

value_pieced : (v n : List ℕ) (ts : List Token) → IsNameWord n → IsValue v → opens ts ≡ true → Pieced ts → Pieced (Value v ∷ Colon ∷ Word n ∷ ts)
value_pieced v n ts h hv o p = record {
  pieces = Valued (tie ts) n v ∷ p.pieces;
  same = ap (λ ss. Leaf (tie ts) (Prefix (named n v)) ∷ ss) p.same;
  well = ((p.fits o, h, hv), p.well);
  small = let le = more_cost (tie ts) p.pieces (chars n ++ 58 ∷ chars v) (n ++ 58 ∷ v) (size ts) (length n + 1 + length v) (p.tied o) (facet_bytes n v h.word hv) (omega (arith, length-append n (58 ∷ v))) in omega (arith, le);
  linked = λ e. absurd (let no : Elsewhere ≡ BehindAtom = e in cc);
  behind = λ e. refl;
  room = λ e. absurd (let no : Elsewhere ≡ Front = e in cc);
  fits = λ e. no_false e;
  tied = λ e. no_false e;
}

exact_value_cost : (n v : List ℕ) → IsWord n → IsValue v → encode_utf8_all ((chars n ++ 58 ∷ chars v) ++ 36 ∷ []) ≡ (n ++ 58 ∷ v) ++ 36 ∷ []
exact_value_cost n v h hv = sign_behind (chars n ++ 58 ∷ chars v) 36 dollar_alone ∙ ap (λ l. l ++ 36 ∷ []) (facet_bytes n v h hv)

exact_value_pieced : (v n : List ℕ) (ts : List Token) → IsNameWord n → IsValue v → 1 ≤ length v → opens ts ≡ true → Pieced ts → Pieced (Dollar ∷ Value v ∷ Colon ∷ Word n ∷ ts)
exact_value_pieced v n ts h hv some o p =
    let le = more_cost (tie ts) p.pieces ((chars n ++ 58 ∷ chars v) ++ 36 ∷ []) ((n ++ 58 ∷ v) ++ 36 ∷ []) (size ts) (length n + 1 + length v + 1) (p.tied o) (exact_value_cost n v h.word hv)
    (omega (arith, length-append (n ++ 58 ∷ v) (36 ∷ []), length-append n (58 ∷ v))) in
    behind_atom (Dollar ∷ Value v ∷ Colon ∷ Word n ∷ ts) (WholeValued (tie ts) n v ∷ p.pieces)
    (record { same = ap (λ ss. Leaf (tie ts) (Exact (named n v)) ∷ ss) p.same; well = ((p.fits o, h, hv, some), p.well); small = omega (arith, le) }) refl refl refl

-- ---- brackets
-- the brackets that are open behind tokens and behind their pieces
pub deep_same : (ts : List Token) (p : Pieced ts) → depth ts ≡ open_in p.pieces
deep_same ts p = ap (λ ss. length (reading ss).open_now) (sym p.same) ∙ (printed p.pieces p.well).deep

open_cost : (n : List ℕ) → IsWord n → encode_utf8_all (chars n ++ 91 ∷ []) ≡ n ++ 91 ∷ []
open_cost n h = sign_behind (chars n) 91 open_alone ∙ ap (λ l. l ++ 91 ∷ []) (encodes-chars n h.utf8)

open_pieced : (n : List ℕ) (ts : List Token) → IsNameWord n → depth (Open ∷ Word n ∷ ts) ≤ MAX_DEPTH → opens ts ≡ true → Pieced ts → Pieced (Open ∷ Word n ∷ ts)
open_pieced n ts h d o p =
    let le = more_cost (tie ts) p.pieces (chars n ++ 91 ∷ []) (n ++ 91 ∷ []) (size ts) (length n + 1) (p.tied o) (open_cost n h.word) (omega (arith, length-append n (91 ∷ []))) in
    record {
      pieces = Opens (tie ts) n ∷ p.pieces;
      same = ap (λ ss. Enter (tie ts) n ∷ ss) p.same;
      well = ((p.fits o, h, omega (arith, d, deep_same ts p)), p.well);
      small = omega (arith, le);
      linked = λ e. absurd (let no : Front ≡ BehindAtom = e in cc);
      behind = λ e. no_false e;
      room = λ e. omega (arith, le);
      fits = λ e. tt;
      tied = λ e. omega (arith, le);
    }

close_pieced : (ts : List Token) → 0 < depth ts → Pieced ts → Pieced (Close ∷ ts)
close_pieced ts d p = behind_atom (Close ∷ ts) (Closes ∷ p.pieces) (record {
  same = ap (λ ss. Leave ∷ ss) p.same;
  well = (omega (arith, d, deep_same ts p), p.well);
  small = omega (arith, p.small, ap length (sign_behind (told p.pieces) 93 close_alone), length-append (encode_utf8_all (told p.pieces)) (93 ∷ []));
}) refl refl refl

-- ---- tokens that only tie
gap_pieced : (n : ℕ) (ts : List Token) → 1 ≤ n → Pieced ts → Pieced (Gap n ∷ ts)
gap_pieced n ts some p = record {
  pieces = p.pieces;
  same = p.same;
  well = p.well;
  small = omega (arith, p.small);
  linked = λ e. absurd (let no : Front ≡ BehindAtom = e in cc);
  behind = λ e. no_false e;
  room = λ e. omega (arith, p.small, some, space_cost (fresh p.pieces));
  fits = λ e. tt;
  tied = λ e. omega (arith, p.small, some, begins_cost (fresh p.pieces));
}

-- a token that adds no piece, and behind which no link stands
elsewhere : (ts us : List Token) (p : Pieced ts) → steps us ≡ steps ts → size ts ≤ size us → spot us ≡ Elsewhere → takes_bar us ≡ false
    → TieFits (tie us) p.pieces × (cost p.pieces + length (between (tie us) (fresh p.pieces)) ≤ size us) → Pieced us
elsewhere ts us p same long at bar tied = record {
  pieces = p.pieces;
  same = p.same ∙ sym same;
  well = p.well;
  small = omega (arith, p.small, long);
  linked = λ e. absurd (let no : Elsewhere ≡ BehindAtom = sym at ∙ e in cc);
  behind = λ e. no_false (sym bar ∙ e);
  room = λ e. absurd (let no : Elsewhere ≡ Front = sym at ∙ e in cc);
  fits = λ e. tied.0;
  tied = λ e. tied.1;
}

colon_pieced : (ts : List Token) → Pieced ts → Pieced (Colon ∷ ts)
colon_pieced ts p = elsewhere ts (Colon ∷ ts) p refl (omega arith) refl refl (tt, omega (arith, p.small, begins_cost (fresh p.pieces)))

bar_pieced : (ts : List Token) → takes_bar ts ≡ true → Pieced ts → Pieced (Bar ∷ ts)
bar_pieced ts h p = elsewhere ts (Bar ∷ ts) p refl (omega arith) refl refl (p.behind h, omega (arith, p.small))

-- a run, by where it stands
record RunTied (ts : List Token) (p : Pieced ts) (t : Tie) (r : List ℕ) : Type 0 where
  fits : TieFits t p.pieces
  tied : cost p.pieces + length (between t (fresh p.pieces)) ≤ size ts + length r

positive_tied : (ts : List Token) (p : Pieced ts) (r : List ℕ) → 1 ≤ length r → RunTied ts p (Begins false) r
positive_tied ts p r h = record { fits = tt; tied = omega (arith, h, p.small, begins_cost (fresh p.pieces)) }

front_tied : (ts : List Token) (p : Pieced ts) (r : List ℕ) → 1 ≤ length r → spot ts ≡ Front → RunTied ts p (front_tie r) r
front_tied ts p [] h s = absurd (omega (arith, h))
front_tied ts p (x ∷ []) h s = one (x == 45)
  where
    one : (b : Bool) → RunTied ts p (Begins b) (x ∷ [])
    one true = record { fits = tt; tied = omega (arith, p.room s, excluded_cost (fresh p.pieces)) }
    one false = positive_tied ts p (x ∷ []) h
front_tied ts p (x ∷ y ∷ r) h s = positive_tied ts p (x ∷ y ∷ r) h

link_tied : (ts : List Token) (p : Pieced ts) (r : List ℕ) → 1 ≤ length r → spot ts ≡ BehindAtom → RunTied ts p (link_tie r) r
link_tied ts p [] h s = absurd (omega (arith, h))
link_tied ts p (x ∷ []) h s = record { fits = p.linked s; tied = omega (arith, p.small) }
link_tied ts p (x ∷ y ∷ []) h s = two ((x == 46) && (y == 46))
  where
    two : (b : Bool) → RunTied ts p (if b then LinkedBy Near else Begins false) (x ∷ y ∷ [])
    two true = record { fits = p.linked s; tied = omega (arith, p.small) }
    two false = positive_tied ts p (x ∷ y ∷ []) h
link_tied ts p (x ∷ y ∷ z ∷ r) h s = positive_tied ts p (x ∷ y ∷ z ∷ r) h

run_tied : (ts : List Token) (p : Pieced ts) (r : List ℕ) (s : Spot) → 1 ≤ length r → spot ts ≡ s → RunTied ts p (run_tie s r) r
run_tied ts p r Front h e = front_tied ts p r h e
run_tied ts p r BehindAtom h e = link_tied ts p r h e
run_tied ts p r Elsewhere h e = positive_tied ts p r h

run_pieced : (r : List ℕ) (ts : List Token) → 1 ≤ length r → Pieced ts → Pieced (Run r ∷ ts)
run_pieced r ts h p =
    let t = run_tied ts p r (spot ts) h refl in
    elsewhere ts (Run r ∷ ts) p refl (omega arith) refl refl (t.fits, t.tied)

-- ---- all tokens
some_value : (x : ℕ) (v : List ℕ) → 1 ≤ length (x ∷ v)
some_value x v = omega arith

depth_open : (ts : List Token) → not (nat_lt 0 (depth ts)) ≡ false → 0 < depth ts
depth_open ts h = ltb-true 0 (depth ts) (not-false (nat_lt 0 (depth ts)) h)

pub pieced : (ts : List Token) → Kept ts → Pieced ts
pieced [] h = record {
  pieces = [];
  same = refl;
  well = tt;
  small = omega arith;
  linked = λ e. absurd (let no : Front ≡ BehindAtom = e in cc);
  behind = λ e. no_false e;
  room = λ e. omega arith;
  fits = λ e. tt;
  tied = λ e. omega arith;
}
pieced (Word w ∷ ts) h = word_pieced w ts h.2.0 h.2.1 (pieced ts h.3)
pieced (Dollar ∷ Word w ∷ ts) h = exact_pieced w ts h.3.2.0 h.3.2.1 (pieced ts h.3.3)
pieced (Value v ∷ Colon ∷ Word n ∷ ts) h =
    value_pieced v n ts (record { word = h.3.3.2.0; form = not-false (has_name_form n) h.0 }) h.2.0 h.3.3.2.1 (pieced ts h.3.3.3)
pieced (Dollar ∷ Value (x ∷ v) ∷ Colon ∷ Word n ∷ ts) h =
    exact_value_pieced (x ∷ v) n ts (record { word = h.3.3.3.2.0; form = not-false (has_name_form n) h.3.0 }) h.3.2.0 (some_value x v) h.3.3.3.2.1 (pieced ts h.3.3.3.3)
pieced (Open ∷ Word n ∷ ts) h = open_pieced n ts (record { word = h.3.2.0; form = not-false (has_name_form n) h.0 }) h.1 h.3.2.1 (pieced ts h.3.3)
pieced (Close ∷ ts) h = close_pieced ts (depth_open ts h.0) (pieced ts h.3)
pieced (Gap n ∷ ts) h = gap_pieced n ts h.2 (pieced ts h.3)
pieced (Run r ∷ ts) h = run_pieced r ts h.2 (pieced ts h.3)
pieced (Bar ∷ ts) h = bar_pieced ts (not-false (takes_bar ts) h.0) (pieced ts h.3)
pieced (Colon ∷ ts) h = colon_pieced ts (pieced ts h.3)
pieced (Value v ∷ Colon ∷ ts) h = no_true h.0
pieced (Value v ∷ ts) h = no_false h.2.1
pieced (Dollar ∷ Value [] ∷ ts) h = no_true h.0
pieced (Dollar ∷ Value (x ∷ v) ∷ Colon ∷ ts) h = no_true h.3.0
pieced (Dollar ∷ Value (x ∷ v) ∷ ts) h = no_false h.3.2.1
pieced (Dollar ∷ ts) h = no_true h.0
pieced (Open ∷ ts) h = no_true h.0
