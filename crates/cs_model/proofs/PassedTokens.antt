-- Tokens whose newest character passes, and token lists that grew from passed characters alone.
--
--   Passes ts            each condition of the verdict
--   passes, passed       a verdict of no fault is that of tokens that pass
--   Kept ts              no token is refused, and each has the characters of its kind
--   kept_tokens          the tokens of an accepted text are such
use Rattle.std.proofs.Common.{◌≡◌, ℕ, suc, ◌+◌, ◌≤◌, List, [], ◌∷◌, ◌++◌, length, take, refl, ap, ◌∙◌, sym, Bool, true, false, arith, length-append, None}
use Rattle.std.specs.Prelude.{◌==◌, not, nat_le}
use Rattle.std.specs.Char.{encode_utf8, IsScalar}
use Rattle.std.specs.List.{list_all}
use Rattle.std.specs.Str.{chars, IsUtf8, all_scalars}
use Rattle.std.proofs.lemmas.Bool.{and_from, and_parts, or_left, not-true, leb-true, le-leb}
use Rattle.std.proofs.lemmas.List.{append-nil}
use Rattle.std.proofs.lemmas.List.Folds.{list_all-append}
use Rattle.std.proofs.lemmas.Str.{chars-append, chars_past_char, chars-nil, IsUtf8-append, IsUtf8-encode, IsUtf8-nil, length-le-encodes}
use Rattle.cs_model.specs.declared.kinds.Class.{Class}
use Rattle.cs_model.specs.declared.kinds.Class.TheVariants as c
use Rattle.cs_model.specs.Words.{is_word_char}
use Rattle.cs_model.specs.Tokens.{Token, Word, Value, Run, Gap, Dollar, Bar, Colon, Open, Close, class_of, grown, with_next, tokens_after, tokens, size}
use Rattle.cs_model.specs.Grammar.{steps}
use Rattle.cs_model.specs.First.{unless, first_reason}
use Rattle.cs_model.specs.Refusals.{Bad, Limit, refused, verdict, parts_in, atoms_in, depth, newest, IsAccepted}
use Rattle.cs_base.specs.declared.content.limits.TheConstants.{MAX_QUERY_BYTES, MAX_PLAIN_WORD_BYTES, MAX_PARTS, MAX_ATOMS, MAX_DEPTH}
use Rattle.cs_base.specs.declared.content.query.Which.TheVariants as limits
use Rattle.cs_model.proofs.ClassLemmas.{class_cases}
use Rattle.cs_model.proofs.FirstLemmas.{none_first, none_rest, unless_none}
use Rattle.cs_model.proofs.SizeLemmas.{Fits, class_fits}
use Rattle.cs_model.proofs.Pieces.{IsWord, IsValue, is_value_char}
use Rattle.cs_model.proofs.PieceTokens.{opens}

-- ---- verdicts
pub record Passes (ts : List Token) : Type 0 where
  pub fine : refused ts ≡ false
  pub small : size ts + depth ts ≤ MAX_QUERY_BYTES
  pub short : newest ts ≤ MAX_PLAIN_WORD_BYTES
  pub parts : parts_in (steps ts) ≤ MAX_PARTS
  pub atoms : atoms_in (steps ts) ≤ MAX_ATOMS
  pub shallow : depth ts ≤ MAX_DEPTH

pub passes : (ts : List Token) → verdict ts ≡ None → Passes ts
passes ts h =
    let bytes = unless (nat_le (size ts + depth ts) MAX_QUERY_BYTES) (Limit limits.Query) in
    let word = unless (nat_le (newest ts) MAX_PLAIN_WORD_BYTES) (Limit limits.Word) in
    let parts = unless (nat_le (parts_in (steps ts)) MAX_PARTS) (Limit limits.Parts) in
    let atoms = unless (nat_le (atoms_in (steps ts)) MAX_ATOMS) (Limit limits.Atoms) in
    let levels = unless (nat_le (depth ts) MAX_DEPTH) (Limit limits.Depth) in
    let h1 : first_reason (bytes ∷ word ∷ parts ∷ atoms ∷ levels ∷ []) ≡ None = none_rest (unless (not (refused ts)) Bad) (bytes ∷ word ∷ parts ∷ atoms ∷ levels ∷ []) h in
    let h2 : first_reason (word ∷ parts ∷ atoms ∷ levels ∷ []) ≡ None = none_rest bytes (word ∷ parts ∷ atoms ∷ levels ∷ []) h1 in
    let h3 : first_reason (parts ∷ atoms ∷ levels ∷ []) ≡ None = none_rest word (parts ∷ atoms ∷ levels ∷ []) h2 in
    let h4 : first_reason (atoms ∷ levels ∷ []) ≡ None = none_rest parts (atoms ∷ levels ∷ []) h3 in
    let h5 : first_reason (levels ∷ []) ≡ None = none_rest atoms (levels ∷ []) h4 in
    record {
      fine = not-true (refused ts) (unless_none _ Bad (none_first (unless (not (refused ts)) Bad) (bytes ∷ word ∷ parts ∷ atoms ∷ levels ∷ []) h));
      small = leb-true (size ts + depth ts) MAX_QUERY_BYTES (unless_none _ (Limit limits.Query) (none_first bytes (word ∷ parts ∷ atoms ∷ levels ∷ []) h1));
      short = leb-true (newest ts) MAX_PLAIN_WORD_BYTES (unless_none _ (Limit limits.Word) (none_first word (parts ∷ atoms ∷ levels ∷ []) h2));
      parts = leb-true (parts_in (steps ts)) MAX_PARTS (unless_none _ (Limit limits.Parts) (none_first parts (atoms ∷ levels ∷ []) h3));
      atoms = leb-true (atoms_in (steps ts)) MAX_ATOMS (unless_none _ (Limit limits.Atoms) (none_first atoms (levels ∷ []) h4));
      shallow = leb-true (depth ts) MAX_DEPTH (unless_none _ (Limit limits.Depth) (none_first levels [] h5));
    }

pub passed : (ts : List Token) → Passes ts → verdict ts ≡ None
passed ts p = rw (p.fine, le-leb (size ts + depth ts) MAX_QUERY_BYTES p.small, le-leb (newest ts) MAX_PLAIN_WORD_BYTES p.short, le-leb (parts_in (steps ts)) MAX_PARTS p.parts, le-leb (atoms_in (steps ts)) MAX_ATOMS p.atoms, le-leb (depth ts) MAX_DEPTH p.shallow) refl

-- ---- words and values with one character more
one_char : (x : ℕ) → IsScalar x → chars (encode_utf8 x) ≡ x ∷ []
one_char x s = chars_past_char (encode_utf8 x) [] x (IsUtf8-encode x s) (sym (append-nil (encode_utf8 x))) ∙ ap (λ l. x ∷ l) chars-nil

chars_more : (w : List ℕ) (x : ℕ) → IsUtf8 w → IsScalar x → chars (w ++ encode_utf8 x) ≡ chars w ++ x ∷ []
chars_more w x u s = chars-append w (encode_utf8 x) u ∙ ap (λ l. chars w ++ l) (one_char x s)

all_more : (p : ℕ → Bool) (w : List ℕ) (x : ℕ) → IsUtf8 w → IsScalar x → list_all p (chars w) ≡ true → p x ≡ true → list_all p (chars (w ++ encode_utf8 x)) ≡ true
all_more p w x u s h k =
    ap (list_all p) (chars_more w x u s) ∙ list_all-append p (chars w) (x ∷ [])
    ∙ and_from (list_all p (chars w)) (list_all p (x ∷ [])) h (and_from (p x) true k refl)

some_bytes : (x : ℕ) → 1 ≤ length (encode_utf8 x)
some_bytes x = omega (arith, length-le-encodes (x ∷ []), length-append (encode_utf8 x) [])

word_more : (w : List ℕ) (x : ℕ) → IsWord w → IsScalar x → is_word_char x ≡ true → length (w ++ encode_utf8 x) ≤ MAX_PLAIN_WORD_BYTES → IsWord (w ++ encode_utf8 x)
word_more w x h s k short = record {
  utf8 = IsUtf8-append w (encode_utf8 x) h.utf8 (IsUtf8-encode x s);
  letters = all_more is_word_char w x h.utf8 s h.letters k;
  some = omega (arith, h.some, length-append w (encode_utf8 x));
  short = short;
}

word_new : (x : ℕ) → IsScalar x → is_word_char x ≡ true → length (encode_utf8 x) ≤ MAX_PLAIN_WORD_BYTES → IsWord (encode_utf8 x)
word_new x s k short = record {
  utf8 = IsUtf8-encode x s;
  letters = ap (list_all is_word_char) (one_char x s) ∙ and_from (is_word_char x) true k refl;
  some = some_bytes x;
  short = short;
}

value_more : (v : List ℕ) (x : ℕ) → IsValue v → IsScalar x → is_value_char x ≡ true → length (v ++ encode_utf8 x) ≤ MAX_PLAIN_WORD_BYTES → IsValue (v ++ encode_utf8 x)
value_more v x h s k short = record {
  utf8 = IsUtf8-append v (encode_utf8 x) h.utf8 (IsUtf8-encode x s);
  letters = all_more is_value_char v x h.utf8 s h.letters k;
  short = short;
}

value_none : IsValue []
value_none = record { utf8 = IsUtf8-nil; letters = ap (list_all is_value_char) chars-nil; short = omega arith }

low_line : (v : List ℕ) → IsValue v → length (v ++ 95 ∷ []) ≤ MAX_PLAIN_WORD_BYTES → IsValue (v ++ 95 ∷ [])
unfolding is_word_char encode_utf8
low_line v h short = value_more v 95 h refl refl short

-- ---- token lists
abbrev pub has_colon_first : List Token → Bool
has_colon_first (Colon ∷ ts) = true
has_colon_first _ = false

abbrev pub Right : Token → List Token → Type 0
Right (Word w) ts = IsWord w × (opens ts ≡ true)
Right (Value v) ts = IsValue v × (has_colon_first ts ≡ true)
Right (Run r) ts = 1 ≤ length r
Right (Gap n) ts = 1 ≤ n
Right _ ts = Unit {0}

abbrev pub Kept : List Token → Type 0
Kept [] = Unit {0}
Kept (t ∷ ts) = (refused (t ∷ ts) ≡ false) × (depth (t ∷ ts) ≤ MAX_DEPTH) × Right t ts × Kept ts

kept_depth : (ts : List Token) → Kept ts → depth ts ≤ MAX_DEPTH
kept_depth [] h = omega arith
kept_depth (t ∷ ts) h = h.1

-- what is known of a character of this class
abbrev Spells : ℕ → Class → Type 0
Spells x c.Letter = is_word_char x ≡ true
Spells x k = Unit {0}

class_spells : (x : ℕ) → Spells x (class_of x)
class_spells x = class_cases (Spells x) x (λ e. e) (λ e. tt) (λ e. tt) (λ e. tt) (λ e. tt) (λ e. tt) (λ e. tt) (λ e. tt) tt

kept_grown : (k : Class) (x : ℕ) (ts : List Token) → Spells x k → Fits (encode_utf8 x) k → IsScalar x → Kept ts → Passes (grown k (encode_utf8 x) ts) → Kept (grown k (encode_utf8 x) ts)
kept_grown c.Letter x (Word w ∷ ts) l f s h p = (p.fine, p.shallow, (word_more w x h.2.0 s l p.short, h.2.1), h.3)
kept_grown c.Letter x (Value v ∷ ts) l f s h p = (p.fine, p.shallow, (value_more v x h.2.0 s (or_left (is_word_char x) (x == 95) l) p.short, h.2.1), h.3)
kept_grown c.Letter x [] l f s h p = (p.fine, p.shallow, (word_new x s l p.short, refl), h)
kept_grown c.Letter x (Run r ∷ ts) l f s h p = (p.fine, p.shallow, (word_new x s l p.short, refl), h)
kept_grown c.Letter x (Gap n ∷ ts) l f s h p = (p.fine, p.shallow, (word_new x s l p.short, refl), h)
kept_grown c.Letter x (Dollar ∷ ts) l f s h p = absurd (let no : true ≡ false = p.fine in cc)
kept_grown c.Letter x (Bar ∷ ts) l f s h p = (p.fine, p.shallow, (word_new x s l p.short, refl), h)
kept_grown c.Letter x (Colon ∷ ts) l f s h p = (p.fine, p.shallow, (word_new x s l p.short, refl), h)
kept_grown c.Letter x (Open ∷ ts) l f s h p = (p.fine, p.shallow, (word_new x s l p.short, refl), h)
kept_grown c.Letter x (Close ∷ ts) l f s h p = absurd (let no : true ≡ false = p.fine in cc)
kept_grown c.Dot x (Run r ∷ ts) l f s h p = (p.fine, p.shallow, omega (arith, h.2, length-append r (encode_utf8 x)), h.3)
kept_grown c.Dot x ts l f s h p = (p.fine, p.shallow, some_bytes x, h)
kept_grown c.Joiner x (Value v ∷ ts) l f s h p = (p.fine, p.shallow, (low_line v h.2.0 p.short, h.2.1), h.3)
kept_grown c.Joiner x (Run r ∷ ts) l f s h p = (p.fine, p.shallow, omega (arith, h.2, length-append r (encode_utf8 x)), h.3)
kept_grown c.Joiner x ts l f s h p = (p.fine, p.shallow, some_bytes x, h)
kept_grown c.Dollar x ts l f s h p = (p.fine, p.shallow, tt, h)
kept_grown c.Bar x ts l f s h p = (p.fine, p.shallow, tt, h)
kept_grown c.Colon x ts l f s h p = (p.fine, p.shallow, (value_none, refl), (refl, kept_depth ts h, tt, h))
kept_grown c.Open x ts l f s h p = (p.fine, p.shallow, tt, h)
kept_grown c.Close x ts l f s h p = (p.fine, p.shallow, tt, h)
kept_grown c.Other x (Gap n ∷ ts) l f s h p = (p.fine, p.shallow, omega (arith, h.2), h.3)
kept_grown c.Other x ts l f s h p = (p.fine, p.shallow, some_bytes x, h)

kept_after : (cs : List ℕ) (ts : List Token) → all_scalars cs ≡ true → Kept ts → ((k : ℕ) → k ≤ length cs → verdict (tokens_after ts (take k cs)) ≡ None) → Kept (tokens_after ts cs)
kept_after [] ts s h a = h
kept_after (x ∷ cs) ts s h a =
    let one : verdict (with_next x ts) ≡ None = a 1 (omega arith) in
    kept_after cs (with_next x ts) ((and_parts _ _ s).1)
    (kept_grown (class_of x) x ts (class_spells x) (class_fits x) ((and_parts _ _ s).0) h (passes (with_next x ts) one))
    (λ k le. a (suc k) (omega arith))

pub kept_tokens : (cs : List ℕ) → all_scalars cs ≡ true → IsAccepted cs → Kept (tokens cs)
kept_tokens cs s a = kept_after cs [] s tt a
