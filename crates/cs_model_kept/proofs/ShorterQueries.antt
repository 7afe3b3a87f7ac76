-- A query of the grammar stays one where a shorter prefix stands in the place of the one that is being typed.
--
--   Left p w             w is spelled by the first characters of p, and no colon is cut off
--   words_left           so is each shorter word
--   out-prefix, out-exact     what atoms are, seen as one level
--   shorter_stays        the law
use Rattle.std.proofs.Common.{◌≡◌, ℕ, ◌≤◌, ◌&&◌, ◌||◌, Bool, true, false, true≢false, not, List, [], ◌∷◌, ◌++◌, map, filter, drop, length, refl, sym, ◌∙◌, ap, subst, arith, append_assoc, length-append, Some}
use Rattle.std.specs.Prelude.{encode_utf8_all, nat_lt}
use Rattle.std.specs.Char.{encode_utf8}
use Rattle.std.specs.List.{All, Contains, list_any, list_all}
use Rattle.std.specs.Str.{IsUtf8, chars, all_scalars}
use Rattle.std.proofs.Math.Seq.{drop-append_seam}
use Rattle.std.proofs.lemmas.Bool.{and_parts, or_right}
use Rattle.std.proofs.lemmas.List.Elements.{All-map, All-filter, All-contains, filter_passes}
use Rattle.std.proofs.lemmas.List.Folds.{list_any-append, list_all-append}
use Rattle.std.proofs.lemmas.Str.{chars-nil, chars-encodes, encodes-chars, scalars-chars}
use Rattle.cs_base.specs.declared.content.query.Part.{Part}
use Rattle.cs_base.specs.declared.content.query.Query.{Query, roll-Query, out-roll-Query}
use Rattle.cs_base.specs.declared.content.query.Atom.{Prefix, Exact, out-Atom, out-roll-Atom}
use Rattle.cs_base.specs.declared.content.query.Atom.TheVariants.{rolls-Prefix, rolls-Exact}
use Rattle.cs_base.specs.declared.content.query.Atom.TheOpen.{Atom-F}
use Rattle.cs_model.specs.declared.kinds.Level.{Level}
use Rattle.cs_model.specs.declared.kinds.Tie.{Tie}
use Rattle.cs_model.specs.Collection.{named, is_colon}
use Rattle.cs_model.specs.Grammar.{Reading, reading, leave, join, attached}
use Rattle.cs_model.specs.Keys.{last_of, prefix_in, part_prefix, last_prefix, with_prefix, shorter, is_left, shorter_words}
use Rattle.cs_model.specs.Refusals.{IsOfGrammar}
use Rattle.cs_model.specs.Words.{is_word_char}
use Rattle.cs_model.proofs.Pieces.{Piece, Plain, Whole, Valued, WholeValued, Opens, Closes, step_of, IsWord, IsValue, is_value_char, fresh, between, told}
use Rattle.cs_model.proofs.PieceText.{printed, facet_bytes}
use Rattle.cs_model.proofs.SizeLemmas.{encodes-append}
use Rattle.cs_model_kept.proofs.NarrowLemmas.{Begins, shorter_begin}
use Rattle.cs_model_kept.proofs.ShutPieces.{Shut, read, pieces_of, of_pieces}
use Rattle.cs_model_kept.proofs.TypedLemmas.{none_some, typed_atom, typed_other}

-- ---- shorter words
record Left (cs : List ℕ) (w : List ℕ) : Type 0 where
  spelled : List ℕ
  more : List ℕ
  whole : cs ≡ spelled ++ more
  bytes : w ≡ encode_utf8_all spelled
  some : 1 ≤ length spelled
  plain : list_any is_colon more ≡ false

not_true : (b : Bool) → not b ≡ true → b ≡ false
not_true true h = absurd (true≢false (sym h))
not_true false h = refl

one_left : (cs s : List ℕ) → Begins cs s → is_left cs s ≡ true → Left cs (encode_utf8_all s)
one_left cs s b h =
    let both = and_parts (nat_lt 0 (length s)) (not (list_any is_colon (drop (length s) cs))) h in
    let behind : drop (length s) cs ≡ b.0 = ap (drop (length s)) b.1 ∙ drop-append_seam s b.0 in
    record {
      spelled = s;
      more = b.0;
      whole = b.1;
      bytes = refl;
      some = has_some s both.0;
      plain = sym (ap (list_any is_colon) behind) ∙ not_true (list_any is_colon (drop (length s) cs)) both.1;
    }
  where
    has_some : (s : List ℕ) → nat_lt 0 (length s) ≡ true → 1 ≤ length s
    has_some [] h = absurd (true≢false (sym h))
    has_some (x ∷ s) h = omega arith

words_left : (p : List ℕ) → All (Left (chars p)) (shorter_words p)
words_left p =
    let cs = chars p in
    let kept = filter (is_left cs) (shorter cs) in
    let begin = All-filter (is_left cs) (Begins cs) (shorter cs) (shorter_begin cs) in
    let pass = filter_passes (is_left cs) (shorter cs) in
    All-map (Left cs) encode_utf8_all kept (λ k d l. one_left cs _ (begin k d l) (pass k d l))

-- ---- words and values stay such
scalars_front : (xs ys : List ℕ) → all_scalars (xs ++ ys) ≡ true → all_scalars xs ≡ true
scalars_front xs ys h = (and_parts (list_all _ xs) (list_all _ ys) (sym (list_all-append _ xs ys) ∙ h)).0

front_passes : (t : ℕ → Bool) (xs ys : List ℕ) → list_all t (xs ++ ys) ≡ true → list_all t xs ≡ true
front_passes t xs ys h = (and_parts (list_all t xs) (list_all t ys) (sym (list_all-append t xs ys) ∙ h)).0

no_shorter : (p s more : List ℕ) → IsUtf8 p → chars p ≡ s ++ more → length (encode_utf8_all s) ≤ length p
no_shorter p s more u e = omega (arith, ap length (sym (encodes-chars p u) ∙ ap encode_utf8_all e ∙ encodes-append s more), length-append (encode_utf8_all s) (encode_utf8_all more))

spelled_some : (s : List ℕ) → all_scalars s ≡ true → 1 ≤ length s → 1 ≤ length (encode_utf8_all s)
spelled_some s scalars some = cases (encode_utf8_all s) refl
  where
    cases : (w : List ℕ) → encode_utf8_all s ≡ w → 1 ≤ length (encode_utf8_all s)
    cases [] e = absurd (let none : s ≡ [] = sym (chars-encodes s scalars) ∙ ap chars e ∙ chars-nil in omega (arith, some, ap length none))
    cases (x ∷ w) e = omega (arith, ap length e)

word_stays : (v w : List ℕ) → IsWord v → Left (chars v) w → IsWord w
word_stays v w h l =
    let scalars : all_scalars l.spelled ≡ true = scalars_front l.spelled l.more (ap all_scalars (sym l.whole) ∙ scalars-chars v h.utf8) in
    let same : chars w ≡ l.spelled = ap chars l.bytes ∙ chars-encodes l.spelled scalars in
    record {
      utf8 = (l.spelled, (scalars, sym l.bytes));
      letters = ap (list_all is_word_char) same ∙ front_passes is_word_char l.spelled l.more (ap (list_all is_word_char) (sym l.whole) ∙ h.letters);
      some = omega (arith, spelled_some l.spelled scalars l.some, ap length l.bytes);
      short = omega (arith, no_shorter v l.spelled l.more h.utf8 l.whole, ap length l.bytes, h.short);
    }

-- what is left of a facet's word has its name
head_is : (a b : ℕ) (xs ys : List ℕ) → a ∷ xs ≡ b ∷ ys → a ≡ b
head_is a b xs ys e = ap (λ l. first l) e
  where
    first : List ℕ → ℕ
    first [] = a
    first (x ∷ xs) = x

tail_is : (a b : ℕ) (xs ys : List ℕ) → a ∷ xs ≡ b ∷ ys → xs ≡ ys
tail_is a b xs ys e = ap (λ l. drop 1 l) e

colon_there : (xs ys : List ℕ) → list_any is_colon ((xs ++ 58 ∷ []) ++ ys) ≡ true
colon_there xs ys =
    list_any-append is_colon (xs ++ 58 ∷ []) ys
    ∙ ap (λ b. b || list_any is_colon ys) (list_any-append is_colon xs (58 ∷ []) ∙ or_right (list_any is_colon xs) true refl)

past_colon : (b s more cs : List ℕ) → s ++ more ≡ (b ++ 58 ∷ []) ++ cs → list_any is_colon more ≡ false → (v : List ℕ) × (s ≡ (b ++ 58 ∷ []) ++ v) × (cs ≡ v ++ more)
past_colon [] [] more cs e h = absurd (true≢false (sym (ap (list_any is_colon) e ∙ colon_there [] cs) ∙ h))
past_colon [] (x ∷ s) more cs e h = (s, ap (λ y. y ∷ s) (head_is x 58 (s ++ more) cs e), sym (tail_is x 58 (s ++ more) cs e))
past_colon (y ∷ b) [] more cs e h = absurd (true≢false (sym (ap (list_any is_colon) e ∙ colon_there (y ∷ b) cs) ∙ h))
past_colon (y ∷ b) (x ∷ s) more cs e h =
    let r = past_colon b s more cs (tail_is x y (s ++ more) ((b ++ 58 ∷ []) ++ cs) e) h in
    (r.0, ap (λ z. z ∷ s) (head_is x y (s ++ more) ((b ++ 58 ∷ []) ++ cs) e) ∙ ap (λ l. y ∷ l) r.1, r.2)

-- the characters of a facet's word
facet_chars : (n v : List ℕ) → IsWord n → IsValue v → (chars (named n v) ≡ ((58 ∷ chars n) ++ 58 ∷ []) ++ chars v) × IsUtf8 (named n v)
unfolding encode_utf8
facet_chars n v hn hv =
    let cs : List ℕ = 58 ∷ chars n ++ 58 ∷ chars v in
    let bytes : encode_utf8_all cs ≡ named n v = ap (λ t. 58 ∷ t) (facet_bytes n v hn hv) in
    let scalars : all_scalars cs ≡ true = list_all-append _ (chars n) (58 ∷ chars v) ∙ both (all_scalars (chars n)) (all_scalars (58 ∷ chars v)) (scalars-chars n hn.utf8) (scalars-chars v hv.utf8) in
    (sym (ap chars bytes) ∙ chars-encodes cs scalars ∙ ap (λ t. 58 ∷ t) (sym (append_assoc (chars n) (58 ∷ []) (chars v))), (cs, (scalars, bytes)))
  where
    both : (a b : Bool) → a ≡ true → b ≡ true → (a && b) ≡ true
    both true true h k = refl
    both true false h k = k
    both false b h k = h

record LeftValue (n v w : List ℕ) : Type 0 where
  value : List ℕ
  is_value : IsValue value
  bytes : w ≡ named n value
  short : length value ≤ length v

value_stays : (n v w : List ℕ) → IsWord n → IsValue v → Left (chars (named n v)) w → LeftValue n v w
unfolding encode_utf8
value_stays n v w hn hv l =
    let r = past_colon (58 ∷ chars n) l.spelled l.more (chars v) (sym l.whole ∙ (facet_chars n v hn hv).0) l.plain in
    let scalars : all_scalars r.0 ≡ true = scalars_front r.0 l.more (ap all_scalars (sym r.2) ∙ scalars-chars v hv.utf8) in
    let same : chars (encode_utf8_all r.0) ≡ r.0 = chars-encodes r.0 scalars in
    let short : length (encode_utf8_all r.0) ≤ length v = no_shorter v r.0 l.more hv.utf8 r.2 in
    let is_value : IsValue (encode_utf8_all r.0) = record {
      utf8 = (r.0, (scalars, refl));
      letters = ap (list_all is_value_char) same ∙ front_passes is_value_char r.0 l.more (ap (list_all is_value_char) (sym r.2) ∙ hv.letters);
      short = omega (arith, short, hv.short);
    } in
    record {
      value = encode_utf8_all r.0;
      is_value = is_value;
      bytes = l.bytes ∙ ap encode_utf8_all (r.1 ∙ ap (λ t. 58 ∷ t) (append_assoc (chars n) (58 ∷ []) r.0))
          ∙ ap (λ t. 58 ∷ t) (ap (λ t. encode_utf8_all (chars n ++ 58 ∷ t)) (sym same) ∙ facet_bytes n (encode_utf8_all r.0) hn is_value);
      short = short;
    }

-- ---- the query
abbrev query_by : List Part → Query
query_by ps = roll-Query (record { parts = ps })

abbrev Stays : Query → List ℕ → List ℕ → Type 0
Stays q p w = IsOfGrammar (with_prefix w q) × IsUtf8 p

pub out-prefix : (w : List ℕ) → out-Atom (Prefix w) ≡ Atom-F.Prefix w
out-prefix w = ap out-Atom (sym (rolls-Prefix w)) ∙ out-roll-Atom (Atom-F.Prefix w)

pub out-exact : (w : List ℕ) → out-Atom (Exact w) ≡ Atom-F.Exact w
out-exact w = ap out-Atom (sym (rolls-Exact w)) ∙ out-roll-Atom (Atom-F.Exact w)

prefix_is : (v p : List ℕ) → prefix_in (out-Atom (Prefix v)) ≡ Some p → v ≡ p
prefix_is v p h = unsome v p (ap prefix_in (sym (out-prefix v)) ∙ h)
  where
    unsome : (a b : List ℕ) → Some a ≡ Some b → a ≡ b
    unsome a b e = cc

no_exact : {X : Type 0} (v p : List ℕ) → prefix_in (out-Atom (Exact v)) ≡ Some p → X
no_exact v p h = none_some p (ap prefix_in (sym (out-exact v)) ∙ h)

no_join : {X : Type 0} (n : List ℕ) (ps : List Part) (p : List ℕ) → prefix_in (out-Atom (join n ps)) ≡ Some p → X
no_join n ps p h = none_some p (ap prefix_in (sym (out-roll-Atom (Atom-F.Join n (query_by ps)))) ∙ h)

-- the text of pieces is no longer where the last one has less to tell
less_told : (ps : List Piece) (t : Tie) (xs ys : List ℕ) → length (encode_utf8_all xs) ≤ length (encode_utf8_all ys)
    → length (encode_utf8_all (told ps ++ (between t (fresh ps) ++ xs))) ≤ length (encode_utf8_all (told ps ++ (between t (fresh ps) ++ ys)))
less_told ps t xs ys le =
    let b = between t (fresh ps) in
    omega (
      arith,
      le,
      ap length (encodes-append (told ps) (b ++ xs)),
      length-append (encode_utf8_all (told ps)) (encode_utf8_all (b ++ xs)),
      ap length (encodes-append b xs),
      length-append (encode_utf8_all b) (encode_utf8_all xs),
      ap length (encodes-append (told ps) (b ++ ys)),
      length-append (encode_utf8_all (told ps)) (encode_utf8_all (b ++ ys)),
      ap length (encodes-append b ys),
      length-append (encode_utf8_all b) (encode_utf8_all ys),
    )

closed_stays : (ps : List Piece) (r : Reading) (p w : List ℕ) → 1 ≤ length r.open_now → last_prefix (query_by (leave r.parts r.open_now).parts) ≡ Some p → Stays (query_by (leave r.parts r.open_now).parts) p w
closed_stays ps r p w deep h = cases r.open_now deep h
  where
    cases : (os : List Level) → 1 ≤ length os → last_prefix (query_by (leave r.parts os).parts) ≡ Some p → Stays (query_by (leave r.parts os).parts) p w
    cases [] deep h = absurd (omega (arith, deep))
    cases (l ∷ ls) deep h = no_join l.name r.parts p (typed_atom l.tie (join l.name r.parts) l.before p h)

pieces_stay : (ps : List Piece) → Shut ps → (p w : List ℕ) → last_prefix (query_by (read ps)) ≡ Some p → Contains (shorter_words p) w → Stays (query_by (read ps)) p w
pieces_stay [] s p w h one = none_some p (ap (λ q. part_prefix (last_of q.parts)) (sym (out-roll-Query (record { parts = [] }))) ∙ h)
pieces_stay (Plain t v ∷ ps) s p w h one =
    let same : v ≡ p = prefix_is v p (typed_atom t (Prefix v) (read ps) p h) in
    let l : Left (chars v) w = All-contains (Left (chars v)) (shorter_words v) w (words_left v) (subst (λ x. Contains (shorter_words x) w) (sym same) one) in
    let is_word : IsWord w = word_stays v w s.well.0.1 l in
    let less : length (encode_utf8_all (chars w)) ≤ length (encode_utf8_all (chars v)) =
    omega (arith, ap length (encodes-chars w is_word.utf8), ap length (encodes-chars v s.well.0.1.utf8), no_shorter v l.spelled l.more s.well.0.1.utf8 l.whole, ap length l.bytes) in
    let other : Shut (Plain t w ∷ ps) = record {
      well = ((s.well.0.0, is_word), s.well.1);
      shut = s.shut;
      few = record { parts = s.few.parts; atoms = s.few.atoms };
      short = omega (arith, s.short, less_told ps t (chars w) (chars v) less);
    } in
    (subst IsOfGrammar (sym (typed_other w t (Prefix v) (read ps))) (of_pieces (Plain t w ∷ ps) other), subst IsUtf8 same s.well.0.1.utf8)
pieces_stay (Valued t n v ∷ ps) s p w h one =
    let same : named n v ≡ p = prefix_is (named n v) p (typed_atom t (Prefix (named n v)) (read ps) p h) in
    let l : Left (chars (named n v)) w = All-contains (Left (chars (named n v))) (shorter_words (named n v)) w (words_left (named n v)) (subst (λ x. Contains (shorter_words x) w) (sym same) one) in
    let left = value_stays n v w s.well.0.1.word s.well.0.2 l in
    let less : length (encode_utf8_all (chars n ++ 58 ∷ chars left.value)) ≤ length (encode_utf8_all (chars n ++ 58 ∷ chars v)) =
    omega (
      arith,
      ap length (facet_bytes n left.value s.well.0.1.word left.is_value),
      ap length (facet_bytes n v s.well.0.1.word s.well.0.2),
      length-append n (58 ∷ left.value),
      length-append n (58 ∷ v),
      left.short,
    ) in
    let other : Shut (Valued t n left.value ∷ ps) = record {
      well = ((s.well.0.0, s.well.0.1, left.is_value), s.well.1);
      shut = s.shut;
      few = record { parts = s.few.parts; atoms = s.few.atoms };
      short = omega (arith, s.short, less_told ps t (chars n ++ 58 ∷ chars left.value) (chars n ++ 58 ∷ chars v) less);
    } in (
      subst IsOfGrammar (sym (typed_other w t (Prefix (named n v)) (read ps) ∙ ap (λ x. query_by (attached t (Prefix x) (read ps))) left.bytes)) (of_pieces (Valued t n left.value ∷ ps) other),
      subst IsUtf8 same (facet_chars n v s.well.0.1.word s.well.0.2).1,
    )
pieces_stay (Whole t v ∷ ps) s p w h one = no_exact v p (typed_atom t (Exact v) (read ps) p h)
pieces_stay (WholeValued t n v ∷ ps) s p w h one = no_exact (named n v) p (typed_atom t (Exact (named n v)) (read ps) p h)
pieces_stay (Opens t n ∷ ps) s p w h one = absurd (omega (arith, s.shut))
pieces_stay (Closes ∷ ps) s p w h one =
    let r = reading (map step_of ps) in
    let deep : 1 ≤ length r.open_now = omega (arith, (printed ps s.well.1).deep, s.well.0) in
    closed_stays ps r p w deep h

pub shorter_stays : (q : Query) (p w : List ℕ) → IsOfGrammar q → last_prefix q ≡ Some p → Contains (shorter_words p) w → IsOfGrammar (with_prefix w q) × IsUtf8 p
shorter_stays q p w g h one =
    let r = pieces_of q g in
    subst (λ x. Stays x p w) r.2 (pieces_stay r.0 r.1 p w (ap last_prefix r.2 ∙ h) one)
