-- Words and slugs have the form of a collection's words.
--
--   IsCut q w            a text that isn't empty or too long, of characters that pass a test
--   cut_words            each word of a text is one of word characters
--   cut_slug             a slug is one of word characters and `_`
--   IsKept facet w       a word of this kind that an index file may have
--   kept_plain           a word of word characters is a plain one
--   kept_facet           a name and a slug make a facet word
use Rattle.std.proofs.Common.{◌≡◌, ℕ, ◌+◌, ◌-◌, ◌<◌, ◌≤◌, Bool, true, false, not, ◌&&◌, true≢false, cond, nat_le, List, [], ◌∷◌, ◌++◌, length, map, filter, drop, refl, sym, ap, ◌∙◌, subst, arith, encode_utf8_all}
use Rattle.std.specs.Prelude.{Some}
use Rattle.std.specs.Bool.{◌==◌}
use Rattle.std.specs.Char.{len_utf8}
use Rattle.std.specs.List.{AllByRecursion, list_all, slice_split, onto_first, join_with_byte, position_or_len, before_first, after_first}
use Rattle.std.specs.Str.{chars, is_utf8, IsUtf8}
use Rattle.std.proofs.Math.Utf8.{scalar, scalars}
use Rattle.std.proofs.lemmas.Bool.{and_parts, and_from, or_left}
use Rattle.std.proofs.lemmas.Bool.Decides.{nat_tests}
use Rattle.std.proofs.lemmas.List.{take_at, drop_at, append_assoc, length_push}
use Rattle.std.proofs.lemmas.List.Elements.{All-from_recursion}
use Rattle.std.proofs.lemmas.Str.{chars-encodes, encodes-append, encodes-chars, encode_ascii, char_from_byte, is_utf8-from_IsUtf8, IsUtf8-from_ascii}
use Rattle.std.proofs.lemmas.Str.Ascii.{IsAscii-from_all}
use Rattle.cs_base.specs.declared.content.limits.TheConstants.{MAX_PLAIN_WORD_BYTES}
use Rattle.cs_docs.proofs.TextLemmas.{named_text}
use Rattle.cs_model.specs.Collection.{begins_with_letter, is_name_byte, has_name_form, named, is_colon}
use Rattle.cs_model.specs.KeyText.{norm}
use Rattle.cs_model.specs.Words.{is_filled, is_gap, is_word_char, fitting, cut, words, slug, slug_of}
use Rattle.cs_model.proofs.FittingLemmas.{fitting-fits}
use Rattle.cs_model_index.specs.FileRules.{is_word, is_plain_word, is_named_value, is_value_char}
use Rattle.cs_model_index.specs.Partitions.{is_facet}
use Rattle.cs_text.proofs.CutLemmas.{cut-some, some_chars}
use Rattle.cs_build.proofs.KeyTextLemmas.{norm-scalars}

-- ---- characters that pass a test

record IsRun (q : ℕ → Bool) (cs : List ℕ) : Type 0 where
  text : scalars cs ≡ true
  passes : list_all q cs ≡ true

run_nil : (q : ℕ → Bool) → IsRun q []
run_nil q = record { text = refl; passes = refl }

run_cons : (q : ℕ → Bool) (c : ℕ) (cs : List ℕ) → scalar c ≡ true → q c ≡ true → IsRun q cs → IsRun q (c ∷ cs)
run_cons q c cs s p h = record { text = and_from (scalar c) (scalars cs) s h.text; passes = and_from (q c) (list_all q cs) p h.passes }

first_scalar : (q : ℕ → Bool) (c : ℕ) (cs : List ℕ) → IsRun q (c ∷ cs) → scalar c ≡ true
first_scalar q c cs h = (and_parts (scalar c) (scalars cs) h.text).0

first_passes : (q : ℕ → Bool) (c : ℕ) (cs : List ℕ) → IsRun q (c ∷ cs) → q c ≡ true
first_passes q c cs h = (and_parts (q c) (list_all q cs) h.passes).0

run_rest : (q : ℕ → Bool) (c : ℕ) (cs : List ℕ) → IsRun q (c ∷ cs) → IsRun q cs
run_rest q c cs h = record { text = (and_parts (scalar c) (scalars cs) h.text).1; passes = (and_parts (q c) (list_all q cs) h.passes).1 }

run_append : (q : ℕ → Bool) (xs ys : List ℕ) → IsRun q xs → IsRun q ys → IsRun q (xs ++ ys)
run_append q [] ys h k = k
run_append q (x ∷ xs) ys h k = run_cons q x (xs ++ ys) (first_scalar q x xs h) (first_passes q x xs h) (run_append q xs ys (run_rest q x xs h) k)

run_wider : (p q : ℕ → Bool) → ((c : ℕ) → p c ≡ true → q c ≡ true) → (cs : List ℕ) → IsRun p cs → IsRun q cs
run_wider p q more [] h = run_nil q
run_wider p q more (c ∷ cs) h = run_cons q c cs (first_scalar p c cs h) (more c (first_passes p c cs h)) (run_wider p q more cs (run_rest p c cs h))

-- ---- a text that is cut

pub record IsCut (q : ℕ → Bool) (w : List ℕ) : Type 0 where
  pub utf8 : IsUtf8 w
  pub filled : is_filled w ≡ true
  pub short : nat_le (length w) MAX_PLAIN_WORD_BYTES ≡ true
  pub passes : list_all q (chars w) ≡ true

fits_at : (b : Bool) (q : ℕ → Bool) (c : ℕ) (cs : List ℕ) → scalar c ≡ true → q c ≡ true → IsRun q cs → IsRun q (cond b (c ∷ cs) [])
fits_at true q c cs s p h = run_cons q c cs s p h
fits_at false q c cs s p h = run_nil q

run_fitting : (q : ℕ → Bool) (room : ℕ) (cs : List ℕ) → IsRun q cs → IsRun q (fitting room cs)
run_fitting q room [] h = run_nil q
run_fitting q room (c ∷ cs) h =
    fits_at (nat_le (len_utf8 c) room) q c (fitting (room - len_utf8 c) cs) (first_scalar q c cs h) (first_passes q c cs h) (run_fitting q (room - len_utf8 c) cs (run_rest q c cs h))

some_bytes : (w : List ℕ) → 1 ≤ length w → is_filled w ≡ true
some_bytes w h = grind (arith, nat_tests)

few_bytes : (w : List ℕ) → length w ≤ MAX_PLAIN_WORD_BYTES → nat_le (length w) MAX_PLAIN_WORD_BYTES ≡ true
few_bytes w h = grind (arith, nat_tests)

cut_run : (q : ℕ → Bool) (cs : List ℕ) → IsRun q cs → is_filled cs ≡ true → IsCut q (cut cs)
unfolding cut
cut_run q cs h some =
    let left : List ℕ = fitting MAX_PLAIN_WORD_BYTES cs in
    let kept : IsRun q left = run_fitting q MAX_PLAIN_WORD_BYTES cs h in
    record {
      utf8 = (left, (kept.text, refl));
      filled = some_bytes (cut cs) (cut-some cs some);
      short = few_bytes (cut cs) (fitting-fits MAX_PLAIN_WORD_BYTES cs);
      passes = subst (λ ds. list_all q ds ≡ true) (sym (chars-encodes left kept.text)) kept.passes;
    }

-- ---- words

no_gap : (b : Bool) → not b ≡ false → b ≡ true
no_gap true h = refl
no_gap false h = absurd (true≢false h)

onto : (q : ℕ → Bool) (c : ℕ) (ps : List (List ℕ)) → scalar c ≡ true → q c ≡ true → AllByRecursion (IsRun q) ps → AllByRecursion (IsRun q) (onto_first c ps)
onto q c [] s p h = (run_cons q c [] s p (run_nil q), tt)
onto q c (r ∷ ps) s p h = (run_cons q c r s p h.0, h.1)

split_at : (b : Bool) (c : ℕ) (ps : List (List ℕ)) → is_gap c ≡ b → scalar c ≡ true → AllByRecursion (IsRun is_word_char) ps → AllByRecursion (IsRun is_word_char) (cond b ([] ∷ ps) (onto_first c ps))
split_at true c ps e s h = (run_nil is_word_char, h)
split_at false c ps e s h = onto is_word_char c ps s (no_gap (is_word_char c) e) h

pieces : (cs : List ℕ) → scalars cs ≡ true → AllByRecursion (IsRun is_word_char) (slice_split is_gap cs)
pieces [] h = (run_nil is_word_char, tt)
pieces (c ∷ cs) h = split_at (is_gap c) c (slice_split is_gap cs) refl (and_parts (scalar c) (scalars cs) h).0 (pieces cs (and_parts (scalar c) (scalars cs) h).1)

kept_at : (b : Bool) (p : List ℕ) (ps : List (List ℕ)) → is_filled p ≡ b → IsRun is_word_char p → AllByRecursion (IsCut is_word_char) (map cut ps) → AllByRecursion (IsCut is_word_char) (map cut (cond b (p ∷ ps) ps))
kept_at true p ps e h g = (cut_run is_word_char p h e, g)
kept_at false p ps e h g = g

cut_pieces : (ps : List (List ℕ)) → AllByRecursion (IsRun is_word_char) ps → AllByRecursion (IsCut is_word_char) (map cut (filter is_filled ps))
cut_pieces [] h = tt
cut_pieces (p ∷ ps) h = kept_at (is_filled p) p (filter is_filled ps) refl h.0 (cut_pieces ps h.1)

pub cut_words : (s : List ℕ) → IsUtf8 s → AllByRecursion (IsCut is_word_char) (words s)
unfolding words
cut_words s h = cut_pieces (slice_split is_gap (chars (norm s))) (pieces (chars (norm s)) (norm-scalars s h))

-- ---- slugs

record IsSpelled (q : ℕ → Bool) (w : List ℕ) : Type 0 where
  cs : List ℕ
  run : IsRun q cs
  spelled : encode_utf8_all cs ≡ w

value_char : (c : ℕ) → is_word_char c ≡ true → is_value_char c ≡ true
value_char c h = or_left (is_word_char c) (c == 95) h

spelled_word : (w : List ℕ) → IsCut is_word_char w → IsSpelled is_value_char w
spelled_word w h = record {
  cs = chars w;
  run = run_wider is_word_char is_value_char value_char (chars w) (record { text = scalars_of w h.utf8; passes = h.passes });
  spelled = encodes-chars w h.utf8;
}
  where
    scalars_of : (w : List ℕ) → IsUtf8 w → scalars (chars w) ≡ true
    scalars_of w u = subst (λ v. scalars (chars v) ≡ true) u.1.1 (ap scalars (chars-encodes u.0 u.1.0) ∙ u.1.0)

low_line_char : is_value_char 95 ≡ true
unfolding is_word_char
low_line_char = refl

spelled_join : (ws : List (List ℕ)) → AllByRecursion (IsCut is_word_char) ws → IsSpelled is_value_char (join_with_byte 95 ws)
spelled_join [] h = record { cs = []; run = run_nil is_value_char; spelled = refl }
spelled_join (w ∷ []) h = spelled_word w h.0
spelled_join (w ∷ v ∷ ws) h =
    let one : IsSpelled is_value_char w = spelled_word w h.0 in
    let rest : IsSpelled is_value_char (join_with_byte 95 (v ∷ ws)) = spelled_join (v ∷ ws) h.1 in
    record {
      cs = one.cs ++ 95 ∷ rest.cs;
      run = run_append is_value_char one.cs (95 ∷ rest.cs) one.run (run_cons is_value_char 95 rest.cs refl low_line_char rest.run);
      spelled = encodes-append one.cs (95 ∷ rest.cs) ∙ ap (λ a. a ++ encode_utf8_all (95 ∷ rest.cs)) one.spelled ∙ ap (λ a. w ++ (a ++ encode_utf8_all rest.cs)) (encode_ascii 95 (omega arith)) ∙ ap (λ b. w ++ (95 ∷ b)) rest.spelled;
    }

join_filled : (w : List ℕ) (ws : List (List ℕ)) → is_filled w ≡ true → 1 ≤ length (join_with_byte 95 (w ∷ ws))
join_filled [] ws h = absurd (true≢false (sym h))
join_filled (b ∷ w) [] h = omega arith
join_filled (b ∷ w) (v ∷ ws) h = omega arith

cut_spelled : (q : ℕ → Bool) (bs : List ℕ) → 1 ≤ length bs → IsSpelled q bs → IsCut q (cut (chars bs))
cut_spelled q bs some h =
    let same : chars bs ≡ h.cs = ap chars (sym h.spelled) ∙ chars-encodes h.cs h.run.text in
    let utf8 : IsUtf8 bs = (h.cs, (h.run.text, h.spelled)) in
    cut_run q (chars bs) (subst (IsRun q) (sym same) h.run) (some_chars bs utf8 some)

cut_slug_of : (ws : List (List ℕ)) (s : List ℕ) → AllByRecursion (IsCut is_word_char) ws → slug_of ws ≡ Some s → IsCut is_value_char s
cut_slug_of [] s h e = absurd (cc)
cut_slug_of (w ∷ ws) s h e =
    let same : cut (chars (join_with_byte 95 (w ∷ ws))) ≡ s = cc in
    subst (IsCut is_value_char) same (cut_spelled is_value_char (join_with_byte 95 (w ∷ ws)) (join_filled w ws h.0.filled) (spelled_join (w ∷ ws) h))

pub cut_slug : (v s : List ℕ) → IsUtf8 v → slug v ≡ Some s → IsCut is_value_char s
cut_slug v s u e = cut_slug_of (words v) s (cut_words v u) e

-- ---- words that an index file may have

pub record IsKept (facet : Bool) (w : List ℕ) : Type 0 where
  pub word : is_word w ≡ true
  pub kind : is_facet w ≡ facet

no_colon_char : is_word_char 58 ≡ false
unfolding is_word_char
no_colon_char = refl

plain_at : (b : Bool) (x c : ℕ) (w rest : List ℕ) → is_colon x ≡ b → is_word_char c ≡ true → x ∷ w ≡ encode_utf8_all (c ∷ []) ++ rest → b ≡ false
plain_at false x c w rest e p s = refl
plain_at true x c w rest e p s =
    let colon : x ≡ 58 = is_58 x e in
    let same : c ≡ x = first_char x c w rest s colon in
    absurd (true≢false (sym p ∙ ap is_word_char (same ∙ colon) ∙ no_colon_char))
  where
    is_58 : (x : ℕ) → is_colon x ≡ true → x ≡ 58
    is_58 x e = grind (arith, nat_tests)

    first_char : (x c : ℕ) (w rest : List ℕ) → x ∷ w ≡ encode_utf8_all (c ∷ []) ++ rest → x ≡ 58 → c ≡ x
    first_char x c w rest s e = char_from_byte (x ∷ w) ([] ++ rest) c (s ∙ append_assoc _ [] rest) (omega arith) (omega arith)

plain_kind : (cs w : List ℕ) → list_all is_word_char cs ≡ true → encode_utf8_all cs ≡ w → is_facet w ≡ false
plain_kind cs [] h e = refl
plain_kind [] (x ∷ w) h e = absurd (cc)
plain_kind (c ∷ cs) (x ∷ w) h e = plain_at (is_colon x) x c w (encode_utf8_all cs) refl (and_parts (is_word_char c) (list_all is_word_char cs) h).0 (sym e ∙ encodes-append (c ∷ []) cs)

pub kept_plain : (w : List ℕ) → IsCut is_word_char w → IsKept false w
kept_plain w h =
    let kind : is_facet w ≡ false = plain_kind (chars w) w h.passes (encodes-chars w h.utf8) in
    let plain : is_plain_word w ≡ true = and_from (is_filled w) _ h.filled (and_from (nat_le (length w) MAX_PLAIN_WORD_BYTES) (list_all is_word_char (chars w)) h.short h.passes) in
    record {
      word = and_from (is_utf8 w) (cond (is_facet w) (is_named_value (drop 1 w)) (is_plain_word w)) (is_utf8-from_IsUtf8 w h.utf8) (ap (λ b. cond b (is_named_value (drop 1 w)) (is_plain_word w)) kind ∙ plain);
      kind = kind;
    }

-- ---- facet words

name_byte : (b : ℕ) → is_name_byte b ≡ true → b < 128
name_byte b h = grind (arith, nat_tests)

no_colon : (b : ℕ) → is_name_byte b ≡ true → is_colon b ≡ false
no_colon b h = grind (arith, nat_tests)

ascii_name : (n : List ℕ) → list_all is_name_byte n ≡ true → AllByRecursion (λ b. b < 128) n
ascii_name [] h = tt
ascii_name (b ∷ n) h = (name_byte b (and_parts (is_name_byte b) (list_all is_name_byte n) h).0, ascii_name n (and_parts (is_name_byte b) (list_all is_name_byte n) h).1)

name_utf8 : (n : List ℕ) → list_all is_name_byte n ≡ true → IsUtf8 n
name_utf8 n h = IsUtf8-from_ascii n (IsAscii-from_all n (All-from_recursion (λ b. b < 128) n (ascii_name n h)))

colon_behind : (n v : List ℕ) → list_all is_name_byte n ≡ true → position_or_len is_colon (n ++ 58 ∷ v) ≡ length n
colon_behind [] v h = refl
colon_behind (b ∷ n) v h =
    let first : is_colon b ≡ false = no_colon b (and_parts (is_name_byte b) (list_all is_name_byte n) h).0 in
    ap (λ t. cond (not t) (1 + position_or_len is_colon (n ++ 58 ∷ v)) 0) first ∙ omega (arith, colon_behind n v (and_parts (is_name_byte b) (list_all is_name_byte n) h).1)

name_before : (n v : List ℕ) → list_all is_name_byte n ≡ true → before_first is_colon (n ++ 58 ∷ v) ≡ n
name_before n v h = take_at n (58 ∷ v) (position_or_len is_colon (n ++ 58 ∷ v)) (sym (colon_behind n v h))

value_after : (n v : List ℕ) → list_all is_name_byte n ≡ true → after_first is_colon (n ++ 58 ∷ v) ≡ v
value_after n v h =
    ap (drop (position_or_len is_colon (n ++ 58 ∷ v) + 1)) (sym (append_assoc n (58 ∷ []) v))
    ∙ drop_at (n ++ 58 ∷ []) v (position_or_len is_colon (n ++ 58 ∷ v) + 1) (omega (arith, length_push n 58, colon_behind n v h))

pub kept_facet : (name value : List ℕ) → has_name_form name ≡ true → IsCut is_value_char value → IsKept true (named name value)
kept_facet name value form h =
    let bytes : list_all is_name_byte name ≡ true = (and_parts (list_all is_name_byte name) _ (and_parts (begins_with_letter name) _ form).1).0 in
    let some : is_filled value && (nat_le (length value) MAX_PLAIN_WORD_BYTES && list_all is_value_char (chars value)) ≡ true =
    and_from (is_filled value) _ h.filled (and_from (nat_le (length value) MAX_PLAIN_WORD_BYTES) _ h.short h.passes) in
    let told : is_named_value (name ++ 58 ∷ value) ≡ true =
    and_from (has_name_form (before_first is_colon (name ++ 58 ∷ value))) _ (ap has_name_form (name_before name value bytes) ∙ form)
    (ap (λ v. is_filled v && (nat_le (length v) MAX_PLAIN_WORD_BYTES && list_all is_value_char (chars v))) (value_after name value bytes) ∙ some) in
    record {
      word = and_from (is_utf8 (named name value)) _ (is_utf8-from_IsUtf8 (named name value) (named_text name value (name_utf8 name bytes) h.utf8)) told;
      kind = refl;
    }
