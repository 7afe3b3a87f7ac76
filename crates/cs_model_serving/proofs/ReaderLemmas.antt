-- The head that is read of bytes is the one that the grammar has.
--
--   head_is         bytes that are a head have no other guess
--   reads_head      what is read is a head that the bytes are
--   head_is_read    the head that the bytes are is read
--   reads_none, none_is_read    where none is read the bytes are none, and the other way round
use Rattle.std.proofs.Common.{◌≡◌, ℕ, zero, suc, ◌+◌, ◌-◌, ◌<◌, ◌≤◌, Bool, true, false, cond, not, ◌&&◌, ◌==◌, nat_lt, nat_le, List, [], ◌∷◌, ◌++◌, length, get_or, map, flat_map, drop-cons, nat_eq, All, Some, None, Option, refl, sym, ap, ap₂, subst, ◌∙◌, arith, append_assoc, append-nil, length-append, take, drop, take_while}
use Rattle.std.specs.List.{AllByRecursion, list_all, prefix_len, before_first, after_first, slice_index_or}
use Rattle.std.specs.Str.{bytes_eq, is_utf8}
use Rattle.std.specs.Cmp.Lexicographic.{bytes_decides, pointwise}
use Rattle.std.proofs.lemmas.Bool.Decides.{nat_tests}
use Rattle.std.proofs.lemmas.Grind.{flat_map-append}
use Rattle.std.proofs.lemmas.List.{drop_all}
use Rattle.std.proofs.lemmas.List.Elements.{All-append, All-head, All-tail, All-cons, All-nil}
use Rattle.std.proofs.lemmas.List.Sums.{AllPass-from_list_all, list_all-from_AllPass}
use Rattle.std.proofs.lemmas.Str.{IsUtf8-from_is_utf8, is_utf8-from_IsUtf8}
use Rattle.std.proofs.Math.Seq.{take-append_seam, drop-append_seam, drop-append-add}
use Rattle.httparse.proofs.GrammarLemmas.{cons-append}
use Rattle.httparse.specs.Grammar.{LineEnd, crlf, lf, print_end, print_blank, print_field, print_section, print_version, print_request, Field, IsField, RequestHead, IsRequestHead, ReadsRequest, is_token_byte, is_uri_byte, is_value_byte, is_token, AllPass}
use Rattle.cs_base.specs.declared.content.limits.TheConstants.{MAX_HEAD_FIELDS}
use Rattle.cs_model.specs.Collection.{is_colon, is_space}
use Rattle.cs_model_serving.specs.Framing.{ended_lines, is_empty_line, front_lines, later_lines, text_lines, closing_lines}
use Rattle.cs_model_serving.specs.HeadReader.{IsHead, ends_in_return, line_text, line_end, line_field, version_of, head_by, lines_head, is_head_field, is_valid, tested, read_head}
use Rattle.cs_model_serving.proofs.LineLemmas.{HasNoFeed, ended_first, ended_none, no_feed_nil}

-- ---- the first that passes
-- some that fail a test, and then one that passes
record IsCutAt {X : Type 0} (p : X → Bool) (xs : List X) (y : X) : Type 0 where
  fail : All (λ x. p x ≡ false) xs
  pass : p y ≡ true

prefix_at : {X : Type 0} (p : X → Bool) (xs : List X) (y : X) (ys : List X) → All (λ x. p x ≡ true) xs → p y ≡ false → prefix_len p (xs ++ y ∷ ys) ≡ length xs
prefix_at p [] y ys all e = ap (λ t. cond t (1 + prefix_len p ys) 0) e
prefix_at p (x ∷ xs) y ys all e =
    ap (λ t. cond t (1 + prefix_len p (xs ++ y ∷ ys)) 0) (All-head (λ x. p x ≡ true) x xs all)
    ∙ (omega (arith, prefix_at p xs y ys (All-tail (λ x. p x ≡ true) x xs all) e))

-- what stands before it, and from it on
while_at : {X : Type 0} (p : X → Bool) (xs : List X) (y : X) (ys : List X) → All (λ x. p x ≡ true) xs → p y ≡ false → take_while p (xs ++ y ∷ ys) ≡ xs
while_at p xs y ys all e = ap (λ n. take n (xs ++ y ∷ ys)) (prefix_at p xs y ys all e) ∙ take-append_seam xs (y ∷ ys)

from_at : {X : Type 0} (p : X → Bool) (xs : List X) (y : X) (ys : List X) → All (λ x. p x ≡ true) xs → p y ≡ false → drop (prefix_len p (xs ++ y ∷ ys)) (xs ++ y ∷ ys) ≡ y ∷ ys
from_at p xs y ys all e = ap (λ n. drop n (xs ++ y ∷ ys)) (prefix_at p xs y ys all e) ∙ drop-append_seam xs (y ∷ ys)

fails : {X : Type 0} (p : X → Bool) (xs : List X) → All (λ x. p x ≡ false) xs → All (λ x. not (p x) ≡ true) xs
fails p xs h = λ k d less. ap not (h k d less)

before_at : (p : ℕ → Bool) (xs : List ℕ) (y : ℕ) (ys : List ℕ) → All (λ x. p x ≡ false) xs → p y ≡ true → before_first p (xs ++ y ∷ ys) ≡ xs
before_at p xs y ys h e = while_at (λ x. not (p x)) xs y ys (fails p xs h) (ap not e)

after_at : (p : ℕ → Bool) (xs : List ℕ) (y : ℕ) (ys : List ℕ) → All (λ x. p x ≡ false) xs → p y ≡ true → after_first p (xs ++ y ∷ ys) ≡ ys
after_at p xs y ys h e = ap (λ n. drop (n + 1) (xs ++ y ∷ ys)) (prefix_at (λ x. not (p x)) xs y ys (fails p xs h) (ap not e)) ∙ drop-append-add xs (y ∷ ys) 1

-- ---- lines
-- the CR of a line end
abbrev cr : LineEnd → List ℕ
cr crlf = 13 ∷ []
cr lf = []

print_end-cr : (e : LineEnd) → print_end e ≡ cr e ++ 10 ∷ []
print_end-cr crlf = refl
print_end-cr lf = refl

empty_cr : (e : LineEnd) → is_empty_line (cr e) ≡ true
empty_cr crlf = refl
empty_cr lf = refl

-- no byte of a text is this one
abbrev Without : ℕ → List ℕ → Type 0
Without s text = All (λ b. (b == s) ≡ false) text

no_byte : (s : ℕ) → Without s []
no_byte s = All-nil (λ b. (b == s) ≡ false)

joined_without : (s : ℕ) (a b : List ℕ) → Without s a → Without s b → Without s (a ++ b)
joined_without s a b = All-append (λ b. (b == s) ≡ false) a b

first_without : (s b : ℕ) (text : List ℕ) → (b == s) ≡ false → Without s text → Without s (b ∷ text)
first_without s b text = All-cons (λ b. (b == s) ≡ false) b text

-- bytes that pass a test which this one fails
pass_without : (test : ℕ → Bool) (s : ℕ) (text : List ℕ) → test s ≡ false → AllPass test text → Without s text
pass_without test s text e all = λ k d less. other (get_or text k d) (all k d less)
  where
    other : (b : ℕ) → test b ≡ true → (b == s) ≡ false
    other b t = grind (arith, nat_tests, (λ (same : b ≡ s). let u : test s ≡ true = ap test (sym same) ∙ t in let v : ⊥ = (cc) in v))

returns_crlf : (text : List ℕ) → ends_in_return (text ++ 13 ∷ []) ≡ true
returns_crlf text =
    let size : length (text ++ 13 ∷ []) - 1 ≡ length text = omega (arith, length-append text (13 ∷ [])) in
    ap (λ l. pointwise nat_eq (13 ∷ []) l) (ap (λ n. drop n (text ++ 13 ∷ [])) size ∙ drop-append_seam text (13 ∷ []))

last_byte : (b : ℕ) (text : List ℕ) → drop (length (b ∷ text) - 1) (b ∷ text) ≡ get_or (b ∷ text) (length (b ∷ text) - 1) 0 ∷ []
last_byte b text =
    drop-cons (b ∷ text) (length (b ∷ text) - 1) 0 (omega arith)
    ∙ ap (λ l. get_or (b ∷ text) (length (b ∷ text) - 1) 0 ∷ l) (drop_all (suc (length (b ∷ text) - 1)) (b ∷ text) (omega arith))

other_byte : (b : ℕ) → (b == 13) ≡ false → (nat_eq 13 b && true) ≡ false
other_byte b e = grind (arith, nat_tests)

returns_lf : (text : List ℕ) → Without 13 text → ends_in_return text ≡ false
returns_lf [] h = refl
returns_lf (b ∷ text) h =
    ap (λ l. pointwise nat_eq (13 ∷ []) l) (last_byte b text)
    ∙ other_byte (get_or (b ∷ text) (length (b ∷ text) - 1) 0) (h (length (b ∷ text) - 1) 0 (omega arith))

line_text-cr : (text : List ℕ) (e : LineEnd) → Without 13 text → line_text (text ++ cr e) ≡ text
unfolding line_text
line_text-cr text crlf h =
    let size : length (text ++ 13 ∷ []) - 1 ≡ length text = omega (arith, length-append text (13 ∷ [])) in
    ap (λ t. cond t (take (length (text ++ 13 ∷ []) - 1) (text ++ 13 ∷ [])) (text ++ 13 ∷ [])) (returns_crlf text)
    ∙ ap (λ n. take n (text ++ 13 ∷ [])) size ∙ take-append_seam text (13 ∷ [])
line_text-cr text lf h =
    ap (λ l. cond (ends_in_return l) (take (length l - 1) l) l) (append-nil text)
    ∙ ap (λ t. cond t (take (length text - 1) text) text) (returns_lf text h)

line_end-cr : (text : List ℕ) (e : LineEnd) → Without 13 text → line_end (text ++ cr e) ≡ e
unfolding line_end
line_end-cr text crlf h = ap (λ t. cond t crlf lf) (returns_crlf text)
line_end-cr text lf h = ap (λ l. cond (ends_in_return l) crlf lf) (append-nil text) ∙ ap (λ t. cond t crlf lf) (returns_lf text h)

-- lines, each with its LF
abbrev with_feeds : List (List ℕ) → List ℕ
with_feeds lines = flat_map (λ l. l ++ 10 ∷ []) lines

ended_all : (lines : List (List ℕ)) → AllByRecursion HasNoFeed lines → ended_lines (with_feeds lines) ≡ lines
ended_all [] h = ended_none [] no_feed_nil
ended_all (l ∷ lines) h = ap ended_lines (append_assoc l (10 ∷ []) (with_feeds lines)) ∙ ended_first l (with_feeds lines) h.0 ∙ ap (λ ls. l ∷ ls) (ended_all lines h.1)

-- ---- the lines of a head
abbrev field_text : Field → List ℕ
field_text f = f.name ++ 58 ∷ f.raw

abbrev field_line : Field → List ℕ
field_line f = field_text f ++ cr f.end

abbrev start_text : RequestHead → List ℕ
start_text h = h.method ++ 32 ∷ (h.target ++ 32 ∷ print_version h.minor)

abbrev start_line : RequestHead → List ℕ
start_line h = start_text h ++ cr h.line_end

-- the start line, those of the fields and the empty line
abbrev text_of : RequestHead → List (List ℕ)
text_of h = start_line h ∷ map field_line h.fields

abbrev lines_of : RequestHead → List (List ℕ)
lines_of h = map cr h.blank ++ (text_of h ++ cr h.last ∷ [])

feeds_blank : (ends : List LineEnd) → with_feeds (map cr ends) ≡ print_blank ends
feeds_blank [] = refl
feeds_blank (e ∷ ends) = ap₂ (λ a b. a ++ b) (sym (print_end-cr e)) (feeds_blank ends)

line_printed : (text : List ℕ) (e : LineEnd) → (text ++ cr e) ++ 10 ∷ [] ≡ text ++ print_end e
line_printed text e = append_assoc text (cr e) (10 ∷ []) ∙ ap (λ l. text ++ l) (sym (print_end-cr e))

field_printed : (f : Field) → field_line f ++ 10 ∷ [] ≡ print_field f
field_printed f = line_printed (field_text f) f.end

feeds_fields : (fields : List Field) → with_feeds (map field_line fields) ≡ flat_map print_field fields
feeds_fields [] = refl
feeds_fields (f ∷ fields) = ap₂ (λ a b. a ++ b) (field_printed f) (feeds_fields fields)

regroup_start : (blank a b c e more : List ℕ) → blank ++ (((a ++ (32 ∷ (b ++ (32 ∷ c)))) ++ e) ++ more) ≡ ((((blank ++ a) ++ (32 ∷ b)) ++ (32 ∷ c)) ++ e) ++ more
regroup_start blank a b c e more = simp (append_assoc, cons-append)

printed : (h : RequestHead) → with_feeds (lines_of h) ≡ print_request h
unfolding print_request
printed h =
    let end : with_feeds (cr h.last ∷ []) ≡ print_end h.last = append-nil (cr h.last ++ 10 ∷ []) ∙ sym (print_end-cr h.last) in
    let section : with_feeds (map field_line h.fields ++ cr h.last ∷ []) ≡ print_section h.fields h.last =
    flat_map-append (λ l. l ++ 10 ∷ []) (map field_line h.fields) (cr h.last ∷ []) ∙ ap₂ (λ a b. a ++ b) (feeds_fields h.fields) end in
    let start : (start_line h ++ 10 ∷ []) ++ with_feeds (map field_line h.fields ++ cr h.last ∷ []) ≡ (start_text h ++ print_end h.line_end) ++ print_section h.fields h.last =
    ap₂ (λ a b. a ++ b) (line_printed (start_text h) h.line_end) section in
    flat_map-append (λ l. l ++ 10 ∷ []) (map cr h.blank) (text_of h ++ cr h.last ∷ [])
    ∙ ap₂ (λ a b. a ++ b) (feeds_blank h.blank) start
    ∙ regroup_start (print_blank h.blank) h.method h.target (print_version h.minor) (print_end h.line_end) (print_section h.fields h.last)

-- ---- the bytes of a head's parts
token_feed : is_token_byte 10 ≡ false
unfolding is_token_byte
token_feed = refl

token_return : is_token_byte 13 ≡ false
unfolding is_token_byte
token_return = refl

token_colon : is_token_byte 58 ≡ false
unfolding is_token_byte
token_colon = refl

token_space : is_token_byte 32 ≡ false
unfolding is_token_byte
token_space = refl

field_without : (s : ℕ) (f : Field) → IsField f → is_token_byte s ≡ false → is_value_byte s ≡ false → (58 == s) ≡ false → Without s (field_text f)
field_without s f is a b c = joined_without s f.name (58 ∷ f.raw) (pass_without is_token_byte s f.name a is.name.1) (first_without s 58 f.raw c (pass_without is_value_byte s f.raw b is.raw))

abbrev is_printable : ℕ → Bool
is_printable b = nat_lt 32 b

version_bytes : (m : ℕ) → m ≤ 1 → AllPass is_printable (print_version m)
version_bytes zero h = AllPass-from_list_all is_printable (print_version 0) refl
version_bytes (suc zero) h = AllPass-from_list_all is_printable (print_version 1) refl
version_bytes (suc (suc m)) h = absurd (omega arith)

start_without : (s : ℕ) (h : RequestHead) → IsRequestHead h → is_token_byte s ≡ false → is_uri_byte s ≡ false → is_printable s ≡ false → (32 == s) ≡ false → Without s (start_text h)
start_without s h is a b c d =
    joined_without s h.method (32 ∷ (h.target ++ 32 ∷ print_version h.minor)) (pass_without is_token_byte s h.method a is.method.1)
    (first_without s 32 (h.target ++ 32 ∷ print_version h.minor) d
    (joined_without s h.target (32 ∷ print_version h.minor) (pass_without is_uri_byte s h.target b is.target.1)
    (first_without s 32 (print_version h.minor) d (pass_without is_printable s (print_version h.minor) c (version_bytes h.minor is.minor)))))

no_feed_cr : (e : LineEnd) → Without 10 (cr e)
no_feed_cr crlf = first_without 10 13 [] refl (no_byte 10)
no_feed_cr lf = no_byte 10

no_feed : (text : List ℕ) (e : LineEnd) → Without 10 text → HasNoFeed (text ++ cr e)
no_feed text e h = record { each = joined_without 10 text (cr e) h (no_feed_cr e) }

feedless_blank : (ends : List LineEnd) (more : List (List ℕ)) → AllByRecursion HasNoFeed more → AllByRecursion HasNoFeed (map cr ends ++ more)
feedless_blank [] more h = h
feedless_blank (e ∷ ends) more h = (record { each = no_feed_cr e }, feedless_blank ends more h)

feedless_fields : (fields : List Field) (more : List (List ℕ)) → All IsField fields → AllByRecursion HasNoFeed more → AllByRecursion HasNoFeed (map field_line fields ++ more)
feedless_fields [] more is h = h
feedless_fields (f ∷ fields) more is h =
    (no_feed (field_text f) f.end (field_without 10 f (All-head IsField f fields is) token_feed refl refl), feedless_fields fields more (All-tail IsField f fields is) h)

feedless : (h : RequestHead) → IsRequestHead h → AllByRecursion HasNoFeed (lines_of h)
feedless h is =
    feedless_blank h.blank (text_of h ++ cr h.last ∷ [])
    (no_feed (start_text h) h.line_end (start_without 10 h is token_feed refl refl refl), feedless_fields h.fields (cr h.last ∷ []) is.fields (record { each = no_feed_cr h.last }, tt))

-- ---- the guess
long_line : (l : List ℕ) → 2 ≤ length l → is_empty_line l ≡ false
long_line [] h = absurd (omega arith)
long_line (b ∷ []) h = absurd (omega arith)
long_line (b ∷ c ∷ bs) h = refl

start_long : (h : RequestHead) → IsRequestHead h → is_empty_line (start_line h) ≡ false
start_long h is =
    long_line (start_line h)
    (omega (arith, is.method.0, length-append (start_text h) (cr h.line_end), length-append h.method (32 ∷ (h.target ++ 32 ∷ print_version h.minor))))

field_long : (f : Field) → IsField f → is_empty_line (field_line f) ≡ false
field_long f is = long_line (field_line f) (omega (arith, is.name.0, length-append (field_text f) (cr f.end), length-append f.name (58 ∷ f.raw)))

empty_blank : (ends : List LineEnd) → All (λ l. is_empty_line l ≡ true) (map cr ends)
empty_blank [] = All-nil (λ l. is_empty_line l ≡ true)
empty_blank (e ∷ ends) = All-cons (λ l. is_empty_line l ≡ true) (cr e) (map cr ends) (empty_cr e) (empty_blank ends)

abbrev IsText : List ℕ → Type 0
IsText l = not (is_empty_line l) ≡ true

text_fields : (fields : List Field) → All IsField fields → All IsText (map field_line fields)
text_fields [] is = All-nil IsText
text_fields (f ∷ fields) is = All-cons IsText (field_line f) (map field_line fields) (ap not (field_long f (All-head IsField f fields is))) (text_fields fields (All-tail IsField f fields is))

text_all : (h : RequestHead) → IsRequestHead h → All IsText (text_of h)
text_all h is = All-cons IsText (start_line h) (map field_line h.fields) (ap not (start_long h is)) (text_fields h.fields is.fields)

-- the lines of a head in its three parts
record AreLines (lines : List (List ℕ)) (h : RequestHead) : Type 0 where
  front : front_lines lines ≡ map cr h.blank
  text : text_lines lines ≡ text_of h
  closing : closing_lines lines ≡ cr h.last ∷ []

are_lines : (h : RequestHead) → IsRequestHead h → AreLines (lines_of h) h
are_lines h is =
    let more = map field_line h.fields ++ cr h.last ∷ [] in
    let later : later_lines (lines_of h) ≡ text_of h ++ cr h.last ∷ [] = from_at is_empty_line (map cr h.blank) (start_line h) more (empty_blank h.blank) (start_long h is) in
    record {
      front = while_at is_empty_line (map cr h.blank) (start_line h) more (empty_blank h.blank) (start_long h is);
      text = ap (take_while (λ l. not (is_empty_line l))) later ∙ while_at (λ l. not (is_empty_line l)) (text_of h) (cr h.last) [] (text_all h is) (ap not (empty_cr h.last));
      closing =
          ap (λ ls. drop (prefix_len (λ l. not (is_empty_line l)) ls) ls) later
          ∙ from_at (λ l. not (is_empty_line l)) (text_of h) (cr h.last) [] (text_all h is) (ap not (empty_cr h.last));
    }

ends_blank : (ends : List LineEnd) → map line_end (map cr ends) ≡ ends
ends_blank [] = refl
ends_blank (e ∷ ends) = ap₂ (λ a b. a ∷ b) (line_end-cr [] e (no_byte 13)) (ends_blank ends)

field_read : (f : Field) → IsField f → line_field (field_line f) ≡ f
field_read f is =
    let no_return = field_without 13 f is token_return refl refl in
    let text = line_text-cr (field_text f) f.end no_return in
    let no_colon = pass_without is_token_byte 58 f.name token_colon is.name.1 in
    let name : before_first is_colon (line_text (field_line f)) ≡ f.name = ap (before_first is_colon) text ∙ before_at is_colon f.name 58 f.raw no_colon refl in
    let raw : after_first is_colon (line_text (field_line f)) ≡ f.raw = ap (after_first is_colon) text ∙ after_at is_colon f.name 58 f.raw no_colon refl in
    let end = line_end-cr (field_text f) f.end no_return in
    λ i. record { name = name i; raw = raw i; end = end i }

fields_read : (fields : List Field) → All IsField fields → map line_field (map field_line fields) ≡ fields
fields_read [] is = refl
fields_read (f ∷ fields) is = ap₂ (λ a b. a ∷ b) (field_read f (All-head IsField f fields is)) (fields_read fields (All-tail IsField f fields is))

minor_read : (m : ℕ) → m ≤ 1 → version_of (print_version m) ≡ m
minor_read zero h = refl
minor_read (suc zero) h = refl
minor_read (suc (suc m)) h = absurd (omega arith)

head_read : (h : RequestHead) → IsRequestHead h → head_by (map cr h.blank) (start_line h) (map field_line h.fields) (cr h.last) ≡ h
head_read h is =
    let no_return = start_without 13 h is token_return refl refl refl in
    let text = line_text-cr (start_text h) h.line_end no_return in
    let no_space = pass_without is_token_byte 32 h.method token_space is.method.1 in
    let no_gap = pass_without is_uri_byte 32 h.target refl is.target.1 in
    let behind : List ℕ = h.target ++ 32 ∷ print_version h.minor in
    let method : before_first is_space (line_text (start_line h)) ≡ h.method = ap (before_first is_space) text ∙ before_at is_space h.method 32 behind no_space refl in
    let after : after_first is_space (line_text (start_line h)) ≡ behind = ap (after_first is_space) text ∙ after_at is_space h.method 32 behind no_space refl in
    let target : before_first is_space (after_first is_space (line_text (start_line h))) ≡ h.target = ap (before_first is_space) after ∙ before_at is_space h.target 32 (print_version h.minor) no_gap refl in
    let version : after_first is_space (after_first is_space (line_text (start_line h))) ≡ print_version h.minor = ap (after_first is_space) after ∙ after_at is_space h.target 32 (print_version h.minor) no_gap refl in
    let minor : version_of (after_first is_space (after_first is_space (line_text (start_line h)))) ≡ h.minor = ap version_of version ∙ minor_read h.minor is.minor in
    let blank = ends_blank h.blank in
    let end = line_end-cr (start_text h) h.line_end no_return in
    let fields = fields_read h.fields is.fields in
    let last : line_end (cr h.last) ≡ h.last = line_end-cr [] h.last (no_byte 13) in
    λ i. record {
      blank = blank i;
      method = method i;
      target = target i;
      minor = minor i;
      line_end = end i;
      fields = fields i;
      last = last i;
    }

abbrev head_in : List (List ℕ) → List (List ℕ) → List (List ℕ) → RequestHead
head_in front text closing = head_by front (slice_index_or text 0 []) (drop 1 text) (slice_index_or closing 0 [])

pub head_is : (bytes : List ℕ) (h : RequestHead) → ReadsRequest bytes h [] → lines_head (ended_lines bytes) ≡ h
head_is bytes h reads =
    let is : bytes ≡ with_feeds (lines_of h) = reads.1 ∙ append-nil (print_request h) ∙ sym (printed h) in
    let lines : ended_lines bytes ≡ lines_of h = ap ended_lines is ∙ ended_all (lines_of h) (feedless h reads.0) in
    let parts = are_lines h reads.0 in
    ap lines_head lines
    ∙ (λ i. head_in (parts.front i) (parts.text i) (parts.closing i))
    ∙ head_read h reads.0

-- ---- the test
both : (a b : Bool) → a ≡ true → b ≡ true → (a && b) ≡ true
both a b e f = rw (e, f)

left : (a b : Bool) → (a && b) ≡ true → a ≡ true
left true b e = refl
left false b e = (cc)

right : (a b : Bool) → (a && b) ≡ true → b ≡ true
right true b e = e
right false b e = (cc)

at_most : (n m : ℕ) → n ≤ m → nat_le n m ≡ true
at_most n m h = grind (arith, nat_tests)

from_at_most : (n m : ℕ) → nat_le n m ≡ true → n ≤ m
from_at_most n m h = grind (arith, nat_tests)

positive : (n : ℕ) → 0 < n → nat_lt 0 n ≡ true
positive n h = grind (arith, nat_tests)

from_positive : (n : ℕ) → nat_lt 0 n ≡ true → 0 < n
from_positive n h = grind (arith, nat_tests)

word_test : (p : ℕ → Bool) (bytes : List ℕ) → 0 < length bytes → AllPass p bytes → (nat_lt 0 (length bytes) && list_all p bytes) ≡ true
word_test p bytes h all = both _ _ (positive (length bytes) h) (list_all-from_AllPass p bytes all)

word_from : (p : ℕ → Bool) (bytes : List ℕ) → (nat_lt 0 (length bytes) && list_all p bytes) ≡ true → (0 < length bytes) × AllPass p bytes
word_from p bytes e = (from_positive (length bytes) (left _ _ e), AllPass-from_list_all p bytes (right (nat_lt 0 (length bytes)) _ e))

field_test : (f : Field) → IsField f → is_head_field f ≡ true
field_test f is = both _ _ (word_test is_token_byte f.name is.name.0 is.name.1) (list_all-from_AllPass is_value_byte f.raw is.raw)

field_from : (f : Field) → is_head_field f ≡ true → IsField f
field_from f e = record { name = word_from is_token_byte f.name (left _ _ e); raw = AllPass-from_list_all is_value_byte f.raw (right (is_token f.name) _ e) }

fields_test : (fields : List Field) → All IsField fields → list_all is_head_field fields ≡ true
fields_test [] is = refl
fields_test (f ∷ fields) is = both _ _ (field_test f (All-head IsField f fields is)) (fields_test fields (All-tail IsField f fields is))

fields_from : (fields : List Field) → list_all is_head_field fields ≡ true → All IsField fields
fields_from fields e = λ k d less. field_from (get_or fields k d) (AllPass-from_list_all is_head_field fields e k d less)

-- the parts of `is_valid`
abbrev is_target : RequestHead → Bool
is_target h = nat_lt 0 (length h.target) && (list_all is_uri_byte h.target && is_utf8 h.target)

abbrev has_tail : RequestHead → Bool
has_tail h = nat_le h.minor 1 && list_all is_head_field h.fields

valid_test : (h : RequestHead) → IsRequestHead h → is_valid h ≡ true
unfolding is_valid
valid_test h is =
    let target : is_target h ≡ true = both _ _ (positive (length h.target) is.target.0) (both _ _ (list_all-from_AllPass is_uri_byte h.target is.target.1) (is_utf8-from_IsUtf8 h.target is.target_text)) in
    let tail : has_tail h ≡ true = both _ _ (at_most h.minor 1 is.minor) (fields_test h.fields is.fields) in
    both _ _ (both _ _ (word_test is_token_byte h.method is.method.0 is.method.1) target) tail

valid_from : (h : RequestHead) → is_valid h ≡ true → IsRequestHead h
unfolding is_valid
valid_from h e =
    let front = left (is_token h.method && is_target h) (has_tail h) e in
    let tail = right (is_token h.method && is_target h) (has_tail h) e in
    let target = right (is_token h.method) (is_target h) front in
    let bytes = right (nat_lt 0 (length h.target)) (list_all is_uri_byte h.target && is_utf8 h.target) target in
    record {
      method = word_from is_token_byte h.method (left (is_token h.method) (is_target h) front);
      target = (from_positive (length h.target) (left _ (list_all is_uri_byte h.target && is_utf8 h.target) target), AllPass-from_list_all is_uri_byte h.target (left _ (is_utf8 h.target) bytes));
      target_text = IsUtf8-from_is_utf8 h.target (right (list_all is_uri_byte h.target) _ bytes);
      minor = from_at_most h.minor 1 (left _ (list_all is_head_field h.fields) tail);
      fields = fields_from h.fields (right (nat_le h.minor 1) _ tail);
    }

-- ---- what is read
gives : (t : Bool) (g h : RequestHead) → cond t (Some g) None ≡ Some h → (t ≡ true) × (g ≡ h)
gives true g h e = (refl, (cc))
gives false g h e = absurd (cc)

abbrev is_printed : List ℕ → RequestHead → Bool
is_printed bytes h = bytes_eq bytes (print_request h) && nat_le (length h.fields) MAX_HEAD_FIELDS

pub reads_head : (bytes : List ℕ) (h : RequestHead) → read_head bytes ≡ Some h → IsHead bytes h
unfolding read_head
reads_head bytes h e =
    let g = lines_head (ended_lines bytes) in
    let found = gives (is_valid g && is_printed bytes g) g h e in
    let valid = left (is_valid g) (is_printed bytes g) found.0 in
    let printed = right (is_valid g) (is_printed bytes g) found.0 in
    let same : bytes ≡ print_request g = (bytes_decides bytes (print_request g)).0 (left _ (nat_le (length g.fields) MAX_HEAD_FIELDS) printed) in
    let is : IsHead bytes g = ((valid_from g valid, same ∙ sym (append-nil (print_request g))), from_at_most (length g.fields) MAX_HEAD_FIELDS (right (bytes_eq bytes (print_request g)) _ printed)) in
    subst (IsHead bytes) found.1 is

tested-head : (bytes : List ℕ) (h : RequestHead) → IsHead bytes h → tested bytes h ≡ Some h
tested-head bytes h is =
    let same : bytes_eq bytes (print_request h) ≡ true = (bytes_decides bytes (print_request h)).1 (is.0.1 ∙ append-nil (print_request h)) in
    ap (λ t. cond t (Some h) None) (both (is_valid h) (is_printed bytes h) (valid_test h is.0.0) (both _ _ same (at_most (length h.fields) MAX_HEAD_FIELDS is.1)))

pub head_is_read : (bytes : List ℕ) (h : RequestHead) → IsHead bytes h → read_head bytes ≡ Some h
unfolding read_head
head_is_read bytes h is = ap (tested bytes) (head_is bytes h is.0) ∙ tested-head bytes h is

no_value : {X : Type 0} (o : Option X) → ((x : X) → o ≡ Some x → ⊥) → o ≡ None
no_value None f = refl
no_value (Some x) f = absurd (f x refl)

pub none_is_read : (bytes : List ℕ) → ((h : RequestHead) → ¬ (IsHead bytes h)) → read_head bytes ≡ None
none_is_read bytes none = no_value (read_head bytes) (λ h e. none h (reads_head bytes h e))

pub reads_none : (bytes : List ℕ) (h : RequestHead) → read_head bytes ≡ None → ¬ (IsHead bytes h)
reads_none bytes h e is = let found = head_is_read bytes h is in absurd (cc)
