-- Plain collections: each line is short printable ASCII without a tab, so a document is its title.
use Rattle.std.proofs.Common.{◌≡◌, ℕ, zero, suc, ◌+◌, ◌<◌, ◌≤◌, ◌-◌, ◌*◌, Bool, true, false, cond, List, [], ◌∷◌, length, take, drop, map, filter, nat_le, refl, sym, ap, subst, ◌∙◌, arith, length-take}
use Rattle.std.specs.Bool.{◌==◌}
use Rattle.std.specs.Char.{to_ascii_lowercase}
use Rattle.std.specs.List.{slice_split, onto_first, list_all, AllByRecursion, enumerate_from, position_or_len, before_first, after_first}
use Rattle.std.specs.Str.{IsAscii}
use Rattle.std.specs.Str.Lines.{lines, lines_of_parts}
use Rattle.std.proofs.lemmas.Bool.{and_parts, and_from}
use Rattle.std.proofs.lemmas.Bool.Decides.{nat_tests}
use Rattle.std.proofs.lemmas.List.{take_all, drop_all, length-map}
use Rattle.std.proofs.lemmas.List.Elements.{All-from_recursion}
use Rattle.std.proofs.lemmas.List.Sums.{count_by-le-length}
use Rattle.std.proofs.lemmas.List.Splits.{length-slice_split}
use Rattle.std.proofs.lemmas.Str.Ascii.{IsAscii-from_all, IsAscii-nil}
use Rattle.cs_base.specs.declared.content.doc.Doc.{Doc}
use Rattle.cs_base.specs.declared.content.limits.TheConstants.{MAX_PLAIN_WORD_BYTES}
use Rattle.cs_model.specs.Ascii.{is_ascii_gap, ascii_norm}
use Rattle.cs_model.specs.Collection.{is_plain, is_plain_byte, without_mark, is_tab, document, documents, doc_line, doc_lines, DocLine}
use Rattle.cs_model.specs.Weights.{names_weights}
use Rattle.cs_model.specs.Words.{is_filled, words}
use Rattle.cs_model.proofs.AsciiLemmas.{words-ascii}
use Rattle.cs_docs.specs.LinesRead.{doc_lines_from, doc_lines_of, documents_from}
use Rattle.cs_docs.proofs.WeightsLemmas.{lines_behind, lines_where, docs-behind, length-behind}

-- ---- parts of a text: each byte passes what all of them pass, and none is longer than the whole

pub record IsPart (q : ℕ → Bool) (n : ℕ) (l : List ℕ) : Type 0 where
  pub passes : list_all q l ≡ true
  pub short : length l ≤ n

abbrev pub AreParts : (ℕ → Bool) → ℕ → List (List ℕ) → Type 0
AreParts q n = AllByRecursion (IsPart q n)

AreParts-more : (q : ℕ → Bool) (n : ℕ) (ls : List (List ℕ)) → AreParts q n ls → AreParts q (n + 1) ls
AreParts-more q n [] h = tt
AreParts-more q n (l ∷ ls) h = (record { passes = h.0.passes; short = omega (arith, h.0.short) }, AreParts-more q n ls h.1)

AreParts-onto : (q : ℕ → Bool) (n x : ℕ) (ls : List (List ℕ)) → q x ≡ true → AreParts q n ls → AreParts q (n + 1) (onto_first x ls)
AreParts-onto q n x [] e h = (record { passes = and_from (q x) true e refl; short = omega arith }, tt)
AreParts-onto q n x (l ∷ ls) e h = (record { passes = and_from (q x) (list_all q l) e h.0.passes; short = omega (arith, h.0.short) }, AreParts-more q n ls h.1)

AreParts-split_at : (q : ℕ → Bool) (b : Bool) (x : ℕ) (xs : List ℕ) (ls : List (List ℕ)) → q x ≡ true → AreParts q (length xs) ls → AreParts q (length xs + 1) (cond b ([] ∷ ls) (onto_first x ls))
AreParts-split_at q true x xs ls e h = (record { passes = refl; short = omega arith }, AreParts-more q (length xs) ls h)
AreParts-split_at q false x xs ls e h = AreParts-onto q (length xs) x ls e h

AreParts-split : (p q : ℕ → Bool) (xs : List ℕ) → list_all q xs ≡ true → AreParts q (length xs) (slice_split p xs)
AreParts-split p q [] h = (record { passes = refl; short = omega arith }, tt)
AreParts-split p q (x ∷ xs) h =
    let all : AreParts q (length xs + 1) (slice_split p (x ∷ xs)) =
    AreParts-split_at q (p x) x xs (slice_split p xs) (and_parts (q x) (list_all q xs) h).0 (AreParts-split p q xs (and_parts (q x) (list_all q xs) h).1) in
    let same : length xs + 1 ≡ length (x ∷ xs) = omega arith in
    subst (λ n. AreParts q n (slice_split p (x ∷ xs))) same all

AreParts-within : (q : ℕ → Bool) (m n : ℕ) (ls : List (List ℕ)) → m ≤ n → AreParts q m ls → AreParts q n ls
AreParts-within q m n [] l h = tt
AreParts-within q m n (k ∷ ls) l h = (record { passes = h.0.passes; short = omega (arith, h.0.short) }, AreParts-within q m n ls l h.1)

IsPart-take : (q : ℕ → Bool) (n k : ℕ) (l : List ℕ) → list_all q l ≡ true → list_all q (take k l) ≡ true
IsPart-take q n zero l h = refl
IsPart-take q n (suc k) [] h = refl
IsPart-take q n (suc k) (x ∷ l) h = and_from (q x) (list_all q (take k l)) (and_parts (q x) (list_all q l) h).0 (IsPart-take q n k l (and_parts (q x) (list_all q l) h).1)

IsPart-stripped : (q : ℕ → Bool) (n : ℕ) (b : Bool) (l : List ℕ) → IsPart q n l → IsPart q n (cond b (take (length l - 1) l) l)
IsPart-stripped q n true l h = record { passes = IsPart-take q n (length l - 1) l h.passes; short = omega (arith, length-take (length l - 1) l, h.short) }
IsPart-stripped q n false l h = h

AreParts-last : (q : ℕ → Bool) (n : ℕ) (b : Bool) (l : List ℕ) → IsPart q n l → AreParts q n (cond b [] (l ∷ []))
AreParts-last q n true l h = tt
AreParts-last q n false l h = (h, tt)

AreParts-lines_of : (q : ℕ → Bool) (n : ℕ) (ls : List (List ℕ)) → AreParts q n ls → AreParts q n (lines_of_parts ls)
AreParts-lines_of q n [] h = tt
AreParts-lines_of q n (l ∷ []) h = AreParts-last q n (length l == 0) l h.0
AreParts-lines_of q n (l ∷ m ∷ ls) h = (IsPart-stripped q n _ l h.0, AreParts-lines_of q n (m ∷ ls) h.1)

-- ---- plain bytes

below_ascii : (b : ℕ) → is_plain_byte b ≡ true → b < 128
below_ascii b h = grind (arith, nat_tests)

not_marked : (b : ℕ) → is_plain_byte b ≡ true → (239 == b) ≡ false
not_marked b h = grind (arith, nat_tests)

no_tab : (b : ℕ) → is_plain_byte b ≡ true → is_tab b ≡ false
no_tab b h = grind (arith, nat_tests)

pub IsAscii-plain : (l : List ℕ) → list_all is_plain_byte l ≡ true → IsAscii l
IsAscii-plain l h = IsAscii-from_all l (All-from_recursion (λ b. b < 128) l (each l h))
  where
    each : (l : List ℕ) → list_all is_plain_byte l ≡ true → AllByRecursion (λ b. b < 128) l
    each [] h = tt
    each (b ∷ l) h = (below_ascii b (and_parts (is_plain_byte b) (list_all is_plain_byte l) h).0, each l (and_parts (is_plain_byte b) (list_all is_plain_byte l) h).1)

pub unmarked : (c : List ℕ) → list_all is_plain_byte c ≡ true → without_mark c ≡ c
unmarked [] h = refl
unmarked (b ∷ c) h = rw (not_marked b (and_parts (is_plain_byte b) (list_all is_plain_byte c) h).0) refl

tab_nowhere : (l : List ℕ) → list_all is_plain_byte l ≡ true → position_or_len is_tab l ≡ length l
tab_nowhere [] h = refl
tab_nowhere (b ∷ l) h = rw (no_tab b (and_parts (is_plain_byte b) (list_all is_plain_byte l) h).0) (omega (arith, tab_nowhere l (and_parts (is_plain_byte b) (list_all is_plain_byte l) h).1))

pub plain_parts : (c : List ℕ) → is_plain c ≡ true → list_all is_plain_byte c ≡ true
plain_parts c h = (and_parts (nat_le (length c) 65536) (list_all is_plain_byte c) h).1

pub plain_length : (c : List ℕ) → is_plain c ≡ true → length c ≤ 65536
plain_length c h = let few : nat_le (length c) 65536 ≡ true = (and_parts (nat_le (length c) 65536) (list_all is_plain_byte c) h).0 in grind (arith, nat_tests)

pub plain_lines : (c : List ℕ) → is_plain c ≡ true → AreParts is_plain_byte 65536 (lines c)
plain_lines c h = AreParts-within is_plain_byte (length c) 65536 (lines c) (plain_length c h) (AreParts-lines_of is_plain_byte (length c) _ (AreParts-split (λ b. b == 10) is_plain_byte c (plain_parts c h)))

-- ---- a document of a plain line is its title

pub record IsTitleOnly (doc : Doc) : Type 0 where
  pub ascii : IsAscii doc.title
  pub short : length doc.title ≤ 65536
  pub no_facets : doc.facets ≡ []
  pub no_text : doc.text ≡ []

whole_before : (l : List ℕ) → position_or_len is_tab l ≡ length l → before_first is_tab l ≡ l
whole_before l h = ap (λ n. take n l) h ∙ take_all (length l) l (omega arith)

nothing_after : (l : List ℕ) → position_or_len is_tab l ≡ length l → after_first is_tab l ≡ []
nothing_after l h = ap (λ n. drop (n + 1) l) h ∙ drop_all (length l + 1) l (omega arith)

pub IsTitleOnly-line : (l : DocLine) → IsPart is_plain_byte 65536 l.bytes → IsTitleOnly (document l)
IsTitleOnly-line l h =
    let at = tab_nowhere l.bytes h.passes in
    let title : before_first is_tab l.bytes ≡ l.bytes = whole_before l.bytes at in
    record {
      ascii = subst IsAscii (sym title) (IsAscii-plain l.bytes h.passes);
      short = subst (λ t. length t ≤ 65536) (sym title) h.short;
      no_facets = ap (λ r. before_first is_tab r) (nothing_after l.bytes at);
      no_text = ap (λ r. after_first is_tab r) (nothing_after l.bytes at);
    }

pub title_of-line : (l : DocLine) → IsPart is_plain_byte 65536 l.bytes → (document l).title ≡ l.bytes
title_of-line l h = whole_before l.bytes (tab_nowhere l.bytes h.passes)

-- the documents of the lines from one on, where b says whether it has bytes
abbrev documents_at : Bool → ℕ → ℕ → List ℕ → List (List ℕ) → List Doc
documents_at b d n l ls = map document (map doc_line (enumerate_from d (cond b ((n, l) ∷ filter (λ k. is_filled k.1) (enumerate_from (n + 1) ls)) (filter (λ k. is_filled k.1) (enumerate_from (n + 1) ls)))))

titles_only_at : (b : Bool) (d n : ℕ) (l : List ℕ) (ls : List (List ℕ)) → IsPart is_plain_byte 65536 l → ((e : ℕ) → AllByRecursion IsTitleOnly (documents_from e (n + 1) ls)) → AllByRecursion IsTitleOnly (documents_at b d n l ls)
titles_only_at true d n l ls h k = (IsTitleOnly-line (doc_line (d, (n, l))) h, k (d + 1))
titles_only_at false d n l ls h k = k d

pub titles_only : (d n : ℕ) (ls : List (List ℕ)) → AreParts is_plain_byte 65536 ls → AllByRecursion IsTitleOnly (documents_from d n ls)
titles_only d n [] h = tt
titles_only d n (l ∷ ls) h = titles_only_at (is_filled l) d n l ls h.0 (λ e. titles_only e (n + 1) ls h.1)

-- ---- how many

length_documents_at : (b : Bool) (d n : ℕ) (l : List ℕ) (ls : List (List ℕ)) → ((e : ℕ) → length (documents_from e (n + 1) ls) ≤ length ls) → length (documents_at b d n l ls) ≤ length ls + 1
length_documents_at true d n l ls k = omega (arith, k (d + 1))
length_documents_at false d n l ls k = omega (arith, k d)

length_documents : (d n : ℕ) (ls : List (List ℕ)) → length (documents_from d n ls) ≤ length ls
length_documents d n [] = omega arith
length_documents d n (l ∷ ls) = omega (arith, length_documents_at (is_filled l) d n l ls (λ e. length_documents e (n + 1) ls))

length_lines_of : (ls : List (List ℕ)) → length (lines_of_parts ls) ≤ length ls
length_lines_of [] = omega arith
length_lines_of (l ∷ []) = at (length l == 0)
  where
    at : (b : Bool) → length (cond b [] (l ∷ [])) ≤ length (l ∷ [])
    at true = omega arith
    at false = omega arith
length_lines_of (l ∷ m ∷ ls) = omega (arith, length_lines_of (m ∷ ls))

pub length_of_lines : (c : List ℕ) → length (lines c) ≤ length c + 1
length_of_lines c = omega (arith, length_lines_of (slice_split (λ b. b == 10) c), length-slice_split (λ b. b == 10) c, count_by-le-length (λ b. b == 10) c)

pub length_documents_of_lines : (c : List ℕ) → length (map document (doc_lines_of (lines c))) ≤ length c + 1
length_documents_of_lines c =
    let behind = lines_behind (lines c) in
    omega (arith, ap (λ ks. length (map document ks)) (docs-behind (lines c)), length_documents 0 behind.0 behind.1, length-behind (lines c), length_of_lines c)

pub plain_doc_lines : (c : List ℕ) → is_plain c ≡ true → doc_lines c ≡ doc_lines_from 0 (lines_behind (lines c)).0 (lines_behind (lines c)).1
plain_doc_lines c h = ap (λ b. doc_lines_of (lines b)) (unmarked c (plain_parts c h)) ∙ docs-behind (lines c)

AreParts-behind : (q : ℕ → Bool) (n : ℕ) (ls : List (List ℕ)) → AreParts q n ls → AreParts q n (lines_behind ls).1
AreParts-behind q n [] h = tt
AreParts-behind q n (l ∷ ls) h = at (names_weights l)
  where
    at : (b : Bool) → AreParts q n (lines_where b l ls).1
    at true = h.1
    at false = h

pub plain_lines_behind : (c : List ℕ) → is_plain c ≡ true → AreParts is_plain_byte 65536 (lines_behind (lines c)).1
plain_lines_behind c h = AreParts-behind is_plain_byte 65536 (lines c) (plain_lines c h)

-- ---- words of ASCII text

abbrev first_piece : List (List ℕ) → List ℕ
first_piece [] = []
first_piece (p ∷ ps) = p

some_run : (x : ℕ) (p : List ℕ) → is_filled (x ∷ p) ≡ true
some_run x p = grind (arith, nat_tests)

length_some : (x : ℕ) (p : List ℕ) (ps : List (List ℕ)) → length (filter is_filled ((x ∷ p) ∷ ps)) ≡ 1 + length (filter is_filled ps)
length_some x p ps = ap (λ b. length (cond b ((x ∷ p) ∷ filter is_filled ps) (filter is_filled ps))) (some_run x p) ∙ omega arith

-- the pieces that have characters, and whether the first of the pieces has
record HasFew (ps : List (List ℕ)) (n : ℕ) : Type 0 where
  few : 2 * length (filter is_filled ps) ≤ n + 1
  fewer : length (first_piece ps) ≡ 0 → 2 * length (filter is_filled ps) ≤ n

few_at : (b : Bool) (x : ℕ) (ps : List (List ℕ)) (n : ℕ) → HasFew ps n → HasFew (cond b ([] ∷ ps) (onto_first x ps)) (n + 1)
few_at true x ps n h = record { few = omega (arith, h.few); fewer = λ _. h.few }
few_at false x [] n h = record { few = omega (arith, length_some x [] []); fewer = λ e. absurd (omega (arith, e)) }
few_at false x ([] ∷ ps) n h = record { few = omega (arith, length_some x [] ps, h.fewer refl); fewer = λ e. absurd (omega (arith, e)) }
few_at false x ((y ∷ p) ∷ ps) n h = record { few = omega (arith, length_some x (y ∷ p) ps, length_some y p ps, h.few); fewer = λ e. absurd (omega (arith, e)) }

few_runs : (p : ℕ → Bool) (xs : List ℕ) → HasFew (slice_split p xs) (length xs)
few_runs p [] = record { few = omega arith; fewer = λ _. omega arith }
few_runs p (x ∷ xs) = let more = few_at (p x) x (slice_split p xs) (length xs) (few_runs p xs) in record { few = omega (arith, more.few); fewer = λ e. omega (arith, more.fewer e) }

pub few_words : (s : List ℕ) → IsAscii s → 2 * length (words s) ≤ length s + 1
few_words s h =
    let runs = few_runs is_ascii_gap (ascii_norm s) in
    omega (arith, ap length (words-ascii s h), length-map (filter is_filled (slice_split is_ascii_gap (ascii_norm s))) (take MAX_PLAIN_WORD_BYTES), length-map s to_ascii_lowercase, runs.few)

-- ---- the documents of a plain collection

pub titles_of_plain : (c : List ℕ) → is_plain c ≡ true → AllByRecursion IsTitleOnly (documents c)
titles_of_plain c h = subst (AllByRecursion IsTitleOnly) (sym (ap (map document) (plain_doc_lines c h))) (titles_only 0 _ _ (plain_lines_behind c h))

pub no_words : words [] ≡ []
no_words = words-ascii [] IsAscii-nil
