-- A column that is a name, an `=` and one small word.
--
--   lone-listed     it has one facet word, of its name and value as they stand
--   lone-accepted   it isn't refused
use Rattle.std.proofs.Common.{◌≡◌, ℕ, ◌+◌, ◌<◌, Bool, true, false, ◌&&◌, ◌||◌, List, [], ◌∷◌, ◌++◌, length, map, filter, get_or, refl, sym, ap, ◌∙◌, arith, subst, true≢false, length-drop}
use Rattle.std.specs.Prelude.{Some, None}
use Rattle.std.specs.List.{All, list_all, list_any, before_first, filter_map, position_or_len}
use Rattle.std.specs.List.Sorted.{IsStrictlySortedBy}
use Rattle.std.specs.Option.{option_map}
use Rattle.std.specs.Ordering.{nat_cmp}
use Rattle.std.specs.Cmp.Lexicographic.{slice_cmp}
use Rattle.std.proofs.lemmas.Bool.{and_parts, and_from, or_right}
use Rattle.std.proofs.lemmas.Bool.Decides.{nat_tests}
use Rattle.std.proofs.lemmas.Cmp.{nat_list_cmp_total}
use Rattle.std.proofs.lemmas.List.Elements.{All-nil, All-cons}
use Rattle.std.proofs.lemmas.List.Folds.{list_all-append, list_any_at}
use Rattle.std.proofs.lemmas.List.Splits.{slice_split_none}
use Rattle.std.proofs.lemmas.List.Sums.{split_at_first, passes_at_first}
use Rattle.std.proofs.lemmas.Map.Lookups.{exact_bytes}
use Rattle.cs_base.proofs.MembersLemmas.{listed_itself}
use Rattle.cs_model.specs.Collection.{is_equals, is_name_byte, has_name_form, begins_with_letter, named, piece_name, piece_value, facet_pieces, facet_word, facet_words, piece_refusal, without_spaces, without_spaces_behind}
use Rattle.cs_model.specs.First.{first_reason}
use Rattle.cs_model.specs.KeyText.{norm}
use Rattle.cs_model.specs.Words.{is_filled, slug}
use Rattle.cs_text.specs.WordPieces.{is_small_word}
use Rattle.cs_text.proofs.KeyBytesLemmas.{norm-has_name_form}
use Rattle.cs_text.proofs.SlugLemmas.{slug-small_word}
use Rattle.cs_docs.specs.FacetPieces.{is_lone, is_semicolon}
use Rattle.cs_docs.specs.Listing.{listed_facets}
use Rattle.cs_docs.proofs.FacetPiecesLemmas.{no_front_space, no_space_behind}

-- a byte of such a column
abbrev is_lone_byte : ℕ → Bool
is_lone_byte b = is_name_byte b || is_equals b

lone-name_byte : (b : ℕ) → is_name_byte b ≡ true → is_lone_byte b ≡ true
lone-name_byte b h = rw h refl

lone-name_bytes : (bs : List ℕ) → list_all is_name_byte bs ≡ true → list_all is_lone_byte bs ≡ true
lone-name_bytes [] h = refl
lone-name_bytes (b ∷ bs) h = let both = and_parts (is_name_byte b) (list_all is_name_byte bs) h in and_from (is_lone_byte b) (list_all is_lone_byte bs) (lone-name_byte b both.0) (lone-name_bytes bs both.1)

no_semicolon : (b : ℕ) → is_lone_byte b ≡ true → is_semicolon b ≡ false
no_semicolon b h = grind (arith, nat_tests)

no_semicolons : (bs : List ℕ) → list_all is_lone_byte bs ≡ true → All (λ b. is_semicolon b ≡ false) bs
no_semicolons [] h = All-nil (λ b. is_semicolon b ≡ false)
no_semicolons (b ∷ bs) h =
    let both = and_parts (is_lone_byte b) (list_all is_lone_byte bs) h in
    All-cons (λ c. is_semicolon c ≡ false) b bs (no_semicolon b both.0) (no_semicolons bs both.1)

-- no space stands in front
no_first_space : (bs : List ℕ) → list_all is_lone_byte bs ≡ true → (rest : List ℕ) → bs ≡ 32 ∷ rest → ⊥
no_first_space bs h rest e = true≢false (sym (subst (λ l. list_all is_lone_byte l ≡ true) e h))

-- nor at the end
no_last_space : (bs : List ℕ) → list_all is_lone_byte bs ≡ true → (front : List ℕ) → bs ≡ front ++ 32 ∷ [] → ⊥
no_last_space bs h front e =
    let all : (list_all is_lone_byte front && list_all is_lone_byte (32 ∷ [])) ≡ true = sym (list_all-append is_lone_byte front (32 ∷ [])) ∙ ap (list_all is_lone_byte) (sym e) ∙ h in
    let last = and_parts (list_all is_lone_byte front) (list_all is_lone_byte (32 ∷ [])) all in
    true≢false (sym last.1)

no_spaces_behind : (bs : List ℕ) → list_all is_lone_byte bs ≡ true → without_spaces_behind bs ≡ bs
no_spaces_behind bs h = no_space_behind bs (no_last_space bs h)

no_spaces : (bs : List ℕ) → list_all is_lone_byte bs ≡ true → without_spaces bs ≡ bs
no_spaces bs h = rw (no_front_space bs (no_first_space bs h)) (no_spaces_behind bs h)

one_piece-lone : (bs : List ℕ) → is_filled bs ≡ true → list_all is_lone_byte bs ≡ true → facet_pieces bs ≡ bs ∷ []
one_piece-lone bs some h =
    ap (λ ps. filter is_filled (map without_spaces ps)) (slice_split_none is_semicolon bs (no_semicolons bs h))
    ∙ ap (λ p. filter is_filled (p ∷ [])) (no_spaces bs h)
    ∙ rw some refl

one_listed : (w : List ℕ) (column : List ℕ) → facet_words column ≡ w ∷ [] → listed_facets column ≡ w ∷ []
unfolding IsStrictlySortedBy
one_listed w column e = sym (listed_itself (slice_cmp nat_cmp) nat_list_cmp_total exact_bytes (facet_words column) (subst (IsStrictlySortedBy (slice_cmp nat_cmp)) (sym e) (tt, tt))) ∙ e

-- the `=` stands before the value, which has bytes
lone-cut : (column : List ℕ) → is_lone column ≡ true → position_or_len is_equals column < length column
lone-cut column h =
    let both = and_parts (has_name_form (before_first is_equals column)) (is_small_word (piece_value column)) h in
    let some = and_parts (is_filled (piece_value column)) _ both.1 in
    let filled : 0 < length (piece_value column) = is_filled-then (piece_value column) some.0 in
    omega (arith, filled, length-drop (position_or_len is_equals column + 1) column)
  where
    is_filled-then : (bs : List ℕ) → is_filled bs ≡ true → 0 < length bs
    is_filled-then bs e = grind (arith, nat_tests)

lone-bytes : (column : List ℕ) → is_lone column ≡ true → list_all is_lone_byte column ≡ true
lone-bytes column h =
    let name = before_first is_equals column in
    let value = piece_value column in
    let sign = get_or column (position_or_len is_equals column) 0 in
    let l = lone-cut column h in
    let both = and_parts (has_name_form name) (is_small_word value) h in
    let form = and_parts (begins_with_letter name) _ both.0 in
    let letters = (and_parts (list_all is_name_byte name) _ form.1).0 in
    let small = and_parts (is_filled value) _ both.1 in
    let value_bytes = (and_parts _ (list_all is_name_byte value) small.1).1 in
    ap (list_all is_lone_byte) (split_at_first is_equals column 0 l)
    ∙ list_all-append is_lone_byte name (sign ∷ value)
    ∙ and_from (list_all is_lone_byte name) (list_all is_lone_byte (sign ∷ value)) (lone-name_bytes name letters)
    (and_from (is_lone_byte sign) (list_all is_lone_byte value) (or_right (is_name_byte sign) _ (passes_at_first is_equals column 0 l)) (lone-name_bytes value value_bytes))

lone-pieces : (column : List ℕ) → is_lone column ≡ true → facet_pieces column ≡ column ∷ []
lone-pieces column h =
    let l = lone-cut column h in
    let some : is_filled column ≡ true = grind (arith, nat_tests) in
    one_piece-lone column some (lone-bytes column h)

lone-name : (column : List ℕ) → is_lone column ≡ true → piece_name column ≡ before_first is_equals column
lone-name column h =
    let name = before_first is_equals column in
    let form = (and_parts (has_name_form name) (is_small_word (piece_value column)) h).0 in
    let letters = (and_parts (list_all is_name_byte name) _ (and_parts (begins_with_letter name) _ form).1).0 in
    ap norm (no_spaces_behind name (lone-name_bytes name letters)) ∙ norm-has_name_form name form

-- the word of a name, an `=` and a small word
pub lone-listed : (column : List ℕ) → is_lone column ≡ true → listed_facets column ≡ named (before_first is_equals column) (piece_value column) ∷ []
lone-listed column h =
    let name = before_first is_equals column in
    let value = piece_value column in
    let small = (and_parts (has_name_form name) (is_small_word value) h).1 in
    let word : facet_word column ≡ Some (named name value) =
    ap (λ n. option_map (named n) (slug value)) (lone-name column h) ∙ ap (option_map (named name)) (slug-small_word value small) in
    one_listed (named name value) column (ap (filter_map facet_word) (lone-pieces column h) ∙ rw word refl)

-- it isn't refused
pub lone-accepted : (n : ℕ) (column : List ℕ) → is_lone column ≡ true → first_reason (map (piece_refusal n) (facet_pieces column)) ≡ None
lone-accepted n column h =
    let name = before_first is_equals column in
    let form = (and_parts (has_name_form name) (is_small_word (piece_value column)) h).0 in
    let l = lone-cut column h in
    let equals : list_any is_equals column ≡ true = list_any_at is_equals column (position_or_len is_equals column) 0 l (passes_at_first is_equals column 0 l) in
    let named_well : has_name_form (piece_name column) ≡ true = ap has_name_form (lone-name column h) ∙ form in
    ap (λ ps. first_reason (map (piece_refusal n) ps)) (lone-pieces column h) ∙ rw (equals, named_well) refl
