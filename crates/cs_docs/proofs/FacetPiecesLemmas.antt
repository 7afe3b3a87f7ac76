-- Spaces at both ends, and the pieces of a facets column.
use Rattle.std.proofs.Common.{◌≡◌, ℕ, suc, ◌+◌, ◌-◌, ◌<◌, ◌≤◌, Bool, true, false, cond, List, [], ◌∷◌, ◌++◌, length, take, drop, map, filter, reverse, refl, sym, ap, ◌∙◌, arith, length-append, nat_lt}
use Rattle.std.specs.List.{list_any, prefix_len, suffix_len, slice_split, before_first, after_first, position_or_len}
use Rattle.std.proofs.lemmas.Bool.Decides.{nat_tests}
use Rattle.std.proofs.lemmas.List.{take_all, drop_all, append-nil, take-append-le, reverse-append, reverse-reverse}
use Rattle.std.proofs.lemmas.List.Elements.{All-from_get_or, filter-append}
use Rattle.std.proofs.lemmas.List.Folds.{list_any_none}
use Rattle.std.proofs.lemmas.List.Splits.{slice_split_first, slice_split_none}
use Rattle.std.proofs.lemmas.List.Sums.{fails_before_first}
use Rattle.cs_model.specs.Collection.{is_space, without_spaces, without_spaces_behind, facet_pieces}
use Rattle.cs_model.specs.Words.{is_filled}
use Rattle.cs_docs.specs.FacetPieces.{one_piece, is_semicolon}

-- ---- spaces

pub front_space : (bs x : List ℕ) → bs ≡ 32 ∷ x → drop (prefix_len is_space bs) bs ≡ drop (prefix_len is_space x) x
front_space bs x e = ap (λ l. drop (prefix_len is_space l) l) e ∙ ap (λ n. drop n (32 ∷ x)) (one-add (prefix_len is_space x))
  where
    one-add : (n : ℕ) → 1 + n ≡ suc n
    one-add n = omega arith

no_space_at : (b : Bool) (x : ℕ) (l : List ℕ) → is_space x ≡ b → ((rest : List ℕ) → x ∷ l ≡ 32 ∷ rest → ⊥) → cond b (1 + prefix_len is_space l) 0 ≡ 0
no_space_at true x l h none = let same : x ≡ 32 = grind (arith, nat_tests) in absurd (none l (ap (λ y. y ∷ l) same))
no_space_at false x l h none = refl

pub no_front_space : (bs : List ℕ) → ((rest : List ℕ) → bs ≡ 32 ∷ rest → ⊥) → prefix_len is_space bs ≡ 0
no_front_space [] none = refl
no_front_space (x ∷ l) none = no_space_at (is_space x) x l refl none

pub behind_space : (bs x : List ℕ) → bs ≡ x ++ 32 ∷ [] → without_spaces_behind bs ≡ without_spaces_behind x
behind_space bs x e =
    let counted : suffix_len is_space (x ++ 32 ∷ []) ≡ 1 + suffix_len is_space x = ap (prefix_len is_space) (reverse-append x (32 ∷ [])) in
    let left : length (x ++ 32 ∷ []) - suffix_len is_space (x ++ 32 ∷ []) ≡ length x - suffix_len is_space x = omega (arith, counted, length-append x (32 ∷ [])) in
    ap without_spaces_behind e ∙ ap (λ n. take n (x ++ 32 ∷ [])) left ∙ take-append-le (length x - suffix_len is_space x) x (32 ∷ []) (omega arith)

pub no_space_behind : (bs : List ℕ) → ((front : List ℕ) → bs ≡ front ++ 32 ∷ [] → ⊥) → without_spaces_behind bs ≡ bs
no_space_behind bs none =
    let zero_behind : suffix_len is_space bs ≡ 0 =
    no_front_space (reverse bs) (λ rest e. none (reverse rest) (sym (reverse-reverse bs) ∙ ap reverse e ∙ reverse-append (32 ∷ []) rest)) in
    take_all (length bs - suffix_len is_space bs) bs (omega (arith, zero_behind))

-- ---- pieces

pub pieces_next : (bs : List ℕ) → 0 < length bs → facet_pieces bs ≡ one_piece (without_spaces (before_first is_semicolon bs)) (after_first is_semicolon bs)
pieces_next bs some = at (nat_lt (position_or_len is_semicolon bs) (length bs)) refl
  where
    at : (b : Bool) → nat_lt (position_or_len is_semicolon bs) (length bs) ≡ b → facet_pieces bs ≡ one_piece (without_spaces (before_first is_semicolon bs)) (after_first is_semicolon bs)
    at true h =
        ap (λ ps. filter is_filled (map without_spaces ps)) (slice_split_first is_semicolon bs 0 (grind (arith, nat_tests)))
        ∙ filter-append is_filled (without_spaces (before_first is_semicolon bs) ∷ []) (map without_spaces (slice_split is_semicolon (after_first is_semicolon bs)))
    at false h =
        let past : length bs ≤ position_or_len is_semicolon bs = grind (arith, nat_tests) in
        let whole : slice_split is_semicolon bs ≡ bs ∷ [] = slice_split_none is_semicolon bs (All-from_get_or (λ b. is_semicolon b ≡ false) bs 0 (λ k l. fails_before_first is_semicolon bs k 0 (omega (arith, past, l)))) in
        ap (λ ps. filter is_filled (map without_spaces ps)) whole
        ∙ sym (append-nil (filter is_filled (without_spaces bs ∷ [])))
        ∙ ap (λ p. filter is_filled (without_spaces p ∷ []) ++ facet_pieces []) (sym (take_all (position_or_len is_semicolon bs) bs past))
        ∙ ap (one_piece (without_spaces (before_first is_semicolon bs))) (sym (drop_all (position_or_len is_semicolon bs + 1) bs (omega (arith, past))))

-- ---- a test that no element passes

pub none_passes : (p : ℕ → Bool) (xs : List ℕ) → position_or_len p xs ≡ length xs → list_any p xs ≡ false
none_passes p xs h = list_any_none p xs (All-from_get_or (λ x. p x ≡ false) xs 0 (λ k l. fails_before_first p xs k 0 (omega (arith, h, l))))
