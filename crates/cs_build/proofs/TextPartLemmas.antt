-- Parts of a text that is cut at ASCII bytes are texts.
--
--   before-utf8, after-utf8    what stands before and behind the first byte that passes a test
--   facet_pieces-utf8          the pieces of a facets column
use Rattle.std.proofs.Common.{◌≡◌, ℕ, zero, suc, ◌+◌, ◌-◌, ◌<◌, ◌≤◌, Bool, true, false, not, true≢false, cond, nat_lt, List, [], ◌∷◌, length, map, filter, drop, get_or, reverse, refl, sym, ap, ◌∙◌, subst, arith, length-drop}
use Rattle.std.specs.List.{AllByRecursion, slice_split, position_or_len, prefix_len, suffix_len, before_first, after_first}
use Rattle.std.specs.Str.{IsUtf8}
use Rattle.std.proofs.lemmas.Bool.Decides.{nat_tests}
use Rattle.std.proofs.lemmas.List.{take_all, drop_all, nil_from_length, get_or-reverse}
use Rattle.std.proofs.lemmas.List.Elements.{All-from_get_or}
use Rattle.std.proofs.lemmas.List.Splits.{slice_split_first, slice_split_none}
use Rattle.std.proofs.lemmas.List.Sums.{prefix_len_passes, prefix_len_stops, fails_before_first, suffix_len-le-length}
use Rattle.std.proofs.lemmas.Str.{IsUtf8-nil, IsUtf8-take, IsUtf8-drop, IsCharBoundary-before_ascii, IsCharBoundary-after_ascii}
use Rattle.cs_docs.specs.FacetPieces.{is_semicolon}
use Rattle.cs_model.specs.Collection.{is_space, without_spaces, without_spaces_behind, facet_pieces}
use Rattle.cs_model.specs.Words.{is_filled}

-- ---- the first byte that passes a test

passes : (b : Bool) → not b ≡ false → b ≡ true
passes true h = refl
passes false h = absurd (true≢false h)

module _ (p : ℕ → Bool) (ascii : (b : ℕ) → p b ≡ true → b < 128) where
  here : (bs : List ℕ) → position_or_len p bs < length bs → get_or bs (position_or_len p bs) 0 < 128
  here bs l = ascii (get_or bs (position_or_len p bs) 0) (passes (p (get_or bs (position_or_len p bs) 0)) (prefix_len_stops (λ x. not (p x)) bs 0 l))

  before_at : (b : Bool) (bs : List ℕ) → nat_lt (position_or_len p bs) (length bs) ≡ b → IsUtf8 bs → IsUtf8 (before_first p bs)
  before_at true bs e u =
      let l : position_or_len p bs < length bs = grind (arith, nat_tests) in
      IsUtf8-take bs (position_or_len p bs) u (IsCharBoundary-before_ascii bs (position_or_len p bs) l (here bs l))
  before_at false bs e u =
      let l : length bs ≤ position_or_len p bs = grind (arith, nat_tests) in
      subst IsUtf8 (sym (take_all (position_or_len p bs) bs l)) u

  pub before-utf8 : (bs : List ℕ) → IsUtf8 bs → IsUtf8 (before_first p bs)
  before-utf8 bs u = before_at (nat_lt (position_or_len p bs) (length bs)) bs refl u

  after_at : (b : Bool) (bs : List ℕ) → nat_lt (position_or_len p bs) (length bs) ≡ b → IsUtf8 bs → IsUtf8 (after_first p bs)
  after_at true bs e u =
      let l : position_or_len p bs < length bs = grind (arith, nat_tests) in
      IsUtf8-drop bs (position_or_len p bs + 1) u (IsCharBoundary-after_ascii bs (position_or_len p bs) u l (here bs l))
  after_at false bs e u =
      let l : length bs ≤ position_or_len p bs + 1 = grind (arith, nat_tests) in
      subst IsUtf8 (sym (drop_all (position_or_len p bs + 1) bs l)) IsUtf8-nil

  pub after-utf8 : (bs : List ℕ) → IsUtf8 bs → IsUtf8 (after_first p bs)
  after-utf8 bs u = after_at (nat_lt (position_or_len p bs) (length bs)) bs refl u

  whole : (bs : List ℕ) → length bs ≤ position_or_len p bs → slice_split p bs ≡ bs ∷ []
  whole bs l = slice_split_none p bs (All-from_get_or (λ b. p b ≡ false) bs 0 (λ k m. fails_before_first p bs k 0 (omega (arith, l, m))))

  shorter : (bs : List ℕ) (n : ℕ) → length bs ≤ n + 1 → length (after_first p bs) ≤ n
  shorter bs n h = omega (arith, length-drop (position_or_len p bs + 1) bs)

  split_at : (b : Bool) (bs : List ℕ) → nat_lt (position_or_len p bs) (length bs) ≡ b → IsUtf8 bs → AllByRecursion IsUtf8 (slice_split p (after_first p bs)) → AllByRecursion IsUtf8 (slice_split p bs)
  split_at true bs e u rest =
      let l : position_or_len p bs < length bs = grind (arith, nat_tests) in
      subst (AllByRecursion IsUtf8) (sym (slice_split_first p bs 0 l)) (before-utf8 bs u, rest)
  split_at false bs e u rest =
      let l : length bs ≤ position_or_len p bs = grind (arith, nat_tests) in
      subst (AllByRecursion IsUtf8) (sym (whole bs l)) (u, tt)

  split_within : (n : ℕ) (bs : List ℕ) → length bs ≤ n → IsUtf8 bs → AllByRecursion IsUtf8 (slice_split p bs)
  split_within zero bs l u =
      let none : bs ≡ [] = nil_from_length bs (omega (arith, l)) in
      subst (λ v. AllByRecursion IsUtf8 (slice_split p v)) (sym none) (IsUtf8-nil, tt)
  split_within (suc n) bs l u = split_at (nat_lt (position_or_len p bs) (length bs)) bs refl u (split_within n (after_first p bs) (shorter bs n (omega (arith, l))) (after-utf8 bs u))

  split-utf8 : (bs : List ℕ) → IsUtf8 bs → AllByRecursion IsUtf8 (slice_split p bs)
  split-utf8 bs u = split_within (length bs) bs (omega arith) u

-- ---- spaces

space_ascii : (b : ℕ) → is_space b ≡ true → b < 128
space_ascii b h = grind (arith, nat_tests)

one-more : (n : ℕ) → 1 + n ≡ suc n
one-more n = omega arith

front_at : (b : Bool) (x : ℕ) (bs : List ℕ) → is_space x ≡ b → IsUtf8 (x ∷ bs) → (IsUtf8 bs → IsUtf8 (drop (prefix_len is_space bs) bs)) → IsUtf8 (drop (cond b (1 + prefix_len is_space bs) 0) (x ∷ bs))
front_at true x bs e u more =
    let rest : IsUtf8 bs = IsUtf8-drop (x ∷ bs) 1 u (IsCharBoundary-after_ascii (x ∷ bs) 0 u (omega arith) (space_ascii x e)) in
    subst (λ n. IsUtf8 (drop n (x ∷ bs))) (sym (one-more (prefix_len is_space bs))) (more rest)
front_at false x bs e u more = u

front-utf8 : (bs : List ℕ) → IsUtf8 bs → IsUtf8 (drop (prefix_len is_space bs) bs)
front-utf8 [] u = u
front-utf8 (x ∷ bs) u = front_at (is_space x) x bs refl u (front-utf8 bs)

end_space : (bs : List ℕ) (n : ℕ) → n + 1 ≡ suffix_len is_space bs → n < length bs → get_or bs (length bs - suffix_len is_space bs) 0 < 128
end_space bs n e l =
    let last : is_space (get_or (reverse bs) n 0) ≡ true = prefix_len_passes is_space (reverse bs) n 0 (omega (arith, e)) in
    let at : length bs - 1 - n ≡ length bs - suffix_len is_space bs = omega (arith, e) in
    space_ascii _ (ap is_space (ap (λ k. get_or bs k 0) (sym at) ∙ sym (get_or-reverse bs n 0 l)) ∙ last)

behind_at : (bs : List ℕ) (n : ℕ) → n ≡ suffix_len is_space bs → IsUtf8 bs → IsUtf8 (without_spaces_behind bs)
behind_at bs zero e u = subst IsUtf8 (sym (take_all (length bs - suffix_len is_space bs) bs (omega (arith, e)))) u
behind_at bs (suc n) e u =
    let within : suffix_len is_space bs ≤ length bs = suffix_len-le-length is_space bs in
    let one : n + 1 ≡ suffix_len is_space bs = omega (arith, e) in
    let l : length bs - suffix_len is_space bs < length bs = omega (arith, one, within) in
    IsUtf8-take bs (length bs - suffix_len is_space bs) u (IsCharBoundary-before_ascii bs (length bs - suffix_len is_space bs) l (end_space bs n one (omega (arith, one, within))))

pub behind-utf8 : (bs : List ℕ) → IsUtf8 bs → IsUtf8 (without_spaces_behind bs)
behind-utf8 bs u = behind_at bs (suffix_len is_space bs) refl u

spaces-utf8 : (bs : List ℕ) → IsUtf8 bs → IsUtf8 (without_spaces bs)
spaces-utf8 bs u = behind-utf8 (drop (prefix_len is_space bs) bs) (front-utf8 bs u)

-- ---- pieces of facets

semicolon_ascii : (b : ℕ) → is_semicolon b ≡ true → b < 128
semicolon_ascii b h = grind (arith, nat_tests)

kept_at : (b : Bool) (p : List ℕ) (ps : List (List ℕ)) → IsUtf8 p → AllByRecursion IsUtf8 ps → AllByRecursion IsUtf8 (cond b (p ∷ ps) ps)
kept_at true p ps u h = (u, h)
kept_at false p ps u h = h

each_piece : (ps : List (List ℕ)) → AllByRecursion IsUtf8 ps → AllByRecursion IsUtf8 (filter is_filled (map without_spaces ps))
each_piece [] h = tt
each_piece (p ∷ ps) h = kept_at (is_filled (without_spaces p)) (without_spaces p) (filter is_filled (map without_spaces ps)) (spaces-utf8 p h.0) (each_piece ps h.1)

pub facet_pieces-utf8 : (column : List ℕ) → IsUtf8 column → AllByRecursion IsUtf8 (facet_pieces column)
facet_pieces-utf8 column u = each_piece (slice_split is_semicolon column) (split-utf8 is_semicolon semicolon_ascii column u)
