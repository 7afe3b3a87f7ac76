-- What one piece adds to the words.
use Rattle.std.proofs.Common.{◌≡◌, ℕ, ◌≤◌, Bool, true, false, cond, min, List, [], ◌∷◌, ◌++◌, map, filter, length, take, refl, sym, ap, ◌∙◌, arith, ⊎_elim}
use Rattle.std.specs.Bool.{◌==◌}
use Rattle.std.specs.List.{AllByRecursion}
use Rattle.std.specs.Str.{chars}
use Rattle.std.proofs.lemmas.Bool.{cases_lt}
use Rattle.std.proofs.lemmas.Bool.Decides.{nat_tests}
use Rattle.std.proofs.lemmas.List.{map-append, take_all}
use Rattle.std.proofs.lemmas.List.Elements.{filter-append}
use Rattle.std.proofs.lemmas.Str.{chars-nil}
use Rattle.cs_model.specs.Words.{is_filled, cut}
use Rattle.cs_text.specs.WordPieces.{words_of_pieces}
use Rattle.cs_text.proofs.CutLemmas.{cut-some}

pub some_length : (n : ℕ) → (n == 0) ≡ false → 1 ≤ n
some_length n h = grind (arith, nat_tests)

pub none_length : (n : ℕ) → (n == 0) ≡ true → n ≡ 0
none_length n h = grind (arith, nat_tests)

pub nil_from_test : (bs : List ℕ) → (length bs == 0) ≡ true → bs ≡ []
nil_from_test [] h = refl
nil_from_test (b ∷ bs) h = absurd (omega (arith, none_length (length (b ∷ bs)) h))

-- ---- one piece

pub words_of_pieces-empty : (bs : List ℕ) → (length bs == 0) ≡ true → words_of_pieces (chars bs ∷ []) ≡ []
words_of_pieces-empty bs h = ap (λ cs. words_of_pieces (cs ∷ [])) (ap chars (nil_from_test bs h) ∙ chars-nil)

pub words_of_pieces-some : (cs : List ℕ) → is_filled cs ≡ true → words_of_pieces (cs ∷ []) ≡ cut cs ∷ []
words_of_pieces-some cs h = rw h

pub take-min : (n : ℕ) (bs : List ℕ) → take (min (length bs) n) bs ≡ take n bs
take-min n bs = ⊎_elim
    (λ l. let e : min (length bs) n ≡ length bs = omega arith in ap (λ k. take k bs) e ∙ take_all (length bs) bs (omega arith) ∙ sym (take_all n bs (omega arith)))
    (λ l. let e : min (length bs) n ≡ n = omega arith in ap (λ k. take k bs) e)
    (cases_lt (length bs) n)

-- ---- pieces and one more

pub words_of_pieces-append : (ps qs : List (List ℕ)) → words_of_pieces (ps ++ qs) ≡ words_of_pieces ps ++ words_of_pieces qs
words_of_pieces-append ps qs = ap (map cut) (filter-append is_filled ps qs) ∙ map-append cut (filter is_filled ps) (filter is_filled qs)

-- each of them has bytes
abbrev pub AllSome : List (List ℕ) → Type 0
AllSome = AllByRecursion (λ w. 1 ≤ length w)

all_some_at : (b : Bool) (p : List ℕ) (ps : List (List ℕ)) → is_filled p ≡ b → AllSome (words_of_pieces ps) → AllSome (map cut (cond b (p ∷ filter is_filled ps) (filter is_filled ps)))
all_some_at true p ps is h = (cut-some p is, h)
all_some_at false p ps is h = h

pub AllSome-words_of_pieces : (ps : List (List ℕ)) → AllSome (words_of_pieces ps)
AllSome-words_of_pieces [] = tt
AllSome-words_of_pieces (p ∷ ps) = all_some_at (is_filled p) p ps refl (AllSome-words_of_pieces ps)
