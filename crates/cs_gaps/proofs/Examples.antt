-- The definitions on worked numbers and bytes.
use Rattle.std.proofs.Common.{◌≡◌, [], ◌∷◌, Some, None, refl}
use Rattle.cs_base.specs.index.GapCode.{code_in, code, looked_at, value_of, first_code}
use Rattle.cs_gaps.specs.declared.gap.Gap.TheVariants.{Is, Cut, Long, Big}
use Rattle.cs_gaps.specs.Reading.{gap_at}

code-zero : code 0 ≡ 0 ∷ []
unfolding code code_in
code-zero = refl

code-last_of_one_byte : code 127 ≡ 127 ∷ []
unfolding code code_in
code-last_of_one_byte = refl

code-first_of_two_bytes : code 128 ≡ 128 ∷ 1 ∷ []
unfolding code code_in
code-first_of_two_bytes = refl

code-last_document : code 1048575 ≡ 255 ∷ 255 ∷ 63 ∷ []
unfolding code code_in
code-last_document = refl

code-greatest : code 4294967295 ≡ 255 ∷ 255 ∷ 255 ∷ 255 ∷ 15 ∷ []
unfolding code code_in
code-greatest = refl

first_code-with_more_behind : first_code (128 ∷ 1 ∷ 7 ∷ []) ≡ Some 128
unfolding first_code looked_at value_of code code_in
first_code-with_more_behind = refl

first_code-needless_zero : first_code (128 ∷ 0 ∷ []) ≡ None
unfolding first_code looked_at value_of code code_in
first_code-needless_zero = refl

gap_at-needless_zero : gap_at (128 ∷ 0 ∷ []) ≡ Long
unfolding gap_at looked_at value_of
gap_at-needless_zero = refl

gap_at-cut : gap_at (128 ∷ []) ≡ Cut
unfolding gap_at looked_at value_of
gap_at-cut = refl

gap_at-too_big : gap_at (255 ∷ 255 ∷ 255 ∷ 255 ∷ 16 ∷ []) ≡ Big
unfolding gap_at looked_at value_of
gap_at-too_big = refl

-- a needless zero counts before the size of the number
gap_at-five_bytes_and_zero : gap_at (128 ∷ 128 ∷ 128 ∷ 128 ∷ 0 ∷ []) ≡ Long
unfolding gap_at looked_at value_of
gap_at-five_bytes_and_zero = refl

gap_at-no_bytes : gap_at [] ≡ Cut
unfolding gap_at looked_at value_of
gap_at-no_bytes = refl

gap_at-code : gap_at (255 ∷ 255 ∷ 63 ∷ 9 ∷ []) ≡ Is 1048575 3
unfolding gap_at looked_at value_of
gap_at-code = refl
