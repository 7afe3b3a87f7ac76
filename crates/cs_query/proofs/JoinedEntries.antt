-- Entries joined by a sign, one after the other.
--
--   spaced, barred               the first entry, and each other one behind its sign
--   parts_start, part_starts     what is still to be put where the text of parts begins, and behind the minus of a part
use Rattle.std.proofs.Common.{◌≡◌, ℕ, ◌+◌, ◌<◌, List, [], ◌∷◌, ◌++◌, refl, ap, ◌∙◌, sym, append_assoc, map, drop, arith}
use Rattle.std.specs.Prelude.{if◌then◌else◌, codes}
use Rattle.std.proofs.lemmas.Bool.{lt-ltb}
use Rattle.std.proofs.lemmas.List.{append-nil}
use Rattle.std.specs.Char.{encode_utf8}
use Rattle.std.specs.List.{join_with_byte}
use Rattle.cs_base.specs.declared.content.query.Part.{Part, out-Part}
use Rattle.cs_base.specs.declared.content.query.Chain.{Chain}
use Rattle.cs_model.specs.Canonical.{canonical_parts, canonical_part, canonical_chain}
use Rattle.cs_model.proofs.CanonicalLemmas.{part_shape}
use Rattle.cs_query.specs.Printing.{separator, following}

behind_first : (c i : ℕ) → encode_utf8 c ≡ c ∷ [] → 0 < i → separator c i ≡ c ∷ []
behind_first c i e h = rw (lt-ltb 0 i h) e

joined : (c i : ℕ) (x : List ℕ) (xs : List (List ℕ)) → encode_utf8 c ≡ c ∷ [] → 0 < i → join_with_byte c (x ∷ xs) ≡ x ++ following c i xs
joined c i x [] e h = sym (append-nil x)
joined c i x (y ∷ xs) e h = ap (λ t. x ++ c ∷ t) (joined c (i + 1) y xs e (omega arith)) ∙ ap (λ s. x ++ (s ++ (y ++ following c (i + 1) xs))) (sym (behind_first c i e h))

from_first : (c : ℕ) (xs : List (List ℕ)) → encode_utf8 c ≡ c ∷ [] → join_with_byte c xs ≡ following c 0 xs
from_first c [] e = refl
from_first c (x ∷ xs) e = joined c 1 x xs e (omega arith)

pub spaced : (xs : List (List ℕ)) → join_with_byte 32 xs ≡ following 32 0 xs
unfolding encode_utf8
spaced xs = from_first 32 xs refl

pub barred : (xs : List (List ℕ)) → join_with_byte 124 xs ≡ following 124 0 xs
unfolding encode_utf8
barred xs = from_first 124 xs refl

-- what is still to be put at the start of parts, and behind the minus of a part
pub parts_start : (ps : List Part) (out : List ℕ) → out ++ canonical_parts ps ≡ out ++ following 32 0 (map canonical_part (drop 0 ps))
parts_start ps out = ap (λ t. out ++ t) (spaced (map canonical_part ps))

pub part_starts : (p : Part) (out next : List ℕ) (items : List Chain) → items ≡ (out-Part p).chains → next ≡ out ++ (if (out-Part p).excluded then codes "-" else [])
    → out ++ canonical_part p ≡ next ++ following 124 0 (map canonical_chain (drop 0 items))
part_starts p out next items e m =
    let front : List ℕ = if (out-Part p).excluded then codes "-" else [] in
    ap (λ t. out ++ t) (part_shape p ∙ ap (λ t. front ++ t) (barred (map canonical_chain (out-Part p).chains)))
    ∙ sym (append_assoc out front (following 124 0 (map canonical_chain (out-Part p).chains)))
    ∙ ap (λ t. t ++ following 124 0 (map canonical_chain (out-Part p).chains)) (sym m)
    ∙ ap (λ cs. next ++ following 124 0 (map canonical_chain (drop 0 cs))) (sym e)
