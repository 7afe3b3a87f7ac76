-- Words are text: what a list of characters is cut into is UTF-8.
--
--   words_of-utf8          the words of characters are UTF-8
use Rattle.std.proofs.Common.{◌≡◌, ℕ, ◌-◌, Bool, true, false, nat_le, List, [], ◌∷◌, cond, map, filter, refl}
use Rattle.std.specs.List.{All, AllByRecursion, slice_split, onto_first}
use Rattle.std.proofs.lemmas.List.Elements.{All-from_recursion}
use Rattle.std.proofs.lemmas.Bool.{and_parts, and_from}
use Rattle.std.specs.Str.{IsUtf8}
use Rattle.std.specs.Char.{len_utf8}
use Rattle.std.proofs.Math.Utf8.{scalar, scalars}
use Rattle.cs_base.specs.declared.content.limits.TheConstants.{MAX_PLAIN_WORD_BYTES}
use Rattle.cs_model.specs.Words.{is_filled, fitting, cut, words_of, is_gap}

-- these characters are characters that text may have
abbrev AreScalars : List ℕ → Type 0
AreScalars cs = scalars cs ≡ true

first : (c : ℕ) (cs : List ℕ) → AreScalars (c ∷ cs) → scalar c ≡ true
first c cs h = (and_parts (scalar c) (scalars cs) h).0

rest : (c : ℕ) (cs : List ℕ) → AreScalars (c ∷ cs) → AreScalars cs
rest c cs h = (and_parts (scalar c) (scalars cs) h).1

more : (c : ℕ) (cs : List ℕ) → scalar c ≡ true → AreScalars cs → AreScalars (c ∷ cs)
more c cs h g = and_from (scalar c) (scalars cs) h g

onto : (c : ℕ) (ps : List (List ℕ)) → scalar c ≡ true → AllByRecursion AreScalars ps → AllByRecursion AreScalars (onto_first c ps)
onto c [] h g = (more c [] h refl, tt)
onto c (p ∷ ps) h g = (more c p h g.0, g.1)

split_either : (b : Bool) (c : ℕ) (ps : List (List ℕ)) → scalar c ≡ true → AllByRecursion AreScalars ps → AllByRecursion AreScalars (cond b ([] ∷ ps) (onto_first c ps))
split_either true c ps h g = (refl, g)
split_either false c ps h g = onto c ps h g

pieces : (cs : List ℕ) → AreScalars cs → AllByRecursion AreScalars (slice_split is_gap cs)
pieces [] h = (refl, tt)
pieces (c ∷ cs) h = split_either (is_gap c) c (slice_split is_gap cs) (first c cs h) (pieces cs (rest c cs h))

taken : (b : Bool) (c : ℕ) (cs : List ℕ) → scalar c ≡ true → AreScalars cs → AreScalars (cond b (c ∷ cs) [])
taken true c cs h g = more c cs h g
taken false c cs h g = refl

fits : (room : ℕ) (cs : List ℕ) → AreScalars cs → AreScalars (fitting room cs)
fits room [] h = refl
fits room (c ∷ cs) h = taken (nat_le (len_utf8 c) room) c (fitting (room - len_utf8 c) cs) (first c cs h) (fits (room - len_utf8 c) cs (rest c cs h))

cut_utf8 : (cs : List ℕ) → AreScalars cs → IsUtf8 (cut cs)
unfolding cut
cut_utf8 cs h = (fitting MAX_PLAIN_WORD_BYTES cs, (fits MAX_PLAIN_WORD_BYTES cs h, refl))

kept : (b : Bool) (p : List ℕ) (ps : List (List ℕ)) → AreScalars p → AllByRecursion IsUtf8 (map cut ps) → AllByRecursion IsUtf8 (map cut (cond b (p ∷ ps) ps))
kept true p ps h g = (cut_utf8 p h, g)
kept false p ps h g = g

each : (ps : List (List ℕ)) → AllByRecursion AreScalars ps → AllByRecursion IsUtf8 (map cut (filter is_filled ps))
each [] h = tt
each (p ∷ ps) h = kept (is_filled p) p (filter is_filled ps) h.0 (each ps h.1)

pub words_of-utf8 : (cs : List ℕ) → AreScalars cs → All IsUtf8 (words_of cs)
words_of-utf8 cs h = All-from_recursion IsUtf8 (words_of cs) (each (slice_split is_gap cs) (pieces cs h))
