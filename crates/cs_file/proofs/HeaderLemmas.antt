-- The header: rules 1 to 4, the numbers that are read and their ranges.
--
--   refused_magic, refused_field, refused_size       the fault of one of rules 2 to 4 is that of the header's bytes
--   header_fine          where none is broken
--   ranges               the numbers of a header that keeps rule 3
--   header_part          what is read of the first bytes is what is read of all
--   refused_short, rest_is     rule 1, and the others where it holds
--   header_told          the header is that of all bytes
use Rattle.std.proofs.Common.{◌≡◌, ℕ, ◌+◌, ◌-◌, ◌<◌, ◌≤◌, ◌^◌, ◌==◌, ◌||◌, List, [], ◌∷◌, length, take, drop, Option, Some, None, refl, sym, ap, subst, ◌∙◌, arith}
use Rattle.std.specs.Prelude.{nat_le}
use Rattle.std.specs.List.{AllByRecursion}
use Rattle.std.specs.Int.{w32, from_be_bytes}
use Rattle.std.specs.Str.{bytes_eq}
use Rattle.std.proofs.lemmas.Bool.{and_parts, leb-true, eqb-true}
use Rattle.std.proofs.lemmas.List.{drop-take, take-take}
use Rattle.cs_base.specs.declared.index.block.Broken.{Broken}
use Rattle.cs_base.specs.outside.Outside.{part}
use Rattle.cs_model.proofs.FirstLemmas.{none_first, none_rest, unless_none}
use Rattle.cs_model.specs.First.{unless, first_reason}
use Rattle.cs_model_index.specs.FileRules.{tried, field_breaks}
use Rattle.cs_model_index.specs.Layout.{Header, MAGIC, MAGIC2}
use Rattle.cs_model_index.specs.Sections.{number_at, header_of, size_by}
use Rattle.cs_model_index.specs.declared.limits.TheConstants.{HEADER_BYTES}
use Rattle.cs_file.specs.declared.fault.OpenFault.{OpenFault}
use Rattle.cs_file.specs.Opening.{Refuses, IsHeader, IsHeaderOf, header_stage, header_judged}
use Rattle.cs_file.proofs.StagesLemmas.{first_none, none_of_all, refuses_first, refuses_rest, tried_none}

-- ---- rules 2 to 4
abbrev magic_break : List ℕ → Option ℕ
magic_break bytes = unless (bytes_eq (take 8 bytes) MAGIC || bytes_eq (take 8 bytes) MAGIC2) 0

abbrev field_break : List ℕ → Option ℕ
field_break bytes = first_reason (field_breaks (header_of bytes))

abbrev size_break : List ℕ → ℕ → Option ℕ
size_break bytes size = unless (size == size_by (header_of bytes)) size

abbrev others : List ℕ → ℕ → List (Option Broken)
others bytes size = tried 3 (field_break bytes) ∷ tried 4 (size_break bytes size) ∷ []

pub refused_magic : (bytes : List ℕ) (size : ℕ) (p : Option ℕ) (e : OpenFault) → p ≡ unless (bytes_eq (take 8 bytes) MAGIC || bytes_eq (take 8 bytes) MAGIC2) 0 → Refuses (tried 2 p) e
    → Refuses (header_judged bytes size) e
unfolding header_judged
refused_magic bytes size p e is h = refuses_first (tried 2 (magic_break bytes)) (others bytes size) e (subst (λ (x : Option ℕ). Refuses (tried 2 x) e) is h)

pub refused_field : (bytes : List ℕ) (size : ℕ) (p q : Option ℕ) (e : OpenFault) → p ≡ unless (bytes_eq (take 8 bytes) MAGIC || bytes_eq (take 8 bytes) MAGIC2) 0 → tried 2 p ≡ None
    → q ≡ first_reason (field_breaks (header_of bytes)) → Refuses (tried 3 q) e → Refuses (header_judged bytes size) e
unfolding header_judged
refused_field bytes size p q e is none this h =
    refuses_rest (tried 2 (magic_break bytes)) (others bytes size) e (ap (tried 2) (sym is) ∙ none)
    (refuses_first (tried 3 (field_break bytes)) (tried 4 (size_break bytes size) ∷ []) e (subst (λ (x : Option ℕ). Refuses (tried 3 x) e) this h))

pub refused_size : (bytes : List ℕ) (size : ℕ) (p q s : Option ℕ) (e : OpenFault) → p ≡ unless (bytes_eq (take 8 bytes) MAGIC || bytes_eq (take 8 bytes) MAGIC2) 0 → tried 2 p ≡ None
    → q ≡ first_reason (field_breaks (header_of bytes)) → tried 3 q ≡ None
    → s ≡ unless (size == size_by (header_of bytes)) size → Refuses (tried 4 s) e → Refuses (header_judged bytes size) e
unfolding header_judged
refused_size bytes size p q s e is none this fine last h =
    refuses_rest (tried 2 (magic_break bytes)) (others bytes size) e (ap (tried 2) (sym is) ∙ none)
    (refuses_rest (tried 3 (field_break bytes)) (tried 4 (size_break bytes size) ∷ []) e (ap (tried 3) (sym this) ∙ fine)
    (refuses_first (tried 4 (size_break bytes size)) [] e (subst (λ (x : Option ℕ). Refuses (tried 4 x) e) last h)))

pub header_fine : (bytes : List ℕ) (size : ℕ) (p q s : Option ℕ) → p ≡ unless (bytes_eq (take 8 bytes) MAGIC || bytes_eq (take 8 bytes) MAGIC2) 0 → tried 2 p ≡ None
    → q ≡ first_reason (field_breaks (header_of bytes)) → tried 3 q ≡ None
    → s ≡ unless (size == size_by (header_of bytes)) size → tried 4 s ≡ None → header_judged bytes size ≡ None
unfolding header_judged
header_fine bytes size p q s is none this fine last end =
    none_of_all (tried 2 (magic_break bytes)) (others bytes size) (ap (tried 2) (sym is) ∙ none)
    (none_of_all (tried 3 (field_break bytes)) (tried 4 (size_break bytes size) ∷ []) (ap (tried 3) (sym this) ∙ fine)
    (none_of_all (tried 4 (size_break bytes size)) [] (ap (tried 4) (sym last) ∙ end) refl))

-- ---- the numbers
all_none : {R : Type 0} (rs : List (Option R)) → first_reason rs ≡ None → AllByRecursion (λ o. o ≡ None) rs
all_none [] e = tt
all_none (o ∷ rs) e = (none_first o rs e, all_none rs (none_rest o rs e))

-- a number that was found to be at most another
at_most : (a b at : ℕ) → unless (nat_le a b) at ≡ None → a ≤ b
at_most a b at e = leb-true a b (unless_none (nat_le a b) at e)

pub ranges : (h : Header) (q : Option ℕ) → q ≡ first_reason (field_breaks h) → tried 3 q ≡ None → h.vocabulary_len < 2 ^ 32 → h.titles_len < 2 ^ 32
    → h.blocks_len < 2 ^ 32 → IsHeader h
ranges h q is fine v t b =
    let f = all_none (field_breaks h) (sym is ∙ tried_none 3 q fine) in
    let g = and_parts _ _ (unless_none _ _ f.1.1.1.1.0) in
    record {
      docs = at_most _ _ _ f.0;
      words = at_most _ _ _ f.1.0;
      rows = at_most _ _ _ f.1.1.0;
      blocks = at_most _ _ _ f.1.1.1.0;
      target_from = leb-true _ _ g.0;
      target_to = leb-true _ _ g.1;
      vocabulary = v;
      titles = t;
      postings = b;
      weights = unless_none _ _ f.1.1.1.1.1.0;
    }

pub size_is : (size want : ℕ) (s : Option ℕ) → s ≡ unless (size == want) size → tried 4 s ≡ None → size ≡ want
size_is size want s is fine = eqb-true size want (unless_none _ _ (sym is ∙ tried_none 4 s fine))

-- ---- the first bytes of all
number_part : (b : List ℕ) (at : ℕ) → at + 4 ≤ 44 → number_at (part b 0 HEADER_BYTES) at ≡ number_at b at
unfolding number_at
number_part b at le =
    let e : at + (44 - at) ≡ 44 = omega arith in
    ap (λ (x : List ℕ). from_be_bytes w32 (take 4 x)) (ap (λ (n : ℕ). drop at (take n b)) (sym e) ∙ drop-take at (44 - at) b)
    ∙ ap (λ (x : List ℕ). from_be_bytes w32 x) (take-take 4 (44 - at) (drop at b) (omega arith))

magic_part : (b : List ℕ) → take 8 (part b 0 HEADER_BYTES) ≡ take 8 b
magic_part b = take-take 8 44 b (omega arith)

pub header_part : (b : List ℕ) → header_of (part b 0 HEADER_BYTES) ≡ header_of b
header_part b =
    rw (
      magic_part b,
      number_part b 8 (omega arith),
      number_part b 12 (omega arith),
      number_part b 16 (omega arith),
      number_part b 20 (omega arith),
      number_part b 24 (omega arith),
      number_part b 28 (omega arith),
      number_part b 32 (omega arith),
      number_part b 36 (omega arith),
      number_part b 40 (omega arith),
    ) refl

abbrev short_break : ℕ → Option ℕ
short_break size = unless (nat_le HEADER_BYTES size) size

stage_is : (b : List ℕ) → header_stage b ≡ first_reason (tried 1 (short_break (length b)) ∷ header_judged (part b 0 HEADER_BYTES) (length b) ∷ [])
unfolding header_stage header_judged
stage_is b =
    let n = length b in
    let first = tried 1 (short_break n) in
    joined first (tried 2 (magic_break b)) (tried 3 (field_break b)) (tried 4 (size_break b n))
    ∙ ap (λ (h : Header). first_reason (first ∷ first_reason
    (tried 2 (magic_break b) ∷ tried 3 (first_reason (field_breaks h)) ∷ tried 4 (unless (n == size_by h) n) ∷ []) ∷ [])) (sym (header_part b))
    ∙ ap (λ (m : List ℕ). first_reason (first ∷ first_reason
    (tried 2 (unless (bytes_eq m MAGIC || bytes_eq m MAGIC2) 0) ∷ tried 3 (field_break (part b 0 HEADER_BYTES)) ∷ tried 4 (size_break (part b 0 HEADER_BYTES) n) ∷ []) ∷ []))
    (sym (magic_part b))
  where
    joined : (o p q r : Option Broken) → first_reason (o ∷ p ∷ q ∷ r ∷ []) ≡ first_reason (o ∷ first_reason (p ∷ q ∷ r ∷ []) ∷ [])
    joined (Some x) p q r = refl
    joined None (Some y) q r = refl
    joined None None (Some z) r = refl
    joined None None None (Some w) = refl
    joined None None None None = refl

pub refused_short : (b : List ℕ) (size : ℕ) (p : Option ℕ) (e : OpenFault) → size ≡ length b → p ≡ unless (nat_le HEADER_BYTES size) size
    → Refuses (tried 1 p) e → Refuses (header_stage b) e
refused_short b size p e all is h =
    subst (λ (x : Option Broken). Refuses x e) (sym (stage_is b))
    (refuses_first (tried 1 (short_break (length b))) (header_judged (part b 0 HEADER_BYTES) (length b) ∷ []) e
    (subst (λ (n : ℕ). Refuses (tried 1 (short_break n)) e) all (subst (λ (x : Option ℕ). Refuses (tried 1 x) e) is h)))

pub rest_is : (b bytes : List ℕ) (size : ℕ) (p : Option ℕ) → size ≡ length b → p ≡ unless (nat_le HEADER_BYTES size) size → tried 1 p ≡ None
    → bytes ≡ part b 0 HEADER_BYTES → header_stage b ≡ header_judged bytes size
rest_is b bytes size p all is none at =
    stage_is b ∙ first_none (tried 1 (short_break (length b))) (header_judged (part b 0 HEADER_BYTES) (length b) ∷ [])
    (ap (λ (n : ℕ). tried 1 (short_break n)) (sym all) ∙ ap (tried 1) (sym is) ∙ none)
    ∙ only (header_judged (part b 0 HEADER_BYTES) (length b)) ∙ ap (λ (x : List ℕ). header_judged x (length b)) (sym at) ∙ ap (header_judged bytes) (sym all)
  where
    only : (o : Option Broken) → first_reason (o ∷ []) ≡ o
    only None = refl
    only (Some x) = refl

pub header_told : (b bytes : List ℕ) (size : ℕ) (h : Header) → size ≡ length b → bytes ≡ part b 0 HEADER_BYTES → header_of bytes ≡ h → size ≡ size_by h
    → IsHeaderOf b h
header_told b bytes size h all at is end = record {
  numbers = sym (header_part b) ∙ ap header_of (sym at) ∙ is;
  size = sym all ∙ end;
}
