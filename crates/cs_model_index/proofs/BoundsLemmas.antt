-- The rows of a block lie from its least document to its greatest.
--
--   rows_lie          those of rows in order
--   blocks_lie        those of all blocks of an index file
use Rattle.std.proofs.Common.{◌≡◌, ℕ, suc, ◌+◌, ◌-◌, ◌≤◌, ◌<◌, ◌^◌, List, [], ◌∷◌, length, sym, ap, subst, ◌∙◌, arith}
use Rattle.std.specs.List.{All, AllByRecursion, slice_get, zip}
use Rattle.std.specs.List.Sorted.{IsStrictlySortedBy}
use Rattle.std.specs.Ordering.{nat_cmp, ordering_then}
use Rattle.std.specs.declared.cmp.Ordering.{Ordering}
use Rattle.std.specs.declared.cmp.Ordering.TheVariants.{Less}
use Rattle.std.proofs.lemmas.Bool.Decides.{nat_tests}
use Rattle.cs_base.specs.content.Orders.{by_place}
use Rattle.cs_base.specs.declared.content.doc.Post.{Post}
use Rattle.cs_base.specs.declared.index.block.BlockHead.{BlockHead}
use Rattle.cs_base.proofs.MembersLemmas.{all_then}
use Rattle.cs_model_index.specs.BlockBounds.{HasBounds, doc_or_zero, greatest_of, least_of}
use Rattle.cs_model_index.specs.BlockLaws.{AcceptedAreBlocks, OneReading}
use Rattle.cs_model_index.specs.FileRules.{IsIndexFile}
use Rattle.cs_model_index.specs.Sections.{image_of}
use Rattle.cs_model_index.proofs.BlockUses.{blocks_are_read}
use Rattle.cs_model_index.proofs.ReadBlocks.{AreRead}
use Rattle.cs_model_index.proofs.ReadImages.{FileRead, file_read}
use Rattle.cs_model_index.proofs.RunRows.{Run}

-- from the first row's document to the last row's
abbrev pub LieIn : ℕ → ℕ → Post → Type 0
LieIn least greatest p = (least ≤ p.doc) × (p.doc ≤ greatest)

-- ---- rows in order
no_more : (a b : ℕ) (o : Ordering) → ordering_then (nat_cmp a b) o ≡ Less → a ≤ b
no_more a b o h = grind (arith, nat_tests)

sooner : (p q : Post) → by_place p q ≡ Less → p.doc ≤ q.doc
sooner p q h = no_more p.doc q.doc _ h

last_after : (r : Post) (rs : List Post) → AllByRecursion (λ q. by_place r q ≡ Less) rs → r.doc ≤ doc_or_zero (slice_get (r ∷ rs) (length rs))
last_after r [] h = omega arith
last_after r (q ∷ []) h = sooner r q h.0
last_after r (q ∷ x ∷ rs) h = last_after' r q (x ∷ rs) h
  where
    last_after' : (r q : Post) (rs : List Post) → AllByRecursion (λ q. by_place r q ≡ Less) (q ∷ rs) → r.doc ≤ doc_or_zero (slice_get (q ∷ rs) (length rs))
    last_after' r q [] h = sooner r q h.0
    last_after' r q (x ∷ rs) h = last_after' r x rs h.1

up_to_last : (rs : List Post) → IsStrictlySortedBy by_place rs → AllByRecursion (λ p. p.doc ≤ doc_or_zero (slice_get rs (length rs - 1))) rs
unfolding IsStrictlySortedBy
up_to_last [] h = tt
up_to_last (r ∷ []) h = (omega arith, tt)
up_to_last (r ∷ q ∷ rs) h =
    let long : length (r ∷ q ∷ rs) - 1 ≡ suc (length rs) = omega arith in
    let short : length (q ∷ rs) - 1 ≡ length rs = omega arith in
    let end = ap (λ n. doc_or_zero (slice_get (r ∷ q ∷ rs) n)) long in
    let same = ap (λ n. doc_or_zero (slice_get (q ∷ rs) n)) short ∙ sym end in (
      subst (λ n. r.doc ≤ n) (sym end) (last_after r (q ∷ rs) h.0),
      subst (λ n. AllByRecursion (λ p. p.doc ≤ n) (q ∷ rs)) same (up_to_last (q ∷ rs) h.1),
    )

from_first : (rs : List Post) → IsStrictlySortedBy by_place rs → AllByRecursion (λ p. doc_or_zero (slice_get rs 0) ≤ p.doc) rs
unfolding IsStrictlySortedBy
from_first [] h = tt
from_first (r ∷ rs) h = (omega arith, all_then (λ q. by_place r q ≡ Less) (λ q. r.doc ≤ q.doc) (λ q e. sooner r q e) rs h.0)

both : (least greatest : ℕ) (rs : List Post) → AllByRecursion (λ p. least ≤ p.doc) rs → AllByRecursion (λ p. p.doc ≤ greatest) rs → AllByRecursion (LieIn least greatest) rs
both least greatest [] a b = tt
both least greatest (r ∷ rs) a b = ((a.0, b.0), both least greatest rs a.1 b.1)

pub rows_lie : (h : BlockHead) (rs : List Post) → HasBounds h rs → IsStrictlySortedBy by_place rs → AllByRecursion (LieIn h.least h.greatest) rs
unfolding least_of greatest_of
rows_lie h rs is up = both h.least h.greatest rs
    (subst (λ n. AllByRecursion (λ p. n ≤ p.doc) rs) (sym is.least) (from_first rs up))
    (subst (λ n. AllByRecursion (λ p. p.doc ≤ n) rs) (sym is.greatest) (up_to_last rs up))

-- ---- blocks
all_lie : (ws : Run) (docs target lo : ℕ) (hs : List BlockHead) (bs : List (List Post)) → AreRead ws docs target lo hs bs
    → AllByRecursion (λ p. AllByRecursion (LieIn p.0.least p.0.greatest) p.1) (zip hs bs)
unfolding AreRead
all_lie ws docs target lo [] [] r = tt
all_lie ws docs target lo [] (b ∷ bs) r = absurd r
all_lie ws docs target lo (h ∷ hs) [] r = absurd r
all_lie ws docs target lo (h ∷ hs) (b ∷ bs) r = (rows_lie h b r.0.bounds r.0.sorted, all_lie ws docs target (lo + h.words) hs bs r.2)

pub blocks_lie : AcceptedAreBlocks → OneReading → (b : List ℕ) → All (λ x. x < 2 ^ 8) b → IsIndexFile b
    → AllByRecursion (λ p. AllByRecursion (LieIn p.0.least p.0.greatest) p.1) (zip (image_of b).heads (image_of b).blocks)
blocks_lie accepted one b small e =
    let is : FileRead (image_of b) = file_read (blocks_are_read accepted one) b small e in
    all_lie (image_of b).words is.docs (image_of b).target 0 (image_of b).heads (image_of b).blocks is.read
