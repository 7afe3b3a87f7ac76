-- The rows of a block of an index lie from its least document to its greatest.
--
--   blocks_bounded
use Rattle.std.proofs.Common.{◌≡◌, ℕ, zero, suc, ◌+◌, ◌<◌, true, List, [], ◌∷◌, length, get_or, sym, subst, arith}
use Rattle.std.specs.Prelude.{nat_le}
use Rattle.std.specs.List.{All, AllByRecursion}
use Rattle.std.proofs.lemmas.Bool.{and_from, le-leb}
use Rattle.std.proofs.lemmas.List.Elements.{All-from_recursion}
use Rattle.cs_base.specs.declared.content.doc.Post.{Post}
use Rattle.cs_base.specs.declared.index.block.BlockHead.{BlockHead}
use Rattle.cs_base.proofs.MembersLemmas.{all_then}
use Rattle.cs_file.specs.Indexes.{IndexView, StandsFor}
use Rattle.cs_file.proofs.HeaderWeightsLemmas.{blocks_law}
use Rattle.cs_file.proofs.StoodLemmas.{stood}
use Rattle.cs_model_index.specs.Sections.{image_of}
use Rattle.cs_model_index.proofs.BoundsLemmas.{LieIn, rows_lie}
use Rattle.cs_model_index.proofs.ReadBlocks.{AreRead}
use Rattle.cs_model_index.proofs.ReadImages.{FileRead, file_read}
use Rattle.cs_model_index.proofs.RunRows.{Run}
use Rattle.cs_model_kept.specs.Sharp.{lies_in}

lie_at : (ws : Run) (docs target lo : ℕ) (hs : List BlockHead) (bs : List (List Post)) → AreRead ws docs target lo hs bs → (k : ℕ) (h : BlockHead)
    → k < length hs → AllByRecursion (LieIn (get_or hs k h).least (get_or hs k h).greatest) (get_or bs k [])
unfolding AreRead
lie_at ws docs target lo [] bs r k h lt = absurd (omega (arith, lt))
lie_at ws docs target lo (x ∷ hs) [] r k h lt = absurd r
lie_at ws docs target lo (x ∷ hs) (b ∷ bs) r zero h lt = rows_lie x b r.0.bounds r.0.sorted
lie_at ws docs target lo (x ∷ hs) (b ∷ bs) r (suc k) h lt = lie_at ws docs target (lo + x.words) hs bs r.2 k h (omega (arith, lt))

pub blocks_bounded : (b : List ℕ) (i : IndexView) → StandsFor b i → (k : ℕ) (h : BlockHead) → k < length i.heads
    → All (λ p. lies_in (get_or i.heads k h) p.doc ≡ true) (get_or (image_of b).blocks k [])
blocks_bounded b i stands k h lt =
    let image = image_of b in
    let is : FileRead image = file_read blocks_law b stands.bytes stands.accepted in
    let same = (stood b i stands).heads in
    subst (λ hs. All (λ p. lies_in (get_or hs k h) p.doc ≡ true) (get_or image.blocks k [])) (sym same)
    (let x = get_or image.heads k h in
    All-from_recursion (λ p. lies_in x p.doc ≡ true) (get_or image.blocks k [])
    (all_then (LieIn x.least x.greatest) (λ p. lies_in x p.doc ≡ true)
    (λ p l. and_from (nat_le x.least p.doc) (nat_le p.doc x.greatest) (le-leb _ _ l.0) (le-leb _ _ l.1)) (get_or image.blocks k [])
    (lie_at image.words is.docs image.target 0 image.heads image.blocks is.read k h (subst (λ hs. k < length hs) same lt))))
