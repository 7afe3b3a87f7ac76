-- The heads of runs and their blocks, one by one.
use Rattle.std.proofs.Common.{◌≡◌, ℕ, zero, suc, ◌+◌, ◌<◌, ◌≤◌, Bool, List, [], ◌∷◌, ◌++◌, length, map, take, get_or, refl, sym, ◌∙◌, ap, arith}
use Rattle.std.specs.List.{zip, AllByRecursion}
use Rattle.std.proofs.lemmas.List.{take_more, map-append, get_or-map, length-map}
use Rattle.std.proofs.lemmas.Slice.Zip.{get_or-zip, length-zip}
use Rattle.cs_base.specs.declared.index.block.BlockHead.{BlockHead}
use Rattle.cs_base.specs.declared.content.doc.Post.{Post}
use Rattle.cs_cols.specs.declared.cols.Cols.{Cols}
use Rattle.cs_model_index.specs.BlockBounds.{greatest_of, least_of}
use Rattle.cs_model_index.specs.Blocks.{block_bytes}
use Rattle.cs_model_index.specs.Numbered.{word_at}
use Rattle.cs_model_index.specs.Partitions.{is_facet}
use Rattle.cs_build.specs.WordRuns.{run_head}
use Rattle.cs_build.specs.declared.parting.Run.{Run}

pub pairs_many : (runs : List Run) (bs : List (List Post)) → length (zip runs bs) ≤ length runs
pairs_many runs bs = omega (arith, length-zip runs bs)

pub all_at : {X : Type 0} (P : X → Type 0) (xs : List X) (i : ℕ) (d : X) → AllByRecursion P xs → i < length xs → P (get_or xs i d)
all_at P [] i d h l = absurd (omega (arith, l))
all_at P (x ∷ xs) zero d h l = h.0
all_at P (x ∷ xs) (suc i) d h l = all_at P xs i d h.1 (omega (arith, l))

-- a head that was put together is that of the run and its block
pub head_is : (ws : List (List ℕ)) (run : Run) (posts : List Post) (lo words rows len : ℕ) (facet : Bool) (least greatest : ℕ) → lo ≡ run.lo → words ≡ run.words → rows ≡ run.rows → len ≡ length (block_bytes posts run.lo) → facet ≡ is_facet (word_at ws run.lo) → least ≡ least_of posts → greatest ≡ greatest_of posts
    → let h : BlockHead = record { lo = lo; words = words; rows = rows; len = len; facet = facet; least = least; greatest = greatest } in h ≡ run_head ws (run, posts)
head_is ws run posts lo words rows len facet least greatest a b c e f g h = rw (a, b, c, e, f, g, h) refl

pub head_more : (ws : List (List ℕ)) (runs : List Run) (bs : List Cols) (i : ℕ) (d : Run) (x : Cols) → length runs ≡ length bs → i < length runs → x ≡ get_or bs i x
    → map (run_head ws) (take (i + 1) (zip runs (map (λ b. b.posts) bs))) ≡ map (run_head ws) (take i (zip runs (map (λ b. b.posts) bs))) ++ run_head ws (get_or runs i d, x.posts) ∷ []
head_more ws runs bs i d x e l is =
    let posts : List (List Post) = map (λ (b : Cols). b.posts) bs in
    let many : length posts ≡ length bs = length-map bs (λ (b : Cols). b.posts) in
    let inside : i < length posts = omega (arith, l, e, many) in
    let both : i < length (zip runs posts) = omega (arith, length-zip runs posts, l, inside) in
    let at : get_or (zip runs posts) i (d, x.posts) ≡ (get_or runs i d, x.posts) =
    get_or-zip runs posts i (d, x.posts) l inside
    ∙ ap (λ (y : List Post). (get_or runs i d, y)) (get_or-map (λ (b : Cols). b.posts) bs i x x.posts (omega (arith, l, e)) ∙ ap (λ (b : Cols). b.posts) (sym is)) in
    ap (map (run_head ws)) (take_more (zip runs posts) i (d, x.posts) both) ∙ map-append (run_head ws) (take i (zip runs posts)) (get_or (zip runs posts) i (d, x.posts) ∷ [])
    ∙ ap (λ (p : Run × List Post). map (run_head ws) (take i (zip runs posts)) ++ run_head ws p ∷ []) at
