-- How long the sections of an index file are, item by item.
--
--   titles_joined     titles one after the other, as the other sections are written
--   longer            one item more
--   blocks_len_is     the bytes of the blocks are those that the heads tell
--   offsets_size, directory_size     how many bytes offsets and directory have
--   file_long         the file of an image is as long as its header says
--   pair_at           a head with the posts of its block
--   same_numbers      nine numbers
use Rattle.std.proofs.Common.{◌≡◌, ℕ, ◌+◌, ◌*◌, ◌<◌, ◌≤◌, true, List, [], ◌∷◌, ◌++◌, length, map, take, get_or, append-nil, refl, sym, ◌∙◌, ap, arith, length-append}
use Rattle.std.specs.Prelude.{flat_map}
use Rattle.std.specs.List.{sum_by, zip, AllByRecursion}
use Rattle.std.proofs.lemmas.Grind.{flat_map-append}
use Rattle.std.proofs.lemmas.List.{take_more, get_or-map, length-map}
use Rattle.std.proofs.lemmas.List.Concat.{flat_map-cons}
use Rattle.std.proofs.lemmas.List.Folds.{length-flat_map-take}
use Rattle.std.proofs.lemmas.List.Sums.{sum_by-cons}
use Rattle.std.proofs.lemmas.Slice.Zip.{get_or-zip, length-zip}
use Rattle.cs_cols.specs.declared.cols.Cols.{Cols}
use Rattle.cs_base.specs.declared.index.block.BlockHead.{BlockHead}
use Rattle.cs_base.specs.declared.content.doc.Post.{Post}
use Rattle.cs_model_index.specs.Blocks.{block_bytes}
use Rattle.cs_model_index.specs.Images.{Image}
use Rattle.cs_model_index.specs.Layout.{number_bytes, Header, header_bytes, vocabulary_bytes, offsets_from, offset_bytes, title_bytes, directory_bytes}
use Rattle.cs_model_index.specs.Layout.{blocks_bytes, entry_size, header_of_image, file, file_in}
use Rattle.cs_model_index.specs.Sections.{size_by}
use Rattle.cs_model_index.specs.declared.limits.TheConstants.{HEADER_BYTES}
use Rattle.cs_model_index.proofs.AgainLemmas.{offsets_count}
use Rattle.cs_file.specs.Writable.{BlockFits}

pub titles_joined : (ts : List (List ℕ)) → title_bytes ts ≡ flat_map (λ t. t) ts
titles_joined [] = refl
titles_joined (t ∷ ts) = ap (λ x. t ++ x) (titles_joined ts)

-- the length so far, and one item more, which has room in the whole
pub record IsLonger {X : Type 0} (f : X → List ℕ) (xs : List X) (i : ℕ) (d : X) : Type 0 where
  pub now : length (flat_map f (take (i + 1) xs)) ≡ length (flat_map f (take i xs)) + length (f (get_or xs i d))
  pub within : length (flat_map f (take i xs)) + length (f (get_or xs i d)) ≤ length (flat_map f xs)

pub longer : {X : Type 0} (f : X → List ℕ) (xs : List X) (i : ℕ) (d : X) → i < length xs → IsLonger f xs i d
longer f xs i d l =
    let one : flat_map f (take (i + 1) xs) ≡ flat_map f (take i xs) ++ f (get_or xs i d) =
    ap (flat_map f) (take_more xs i d l) ∙ flat_map-append f (take i xs) (get_or xs i d ∷ [])
    ∙ ap (λ x. flat_map f (take i xs) ++ x) (flat_map-cons f (get_or xs i d) [] ∙ append-nil (f (get_or xs i d))) in
    record { now = ap length one ∙ length-append (flat_map f (take i xs)) (f (get_or xs i d)); within = length-flat_map-take f xs i d l }

pub blocks_len_is : (hs : List BlockHead) (bs : List (List Post)) → length hs ≡ length bs → AllByRecursion BlockFits (zip hs bs)
    → length (blocks_bytes hs bs) ≡ sum_by (λ h. h.len) hs
unfolding blocks_bytes
blocks_len_is [] [] e fit = refl
blocks_len_is [] (b ∷ bs) e fit = absurd (omega (arith, e))
blocks_len_is (h ∷ hs) [] e fit = absurd (omega (arith, e))
blocks_len_is (h ∷ hs) (b ∷ bs) e fit =
    let rest = blocks_len_is hs bs (omega (arith, e)) fit.1 in
    omega (arith, length-append (block_bytes b h.lo) (blocks_bytes hs bs), rest, fit.0.len, sum_by-cons (λ h. h.len) h hs)

-- ---- the whole file
numbers_size : (ns : List ℕ) → length (flat_map number_bytes ns) ≡ 4 * length ns
numbers_size [] = refl
numbers_size (n ∷ ns) = let rest = numbers_size ns in omega (arith, rest)

offsets_size : (ts : List (List ℕ)) → length (offset_bytes ts) ≡ 4 * (length ts + 1)
unfolding offset_bytes
offsets_size ts = numbers_size (offsets_from 0 ts) ∙ ap (λ (n : ℕ). 4 * n) (offsets_count 0 ts)

directory_size : (hs : List BlockHead) → length (directory_bytes true hs) ≡ 24 * length hs
unfolding directory_bytes
directory_size [] = refl
directory_size (h ∷ hs) = let rest = directory_size hs in omega (arith, rest)

behind_numbers : (h : Header) (rest : List ℕ) → length (header_bytes h ++ rest) ≡ HEADER_BYTES + length rest
unfolding header_bytes
behind_numbers h rest = omega arith

pub file_long : (i : Image) → length i.heads ≡ length i.blocks → length (file i) ≡ size_by (header_of_image true i)
unfolding file_in entry_size
file_long i e =
    let w = vocabulary_bytes i.words in
    let o = offset_bytes i.titles in
    let t = title_bytes i.titles in
    let d = directory_bytes true i.heads in
    let b = blocks_bytes i.heads i.blocks in
    omega (
      arith,
      behind_numbers (header_of_image true i) (w ++ (o ++ (t ++ (d ++ b)))),
      length-append w (o ++ (t ++ (d ++ b))),
      length-append o (t ++ (d ++ b)),
      length-append t (d ++ b),
      length-append d b,
      offsets_size i.titles,
      directory_size i.heads,
      e,
    )

-- ---- heads with their blocks
pub record IsPair (hs : List BlockHead) (bs : List Cols) (i : ℕ) (h : BlockHead) (x : Cols) : Type 0 where
  pub inside : i < length (zip hs (map (λ c. c.posts) bs))
  pub at : get_or (zip hs (map (λ c. c.posts) bs)) i (h, x.posts) ≡ (get_or hs i h, x.posts)

pub pair_at : (hs : List BlockHead) (bs : List Cols) (i : ℕ) (h : BlockHead) (x : Cols) → length hs ≡ length bs → i < length hs → x ≡ get_or bs i x
    → IsPair hs bs i h x
pair_at hs bs i h x e l is =
    let posts : List (List Post) = map (λ c. c.posts) bs in
    let many : length posts ≡ length bs = length-map bs (λ (c : Cols). c.posts) in
    let inside : i < length posts = omega (arith, l, e, many) in
    record {
      inside = omega (arith, length-zip hs posts, l, inside);
      at = get_or-zip hs posts i (h, x.posts) l inside
          ∙ ap (λ (y : List Post). (get_or hs i h, y)) (get_or-map (λ (c : Cols). c.posts) bs i x x.posts (omega (arith, l, e))
          ∙ ap (λ (c : Cols). c.posts) (sym is));
    }

-- no more pairs than heads
pub pairs_many : (hs : List BlockHead) (bs : List (List Post)) → length (zip hs bs) ≤ length hs
pairs_many hs bs = omega (arith, length-zip hs bs)

-- rows are counted block by block
pub rows_counted : (bs : List Cols) → sum_by (λ b. length b.posts) bs ≡ sum_by (λ (block : List Post). length block) (map (λ c. c.posts) bs)
rows_counted [] = refl
rows_counted (b ∷ bs) = sum_by-cons (λ (b : Cols). length b.posts) b bs ∙ ap (λ (n : ℕ). length b.posts + n) (rows_counted bs)
    ∙ sym (sum_by-cons (λ (block : List Post). length block) b.posts (map (λ c. c.posts) bs))

pub same_numbers : (a b c d e f g k z a1 b1 c1 d1 e1 f1 g1 k1 z1 : ℕ) → a ≡ a1 → b ≡ b1 → c ≡ c1 → d ≡ d1 → e ≡ e1 → f ≡ f1 → g ≡ g1 → k ≡ k1 → z ≡ z1
    → a ∷ b ∷ c ∷ d ∷ e ∷ f ∷ g ∷ k ∷ z ∷ [] ≡ a1 ∷ b1 ∷ c1 ∷ d1 ∷ e1 ∷ f1 ∷ g1 ∷ k1 ∷ z1 ∷ []
same_numbers a b c d e f g k z a1 b1 c1 d1 e1 f1 g1 k1 z1 p q r s t u v x y = rw (p, q, r, s, t, u, v, x, y) refl
