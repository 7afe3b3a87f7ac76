-- Rules 13 to 17: the blocks, read one by one.
--
--   read_rows            the rows that decoding adds are those that are read
--   Decoded, decoded, decoded_few, decoded_within, part_is       the part of a block that was decoded
--   bounded_docs         the bounds of rows, by their documents
--   read_parts           the parts of blocks that are read one behind the other
--   BlocksRead           what is known behind the first blocks
--   reading, reads_on, read_refused, read_all       its steps
--   at_next, at_within   the place of a block
--   block_bytes_on, block_bytes_all      the bytes of the blocks
use Rattle.std.proofs.Common.{◌≡◌, ℕ, zero, suc, ◌+◌, ◌-◌, ◌<◌, ◌≤◌, ◌^◌, List, [], ◌∷◌, ◌++◌, length, get_or, take, drop, map, Option, Some, None, refl, sym, ap, subst}
use Rattle.std.proofs.Common.{◌∙◌, arith, drop-drop}
use Rattle.std.specs.Prelude.{All, count_by, ◌==◌}
use Rattle.std.specs.List.{sum_by, list_all, list_any, range_with_len, slice_get}
use Rattle.std.specs.Option.{option_map, option_or, unwrap_or}
use Rattle.std.proofs.lemmas.List.{append-nil, append_assoc, length-map, map-append, take_all, take_more}
use Rattle.std.proofs.lemmas.List.Elements.{All-map}
use Rattle.std.proofs.lemmas.List.Sums.{sum_by_more, sum_by_more_le}
use Rattle.std.proofs.lemmas.Option.{slice_get-map}
use Rattle.cs_base.specs.declared.index.block.BlockHead.{BlockHead}
use Rattle.cs_base.specs.declared.index.block.Broken.{Broken}
use Rattle.cs_base.specs.declared.content.doc.Post.{Post}
use Rattle.cs_base.specs.declared.content.scores.Weights.{Weights}
use Rattle.cs_base.specs.outside.Outside.{part}
use Rattle.cs_model.specs.Weights.{AreWeights}
use Rattle.cs_model_index.specs.BlockBounds.{bounded, doc_or_zero, greatest_of, least_of}
use Rattle.cs_model_index.specs.BlockRules.{rows_read, IsBlock, judged}
use Rattle.cs_model_index.specs.Blocks.{IsShaped}
use Rattle.cs_model_index.specs.FileRules.{blocks_break, in_file}
use Rattle.cs_model_index.specs.Layout.{Header}
use Rattle.cs_model_index.specs.Sections.{header_of, contents_of, blocks_in, blocks_at, heads_by}
use Rattle.cs_model_index.specs.WeightsField.{weights_of}
use Rattle.cs_file.specs.declared.part.BlockPart.{BlockPart}
use Rattle.cs_file.specs.declared.fault.OpenFault.{OpenFault}
use Rattle.cs_file.specs.Opening.{AreBytes, Refuses, IsHeaderOf, block_broken, blocks_of, blocks_stage, heads_of, named_heads}
use Rattle.cs_file.specs.Parting.{bare, bounded_by, part_by, part_read, parts_by}
use Rattle.cs_file.proofs.BareHeads.{own_heads}
use Rattle.cs_file.proofs.BytesLemmas.{more_bytes, bytes_at}
use Rattle.cs_file.proofs.FetchLemmas.{nothing}
use Rattle.cs_file.proofs.MarkedNumbers.{any_posts, count_posts}
use Rattle.cs_file.proofs.PostsLemmas.{block_words}
use Rattle.cs_file.proofs.StagesLemmas.{refuses_at}
use Rattle.cs_file.proofs.StoodLemmas.{blocks_start, block_from}
use Rattle.cs_file.proofs.HeaderWeightsLemmas.{one_reading}

-- ---- one block
pub read_rows : (w : Weights) → AreWeights w → (head : BlockHead) (docs : ℕ) (rows : List Post) (bytes : List ℕ) → docs < 2 ^ 32
    → IsShaped head (length bytes) → IsBlock w head docs rows bytes → rows ≡ rows_read head bytes
read_rows w are head docs rows bytes few shaped block = sym (one_reading w are head docs rows bytes few shaped block).1

-- the posts that decoding added to none, and their words
pub record Decoded (w : Weights) (head : BlockHead) (docs : ℕ) (bytes : List ℕ) (posts : List Post) (words : List ℕ) : Type 0 where
  pub block : IsBlock w head docs posts bytes
  pub words_are : words ≡ map (λ p. p.word) posts

pub decoded : (w : Weights) (head : BlockHead) (docs : ℕ) (bytes : List ℕ) (rows old posts : List Post) (words : List ℕ) → old ≡ []
    → IsBlock w head docs rows bytes → posts ≡ old ++ rows → words ≡ map (λ p. p.word) posts → Decoded w head docs bytes posts words
decoded w head docs bytes rows old posts words none block added are =
    let same : posts ≡ rows = added ∙ ap (λ (x : List Post). x ++ rows) none in
    record { block = subst (λ (x : List Post). IsBlock w head docs x bytes) (sym same) block; words_are = are }

pub decoded_few : (w : Weights) (head : BlockHead) (docs : ℕ) (bytes : List ℕ) (posts : List Post) (words : List ℕ) → Decoded w head docs bytes posts words
    → length words ≡ head.rows
decoded_few w head docs bytes posts words d = ap length d.words_are ∙ length-map posts (λ p. p.word) ∙ d.block.count

pub decoded_within : (w : Weights) (head : BlockHead) (docs : ℕ) (bytes : List ℕ) (posts : List Post) (words : List ℕ) → Decoded w head docs bytes posts words
    → All (λ w. (head.lo ≤ w) × (w < head.lo + head.words)) words
decoded_within w head docs bytes posts words d =
    subst (λ (ws : List ℕ). All (λ w. (head.lo ≤ w) × (w < head.lo + head.words)) ws) (sym d.words_are)
    (All-map (λ w. (head.lo ≤ w) × (w < head.lo + head.words)) (λ p. p.word) posts (block_words head docs posts bytes d.block))

pub part_is : (w : Weights) → AreWeights w → (head : BlockHead) (docs : ℕ) (bytes : List ℕ) (posts : List Post) (words : List ℕ) (p : BlockPart) → docs < 2 ^ 32
    → IsShaped head (length bytes) → Decoded w head docs bytes posts words → p.head ≡ bounded head posts
    → p.whole ≡ list_all (λ n. list_any (λ w. w == n) words) (range_with_len head.lo head.words) → p.first ≡ count_by (λ w. w == head.lo) words
    → p ≡ part_read head bytes
part_is w are head docs bytes posts words p few shaped d h all f =
    let rows : posts ≡ rows_read head bytes = read_rows w are head docs posts bytes few shaped d.block in
    let whole : p.whole ≡ list_all (λ n. list_any (λ post. post.word == n) posts) (range_with_len head.lo head.words) =
    all ∙ ap (λ (ws : List ℕ). list_all (λ n. list_any (λ w. w == n) ws) (range_with_len head.lo head.words)) d.words_are
    ∙ any_posts posts (range_with_len head.lo head.words) in
    let first : p.first ≡ count_by (λ post. post.word == head.lo) posts = f ∙ ap (count_by (λ w. w == head.lo)) d.words_are ∙ count_posts head.lo posts in
    same_part p (part_by (bounded head posts) posts) h whole first ∙ ap (λ (x : List Post). part_by (bounded head x) x) rows
  where
    same_part : (p q : BlockPart) → p.head ≡ q.head → p.whole ≡ q.whole → p.first ≡ q.first → p ≡ q
    same_part p q a b c = rw (a, b, c) refl

-- the bounds of rows are those of their documents
doc_at : (posts : List Post) (docs : List ℕ) (k : ℕ) → docs ≡ map (λ p. p.doc) posts → unwrap_or (slice_get docs k) 0 ≡ doc_or_zero (slice_get posts k)
doc_at posts docs k are =
    ap (λ (ds : List ℕ). unwrap_or (slice_get ds k) 0) are ∙ ap (λ (o : Option ℕ). unwrap_or o 0) (slice_get-map (λ p. p.doc) posts k) ∙ one (slice_get posts k)
  where
    one : (o : Option Post) → unwrap_or (option_map (λ p. p.doc) o) 0 ≡ doc_or_zero o
    one None = refl
    one (Some p) = refl

with_bounds : (h : BlockHead) (a b c d : ℕ) → a ≡ b → c ≡ d
    → let x : BlockHead = record { lo = h.lo; words = h.words; rows = h.rows; len = h.len; facet = h.facet; least = a; greatest = c } in
    let y : BlockHead = record { lo = h.lo; words = h.words; rows = h.rows; len = h.len; facet = h.facet; least = b; greatest = d } in
    x ≡ y
with_bounds h a b c d e f = rw (e, f) refl

pub bounded_docs : (head : BlockHead) (posts : List Post) (docs : List ℕ) → docs ≡ map (λ p. p.doc) posts → bounded_by head docs ≡ bounded head posts
unfolding least_of greatest_of
bounded_docs head posts docs are =
    let count : length docs ≡ length posts = ap length are ∙ length-map posts (λ p. p.doc) in
    with_bounds head _ _ _ _ (doc_at posts docs 0 are)
    (ap (λ (n : ℕ). unwrap_or (slice_get docs (n - 1)) 0) count ∙ doc_at posts docs (length posts - 1) are)

-- ---- blocks and the bounds of their heads
-- the parts of blocks that are read one behind the other
pub read_parts : List BlockHead → List ℕ → List BlockPart
read_parts [] bytes = []
read_parts (h ∷ hs) bytes = part_read h (take h.len bytes) ∷ read_parts hs (drop h.len bytes)

parts_bounded : (hs : List BlockHead) (bytes : List ℕ) → parts_by (heads_by hs bytes) (blocks_in (heads_by hs bytes) bytes) ≡ read_parts hs bytes
unfolding parts_by blocks_in heads_by rows_read read_parts
parts_bounded [] bytes = refl
parts_bounded (h ∷ hs) bytes = ap (λ (x : List BlockPart). part_read h (take h.len bytes) ∷ x) (parts_bounded hs (drop h.len bytes))

breaks_bounded : (w : Weights) (docs at : ℕ) (hs : List BlockHead) (bytes : List ℕ) → blocks_break w docs at (heads_by hs bytes) bytes ≡ blocks_break w docs at hs bytes
unfolding blocks_break heads_by judged
breaks_bounded w docs at [] bytes = refl
breaks_bounded w docs at (h ∷ hs) bytes =
    ap (option_or (option_map (in_file at) (judged w h docs (take h.len bytes)))) (breaks_bounded w docs (at + h.len) hs (drop h.len bytes))

-- ---- the first blocks
heads_here : (b : List ℕ) → heads_of b ≡ heads_by (named_heads b) (drop (blocks_at (header_of b)) b)
heads_here b = own_heads b ∙ ap (heads_by (named_heads b)) (blocks_start b)

own_stage : (b : List ℕ)
    → blocks_stage b ≡ blocks_break (weights_of (header_of b).weights) (header_of b).docs (blocks_at (header_of b)) (heads_of b)
    (drop (blocks_at (header_of b)) b)
unfolding blocks_stage heads_of
own_stage b = ap (blocks_break (weights_of (header_of b).weights) (header_of b).docs (blocks_at (header_of b)) (contents_of b).heads) (blocks_start b)

-- the stage, by the heads that the entries name
named_stage : (b : List ℕ)
    → blocks_stage b ≡ blocks_break (weights_of (header_of b).weights) (header_of b).docs (blocks_at (header_of b)) (named_heads b)
    (drop (blocks_at (header_of b)) b)
named_stage b =
    let h = header_of b in
    own_stage b ∙ ap (λ (x : List BlockHead). blocks_break (weights_of h.weights) h.docs (blocks_at h) x (drop (blocks_at h) b)) (heads_here b)
    ∙ breaks_bounded (weights_of h.weights) h.docs (blocks_at h) (named_heads b) (drop (blocks_at h) b)

own_blocks : (b : List ℕ) → blocks_of b ≡ blocks_in (heads_of b) (drop (blocks_at (header_of b)) b)
unfolding blocks_of heads_of
own_blocks b = ap (blocks_in (contents_of b).heads) (blocks_start b)

-- the parts of all blocks
abbrev whole_parts : List ℕ → List BlockPart
whole_parts b = parts_by (heads_of b) (blocks_of b)

own_parts : (b : List ℕ) → whole_parts b ≡ read_parts (named_heads b) (drop (blocks_at (header_of b)) b)
own_parts b =
    let bytes = drop (blocks_at (header_of b)) b in
    ap (parts_by (heads_of b)) (own_blocks b) ∙ ap (λ (x : List BlockHead). parts_by x (blocks_in x bytes)) (heads_here b) ∙ parts_bounded (named_heads b) bytes

-- of `heads` the first i were read, up to the place `at`
pub record BlocksRead (b : List ℕ) (h : Header) (heads : List BlockHead) (i at : ℕ) (parts : List BlockPart) : Type 0 where
  pub told : blocks_break (weights_of h.weights) h.docs at (drop i heads) (drop at b) ≡ blocks_stage b
  pub parts_are : parts ++ read_parts (drop i heads) (drop at b) ≡ whole_parts b

pub reading : (b : List ℕ) (h : Header) (heads : List BlockHead) (at : ℕ) (parts : List BlockPart) → IsHeaderOf b h → heads ≡ named_heads b → at ≡ blocks_at h
    → parts ≡ [] → BlocksRead b h heads 0 at parts
reading b h heads at parts is own place none = record {
  told = ap (λ (n : ℕ). blocks_break (weights_of h.weights) h.docs n heads (drop n b)) place
      ∙ ap (λ (x : List BlockHead). blocks_break (weights_of h.weights) h.docs (blocks_at h) x (drop (blocks_at h) b)) own
      ∙ ap (λ (x : Header). blocks_break (weights_of x.weights) x.docs (blocks_at x) (named_heads b) (drop (blocks_at x) b)) (sym is.numbers)
      ∙ sym (named_stage b);
  parts_are = ap (λ (x : List BlockPart). x ++ read_parts heads (drop at b)) none
      ∙ ap (λ (n : ℕ). read_parts heads (drop n b)) place
      ∙ ap (λ (x : List BlockHead). read_parts x (drop (blocks_at h) b)) own
      ∙ ap (λ (x : Header). read_parts (named_heads b) (drop (blocks_at x) b)) (sym is.numbers) ∙ sym (own_parts b);
}

head_first : (heads : List BlockHead) (i : ℕ) → i < length heads → drop i heads ≡ get_or heads i nothing ∷ drop (i + 1) heads
head_first heads i lt = let one : i + 1 ≡ suc i = omega arith in behind heads i lt ∙ ap (λ (n : ℕ). get_or heads i nothing ∷ drop n heads) (sym one)
  where
    behind : (hs : List BlockHead) (i : ℕ) → i < length hs → drop i hs ≡ get_or hs i nothing ∷ drop (suc i) hs
    behind [] i lt = absurd (omega arith)
    behind (x ∷ hs) zero lt = refl
    behind (x ∷ hs) (suc i) lt = behind hs i (omega arith)

break_first : (w : Weights) (docs at : ℕ) (x : BlockHead) (hs : List BlockHead) (b : List ℕ)
    → blocks_break w docs at (x ∷ hs) (drop at b) ≡ option_or (block_broken w at x docs (part b at x.len))
    (blocks_break w docs (at + x.len) hs (drop (at + x.len) b))
unfolding blocks_break
break_first w docs at x hs b = ap (λ (y : List ℕ). option_or (block_broken w at x docs (part b at x.len))
    (blocks_break w docs (at + x.len) hs y)) (drop-drop x.len at b)

parts_first : (at : ℕ) (x : BlockHead) (hs : List BlockHead) (b : List ℕ)
    → read_parts (x ∷ hs) (drop at b) ≡ part_read x (part b at x.len) ∷ read_parts hs (drop (at + x.len) b)
unfolding read_parts
parts_first at x hs b = ap (λ (y : List ℕ). part_read x (part b at x.len) ∷ read_parts hs y) (drop-drop x.len at b)

pub reads_on : (b : List ℕ) (h : Header) (w : Weights) (heads : List BlockHead) (i at : ℕ) (parts now : List BlockPart) (p : BlockPart)
    → w ≡ weights_of h.weights → i < length heads
    → block_broken w at (get_or heads i nothing) h.docs (part b at (get_or heads i nothing).len) ≡ None
    → p ≡ part_read (get_or heads i nothing) (part b at (get_or heads i nothing).len) → now ≡ parts ++ p ∷ []
    → BlocksRead b h heads i at parts → BlocksRead b h heads (i + 1) (at + (get_or heads i nothing).len) now
reads_on b h w heads i at parts now p same lt fine is added r =
    let x = get_or heads i nothing in
    let own = weights_of h.weights in
    let unbroken : block_broken own at x h.docs (part b at x.len) ≡ None =
    ap (λ (y : Weights). block_broken y at x h.docs (part b at x.len)) (sym same) ∙ fine in
    let hs = drop (i + 1) heads in
    let rest = read_parts hs (drop (at + x.len) b) in
    let here : read_parts (drop i heads) (drop at b) ≡ p ∷ rest =
    ap (λ (y : List BlockHead). read_parts y (drop at b)) (head_first heads i lt) ∙ parts_first at x hs b
    ∙ ap (λ (q : BlockPart). q ∷ rest) (sym is) in
    record {
      told = ap (λ (o : Option Broken). option_or o (blocks_break own h.docs (at + x.len) hs (drop (at + x.len) b))) (sym unbroken)
          ∙ sym (break_first own h.docs at x hs b) ∙ ap (λ (y : List BlockHead). blocks_break own h.docs at y (drop at b)) (sym (head_first heads i lt))
          ∙ r.told;
      parts_are = ap (λ (y : List BlockPart). y ++ rest) added ∙ append_assoc parts (p ∷ []) rest ∙ ap (λ (y : List BlockPart). parts ++ y) (sym here)
          ∙ r.parts_are;
    }

or_some : (o p : Option Broken) (x : Broken) → o ≡ Some x → option_or o p ≡ Some x
or_some o p x e = ap (λ (y : Option Broken). option_or y p) e

pub read_refused : (b : List ℕ) (h : Header) (w : Weights) (heads : List BlockHead) (i at : ℕ) (parts : List BlockPart) (e : OpenFault)
    → w ≡ weights_of h.weights → i < length heads
    → Refuses (block_broken w at (get_or heads i nothing) h.docs (part b at (get_or heads i nothing).len)) e
    → BlocksRead b h heads i at parts → Refuses (blocks_stage b) e
read_refused b h w heads i at parts e same lt refused r =
    let x = get_or heads i nothing in
    let hs = drop (i + 1) heads in
    let own = weights_of h.weights in
    let found = block_broken own at x h.docs (part b at x.len) in
    let later = blocks_break own h.docs (at + x.len) hs (drop (at + x.len) b) in
    let stage : blocks_stage b ≡ option_or found later = sym r.told
    ∙ ap (λ (y : List BlockHead). blocks_break own h.docs at y (drop at b)) (head_first heads i lt) ∙ break_first own h.docs at x hs b in
    refuses_at found (blocks_stage b) e (λ y s. stage ∙ or_some found later y s)
    (subst (λ (y : Weights). Refuses (block_broken y at x h.docs (part b at x.len)) e) same refused)

nothing_left : (heads : List BlockHead) (i : ℕ) → length heads ≤ i → drop i heads ≡ []
nothing_left [] zero le = refl
nothing_left [] (suc i) le = refl
nothing_left (x ∷ hs) zero le = absurd (omega arith)
nothing_left (x ∷ hs) (suc i) le = nothing_left hs i (omega arith)

no_break : (w : Weights) (docs at : ℕ) (bytes : List ℕ) → blocks_break w docs at [] bytes ≡ None
unfolding blocks_break
no_break w docs at bytes = refl

no_parts : (bytes : List ℕ) → read_parts [] bytes ≡ []
unfolding read_parts
no_parts bytes = refl

pub read_all : (b : List ℕ) (h : Header) (heads : List BlockHead) (i at : ℕ) (parts : List BlockPart) → length heads ≤ i → BlocksRead b h heads i at parts
    → (blocks_stage b ≡ None) × (parts ≡ parts_by (heads_of b) (blocks_of b))
read_all b h heads i at parts le r =
    let end = nothing_left heads i le in (
      sym r.told ∙ ap (λ (y : List BlockHead). blocks_break (weights_of h.weights) h.docs at y (drop at b)) end
          ∙ no_break (weights_of h.weights) h.docs at (drop at b),
      sym (append-nil parts) ∙ ap (λ (y : List BlockPart). parts ++ y) (sym (no_parts (drop at b)))
          ∙ ap (λ (y : List BlockHead). parts ++ read_parts y (drop at b)) (sym end) ∙ r.parts_are,
    )

-- the place of the next block, and that of the first one's end
pub at_next : (heads : List BlockHead) (first i at : ℕ) → i < length heads → at ≡ first + block_from heads i
    → at + (get_or heads i nothing).len ≡ first + block_from heads (i + 1)
at_next heads first i at lt is = let more = sum_by_more (λ (h : BlockHead). h.len) heads i nothing lt in omega (arith, is, more)

pub at_within : (heads : List BlockHead) (first i at : ℕ) → i < length heads → at ≡ first + block_from heads i
    → at + (get_or heads i nothing).len ≤ first + sum_by (λ h. h.len) heads
at_within heads first i at lt is = let more = sum_by_more_le (λ (h : BlockHead). h.len) heads i nothing lt in omega (arith, is, more)

-- ---- the bytes of the blocks
pub block_bytes_on : (b : List ℕ) (heads : List BlockHead) (first i at : ℕ) → i < length heads → at ≡ first + block_from heads i
    → AreBytes b first (block_from heads i) → AreBytes b at (get_or heads i nothing).len → AreBytes b first (block_from heads (i + 1))
block_bytes_on b heads first i at lt is done here =
    let more = sum_by_more (λ (h : BlockHead). h.len) heads i nothing lt in
    bytes_at b first first (block_from heads i + (get_or heads i nothing).len) (block_from heads (i + 1)) refl (sym more)
    (more_bytes b first (block_from heads i) (get_or heads i nothing).len done
    (bytes_at b at (first + block_from heads i) (get_or heads i nothing).len (get_or heads i nothing).len is refl here))

pub block_bytes_all : (b : List ℕ) (heads : List BlockHead) (first i len : ℕ) → length heads ≤ i → sum_by (λ h. h.len) heads ≡ len
    → AreBytes b first (block_from heads i) → AreBytes b first len
block_bytes_all b heads first i len le sum done =
    bytes_at b first first (block_from heads i) len refl (ap (sum_by (λ h. h.len)) (take_all i heads le) ∙ sum) done

-- ---- the heads of the parts, their bounds aside
pub bares_on : (parts : List BlockPart) (heads : List BlockHead) (i : ℕ) (p : BlockPart) → i < length heads → bare p.head ≡ bare (get_or heads i nothing)
    → map (λ q. bare q.head) parts ≡ map bare (take i heads) → map (λ q. bare q.head) (parts ++ p ∷ []) ≡ map bare (take (i + 1) heads)
bares_on parts heads i p lt same done =
    map-append (λ q. bare q.head) parts (p ∷ []) ∙ ap (λ (x : List BlockHead). x ++ bare p.head ∷ []) done
    ∙ ap (λ (x : BlockHead). map bare (take i heads) ++ x ∷ []) same ∙ sym (map-append bare (take i heads) (get_or heads i nothing ∷ []))
    ∙ ap (map bare) (sym (take_more heads i nothing lt))

pub bares_all : (parts : List BlockPart) (heads : List BlockHead) (i : ℕ) → length heads ≤ i → map (λ q. bare q.head) parts ≡ map bare (take i heads)
    → map (λ q. bare q.head) parts ≡ map bare heads
bares_all parts heads i le done = done ∙ ap (map bare) (take_all i heads le)
