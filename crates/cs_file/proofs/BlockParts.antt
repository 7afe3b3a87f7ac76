-- Rules 18 and 19 without posts: what is kept of each block is enough to try them.
--
--   rows_count           as many rows are read of a block as its head says
--   parts_count          there is a part for each head
--   parts_are            the stage, by the parts and by what the entries name
--   bound_pairs, pairs_count, pairs_end, pair_bound     the heads of parts, each with the bounds of another head
--   heads_of_parts       the heads of the parts of a file
--   bounds_named, none_named     where rule 19 is tried, and where not
--   next_is              the part behind another one
use Rattle.std.proofs.Common.{◌≡◌, ℕ, zero, suc, ◌+◌, ◌<◌, ◌≤◌, ◌&&◌, slice_index_or, Bool, true, false, cond, if◌then◌else◌, List, [], ◌∷◌, length, take, drop, map, Option, Some, None, refl}
use Rattle.std.proofs.Common.{sym, ap, ◌∙◌, arith}
use Rattle.std.specs.List.{slice_get, zip}
use Rattle.cs_base.specs.declared.index.block.BlockHead.{BlockHead}
use Rattle.cs_base.specs.declared.index.block.Broken.{Broken}
use Rattle.cs_base.specs.declared.content.doc.Post.{Post}
use Rattle.cs_model.specs.First.{first_reason}
use Rattle.cs_model_index.specs.BlockRules.{item_row, items_in, doc_before, row_at, gap_number, gap_len, rows_read}
use Rattle.cs_model_index.specs.FileRules.{Block, Placed, laid, break_of, has_rows, is_bound, is_parted, tried}
use Rattle.cs_model_index.specs.Layout.{Header, entry_size}
use Rattle.cs_model_index.specs.Partitions.{is_light}
use Rattle.cs_model_index.specs.Sections.{header_of, contents_of, blocks_in, bounds_in, directory_at, number_at}
use Rattle.cs_file.specs.declared.entries.Entries.{Entries}
use Rattle.cs_file.specs.declared.part.BlockPart.{BlockPart}
use Rattle.cs_file.specs.Opening.{IsHeaderOf, blocks_of, bounds_judged, entries_of, file_words, heads_of, named_heads, named_in, parts_judged, parts_stage}
use Rattle.cs_file.specs.Parting.{bounds_of, part_by, parts_by, is_closed_by, keeps_part, no_part}
use Rattle.cs_file.proofs.FetchLemmas.{nothing}
use Rattle.cs_file.proofs.LaidLemmas.{break_cons}

-- ---- rows
items_count : (lo k : ℕ) (last : Option Post) (index at : ℕ) (gaps words positions scores : List ℕ)
    → length (map item_row (items_in lo k last index at gaps words positions scores)) ≡ k
unfolding items_in
items_count lo zero last index at gaps words positions scores = refl
items_count lo (suc k) last index at gaps words positions scores =
    ap suc (items_count lo k (Some (row_at lo (doc_before last + gap_number gaps) words positions scores)) (index + 1) (at + gap_len gaps)
    (drop (gap_len gaps) gaps) (drop 2 words) (drop 4 positions) (drop 1 scores))

pub rows_count : (h : BlockHead) (bytes : List ℕ) → length (rows_read h bytes) ≡ h.rows
unfolding rows_read
rows_count h bytes = items_count h.lo h.rows None 0 0 _ _ _ _

-- ---- parts
pub parts_count : (hs : List BlockHead) (bytes : List ℕ) → length (parts_by hs (blocks_in hs bytes)) ≡ length hs
unfolding parts_by blocks_in
parts_count [] bytes = refl
parts_count (h ∷ hs) bytes = ap suc (parts_count hs (drop h.len bytes))

abbrev block_breaks : ℕ → List (List ℕ) → ℕ → ℕ → Option Block → List BlockHead → List (List Post) → Option ℕ
block_breaks target ws e at last hs blocks = break_of (is_parted target ws) (laid (λ (p : Block). e) at last (zip hs blocks))

abbrev part_breaks : ℕ → List (List ℕ) → ℕ → ℕ → Option BlockPart → List BlockPart → Option ℕ
part_breaks target ws e at last parts = break_of (λ i. keeps_part target ws i.value i.next) (laid (λ (p : BlockPart). e) at last parts)

-- the test of one block, and of its part
same_test : (target : ℕ) (ws : List (List ℕ)) (h : BlockHead) (posts : List Post) (last : Option Block) (at : ℕ) (hs : List BlockHead) (bytes : List ℕ)
    → length posts ≡ h.rows
    → is_parted target ws (record { value = (h, posts); last = last; next = slice_get (zip hs (blocks_in hs bytes)) 0; at = at })
    ≡ keeps_part target ws (part_by h posts) (slice_get (parts_by hs (blocks_in hs bytes)) 0)
unfolding parts_by blocks_in
same_test target ws h posts last at [] bytes len = ap (λ (n : ℕ). has_rows (h, posts) && (is_light target h.words n && true)) len
same_test target ws h posts last at (g ∷ hs) bytes len =
    let block : List Post = rows_read g (take g.len bytes) in
    let closed : ℕ → Bool = λ n. has_rows (h, posts)
    && (is_light target h.words n && is_closed_by target ws (record (part_by h posts) { head = record h { rows = n } }) (Some (part_by g block))) in
    ap closed len

same_breaks : (target : ℕ) (ws : List (List ℕ)) (e at : ℕ) (last : Option Block) (before : Option BlockPart) (hs : List BlockHead) (bytes : List ℕ)
    → block_breaks target ws e at last hs (blocks_in hs bytes) ≡ part_breaks target ws e at before (parts_by hs (blocks_in hs bytes))
unfolding parts_by blocks_in laid break_of
same_breaks target ws e at last before [] bytes = refl
same_breaks target ws e at last before (h ∷ hs) bytes =
    let posts : List Post = rows_read h (take h.len bytes) in
    let rest = drop h.len bytes in
    let blocks = blocks_in hs rest in
    let value : Block = (h, posts) in
    let i : Placed Block = record { value = value; last = last; next = slice_get (zip hs blocks) 0; at = at } in
    let j : Placed BlockPart = record { value = part_by h posts; last = before; next = slice_get (parts_by hs blocks) 0; at = at } in
    break_cons (is_parted target ws) i (laid (λ (p : Block). e) (at + e) (Some value) (zip hs blocks))
    ∙ ap (λ (b : Bool). cond b (block_breaks target ws e (at + e) (Some value) hs blocks) (Some at))
    (same_test target ws h posts last at hs rest (rows_count h (take h.len bytes)))
    ∙ ap (λ (o : Option ℕ). cond (keeps_part target ws (part_by h posts) (slice_get (parts_by hs blocks) 0)) o (Some at))
    (same_breaks target ws e (at + e) (Some value) (Some (part_by h posts)) hs rest)
    ∙ sym (break_cons (λ i. keeps_part target ws i.value i.next) j
    (laid (λ (p : BlockPart). e) (at + e) (Some (part_by h posts)) (parts_by hs blocks)))

-- ---- bounds
part_heads : (hs : List BlockHead) (bytes : List ℕ) → map (λ p. p.head) (parts_by hs (blocks_in hs bytes)) ≡ hs
unfolding parts_by blocks_in
part_heads [] bytes = refl
part_heads (h ∷ hs) bytes = ap (λ (x : List BlockHead). h ∷ x) (part_heads hs (drop h.len bytes))

named_bounds : (ws : List (List ℕ)) (k : ℕ) (bytes : List ℕ) → map bounds_of (named_in true ws k bytes) ≡ bounds_in (entry_size true) k bytes
unfolding named_in bounds_in
named_bounds ws zero bytes = refl
named_bounds ws (suc k) bytes = ap (λ (x : List (ℕ × ℕ)). (number_at bytes 16, number_at bytes 20) ∷ x) (named_bounds ws k (drop (entry_size true) bytes))

abbrev bound_breaks : Bool → ℕ → List BlockHead → List (ℕ × ℕ) → Option Broken
bound_breaks two at hs bounds = if two then tried 19 (break_of (λ i. is_bound i.value) (laid (λ (p : BlockHead × (ℕ × ℕ)). entry_size two) at None (zip hs bounds))) else None

same_bounds : (two : Bool) (ws : List (List ℕ)) (k at : ℕ) (bytes : List ℕ) (hs : List BlockHead)
    → bound_breaks two at hs (bounds_in (entry_size two) k bytes) ≡ bound_breaks two at hs (map bounds_of (named_in two ws k bytes))
same_bounds false ws k at bytes hs = refl
same_bounds true ws k at bytes hs = ap (bound_breaks true at hs) (sym (named_bounds ws k bytes))

-- the heads of parts, each with the bounds of another head
abbrev pub bound_pairs : List BlockPart → List BlockHead → List (BlockHead × (ℕ × ℕ))
bound_pairs parts heads = zip (map (λ p. p.head) parts) (map bounds_of heads)

abbrev pub no_bounds : BlockHead × (ℕ × ℕ)
no_bounds = (nothing, (0, 0))

pub pairs_count : (parts : List BlockPart) (heads : List BlockHead) (i : ℕ) → length heads ≡ length parts → i < length parts → i < length (bound_pairs parts heads)
pairs_count [] heads i same lt = absurd (omega arith)
pairs_count (p ∷ parts) [] i same lt = absurd (omega arith)
pairs_count (p ∷ parts) (h ∷ heads) zero same lt = omega arith
pairs_count (p ∷ parts) (h ∷ heads) (suc i) same lt = let rest = pairs_count parts heads i (omega arith) (omega arith) in omega (arith, rest)

pub pairs_end : (parts : List BlockPart) (heads : List BlockHead) (i : ℕ) → length parts ≤ i → length (bound_pairs parts heads) ≤ i
pairs_end [] heads i le = omega arith
pairs_end (p ∷ parts) [] i le = omega arith
pairs_end (p ∷ parts) (h ∷ heads) zero le = absurd (omega arith)
pairs_end (p ∷ parts) (h ∷ heads) (suc i) le = let rest = pairs_end parts heads i (omega arith) in omega (arith, rest)

pub pair_bound : (parts : List BlockPart) (heads : List BlockHead) (i : ℕ) → length heads ≡ length parts → i < length parts
    → is_bound ((slice_index_or parts i no_part).head, bounds_of (slice_index_or heads i nothing)) ≡ is_bound (slice_index_or (bound_pairs parts heads) i no_bounds)
pair_bound [] heads i same lt = absurd (omega arith)
pair_bound (p ∷ parts) [] i same lt = absurd (omega arith)
pair_bound (p ∷ parts) (h ∷ heads) zero same lt = refl
pair_bound (p ∷ parts) (h ∷ heads) (suc i) same lt = pair_bound parts heads i (omega arith) (omega arith)

-- where the directory names bounds, rule 19 is tried, and else not
abbrev pairs_break : ℕ → ℕ → List (BlockHead × (ℕ × ℕ)) → Option ℕ
pairs_break size at pairs = break_of (λ i. is_bound i.value) (laid (λ p. size) at None pairs)

pub bounds_named : (h : Header) (named : List BlockHead) (parts : List BlockPart) (e : Entries) (o : Option ℕ) → h.two ≡ true → e ≡ entries_of h
    → o ≡ pairs_break e.size e.first (bound_pairs parts named) → bounds_judged h named parts ≡ tried 19 o
bounds_named h named parts e o two is found =
    let pairs = bound_pairs parts named in
    ap (λ (b : Bool). if b then tried 19 (pairs_break (entry_size h.two) (directory_at h) pairs) else None) two
    ∙ ap (tried 19) (sym (found ∙ ap (λ (x : Entries). pairs_break x.size x.first pairs) is))

pub none_named : (h : Header) (named : List BlockHead) (parts : List BlockPart) → h.two ≡ false → bounds_judged h named parts ≡ None
none_named h named parts two =
    ap (λ (b : Bool). if b then tried 19 (pairs_break (entry_size h.two) (directory_at h) (bound_pairs parts named)) else None) two

-- ---- the stage
own_blocks : (b : List ℕ) → blocks_of b ≡ blocks_in (heads_of b) (contents_of b).bytes.blocks
unfolding blocks_of heads_of
own_blocks b = refl

-- rules 18 and 19 of the blocks of bytes
abbrev whole : Header → List (List ℕ) → List BlockHead → List (List Post) → List (ℕ × ℕ) → Option Broken
whole h ws hs blocks bounds = first_reason
    (tried 18 (block_breaks h.target ws (entry_size h.two) (directory_at h) None hs blocks) ∷ bound_breaks h.two (directory_at h) hs bounds ∷ [])

own_stage : (b : List ℕ) → parts_stage b
    ≡ whole (header_of b) (file_words b) (heads_of b) (blocks_of b) (bounds_in (entry_size (header_of b).two) (header_of b).blocks (contents_of b).bytes.directory)
unfolding parts_stage file_words heads_of blocks_of
own_stage b = refl

own_bounds : (b : List ℕ) → bound_breaks (header_of b).two (directory_at (header_of b)) (heads_of b)
    (bounds_in (entry_size (header_of b).two) (header_of b).blocks (contents_of b).bytes.directory)
    ≡ bound_breaks (header_of b).two (directory_at (header_of b)) (heads_of b) (map bounds_of (named_heads b))
unfolding named_heads
own_bounds b = same_bounds (header_of b).two (file_words b) (header_of b).blocks (directory_at (header_of b)) (contents_of b).bytes.directory (heads_of b)

own_parts : (h : Header) (ws : List (List ℕ)) (named : List BlockHead) (parts : List BlockPart) → parts_judged h ws named parts ≡ first_reason
    (tried 18 (part_breaks h.target ws (entry_size h.two) (directory_at h) None parts)
    ∷ bound_breaks h.two (directory_at h) (map (λ p. p.head) parts) (map bounds_of named) ∷ [])
unfolding parts_judged
own_parts h ws named parts = refl

-- by the heads and blocks that are read, and by parts
by_parts : (h : Header) (ws : List (List ℕ)) (named hs : List BlockHead) (bytes : List ℕ)
    → whole h ws hs (blocks_in hs bytes) (map bounds_of named) ≡ parts_judged h ws named (parts_by hs (blocks_in hs bytes))
by_parts h ws named hs bytes =
    let parts = parts_by hs (blocks_in hs bytes) in
    ap (λ (o : Option ℕ). first_reason (tried 18 o ∷ bound_breaks h.two (directory_at h) hs (map bounds_of named) ∷ []))
    (same_breaks h.target ws (entry_size h.two) (directory_at h) None None hs bytes)
    ∙ ap (λ (x : List BlockHead). first_reason (tried 18 (part_breaks h.target ws (entry_size h.two) (directory_at h) None parts)
    ∷ bound_breaks h.two (directory_at h) x (map bounds_of named) ∷ [])) (sym (part_heads hs bytes))
    ∙ sym (own_parts h ws named parts)

pub parts_are : (b : List ℕ) (h : Header) (ws : List (List ℕ)) (named : List BlockHead) (parts : List BlockPart) → IsHeaderOf b h → ws ≡ file_words b
    → named ≡ named_heads b → parts ≡ parts_by (heads_of b) (blocks_of b) → parts_stage b ≡ parts_judged h ws named parts
parts_are b h ws named parts is words heads are =
    let x = header_of b in
    let bytes = (contents_of b).bytes.blocks in
    own_stage b
    ∙ ap (λ (o : Option Broken). first_reason (tried 18 (block_breaks x.target (file_words b) (entry_size x.two) (directory_at x) None (heads_of b) (blocks_of b)) ∷ o ∷ []))
    (own_bounds b)
    ∙ ap (λ (y : List (List Post)). whole x (file_words b) (heads_of b) y (map bounds_of (named_heads b))) (own_blocks b)
    ∙ by_parts x (file_words b) (named_heads b) (heads_of b) bytes
    ∙ ap (λ (y : List (List Post)). parts_judged x (file_words b) (named_heads b) (parts_by (heads_of b) y)) (sym (own_blocks b))
    ∙ ap (λ (y : Header). parts_judged y (file_words b) (named_heads b) (parts_by (heads_of b) (blocks_of b))) is.numbers
    ∙ ap (parts_judged h (file_words b) (named_heads b)) (sym are)
    ∙ ap (λ (y : List BlockHead). parts_judged h (file_words b) y parts) (sym heads)
    ∙ ap (λ (y : List (List ℕ)). parts_judged h y named parts) (sym words)

-- the heads that are read
pub heads_of_parts : (b : List ℕ) → map (λ p. p.head) (parts_by (heads_of b) (blocks_of b)) ≡ heads_of b
heads_of_parts b =
    ap (λ (x : List (List Post)). map (λ p. p.head) (parts_by (heads_of b) x)) (own_blocks b) ∙ part_heads (heads_of b) (contents_of b).bytes.blocks

pub next_is : {X : Type 0} (xs : List X) (i : ℕ) → slice_get (drop (suc i) xs) 0 ≡ slice_get xs (i + 1)
next_is xs i = let one : i + 1 ≡ suc i = omega arith in behind xs (suc i) ∙ ap (slice_get xs) (sym one)
  where
    behind : {X : Type 0} (xs : List X) (n : ℕ) → slice_get (drop n xs) 0 ≡ slice_get xs n
    behind [] zero = refl
    behind [] (suc n) = refl
    behind (x ∷ xs) zero = refl
    behind (x ∷ xs) (suc n) = behind xs n
