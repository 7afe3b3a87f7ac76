-- What is read of the directory and the blocks of an index file: heads one behind the other, each with its block.
--
--   IsRead ws docs target lo h b     a head and a block of words from a number on, as the rules leave them
--   AreRead                          heads and blocks, one behind the other
--   blocks_read                      those of an index file are
--   rising_words                     words that follow each other ascend
use Rattle.std.proofs.Common.{◌≡◌, ℕ, zero, suc, ◌+◌, ◌<◌, ◌≤◌, ◌^◌, ◌&&◌, Bool, true, List, [], ◌∷◌, length, take, drop, Option, Some, None, refl, sym, ap, subst, ◌∙◌, arith, length-take, length-drop}
use Rattle.std.specs.Prelude.{nat_le, nat_lt}
use Rattle.std.specs.Bool.{◌==◌}
use Rattle.std.specs.List.{AllByRecursion, slice_get, zip}
use Rattle.std.specs.List.Sorted.{IsStrictlySortedBy}
use Rattle.std.specs.Ordering.{nat_cmp, is_lt}
use Rattle.std.specs.declared.cmp.Ordering.{Ordering}
use Rattle.std.specs.declared.cmp.Ordering.TheVariants.{Less, Equal, Greater}
use Rattle.std.specs.Cmp.Lexicographic.{slice_cmp}
use Rattle.std.proofs.lemmas.Bool.{and_parts, leb-true, ltb-true, eqb-true}
use Rattle.std.proofs.lemmas.Cmp.{nat_list_cmp_total}
use Rattle.std.proofs.lemmas.List.Elements.{recursion_from_All}
use Rattle.cs_base.specs.content.Orders.{by_place}
use Rattle.cs_base.specs.declared.content.doc.Post.{Post}
use Rattle.cs_base.specs.declared.index.block.BlockHead.{BlockHead}
use Rattle.cs_base.specs.declared.content.scores.Weights.{Weights}
use Rattle.cs_model.specs.Weights.{AreWeights}
use Rattle.cs_model_index.specs.Blocks.{IsShaped, block_bytes}
use Rattle.cs_model_index.specs.BlockRules.{IsBlock, judged, keeps, rows_read}
use Rattle.cs_model_index.specs.FileRules.{blocks_break, follows, has_rows, is_closed, is_joined, is_of_one_kind, is_parted, laid, words_end}
use Rattle.cs_model_index.specs.Numbered.{word_at}
use Rattle.cs_model_index.specs.Partitions.{is_facet, is_light, is_one_kind}
use Rattle.cs_model_index.specs.BlockBounds.{HasBounds}
use Rattle.cs_model_index.specs.Sections.{blocks_in, heads_by, heads_in, number_at}
use Rattle.cs_model_index.specs.declared.limits.TheConstants.{MAX_BLOCK_WORDS}
use Rattle.cs_model_index.proofs.BlockUses.{BlocksAreRead}
use Rattle.cs_model_index.proofs.NumbersLemmas.{IsBytes, IsBytes-take, IsBytes-drop, all_from_bytes}
use Rattle.cs_model_index.proofs.RunRows.{Run}
use Rattle.cs_model_index.proofs.SectionLemmas.{AreShaped, block_none, end_from, ends_rise}
use Rattle.cs_model_index.proofs.Listings.{both_all}

-- ---- words
behind_all : (v w : List ℕ) (ws : Run) → slice_cmp nat_cmp v w ≡ Less → AllByRecursion (λ x. slice_cmp nat_cmp w x ≡ Less) ws → AllByRecursion (λ x. slice_cmp nat_cmp v x ≡ Less) ws
behind_all v w [] e h = tt
behind_all v w (x ∷ ws) e h = (nat_list_cmp_total.trans v w x e h.0, behind_all v w ws e h.1)

less_is : (o : Ordering) → is_lt o ≡ true → o ≡ Less
less_is Less h = refl
less_is Equal h = absurd (cc)
less_is Greater h = absurd (cc)

rising_behind : (size : List ℕ → ℕ) (at : ℕ) (v : List ℕ) (ws : Run) → AllByRecursion (λ i. follows i.last i.value ≡ true) (laid size at (Some v) ws) → AllByRecursion (λ x. slice_cmp nat_cmp v x ≡ Less) ws × IsStrictlySortedBy (slice_cmp nat_cmp) ws
unfolding laid IsStrictlySortedBy
rising_behind size at v [] h = (tt, tt)
rising_behind size at v (w ∷ ws) h =
    let rest = rising_behind size (at + size w) w ws h.1 in
    let here : slice_cmp nat_cmp v w ≡ Less = less_is (slice_cmp nat_cmp v w) h.0 in
    ((here, behind_all v w ws here rest.0), rest)

pub rising_words : (size : List ℕ → ℕ) (at : ℕ) (ws : Run) → AllByRecursion (λ i. follows i.last i.value ≡ true) (laid size at None ws) → IsStrictlySortedBy (slice_cmp nat_cmp) ws
unfolding laid IsStrictlySortedBy
rising_words size at [] h = tt
rising_words size at (w ∷ ws) h = rising_behind size (at + size w) w ws h.1

-- ---- a block
pub record IsRead (ws : Run) (docs target lo : ℕ) (h : BlockHead) (b : List Post) : Type 0 where
  pub at : h.lo ≡ lo
  pub some : 1 ≤ h.words
  pub short : h.words ≤ MAX_BLOCK_WORDS
  pub within : lo + h.words ≤ length ws
  pub one_kind : is_one_kind (take h.words (drop lo ws)) ≡ true
  pub count : length b ≡ h.rows
  pub len : length (block_bytes b lo) ≡ h.len
  pub facet : h.facet ≡ is_facet (word_at ws lo)
  pub sorted : IsStrictlySortedBy by_place b
  pub words : AllByRecursion (λ p. (lo ≤ p.word) × (p.word < lo + h.words)) b
  pub known : AllByRecursion (λ p. p.doc < docs) b
  pub full : has_rows (h, b) ≡ true
  pub light : is_light target h.words (length b) ≡ true
  pub bounds : HasBounds h b

keeps_all : (holds : Option Post → Post → Bool) (P : Post → Type 0) → ((last : Option Post) (r : Post) → holds last r ≡ true → P r) → (last : Option Post) (rs : List Post) → keeps holds last rs ≡ true → AllByRecursion P rs
unfolding keeps
keeps_all holds P one last [] h = tt
keeps_all holds P one last (r ∷ rs) h = let both = and_parts (holds last r) (keeps holds (Some r) rs) h in (one last r both.0, keeps_all holds P one (Some r) rs both.1)

-- what the rules of a block leave
block_words : {weights : Weights} (h : BlockHead) (docs : ℕ) (rs : List Post) (bytes : List ℕ) → IsBlock weights h docs rs bytes → AllByRecursion (λ p. (h.lo ≤ p.word) × (p.word < h.lo + h.words)) rs
block_words h docs rs bytes is =
    both_all (λ p. (h.lo ≤ p.word) × (p.word < h.lo + 2 ^ 16)) (λ p. p.word < h.lo + h.words) (λ p. (h.lo ≤ p.word) × (p.word < h.lo + h.words)) (λ p a b. (a.0, b)) rs
    (recursion_from_All (λ p. (h.lo ≤ p.word) × (p.word < h.lo + 2 ^ 16)) rs is.writable.words)
    (keeps_all (λ last r. nat_lt r.word (h.lo + h.words)) (λ p. p.word < h.lo + h.words) (λ last r e. ltb-true r.word (h.lo + h.words) e) None rs is.meets.1.0)

block_docs : {weights : Weights} (h : BlockHead) (docs : ℕ) (rs : List Post) (bytes : List ℕ) → IsBlock weights h docs rs bytes → AllByRecursion (λ p. p.doc < docs) rs
block_docs h docs rs bytes is = keeps_all (λ last r. nat_lt r.doc docs) (λ p. p.doc < docs) (λ last r e. ltb-true r.doc docs e) None rs is.meets.0

-- each head's bounds are those of the rows that are read behind it
unfoldable pub AreBounded : List BlockHead → List ℕ → Type 0
AreBounded [] bytes = Unit {0}
AreBounded (h ∷ hs) bytes = HasBounds h (rows_read h (take h.len bytes)) × AreBounded hs (drop h.len bytes)

pub heads_bounded : (hs : List BlockHead) (bytes : List ℕ) → AreBounded (heads_by hs bytes) bytes
unfolding AreBounded heads_by rows_read
heads_bounded [] bytes = tt
heads_bounded (h ∷ hs) bytes = (record { least = refl; greatest = refl }, heads_bounded hs (drop h.len bytes))

-- ---- blocks, one behind the other
module _ (ws : Run) (docs target : ℕ) where
  unfoldable pub AreRead : ℕ → List BlockHead → List (List Post) → Type 0
  AreRead lo [] [] = Unit {0}
  AreRead lo [] (b ∷ bs) = ⊥
  AreRead lo (h ∷ hs) [] = ⊥
  AreRead lo (h ∷ hs) (b ∷ bs) = IsRead ws docs target lo h b × (is_closed target ws (h, b) (slice_get (zip hs bs) 0) ≡ true) × AreRead (lo + h.words) hs bs

  is_read : {weights : Weights} (lo : ℕ) (h : BlockHead) (bytes : List ℕ) → h.lo ≡ lo → 1 ≤ h.words → lo + h.words ≤ length ws → is_of_one_kind ws h ≡ true → h.facet ≡ is_facet (word_at ws h.lo) → h.len ≡ length bytes
      → IsBlock weights h docs (rows_read h bytes) bytes → has_rows (h, rows_read h bytes) ≡ true → is_light target h.words (length (rows_read h bytes)) ≡ true → HasBounds h (rows_read h bytes) → IsRead ws docs target lo h (rows_read h bytes)
  is_read lo h bytes at some within kind facet len is full light bounds =
      let rs : List Post = rows_read h bytes in
      let k = and_parts (nat_le h.words MAX_BLOCK_WORDS) (is_one_kind (take h.words (drop h.lo ws))) kind in
      record {
        at = at;
        some = some;
        short = leb-true _ _ k.0;
        within = within;
        one_kind = ap (λ n. is_one_kind (take h.words (drop n ws))) (sym at) ∙ k.1;
        count = is.count;
        len = ap (λ n. length (block_bytes rs n)) (sym at) ∙ ap length (sym is.written) ∙ sym len;
        facet = facet ∙ ap (λ n. is_facet (word_at ws n)) at;
        sorted = is.writable.sorted;
        words = subst (λ n. AllByRecursion (λ p. (n ≤ p.word) × (p.word < n + h.words)) rs) at (block_words h docs rs bytes is);
        known = block_docs h docs rs bytes is;
        full = full;
        light = light;
        bounds = bounds;
      }

  pub blocks_read : BlocksAreRead → (weights : Weights) → AreWeights weights → docs < 2 ^ 32 → (e place at : ℕ) (last : Option BlockHead) (past : Option (BlockHead × List Post)) (hs : List BlockHead) (bytes : List ℕ)
      → AllByRecursion (λ i. is_joined i.last i.value ≡ true) (laid (λ h. e) place last hs) → AllByRecursion (λ i. is_of_one_kind ws i.value ≡ true) (laid (λ h. e) place last hs)
      → end_from (words_end last) hs ≡ length ws → AllByRecursion (λ h. h.facet ≡ is_facet (word_at ws h.lo)) hs → IsBytes bytes → AreShaped hs (length bytes) → AreBounded hs bytes → blocks_break weights docs at hs bytes ≡ None
      → AllByRecursion (λ i. is_parted target ws i ≡ true) (laid (λ p. e) place past (zip hs (blocks_in hs bytes))) → AreRead (words_end last) hs (blocks_in hs bytes)
  unfolding AreRead AreShaped AreBounded blocks_break blocks_in end_from laid
  blocks_read law weights fine few s place at last past [] bytes j k end f fits shaped bounded e parted = tt
  blocks_read law weights fine few s place at last past (h ∷ hs) bytes j k end f fits shaped bounded e parted =
      let first : List ℕ = take h.len bytes in
      let p = block_none at (judged weights h docs first) (blocks_break weights docs (at + h.len) hs (drop h.len bytes)) e in
      let len : length first ≡ h.len = omega (arith, shaped.1, length-take h.len bytes) in
      let block = law weights fine h docs first few (all_from_bytes first (IsBytes-take h.len bytes fits)) (subst (IsShaped h) (sym len) shaped.0) p.0 in
      let join = and_parts (h.lo == words_end last) (nat_le 1 h.words) j.0 in
      let here : h.lo ≡ words_end last = eqb-true _ _ join.0 in
      let some : 1 ≤ h.words = leb-true _ _ join.1 in
      let rise : h.lo + h.words ≤ end_from (h.lo + h.words) hs = ends_rise s (place + s) (Some h) hs j.1 in
      let part = and_parts (has_rows (h, rows_read h first)) (is_light target h.words (length (rows_read h first)) && is_closed target ws (h, rows_read h first) (slice_get (zip hs (blocks_in hs (drop h.len bytes))) 0)) parted.0 in
      let rest = and_parts (is_light target h.words (length (rows_read h first))) (is_closed target ws (h, rows_read h first) (slice_get (zip hs (blocks_in hs (drop h.len bytes))) 0)) part.1 in
      let left : AreShaped hs (length (drop h.len bytes)) = subst (AreShaped hs) (sym (length-drop h.len bytes)) shaped.2 in (
        is_read (words_end last) h first here some (omega (arith, here, rise, end)) k.0 f.0 (sym len) block part.0 rest.0 bounded.0,
        rest.1,
        subst (λ n. AreRead (n + h.words) hs (blocks_in hs (drop h.len bytes))) here
            (blocks_read law weights fine few s (place + s) (at + h.len) (Some h) (Some (h, rows_read h first)) hs (drop h.len bytes) j.1 k.1 end f.1 (IsBytes-drop h.len bytes fits) left bounded.1 p.1 parted.1),
      )

-- each head's kind is that of its first word
pub heads_kinds : (e : ℕ) (ws : Run) (k : ℕ) (bytes blocks : List ℕ) → AllByRecursion (λ h. h.facet ≡ is_facet (word_at ws h.lo)) (heads_by (heads_in e ws k bytes) blocks)
unfolding heads_in heads_by
heads_kinds e ws zero bytes blocks = tt
heads_kinds e ws (suc k) bytes blocks = (refl, heads_kinds e ws k (drop e bytes) (drop (number_at bytes 12) blocks))
