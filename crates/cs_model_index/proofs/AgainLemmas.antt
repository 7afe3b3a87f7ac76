-- What is read of each section of an image's file is what was written, and its rules hold.
--
--   break_none       where each item keeps a rule, none breaks it
--   words_again      the vocabulary
--   numbers_again    numbers
--   titles_again     titles
--   heads_again      the directory
--   blocks_again     the blocks, by the law that the block of posts breaks no rule
--   sections_again   the sections
use Rattle.std.proofs.Common.{◌≡◌, ℕ, suc, ◌+◌, ◌-◌, ◌<◌, ◌≤◌, ◌^◌, Bool, true, false, map, not, cond, List, [], ◌∷◌, ◌++◌, length, take, drop, Option, Some, None, refl, sym, ap, ◌∙◌, arith, length-append, take_at, drop_at, drop-drop}
use Rattle.std.specs.Prelude.{flat_map, find}
use Rattle.std.specs.List.{AllByRecursion, zip}
use Rattle.std.specs.Option.{option_map}
use Rattle.std.proofs.lemmas.Bool.{and_from, le-leb, eq-eqb}
use Rattle.std.proofs.lemmas.Nat.{from_be_bytes-to_be_bytes_4}
use Rattle.cs_model_index.specs.BlockBounds.{bounded, HasBounds}
use Rattle.cs_base.specs.declared.index.block.BlockHead.{BlockHead}
use Rattle.cs_base.specs.declared.content.doc.Post.{Post}
use Rattle.cs_base.specs.declared.content.limits.TheConstants.{MAX_WORD_BYTES}
use Rattle.cs_base.specs.declared.content.scores.Weights.{Weights}
use Rattle.cs_model.specs.Weights.{AreWeights}
use Rattle.cs_model_index.specs.BlockLaws.{OneReading}
use Rattle.cs_model_index.specs.Blocks.{block_bytes, IsShaped}
use Rattle.cs_model_index.specs.BlockRules.{IsBlock, rows_read}
use Rattle.cs_model_index.specs.FileRules.{Placed, place_of_item, break_of, is_length, words_break, blocks_break, laid, is_bound}
use Rattle.cs_model_index.specs.Layout.{number_bytes, Header, vocabulary_bytes, offsets_from, title_bytes, entry_bytes, entry_size, directory_bytes, blocks_bytes}
use Rattle.cs_model_index.specs.Numbered.{word_at}
use Rattle.cs_model_index.specs.Partitions.{is_facet}
use Rattle.cs_model_index.specs.Sections.{number_at, vocabulary_in, numbers_in, title_between, titles_in, head_in, heads_in, heads_by, bounds_in, blocks_in, offsets_len, directory_len, sections}

-- ---- items
found_not : {X : Type 0} (b : Bool) (i : Placed X) (o : Option (Placed X)) → b ≡ true → option_map place_of_item o ≡ None → option_map place_of_item (cond (not b) (Some i) o) ≡ None
found_not b i o e n = ap (λ (x : Bool). option_map place_of_item (cond (not x) (Some i) o)) e ∙ n

pub break_none : {X : Type 0} (holds : Placed X → Bool) (items : List (Placed X)) → AllByRecursion (λ i. holds i ≡ true) items → break_of holds items ≡ None
unfolding break_of
break_none holds [] h = refl
break_none holds (i ∷ items) h = found_not (holds i) i (find (λ i. not (holds i)) items) h.0 (break_none holds items h.1)

-- ---- the vocabulary
abbrev pub HasLength : List ℕ → Type 0
HasLength w = (1 ≤ length w) × (length w ≤ MAX_WORD_BYTES)

pub words_again : (at : ℕ) (ws : List (List ℕ)) → AllByRecursion HasLength ws → (words_break (length ws) at (vocabulary_bytes ws) ≡ None) × (vocabulary_in (length ws) (vocabulary_bytes ws) ≡ ws)
unfolding words_break vocabulary_in vocabulary_bytes
words_again at [] h = (refl, refl)
words_again at (w ∷ ws) h =
    let rest = vocabulary_bytes ws in
    let within : length w ≤ length (w ++ rest) = omega (arith, length-append w rest) in
    let front : take (length w) (w ++ rest) ≡ w = take_at w rest (length w) refl in
    let behind : drop (length w) (w ++ rest) ≡ rest = drop_at w rest (length w) refl in
    let t = words_again (at + 1 + length w) ws h.1 in
    let ok : is_length (length w) (w ++ rest) ≡ true = and_from _ _ (le-leb _ _ h.0.0) (and_from _ _ (le-leb _ _ h.0.1) (le-leb _ _ within)) in
    (rw (ok, behind) t.0, rw (front, behind) (ap (λ (x : List (List ℕ)). w ∷ x) t.1))

-- ---- numbers
pub number_again : (n : ℕ) (rest : List ℕ) → n < 2 ^ 32 → number_at (number_bytes n ++ rest) 0 ≡ n
unfolding number_at
number_again n rest few = from_be_bytes-to_be_bytes_4 n few

pub numbers_again : (ns : List ℕ) → AllByRecursion (λ n. n < 2 ^ 32) ns → numbers_in (length ns) (flat_map number_bytes ns) ≡ ns
unfolding numbers_in
numbers_again [] h = refl
numbers_again (n ∷ ns) h =
    ap (λ (x : ℕ). x ∷ numbers_in (length ns) (flat_map number_bytes ns)) (number_again n (flat_map number_bytes ns) h.0) ∙ ap (λ (l : List ℕ). n ∷ l) (numbers_again ns h.1)

-- ---- titles
first_title : (o : ℕ) (t : List ℕ) (bytes rest : List ℕ) → drop o bytes ≡ t ++ rest → (title_between bytes (o, o + length t) ≡ t) × (drop (o + length t) bytes ≡ rest)
first_title o t bytes rest e =
    let less : o + length t - o ≡ length t = omega arith in (
      ap (λ (n : ℕ). take n (drop o bytes)) less ∙ ap (take (length t)) e ∙ take_at t rest (length t) refl,
      sym (drop-drop (length t) o bytes) ∙ ap (drop (length t)) e ∙ drop_at t rest (length t) refl,
    )

titles_from : (o : ℕ) (ts : List (List ℕ)) (bytes : List ℕ) → drop o bytes ≡ title_bytes ts → titles_in (offsets_from o ts) bytes ≡ ts
unfolding offsets_from
titles_from o [] bytes e = refl
titles_from o (t ∷ []) bytes e = ap (λ (x : List ℕ). x ∷ []) (first_title o t bytes [] e).0
titles_from o (t ∷ u ∷ ts) bytes e =
    let p = first_title o t bytes (title_bytes (u ∷ ts)) e in
    ap (λ (x : List ℕ). x ∷ titles_in (offsets_from (o + length t) (u ∷ ts)) bytes) p.0 ∙ ap (λ (l : List (List ℕ)). t ∷ l) (titles_from (o + length t) (u ∷ ts) bytes p.1)

pub titles_again : (ts : List (List ℕ)) → titles_in (offsets_from 0 ts) (title_bytes ts) ≡ ts
titles_again ts = titles_from 0 ts (title_bytes ts) refl

pub offsets_count : (o : ℕ) (ts : List (List ℕ)) → length (offsets_from o ts) ≡ length ts + 1
unfolding offsets_from
offsets_count o [] = refl
offsets_count o (t ∷ ts) = ap suc (offsets_count (o + length t) ts) ∙ omega arith

-- ---- the directory
pub record HeadFits (ws : List (List ℕ)) (h : BlockHead) : Type 0 where
  pub lo : h.lo < 2 ^ 32
  pub words : h.words < 2 ^ 32
  pub rows : h.rows < 2 ^ 32
  pub len : h.len < 2 ^ 32
  pub least : h.least < 2 ^ 32
  pub greatest : h.greatest < 2 ^ 32
  pub facet : h.facet ≡ is_facet (word_at ws h.lo)

-- a head before its bounds are known
abbrev pub unbounded : BlockHead → BlockHead
unbounded h = record { lo = h.lo; words = h.words; rows = h.rows; len = h.len; facet = h.facet; least = 0; greatest = 0 }

same_head : (h : BlockHead) (a b c d : ℕ) (f : Bool) → a ≡ h.lo → b ≡ h.words → c ≡ h.rows → d ≡ h.len → f ≡ h.facet → let x : BlockHead = record { lo = a; words = b; rows = c; len = d; facet = f; least = 0; greatest = 0 } in x ≡ unbounded h
same_head h a b c d f p q r s t = rw (p, q, r, s, t) refl

head_again : (two : Bool) (words : List (List ℕ)) (h : BlockHead) (rest : List ℕ) → HeadFits words h → head_in words (entry_bytes two h ++ rest) ≡ unbounded h
unfolding number_at
head_again two words h rest fits =
    let lo = from_be_bytes-to_be_bytes_4 h.lo fits.lo in
    same_head h _ _ _ _ _ lo (from_be_bytes-to_be_bytes_4 h.words fits.words) (from_be_bytes-to_be_bytes_4 h.rows fits.rows) (from_be_bytes-to_be_bytes_4 h.len fits.len)
    (ap (λ (n : ℕ). is_facet (word_at words n)) lo ∙ sym fits.facet)

entry_behind : (two : Bool) (h : BlockHead) (rest : List ℕ) → drop (entry_size two) (entry_bytes two h ++ rest) ≡ rest
unfolding entry_size
entry_behind true h rest = refl
entry_behind false h rest = refl

pub heads_again : (two : Bool) (words : List (List ℕ)) (hs : List BlockHead) → AllByRecursion (HeadFits words) hs → heads_in (entry_size two) words (length hs) (directory_bytes two hs) ≡ map unbounded hs
unfolding heads_in directory_bytes
heads_again two words [] h = refl
heads_again two words (g ∷ hs) h =
    let rest = flat_map (entry_bytes two) hs in
    ap (λ (x : BlockHead). x ∷ heads_in (entry_size two) words (length hs) (drop (entry_size two) (entry_bytes two g ++ rest))) (head_again two words g rest h.0)
    ∙ ap (λ (l : List ℕ). unbounded g ∷ heads_in (entry_size two) words (length hs) l) (entry_behind two g rest)
    ∙ ap (λ (l : List BlockHead). unbounded g ∷ l) (heads_again two words hs h.1)

-- the bounds of the entries are those of the heads
pub bounds_again : (words : List (List ℕ)) (hs : List BlockHead) (at : ℕ) (last : Option (BlockHead × (ℕ × ℕ))) → AllByRecursion (HeadFits words) hs
    → AllByRecursion (λ i. is_bound i.value ≡ true) (laid (λ p. 24) at last (zip hs (bounds_in 24 (length hs) (directory_bytes true hs))))
unfolding bounds_in directory_bytes laid number_at
bounds_again words [] at last h = tt
bounds_again words (g ∷ hs) at last h =
    let least = from_be_bytes-to_be_bytes_4 g.least h.0.least in
    let greatest = from_be_bytes-to_be_bytes_4 g.greatest h.0.greatest in
    (and_from _ _ (eq-eqb _ _ (sym least)) (eq-eqb _ _ (sym greatest)), bounds_again words hs (at + 24) _ h.1)

-- ---- the blocks
-- blocks that go with their heads
unfoldable pub AreBlocks : Weights → ℕ → List BlockHead → List (List Post) → Type 0
AreBlocks weights docs [] [] = Unit {0}
AreBlocks weights docs [] (rs ∷ rss) = ⊥
AreBlocks weights docs (h ∷ hs) [] = ⊥
AreBlocks weights docs (h ∷ hs) (rs ∷ rss) = IsShaped h (length (block_bytes rs h.lo)) × (IsBlock weights h docs rs (block_bytes rs h.lo) × HasBounds h rs) × AreBlocks weights docs hs rss

same_bounds : (h : BlockHead) (rs : List Post) → HasBounds h rs → bounded h rs ≡ h
same_bounds h rs b = rw (← b.least, ← b.greatest) refl

pub blocks_again : OneReading → (weights : Weights) → AreWeights weights → (docs at : ℕ) (hs : List BlockHead) (rss : List (List Post)) → docs < 2 ^ 32 → AreBlocks weights docs hs rss
    → (blocks_break weights docs at hs (blocks_bytes hs rss) ≡ None) × (blocks_in hs (blocks_bytes hs rss) ≡ rss) × (heads_by (map unbounded hs) (blocks_bytes hs rss) ≡ hs)
unfolding blocks_break blocks_in blocks_bytes heads_by AreBlocks rows_read
blocks_again law weights fine docs at [] [] few b = (refl, refl, refl)
blocks_again law weights fine docs at [] (rs ∷ rss) few b = absurd b
blocks_again law weights fine docs at (h ∷ hs) [] few b = absurd b
blocks_again law weights fine docs at (h ∷ hs) (rs ∷ rss) few b =
    let block = block_bytes rs h.lo in
    let rest = blocks_bytes hs rss in
    let len : length block ≡ h.len = b.0.size_is in
    let front : take h.len (block ++ rest) ≡ block = take_at block rest h.len len in
    let behind : drop h.len (block ++ rest) ≡ rest = drop_at block rest h.len len in
    let u = law weights fine h docs rs block few b.0 b.1.0 in
    let t = blocks_again law weights fine docs (at + h.len) hs rss few b.2 in (
      rw (front, behind, u.0) t.0,
      rw (front, behind) (ap (λ (x : List Post). x ∷ blocks_in hs rest) u.1 ∙ ap (λ (x : List (List Post)). rs ∷ x) t.1),
      rw (front, behind) (ap (λ (x : List Post). bounded h x ∷ heads_by (map unbounded hs) rest) u.1 ∙ ap (λ (x : BlockHead). x ∷ heads_by (map unbounded hs) rest) (same_bounds h rs b.1.1) ∙ ap (λ (x : List BlockHead). h ∷ x) t.2),
    )

-- ---- the sections
pub sections_again : (h : Header) (v o t d x : List ℕ) → length v ≡ h.vocabulary_len → length o ≡ offsets_len h → length t ≡ h.titles_len → length d ≡ directory_len h
    → sections h (v ++ (o ++ (t ++ (d ++ x)))) ≡ record { vocabulary = v; offsets = o; titles = t; directory = d; blocks = x }
sections_again h v o t d x a b c e =
    rw (
      take_at v (o ++ (t ++ (d ++ x))) h.vocabulary_len a,
      drop_at v (o ++ (t ++ (d ++ x))) h.vocabulary_len a,
      take_at o (t ++ (d ++ x)) (offsets_len h) b,
      drop_at o (t ++ (d ++ x)) (offsets_len h) b,
      take_at t (d ++ x) h.titles_len c,
      drop_at t (d ++ x) h.titles_len c,
      take_at d x (directory_len h) e,
      drop_at d x (directory_len h) e,
    ) refl
