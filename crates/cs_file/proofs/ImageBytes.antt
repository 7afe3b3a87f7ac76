-- The bytes of an image's file are bytes, where its words and titles are text and its blocks keep the rules.
--
--   AreSmall             each is below 256
--   text_small           text is spelled so
--   block_small          so is a block
--   file_small           and the whole file
use Rattle.std.proofs.Common.{◌≡◌, ℕ, zero, suc, ◌-◌, ◌*◌, ◌/◌, ◌<◌, ◌^◌, Bool, true, false, if◌then◌else◌, List, [], ◌∷◌, ◌++◌, length, subst}
use Rattle.std.proofs.Common.{arith, inl, inr}
use Rattle.std.specs.Prelude.{All, flat_map, encode_utf8_all}
use Rattle.std.specs.Char.{encode_utf8}
use Rattle.std.specs.Int.{w16, to_be_bytes}
use Rattle.std.specs.List.{AllByRecursion, zip}
use Rattle.std.specs.Str.{all_scalars, is_utf8}
use Rattle.std.proofs.lemmas.Bool.{and_parts, cases_lt, le-ltb, lt-ltb}
use Rattle.std.proofs.lemmas.List.Elements.{All-from_recursion}
use Rattle.std.proofs.lemmas.Str.{IsUtf8-from_is_utf8}
use Rattle.std.proofs.Math.Nat.{pow-suc}
use lib.Utf8.{scalar, scalar_cases}
use Rattle.cs_base.specs.index.GapCode.{code, code_in}
use Rattle.cs_base.specs.declared.index.block.BlockHead.{BlockHead}
use Rattle.cs_base.specs.declared.content.doc.Post.{Post}
use Rattle.cs_base.specs.declared.content.scores.Weights.{Weights}
use Rattle.cs_block.specs.BlockSpelling.{HasSpelling}
use Rattle.cs_block.proofs.LawsLemmas.{have_bytes}
use Rattle.cs_block.proofs.RowsLemmas.{spelling_from}
use Rattle.cs_model.specs.Weights.{AreWeights}
use Rattle.cs_model_index.specs.BlockRules.{IsBlock}
use Rattle.cs_model_index.specs.Blocks.{block_bytes, gap_column, position_column, score_column, word_column}
use Rattle.cs_model_index.specs.FileRules.{is_word}
use Rattle.cs_model_index.specs.Images.{Image}
use Rattle.cs_model_index.specs.Layout.{Header, blocks_bytes, directory_bytes, entry_bytes, file, file_in, header_bytes, header_numbers, header_of_image, magic, number_bytes, offset_bytes, offsets_from, title_bytes, vocabulary_bytes}
use Rattle.cs_model_index.proofs.Listings.{all_both}
use Rattle.cs_model_index.proofs.TextLimits.{word_length}

abbrev pub AreSmall : List ℕ → Type 0
AreSmall bytes = AllByRecursion (λ x. x < 256) bytes

both : (xs ys : List ℕ) → AreSmall xs → AreSmall ys → AreSmall (xs ++ ys)
both xs ys h k = all_both (λ x. x < 256) xs ys h k

each : {X : Type 0} (f : X → List ℕ) (xs : List X) → AllByRecursion (λ x. AreSmall (f x)) xs → AreSmall (flat_map f xs)
each f [] h = tt
each f (x ∷ xs) h = both (f x) (flat_map f xs) h.0 (each f xs h.1)

-- ---- numbers
short_small : (n : ℕ) → AreSmall (to_be_bytes w16 n)
short_small n = (omega arith, (omega arith, tt))

number_small : (n : ℕ) → AreSmall (number_bytes n)
number_small n = (omega arith, (omega arith, (omega arith, (omega arith, tt))))

numbers_small : (ns : List ℕ) → AreSmall (flat_map number_bytes ns)
numbers_small [] = tt
numbers_small (n ∷ ns) = both (number_bytes n) (flat_map number_bytes ns) (number_small n) (numbers_small ns)

-- ---- text
encoded_small : (c : ℕ) → scalar c ≡ true → AreSmall (encode_utf8 c)
unfolding encode_utf8
encoded_small c s = elim (cases_lt c 128) [
  | inl one ↦ rw (lt-ltb c 128 one) (omega (arith, one), tt)
  | inr le ↦ elim (cases_lt c 2048) [
    | inl two ↦ rw (le-ltb c 128 le, lt-ltb c 2048 two) (omega (arith, two), (omega arith, tt))
    | inr more ↦ elim (cases_lt c 65536) [
      | inl three ↦ rw (le-ltb c 128 le, le-ltb c 2048 more, lt-ltb c 65536 three) (omega (arith, three), (omega arith, (omega arith, tt)))
      | inr most ↦
          let below : c < 1114112 = elim (scalar_cases c s) [ inl low ↦ omega (arith, low) | inr high ↦ high.1 ] in
          rw (le-ltb c 128 le, le-ltb c 2048 more, le-ltb c 65536 most) (omega (arith, below), (omega arith, (omega arith, (omega arith, tt))))
    ]
  ]
]

spelled_small : (cs : List ℕ) → all_scalars cs ≡ true → AreSmall (encode_utf8_all cs)
spelled_small [] s = tt
spelled_small (c ∷ cs) s =
    let p = and_parts (scalar c) (all_scalars cs) s in
    both (encode_utf8 c) (encode_utf8_all cs) (encoded_small c p.0) (spelled_small cs p.1)

pub text_small : (t : List ℕ) → is_utf8 t ≡ true → AreSmall t
text_small t e = let u = IsUtf8-from_is_utf8 t e in subst AreSmall u.1.1 (spelled_small u.0 u.1.0)

word_small : (w : List ℕ) → is_word w ≡ true → AreSmall (length w ∷ w)
word_small w e = let few = (word_length w e).1 in (omega (arith, few), text_small w (and_parts (is_utf8 w) _ e).0)

words_small : (ws : List (List ℕ)) → AllByRecursion (λ w. is_word w ≡ true) ws → AreSmall (vocabulary_bytes ws)
unfolding vocabulary_bytes
words_small [] h = tt
words_small (w ∷ ws) h = both (length w ∷ w) (vocabulary_bytes ws) (word_small w h.0) (words_small ws h.1)

titles_small : (ts : List (List ℕ)) → AllByRecursion (λ t. is_utf8 t ≡ true) ts → AreSmall (title_bytes ts)
titles_small [] h = tt
titles_small (t ∷ ts) h = both t (title_bytes ts) (text_small t h.0) (titles_small ts h.1)

-- ---- blocks
code_small : (k n : ℕ) → n < 256 * 128 ^ k → AreSmall (code_in k n)
unfolding code_in
code_small zero n lt = (omega (arith, lt), tt)
code_small (suc k) n lt = elim (cases_lt n 128) [
  | inl last ↦ rw (lt-ltb n 128 last) (omega (arith, last), tt)
  | inr le ↦
      let more : 128 ^ suc k ≡ 128 ^ k * 128 = pow-suc 128 k in
      let rest : n / 128 < 256 * 128 ^ k = omega (arith, lt, more) in
      rw (le-ltb n 128 le) (omega arith, code_small k (n / 128) rest)
]

gaps_small : (lo before : ℕ) (rs : List Post) → HasSpelling lo before rs → AreSmall (gap_column before rs)
unfolding gap_column HasSpelling code
gaps_small lo before [] h = tt
gaps_small lo before (r ∷ rs) h =
    let few = h.0.gap in
    both (code (r.doc - before)) (gap_column r.doc rs) (code_small 4 (r.doc - before) (omega (arith, few))) (gaps_small lo r.doc rs h.1)

scores_small : (lo before : ℕ) (rs : List Post) → HasSpelling lo before rs → AreSmall (score_column rs)
unfolding score_column HasSpelling
scores_small lo before [] h = tt
scores_small lo before (r ∷ rs) h = (h.0.score, scores_small lo r.doc rs h.1)

shorts_small : (lo : ℕ) (rs : List Post) → AreSmall (word_column lo rs)
unfolding word_column
shorts_small lo [] = tt
shorts_small lo (r ∷ rs) = both (to_be_bytes w16 (r.word - lo)) (word_column lo rs) (short_small (r.word - lo)) (shorts_small lo rs)

places_small : (rs : List Post) → AreSmall (position_column rs)
unfolding position_column
places_small [] = tt
places_small (r ∷ rs) = both (number_bytes r.pos) (position_column rs) (number_small r.pos) (places_small rs)

pub block_small : (w : Weights) → AreWeights w → (h : BlockHead) (docs : ℕ) (rs : List Post) (bytes : List ℕ) → docs < 2 ^ 32 → IsBlock w h docs rs bytes
    → AreSmall (block_bytes rs h.lo)
unfolding block_bytes
block_small w are h docs rs bytes few b =
    let s : HasSpelling h.lo 0 rs = spelling_from w h docs rs (have_bytes w are) few b.writable.words b.meets.0 b.meets.1.1.0 b.meets.1.1.1.0 in
    let rest = both (position_column rs) (score_column rs) (places_small rs) (scores_small h.lo 0 rs s) in
    both (gap_column 0 rs) _ (gaps_small h.lo 0 rs s) (both (word_column h.lo rs) _ (shorts_small h.lo rs) rest)

-- ---- the file
entries_small : (two : Bool) (hs : List BlockHead) → AreSmall (directory_bytes two hs)
unfolding directory_bytes
entries_small two [] = tt
entries_small two (h ∷ hs) =
    let ns = h.lo ∷ h.words ∷ h.rows ∷ h.len ∷ (if two then h.least ∷ h.greatest ∷ [] else []) in
    both (entry_bytes two h) (directory_bytes two hs) (numbers_small ns) (entries_small two hs)

header_small : (h : Header) → AreSmall (header_bytes h)
unfolding header_bytes
header_small h = both (magic h.two) (flat_map number_bytes (header_numbers h)) (magic_small h.two) (numbers_small (header_numbers h))
  where
    magic_small : (two : Bool) → AreSmall (magic two)
    magic_small true = (omega arith, (omega arith, (omega arith, (omega arith, (omega arith, (omega arith, (omega arith, (omega arith, tt))))))))
    magic_small false = (omega arith, (omega arith, (omega arith, (omega arith, (omega arith, (omega arith, (omega arith, (omega arith, tt))))))))

pub file_small : (i : Image) → AllByRecursion (λ w. is_word w ≡ true) i.words → AllByRecursion (λ t. is_utf8 t ≡ true) i.titles
    → AllByRecursion (λ p. AreSmall (block_bytes p.1 p.0.lo)) (zip i.heads i.blocks) → All (λ x. x < 2 ^ 8) (file i)
unfolding file_in offset_bytes blocks_bytes
file_small i words titles blocks =
    let last = both (directory_bytes true i.heads) (blocks_bytes i.heads i.blocks) (entries_small true i.heads) (each (λ p. block_bytes p.1 p.0.lo) (zip i.heads i.blocks) blocks) in
    let texts = both (title_bytes i.titles) _ (titles_small i.titles titles) last in
    let offsets = both (offset_bytes i.titles) _ (numbers_small (offsets_from 0 i.titles)) texts in
    let behind = both (vocabulary_bytes i.words) _ (words_small i.words words) offsets in
    All-from_recursion (λ x. x < 2 ^ 8) (file i) (both (header_bytes (header_of_image true i)) _ (header_small (header_of_image true i)) behind)
