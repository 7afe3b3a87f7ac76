-- An image whose titles and blocks were read by an index can be written, and is read of its file again.
--
--   anywhere           items that keep a rule keep it wherever they lie
--   image_writable     the image keeps all rules
--   read_images        the law
use Rattle.std.proofs.Common.{◌≡◌, ℕ, zero, suc, ◌+◌, ◌*◌, ◌<◌, ◌≤◌, ◌^◌, Bool, true, List, [], ◌∷◌, length, get_or, Option, Some, None, refl, sym, ap, subst}
use Rattle.std.proofs.Common.{◌∙◌, arith, length-append}
use Rattle.std.specs.Prelude.{nat_lt}
use Rattle.std.specs.List.{AllByRecursion, list_all, slice_get, sum_by, zip}
use Rattle.std.specs.Option.{unwrap_or}
use Rattle.std.specs.Str.{is_utf8}
use Rattle.std.proofs.lemmas.Bool.{and_from, and_parts, eqb-true, ltb-true}
use Rattle.std.proofs.lemmas.List.Elements.{All-from_recursion, recursion_from_All}
use Rattle.std.proofs.lemmas.List.Sums.{sum_by-cons, sum_by_more_le}
use Rattle.cs_base.proofs.MembersLemmas.{all_then}
use Rattle.cs_base.specs.declared.index.block.BlockHead.{BlockHead}
use Rattle.cs_base.specs.declared.content.doc.Post.{Post}
use Rattle.cs_base.specs.declared.content.scores.Weights.{Weights}
use Rattle.cs_model_index.specs.BlockBounds.{HasBounds, doc_or_zero, greatest_of, least_of}
use Rattle.cs_model_index.specs.BlockRules.{IsBlock, keeps}
use Rattle.cs_model_index.specs.Blocks.{IsShaped, block_bytes}
use Rattle.cs_model_index.specs.FileRules.{Placed, is_bound, is_joined, is_of_one_kind, is_onward, is_parted, is_sized, is_word, laid, last_value, word_size}
use Rattle.cs_model_index.specs.Images.{Image}
use Rattle.cs_model_index.specs.Layout.{Header, blocks_bytes, directory_bytes, entry_size, header_of_image, offsets_from, title_bytes}
use Rattle.cs_model_index.specs.Sections.{bounds_in, directory_at, offsets_at, titles_at, vocabulary_at}
use Rattle.cs_model_index.specs.declared.limits.TheConstants.{ENTRY_BYTES, NUMBER_BYTES}
use Rattle.cs_model_index.proofs.AgainLemmas.{AreBlocks, HasLength, HeadFits, bounds_again, offsets_count}
use Rattle.cs_model_index.proofs.SectionLemmas.{unbroken}
use Rattle.cs_model_index.proofs.TextLimits.{offsets_end, offsets_within, placed, word_length, words_few, words_follow}
use Rattle.cs_model_index.proofs.WeightsFieldLemmas.{field_is}
use Rattle.cs_model_index.proofs.WrittenLemmas.{IsWritable, file_again}
use Rattle.cs_file.specs.Indexes.{IndexView, IsIndex, titles_end}
use Rattle.cs_file.specs.ImageRead.{ImageRead, ReadImagesAreFiles, read_image}
use Rattle.cs_file.specs.WholeImages.{IsFileImage, directory_place, entry_bytes_of, has_bounds}
use Rattle.cs_file.specs.Writable.{BlockFits, CanBeWritten}
use Rattle.cs_file.proofs.HeadsLemmas.{few_heads, head_shaped}
use Rattle.cs_file.proofs.ImageBytes.{AreSmall, block_small, file_small}
use Rattle.cs_file.proofs.HeaderWeightsLemmas.{one_reading}

-- ---- rules that don't ask where an item lies
pub anywhere : {X : Type 0} (holds : Placed X → Bool)
    → ((x : X) (last next : Option X) (at there : ℕ) → holds (record { value = x; last = last; next = next; at = at }) ≡ true → holds (record { value = x; last = last; next = next; at = there }) ≡ true)
    → (size other : X → ℕ) (at there : ℕ) (last : Option X) (xs : List X) → AllByRecursion (λ i. holds i ≡ true) (laid size at last xs) → AllByRecursion (λ i. holds i ≡ true) (laid other there last xs)
unfolding laid
anywhere holds same size other at there last [] h = tt
anywhere holds same size other at there last (x ∷ xs) h =
    (same x last (slice_get xs 0) at there h.0, anywhere holds same size other (at + size x) (there + other x) (Some x) xs h.1)

-- and each value keeps a rule that asks for the value alone
pub values_keep : {X : Type 0} (P : X → Type 0) (size : X → ℕ) (at : ℕ) (last : Option X) (xs : List X) → AllByRecursion (λ i. P i.value) (laid size at last xs) → AllByRecursion P xs
unfolding laid
values_keep P size at last [] h = tt
values_keep P size at last (x ∷ xs) h = (h.0, values_keep P size (at + size x) (Some x) xs h.1)

-- the test of all items
pub listed : {X : Type 0} (t : X → Bool) (xs : List X) → AllByRecursion (λ x. t x ≡ true) xs → list_all t xs ≡ true
listed t [] h = refl
listed t (x ∷ xs) h = and_from (t x) (list_all t xs) h.0 (listed t xs h.1)

recursion_of : {X : Type 0} (t : X → Bool) (xs : List X) → list_all t xs ≡ true → AllByRecursion (λ x. t x ≡ true) xs
recursion_of t [] e = tt
recursion_of t (x ∷ xs) e = let p = and_parts (t x) (list_all t xs) e in (p.0, recursion_of t xs p.1)

-- ---- a head and its rows
record Fits (w : Weights) (docs : ℕ) (h : BlockHead) (rs : List Post) : Type 0 where
  shaped : IsShaped h (length (block_bytes rs h.lo))
  block : IsBlock w h docs rs (block_bytes rs h.lo)
  bounds : HasBounds h rs

docs_of : (docs : ℕ) (last : Option Post) (rs : List Post) → keeps (λ last r. nat_lt r.doc docs) last rs ≡ true → AllByRecursion (λ p. p.doc < docs) rs
unfolding keeps
docs_of docs last [] e = tt
docs_of docs last (r ∷ rs) e =
    let p = and_parts (nat_lt r.doc docs) (keeps (λ last r. nat_lt r.doc docs) (Some r) rs) e in
    (ltb-true r.doc docs p.0, docs_of docs (Some r) rs p.1)

got_small : (n : ℕ) (rs : List Post) (k : ℕ) → 0 < n → AllByRecursion (λ p. p.doc < n) rs → doc_or_zero (slice_get rs k) < n
got_small n [] k some h = some
got_small n (r ∷ rs) zero some h = h.0
got_small n (r ∷ rs) (suc k) some h = got_small n rs k some h.1

-- its bounds have room
bounds_small : (w : Weights) (docs : ℕ) (h : BlockHead) (rs : List Post) → docs < 2 ^ 32 → Fits w docs h rs → (h.least < 2 ^ 32) × (h.greatest < 2 ^ 32)
unfolding least_of greatest_of
bounds_small w docs h rs few f =
    let known = all_then (λ p. p.doc < docs) (λ p. p.doc < 2 ^ 32) (λ p lt. omega (arith, lt, few)) rs (docs_of docs None rs f.block.meets.0) in
    let small = λ (k : ℕ). got_small (2 ^ 32) rs k (omega arith) known in
    (subst (λ n. n < 2 ^ 32) (sym f.bounds.least) (small 0), subst (λ n. n < 2 ^ 32) (sym f.bounds.greatest) (small _))

-- ---- all heads and their rows
abbrev Each : Weights → ℕ → List BlockHead → List (List Post) → Type 0
Each w docs hs rss = AllByRecursion (λ p. Fits w docs p.0 p.1) (zip hs rss)

module _ (w : Weights) (docs : ℕ) where
  are_blocks : (hs : List BlockHead) (rss : List (List Post)) → length rss ≡ length hs → Each w docs hs rss → AreBlocks w docs hs rss
  unfolding AreBlocks
  are_blocks [] [] one each = tt
  are_blocks [] (rs ∷ rss) one each = absurd (omega (arith, one))
  are_blocks (h ∷ hs) [] one each = absurd (omega (arith, one))
  are_blocks (h ∷ hs) (rs ∷ rss) one each =
      (each.0.shaped, (each.0.block, each.0.bounds), are_blocks hs rss (omega (arith, one)) each.1)

  rows_sum : (hs : List BlockHead) (rss : List (List Post)) → length rss ≡ length hs → Each w docs hs rss
      → sum_by (λ h. h.rows) hs ≡ sum_by (λ block. length block) rss
  rows_sum [] [] one each = refl
  rows_sum [] (rs ∷ rss) one each = absurd (omega (arith, one))
  rows_sum (h ∷ hs) [] one each = absurd (omega (arith, one))
  rows_sum (h ∷ hs) (rs ∷ rss) one each =
      let here = each.0.block.count in
      let rest = rows_sum hs rss (omega (arith, one)) each.1 in
      sum_by-cons (λ (h : BlockHead). h.rows) h hs ∙ omega (arith, here, rest) ∙ sym (sum_by-cons (λ (b : List Post). length b) rs rss)

  bytes_sum : (hs : List BlockHead) (rss : List (List Post)) → length rss ≡ length hs → Each w docs hs rss
      → sum_by (λ h. h.len) hs ≡ length (blocks_bytes hs rss)
  unfolding blocks_bytes
  bytes_sum [] [] one each = refl
  bytes_sum [] (rs ∷ rss) one each = absurd (omega (arith, one))
  bytes_sum (h ∷ hs) [] one each = absurd (omega (arith, one))
  bytes_sum (h ∷ hs) (rs ∷ rss) one each =
      let here = each.0.shaped.size_is in
      let rest = bytes_sum hs rss (omega (arith, one)) each.1 in
      sum_by-cons (λ (h : BlockHead). h.len) h hs ∙ omega (arith, here, rest, length-append (block_bytes rs h.lo) (blocks_bytes hs rss))

  all_bounds_small : docs < 2 ^ 32 → (hs : List BlockHead) (rss : List (List Post)) → length rss ≡ length hs → Each w docs hs rss
      → AllByRecursion (λ h. (h.least < 2 ^ 32) × (h.greatest < 2 ^ 32)) hs
  all_bounds_small few [] [] one each = tt
  all_bounds_small few [] (rs ∷ rss) one each = absurd (omega (arith, one))
  all_bounds_small few (h ∷ hs) [] one each = absurd (omega (arith, one))
  all_bounds_small few (h ∷ hs) (rs ∷ rss) one each =
      (bounds_small w docs h rs few each.0, all_bounds_small few hs rss (omega (arith, one)) each.1)

few_bytes_by : (hs : List BlockHead) → AllByRecursion (λ h. h.len ≤ 12 * h.rows) hs → sum_by (λ h. h.len) hs ≤ 12 * sum_by (λ h. h.rows) hs
few_bytes_by [] e = omega arith
few_bytes_by (h ∷ hs) e =
    let rest = few_bytes_by hs e.1 in
    omega (arith, rest, e.0, sum_by-cons (λ (h : BlockHead). h.len) h hs, sum_by-cons (λ (h : BlockHead). h.rows) h hs)

-- each head and its rows, where they are given one by one
pub zipped : {X Y : Type 0} (P : X → Y → Type 0) (e : Y) (xs : List X) (ys : List Y) → length ys ≡ length xs
    → ((k : ℕ) (d : X) → k < length xs → P (get_or xs k d) (get_or ys k e)) → AllByRecursion (λ p. P p.0 p.1) (zip xs ys)
zipped P e [] [] one f = tt
zipped P e [] (y ∷ ys) one f = absurd (omega (arith, one))
zipped P e (x ∷ xs) [] one f = absurd (omega (arith, one))
zipped P e (x ∷ xs) (y ∷ ys) one f = (f 0 x (omega arith), zipped P e xs ys (omega (arith, one)) (λ k d lt. f (suc k) d (omega (arith, lt))))

both_of : {X : Type 0} (P Q R : X → Type 0) → ((x : X) → P x → Q x → R x) → (xs : List X) → AllByRecursion P xs → AllByRecursion Q xs → AllByRecursion R xs
both_of P Q R f [] p q = tt
both_of P Q R f (x ∷ xs) p q = (f x p.0 q.0, both_of P Q R f xs p.1 q.1)

module _ (i : IndexView) (is : IsIndex i) (told : Option (List ℕ)) (titles : List (List ℕ)) (blocks : List (List Post)) (r : ImageRead i told titles blocks) where
  abbrev image : Image
  image = read_image i titles blocks

  abbrev h : Header
  h = header_of_image true image

  few : i.docs < 2 ^ 32
  few = let most = is.few_docs in omega (arith, most)

  bounded : AllByRecursion (λ p. has_bounds p ≡ true) (zip i.heads blocks)
  bounded =
      let items = unbroken (λ p. has_bounds p.value) (laid (λ p. entry_bytes_of i) (directory_place i) None (zip i.heads blocks)) r.bounds in
      values_keep (λ p. has_bounds p ≡ true) (λ p. entry_bytes_of i) (directory_place i) None (zip i.heads blocks) items

  shaped_blocks : AllByRecursion (λ p. IsShaped p.0 (length (block_bytes p.1 p.0.lo)) × IsBlock i.weights p.0 i.docs p.1 (block_bytes p.1 p.0.lo)) (zip i.heads blocks)
  shaped_blocks = zipped (λ h rs. IsShaped h (length (block_bytes rs h.lo)) × IsBlock i.weights h i.docs rs (block_bytes rs h.lo)) [] i.heads blocks r.count (λ k d lt.
      let b = r.blocks_are k lt in
      let h = get_or i.heads k d in
      let written = (b.block d).written in (
        subst (λ (x : List ℕ). IsShaped h (length x)) written (b.shaped d),
        subst (IsBlock i.weights h i.docs (get_or blocks k [])) written (b.block d),
      ))

  each : Each i.weights i.docs i.heads blocks
  each = both_of (λ p. IsShaped p.0 (length (block_bytes p.1 p.0.lo)) × IsBlock i.weights p.0 i.docs p.1 (block_bytes p.1 p.0.lo))
      (λ p. has_bounds p ≡ true) (λ p. Fits i.weights i.docs p.0 p.1)
      (λ p f b. let q = and_parts _ _ b in record { shaped = f.0; block = f.1; bounds = record { least = eqb-true _ _ q.0; greatest = eqb-true _ _ q.1 } })
      (zip i.heads blocks) shaped_blocks bounded

  docs_are : length titles ≡ i.docs
  docs_are = let a = offsets_count 0 titles in let b = ap length r.titles_are in let c = is.offsets in omega (arith, a, b, c)

  bytes_are : length (title_bytes titles) ≡ titles_end i
  bytes_are = sym (offsets_end titles) ∙ ap (λ (os : List ℕ). unwrap_or (last_value os) 0) r.titles_are

  words : AllByRecursion (λ w. is_word w ≡ true) i.words
  words = recursion_from_All (λ w. is_word w ≡ true) i.words is.words

  texts : AllByRecursion (λ t. is_utf8 t ≡ true) titles
  texts = recursion_from_All (λ t. is_utf8 t ≡ true) titles r.texts

  lengths : AllByRecursion HasLength i.words
  lengths = all_then (λ w. is_word w ≡ true) HasLength word_length i.words words

  lens : AllByRecursion (λ h. h.len ≤ 12 * h.rows) i.heads
  lens = recursion_from_All (λ h. h.len ≤ 12 * h.rows) i.heads (λ k d lt. (head_shaped i is k d lt).most)

  few_lens : sum_by (λ h. h.len) i.heads < 2 ^ 32
  few_lens = let a = few_bytes_by i.heads lens in let b = is.few_rows in omega (arith, a, b)

  one_len : (k : ℕ) (d : BlockHead) → k < length i.heads → (get_or i.heads k d).len < 2 ^ 32
  one_len k d lt = let a = sum_by_more_le (λ (h : BlockHead). h.len) i.heads k d lt in let b = few_lens in omega (arith, a, b)

  heads_fit : AllByRecursion (HeadFits i.words) i.heads
  heads_fit =
      let bounds = All-from_recursion (λ h. (h.least < 2 ^ 32) × (h.greatest < 2 ^ 32)) i.heads (all_bounds_small i.weights i.docs few i.heads blocks r.count each) in
      recursion_from_All (HeadFits i.words) i.heads (λ k d lt.
      let shaped = head_shaped i is k d lt in
      let to = shaped.words in
      let rows = shaped.rows in
      let least = shaped.least in
      let len = one_len k d lt in
      record {
        lo = omega (arith, to);
        words = omega (arith, to);
        rows = omega (arith, least, len);
        len = len;
        least = (bounds k d lt).0;
        greatest = (bounds k d lt).1;
        facet = is.facets k d lt;
      })

  pub image_writable : IsWritable true image
  unfolding entry_size
  image_writable =
      let all = few_lens in
      let sum = bytes_sum i.weights i.docs i.heads blocks r.count each in
      let rows = rows_sum i.weights i.docs i.heads blocks r.count each in
      record {
        weights = is.weights;
        room = record {
          vocabulary = (let most = is.few_words in omega (arith, words_few i.words lengths, most));
          titles = (let most = r.few_bytes in omega (arith, most, bytes_are));
          blocks = omega (arith, sum, all);
        };
        lengths = lengths;
        offsets = all_then (λ n. n ≤ length (title_bytes titles)) (λ n. n < 2 ^ 32) (λ n l. let most = r.few_bytes in omega (arith, l, most, bytes_are)) _
            (offsets_within (length (title_bytes titles)) 0 titles (omega arith));
        heads = heads_fit;
        one_each = sym r.count;
        blocks = subst (λ n. AreBlocks i.weights n i.heads blocks) (sym docs_are) (are_blocks i.weights i.docs i.heads blocks r.count each);
        values = record {
          fields = record {
            docs = (let most = is.few_docs in omega (arith, most, docs_are));
            words = is.few_words;
            rows = (let most = is.few_rows in omega (arith, most, rows));
            blocks = (let most = few_heads i is in let one = r.count in omega (arith, most, one));
            target_from = is.target_from;
            target_to = is.target_to;
            weights = field_is i.weights is.weights;
          };
          words = placed (λ w. is_word w ≡ true) word_size vocabulary_at None i.words words;
          ascend = words_follow word_size vocabulary_at i.words is.ascending;
          onward = anywhere (λ p. is_onward p.last p.value) (λ x last next at there e. e) (λ o. NUMBER_BYTES) (λ o. NUMBER_BYTES) 0 (offsets_at h) None (offsets_from 0 titles)
              (subst (λ (os : List ℕ). AllByRecursion (λ p. is_onward p.last p.value ≡ true) (laid (λ o. NUMBER_BYTES) 0 None os)) (sym r.titles_are)
              (recursion_of (λ p. is_onward p.last p.value) (laid (λ o. NUMBER_BYTES) 0 None i.offsets) is.onward));
          last_offset = offsets_end titles;
          texts = placed (λ t. is_utf8 t ≡ true) (λ t. length t) (titles_at h) None titles texts;
          joined = anywhere (λ p. is_joined p.last p.value) (λ x last next at there e. e) (λ h. ENTRY_BYTES) (λ h. entry_size true) 0 (directory_at h) None i.heads
              (recursion_of (λ p. is_joined p.last p.value) (laid (λ h. ENTRY_BYTES) 0 None i.heads) is.joined);
          end = is.end;
          kinds = placed (λ h. is_of_one_kind i.words h ≡ true) (λ h. entry_size true) (directory_at h) None i.heads (recursion_of (is_of_one_kind i.words) i.heads is.kinds);
          sized = placed (λ h. is_sized h ≡ true) (λ h. entry_size true) (directory_at h) None i.heads (recursion_of is_sized i.heads is.sized);
          rows_sum = rows;
          bytes_sum = sum;
          parted = anywhere (is_parted i.target i.words) (λ x last next at there e. e) (λ p. entry_bytes_of i) (λ p. entry_size true) (directory_place i) (directory_at h) None (zip i.heads blocks)
              (unbroken (is_parted i.target i.words) (laid (λ p. entry_bytes_of i) (directory_place i) None (zip i.heads blocks)) r.parted);
          bounds = λ two. subst (λ n. AllByRecursion (λ p. is_bound p.value ≡ true)
              (laid (λ p. 24) (directory_at h) None (zip i.heads (bounds_in 24 n (directory_bytes true i.heads)))))
              (sym r.count) (bounds_again i.words i.heads (directory_at h) None heads_fit);
        };
      }

  pub image_fits : CanBeWritten image
  image_fits =
      let all = few_lens in
      let sum = bytes_sum i.weights i.docs i.heads blocks r.count each in
      let rows = rows_sum i.weights i.docs i.heads blocks r.count each in
      record {
        few_docs = (let most = is.few_docs in omega (arith, most, docs_are));
        few_bytes = (let most = r.few_bytes in omega (arith, most, bytes_are));
        few_words = is.few_words;
        few_blocks = (let most = few_heads i is in let one = r.count in omega (arith, most, one));
        one_each = sym r.count;
        few_rows = (let most = is.few_rows in omega (arith, most, rows));
        few_block_bytes = omega (arith, sum, all);
        blocks = All-from_recursion BlockFits (zip i.heads blocks)
            (all_then (λ p. Fits i.weights i.docs p.0 p.1) BlockFits (λ p f. record { writable = f.block.writable; len = sym f.shaped.size_is }) (zip i.heads blocks) each);
        target = is.target_to;
      }

  pub image_file : IsFileImage image
  image_file =
      let again = file_again one_reading true image image_writable in
      record {
        bytes = file_small image words texts
            (all_then (λ p. Fits i.weights i.docs p.0 p.1) (λ p. AreSmall (block_bytes p.1 p.0.lo)) (λ p f. block_small i.weights is.weights p.0 i.docs p.1 _ few f.block) (zip i.heads blocks) each);
        accepted = again.0;
        read = again.1;
      }

pub read_images : ReadImagesAreFiles
read_images i told titles blocks is r = (image_file i is told titles blocks r, image_fits i is told titles blocks r)
