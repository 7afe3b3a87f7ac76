-- Titles and blocks that an index reads one after the other, against all that is read of the same bytes.
--
--   titles_first, titles_next                    the first titles
--   blocks_first, blocks_next                    the first blocks
--   titles_again                                 all titles have the index's lengths
--   image_read                                   titles, blocks and the rules behind them make an image
--   filled_read                                  blocks that were read are filled
--   title_changed, block_changed, parts_changed  the first broken rule of the image, wherever it is found
--   image_exact                                  and the image that is read, where none is broken
--   reads_along                                  a fault that is passed on
--   reads_stood                                  over bytes that stand for the index that is theirs
use Rattle.std.proofs.Common.{◌≡◌, ℕ, zero, suc, ◌+◌, ◌<◌, ◌≤◌, ◌^◌, true, false, List, [], ◌∷◌, ◌++◌, length, get_or, take, drop, Option, Some, None, refl, sym, ap, subst, ◌∙◌}
use Rattle.std.proofs.Common.{Result, Ok, Err, arith, inl, inr, add-one, length-append, length-take, length-drop, drop-drop}
use Rattle.std.specs.Prelude.{All, IfOk, IsErrAnd}
use Rattle.std.specs.List.{zip}
use Rattle.std.specs.Option.{ForSome, option_map, option_or}
use Rattle.std.specs.Str.{is_utf8}
use Rattle.std.proofs.lemmas.Bool.{cases_lt}
use Rattle.std.proofs.lemmas.List.{get_or-append-add, get_or_append_left, get_or_default, same_lists}
use Rattle.std.proofs.lemmas.List.Elements.{All-from_get_or, All-from_recursion}
use Rattle.std.proofs.lemmas.List.Sums.{sum_by-cons, sum_by_more_le}
use Rattle.std.proofs.lemmas.Option.{none-some}
use Rattle.cs_base.specs.outside.Outside.{part}
use Rattle.cs_base.specs.declared.index.block.BlockHead.{BlockHead}
use Rattle.cs_base.specs.declared.index.block.Broken.{Broken}
use Rattle.cs_base.specs.declared.content.doc.Post.{Post}
use Rattle.cs_base.specs.declared.content.scores.Weights.{Weights}
use Rattle.cs_model.specs.First.{first_reason}
use Rattle.cs_model_index.specs.BlockRules.{broken_at, judged, rows_read}
use Rattle.cs_model_index.specs.FileRules.{blocks_break, break_of, in_file, is_parted, laid, tried}
use Rattle.cs_model_index.specs.Images.{Image}
use Rattle.cs_model_index.specs.Layout.{offsets_from}
use Rattle.cs_model_index.specs.Sections.{blocks_in, image_of, title_between, titles_in}
use Rattle.cs_file.specs.CallAnswers.{IsBlockOf, IsChangeOfBlock, IsChangeOfTitle, is_changed}
use Rattle.cs_file.specs.ImageRead.{ImageRead, IsTitleOf, read_image}
use Rattle.cs_file.specs.ImageSteps.{AreBlocksRead, AreTitlesRead, IsFilled, parts_break}
use Rattle.cs_file.specs.Indexes.{HasAllBlocks, IndexView, IsIndex, StandsFor, block_place, title_len, title_place, titles_end}
use Rattle.cs_file.specs.WholeImages.{IsChangeBy, ReadsImage, directory_place, entry_bytes_of, has_bounds, image_at, image_break}
use Rattle.cs_file.specs.declared.fault.FetchFault.{FetchFault}
use Rattle.cs_file.specs.declared.fault.FetchFault.TheVariants as fetches
use Rattle.cs_file.proofs.FetchLemmas.{nothing, title_within}
use Rattle.cs_file.proofs.ImageStood.{stood_images}
use Rattle.cs_file.proofs.ImageWritten.{zipped}
use Rattle.cs_file.proofs.LaidLemmas.{Rest, rest_broken, rest_end, rest_on, rest_start}
use Rattle.cs_file.proofs.OffsetsLemmas.{onward_zero, spans, title_at_index}
use Rattle.cs_file.proofs.PostsLemmas.{block_words}
use Rattle.cs_file.proofs.StagesLemmas.{tried_none}
use Rattle.cs_file.proofs.StoodLemmas.{block_from}
use Rattle.cs_file.proofs.TitlesLemmas.{titles_count}
use Rattle.cs_file.proofs.VocabularyLemmas.{two_none}
use Rattle.cs_file.proofs.HeaderWeightsLemmas.{one_reading}

-- ---- one by one
one_more : {X : Type 0} (P : ℕ → X → Type 0) (xs : List X) (x d : X) (n : ℕ) → length xs ≡ n → ((j : ℕ) → j < n → P j (get_or xs j d)) → P n x
    → (j : ℕ) → j < n + 1 → P j (get_or (xs ++ x ∷ []) j d)
one_more P xs x d n count each here j lt = elim (cases_lt j n) [
  | inl before ↦ subst (P j) (sym (get_or_append_left xs (x ∷ []) d j (omega (arith, before, count)))) (each j before)
  | inr le ↦
      let at : length xs + 0 ≡ j = omega (arith, le, lt, count) in
      let same : n ≡ j = omega (arith, le, lt) in
      let got : get_or (xs ++ x ∷ []) j d ≡ x = ap (λ (k : ℕ). get_or (xs ++ x ∷ []) k d) (sym at) ∙ get_or-append-add xs (x ∷ []) 0 d in
      subst (P j) (sym got) (subst (λ (k : ℕ). P k x) same here)
]

longer : {X : Type 0} (xs : List X) (x : X) (n : ℕ) → length xs ≡ n → length (xs ++ x ∷ []) ≡ n + 1
longer xs x n count = omega (arith, count, length-append xs (x ∷ []))

pub titles_first : (i : IndexView) (told : Option (List ℕ)) → AreTitlesRead i told [] 0
titles_first i told = record { count = refl; each = λ j lt. absurd (omega (arith, lt)) }

pub titles_next : {i : IndexView} {told : Option (List ℕ)} {titles : List (List ℕ)} {d : ℕ} {text : List ℕ} → AreTitlesRead i told titles d → IsTitleOf i told d text
    → AreTitlesRead i told (titles ++ text ∷ []) (d + 1)
titles_next {i} {told} {titles} {d} {text} h t = record {
  count = longer titles text d h.count;
  each = one_more (IsTitleOf i told) titles text [] d h.count h.each t;
}

pub blocks_first : (i : IndexView) (told : Option (List ℕ)) → AreBlocksRead i told [] 0
blocks_first i told = record { count = refl; each = λ j lt. absurd (omega (arith, lt)) }

pub blocks_next : {i : IndexView} {told : Option (List ℕ)} {blocks : List (List Post)} {k : ℕ} {rows : List Post} → AreBlocksRead i told blocks k → IsBlockOf i told k rows
    → AreBlocksRead i told (blocks ++ rows ∷ []) (k + 1)
blocks_next {i} {told} {blocks} {k} {rows} h b = record {
  count = longer blocks rows k h.count;
  each = one_more (IsBlockOf i told) blocks rows [] k h.count h.each b;
}

-- ---- offsets and titles
offsets_on : (o : ℕ) (os : List ℕ) (ts : List (List ℕ)) → length os ≡ length ts
    → ((j : ℕ) → j < length ts → get_or (o ∷ os) j 0 + length (get_or ts j []) ≡ get_or (o ∷ os) (suc j) 0) → offsets_from o ts ≡ o ∷ os
unfolding offsets_from
offsets_on o [] [] one f = refl
offsets_on o [] (t ∷ ts) one f = absurd (omega (arith, one))
offsets_on o (p ∷ os) [] one f = absurd (omega (arith, one))
offsets_on o (p ∷ os) (t ∷ ts) one f =
    let here : o + length t ≡ p = f 0 (omega arith) in
    ap (λ (n : ℕ). o ∷ offsets_from n ts) here
    ∙ ap (λ (l : List ℕ). o ∷ l) (offsets_on p os ts (omega (arith, one)) (λ j lt. f (suc j) (omega (arith, lt))))

offsets_again : (os : List ℕ) (ts : List (List ℕ)) → length os ≡ length ts + 1 → get_or os 0 0 ≡ 0
    → ((j : ℕ) → j < length ts → get_or os j 0 + length (get_or ts j []) ≡ get_or os (suc j) 0) → offsets_from 0 ts ≡ os
offsets_again [] ts one zero_first f = absurd (omega (arith, one))
offsets_again (o ∷ os) ts one zero_first f = ap (λ (n : ℕ). offsets_from n ts) (sym zero_first) ∙ offsets_on o os ts (omega (arith, one)) f

-- where the next title begins
place_next : {i : IndexView} → IsIndex i → (d : ℕ) → d < i.docs → title_place i d + title_len i d ≡ title_place i (d + 1)
place_next {i} is d lt = let up = (spans i is d lt).onward in omega (arith, up)

module _ {i : IndexView} (is : IsIndex i) {told : Option (List ℕ)} where
  pub titles_again : {titles : List (List ℕ)} → AreTitlesRead i told titles i.docs → offsets_from 0 titles ≡ i.offsets
  titles_again {titles} h =
      let many = is.offsets in
      let count = h.count in
      offsets_again i.offsets titles (omega (arith, many, count)) (onward_zero 0 i.offsets is.onward (omega (arith, many))) (λ j lt.
      let known : j < i.docs = omega (arith, lt, count) in
      let len = (h.each j known).len in
      let up = (spans i is j known).onward in
      let one : get_or i.offsets (j + 1) 0 ≡ get_or i.offsets (suc j) 0 = ap (λ (n : ℕ). get_or i.offsets n 0) (add-one j) in
      omega (arith, len, up, one))

  pub titles_utf8 : {titles : List (List ℕ)} {d : ℕ} → AreTitlesRead i told titles d → All (λ t. is_utf8 t ≡ true) titles
  titles_utf8 {titles} {d} h = All-from_get_or (λ t. is_utf8 t ≡ true) titles [] (λ j lt. let count = h.count in (h.each j (omega (arith, lt, count))).utf8)

  pub image_read : {titles : List (List ℕ)} {blocks : List (List Post)} → AreTitlesRead i told titles i.docs → AreBlocksRead i told blocks (length i.heads)
      → titles_end i < 2 ^ 32 → parts_break i blocks ≡ None → ImageRead i told titles blocks
  unfolding parts_break
  image_read titles blocks few none =
      let p = two_none _ _ none in
      record {
        titles_are = titles_again titles;
        few_bytes = few;
        texts = titles_utf8 titles;
        count = blocks.count;
        blocks_are = blocks.each;
        parted = tried_none 18 _ p.0;
        bounds = tried_none 19 _ p.1;
      }

  -- rows are few, with words of their head
  pub filled_read : {blocks : List (List Post)} → AreBlocksRead i told blocks (length i.heads) → All IsFilled (zip i.heads blocks)
  filled_read {blocks} h = All-from_recursion IsFilled (zip i.heads blocks) (zipped (λ head rows. IsFilled (head, rows)) [] i.heads blocks h.count (λ k d lt.
      let r = h.each k lt in
      let block = r.block d in
      let one = sum_by_more_le (λ (x : BlockHead). x.rows) i.heads k d lt in
      let all = is.few_rows in
      record { count = block.count; few = omega (arith, one, all); words = block_words (get_or i.heads k d) i.docs (get_or blocks k []) r.bytes block }))

-- ---- titles that are read of bytes
abbrev utf8s : ℕ → List (List ℕ) → Option ℕ
utf8s at ts = break_of (λ t. is_utf8 t.value) (laid (λ t. length t) at None ts)

module _ {i : IndexView} (is : IsIndex i) (b : List ℕ) (fits : block_place i (length i.heads) ≤ length b) where
  abbrev ts : List (List ℕ)
  ts = titles_in i.offsets (drop i.titles_at b)

  ts_count : length ts ≡ i.docs
  ts_count = let many = is.offsets in omega (arith, many, titles_count i.offsets (drop i.titles_at b))

  title_there : (d : ℕ) → d < i.docs → get_or ts d [] ≡ part b (title_place i d) (title_len i d)
  title_there d lt =
      let known = (spans i is d lt).known in
      title_at_index i.offsets (drop i.titles_at b) d known
      ∙ ap (λ (n : ℕ). title_between (drop i.titles_at b) (get_or i.offsets d 0, get_or i.offsets n 0)) (sym (add-one d))
      ∙ ap (take (title_len i d)) (drop-drop (get_or i.offsets d 0) i.titles_at b)

  title_long : (d : ℕ) → d < i.docs → length (get_or ts d []) ≡ title_len i d
  title_long d lt =
      let within = title_within i is d lt in
      ap length (title_there d lt) ∙ omega (arith, within, fits, length-take (title_len i d) (drop (title_place i d) b), length-drop (title_place i d) b)

  texts_rest : (d : ℕ) → d ≤ i.docs → ((j : ℕ) → j < d → is_utf8 (get_or ts j []) ≡ true) → Rest (λ t. is_utf8 t.value) (λ t. length t) i.titles_at ts d (title_place i d)
  texts_rest zero le utf8 =
      let many = is.offsets in
      let first = onward_zero 0 i.offsets is.onward (omega (arith, many)) in
      let at : i.titles_at ≡ title_place i 0 = omega (arith, first) in
      subst (Rest (λ t. is_utf8 t.value) (λ t. length t) i.titles_at ts 0) at (rest_start (λ t. is_utf8 t.value) (λ t. length t) i.titles_at ts)
  texts_rest (suc d) le utf8 =
      let lt : d < i.docs = omega (arith, le) in
      let count = ts_count in
      let inside : d < length ts = omega (arith, lt, count) in
      let before = texts_rest d (omega (arith, le)) (λ j less. utf8 j (omega (arith, less))) in
      let next = place_next is d lt in
      let long = title_long d lt in
      subst (λ (n : ℕ). Rest (λ t. is_utf8 t.value) (λ t. length t) i.titles_at ts n (title_place i n)) (add-one d)
      (rest_on (λ t. is_utf8 t.value) (λ t. length t) i.titles_at ts d (title_place i d) (title_place i (d + 1)) (get_or ts d []) inside
      (get_or_default ts d [] (get_or ts d []) inside) (omega (arith, next, long)) (utf8 d (omega arith)) before)

  texts_broken : (d : ℕ) → d < i.docs → ((j : ℕ) → j < d → is_utf8 (get_or ts j []) ≡ true) → is_utf8 (get_or ts d []) ≡ false → utf8s i.titles_at ts ≡ Some (title_place i d)
  texts_broken d lt utf8 broken =
      let count = ts_count in
      let inside : d < length ts = omega (arith, lt, count) in
      sym (rest_broken (λ t. is_utf8 t.value) (λ t. length t) i.titles_at ts d (title_place i d) (get_or ts d []) inside
      (get_or_default ts d [] (get_or ts d []) inside) broken (texts_rest d (omega (arith, lt)) utf8))

  texts_fine : ((j : ℕ) → j < i.docs → is_utf8 (get_or ts j []) ≡ true) → utf8s i.titles_at ts ≡ None
  texts_fine utf8 =
      let count = ts_count in
      sym (rest_end (λ t. is_utf8 t.value) (λ t. length t) i.titles_at ts i.docs (title_place i i.docs) (omega (arith, count)) (texts_rest i.docs (omega arith) utf8))

-- ---- blocks that are read of bytes
abbrev block_in : List BlockHead → List ℕ → ℕ → List ℕ
block_in hs bytes j = take (get_or hs j nothing).len (drop (block_from hs j) bytes)

block_in_next : (h : BlockHead) (hs : List BlockHead) (bytes : List ℕ) (j : ℕ) → block_in (h ∷ hs) bytes (suc j) ≡ block_in hs (drop h.len bytes) j
block_in_next h hs bytes j =
    ap (λ (n : ℕ). take (get_or hs j nothing).len (drop n bytes)) (sum_by-cons (λ (h : BlockHead). h.len) h (take j hs))
    ∙ ap (take (get_or hs j nothing).len) (sym (drop-drop (block_from hs j) h.len bytes))

none_next : (at : ℕ) (o p : Option Broken) → o ≡ None → p ≡ None → option_or (option_map (in_file at) o) p ≡ None
none_next at o p a e = rw (a, e) refl

some_next : (at : ℕ) (o p : Option Broken) (x : Broken) → o ≡ None → p ≡ Some x → option_or (option_map (in_file at) o) p ≡ Some x
some_next at o p x a e = rw (a, e) refl

module _ (w : Weights) (docs : ℕ) where
  all_judged : (at : ℕ) (hs : List BlockHead) (bytes : List ℕ) (rss : List (List Post)) → length rss ≡ length hs
      → ((j : ℕ) → j < length hs → (judged w (get_or hs j nothing) docs (block_in hs bytes j) ≡ None) × (rows_read (get_or hs j nothing) (block_in hs bytes j) ≡ get_or rss j []))
      → (blocks_break w docs at hs bytes ≡ None) × (rss ≡ blocks_in hs bytes)
  unfolding blocks_break blocks_in
  all_judged at [] bytes [] one f = (refl, refl)
  all_judged at [] bytes (rs ∷ rss) one f = absurd (omega (arith, one))
  all_judged at (h ∷ hs) bytes [] one f = absurd (omega (arith, one))
  all_judged at (h ∷ hs) bytes (rs ∷ rss) one f =
      let here = f 0 (omega arith) in
      let rest = all_judged (at + h.len) hs (drop h.len bytes) rss (omega (arith, one)) (λ j lt.
      let there = f (suc j) (omega (arith, lt)) in
      let same = sym (block_in_next h hs bytes j) in
      (ap (judged w (get_or hs j nothing) docs) same ∙ there.0, ap (rows_read (get_or hs j nothing)) same ∙ there.1)) in (
        none_next at (judged w h docs (take h.len bytes)) (blocks_break w docs (at + h.len) hs (drop h.len bytes)) here.0 rest.0,
        ap (λ (l : List (List Post)). rs ∷ l) rest.1 ∙ ap (λ (x : List Post). x ∷ blocks_in hs (drop h.len bytes)) (sym here.1),
      )

  first_judged : (at : ℕ) (hs : List BlockHead) (bytes : List ℕ) (k : ℕ) (x : Broken) → k < length hs
      → ((j : ℕ) → j < k → judged w (get_or hs j nothing) docs (block_in hs bytes j) ≡ None)
      → option_map (in_file (at + block_from hs k)) (judged w (get_or hs k nothing) docs (block_in hs bytes k)) ≡ Some x → blocks_break w docs at hs bytes ≡ Some x
  unfolding blocks_break
  first_judged at [] bytes k x lt f e = absurd (omega (arith, lt))
  first_judged at (h ∷ hs) bytes zero x lt f e =
      let here : at ≡ at + 0 = omega arith in
      ap (λ (o : Option Broken). option_or o (blocks_break w docs (at + h.len) hs (drop h.len bytes)))
      (ap (λ (n : ℕ). option_map (in_file n) (judged w h docs (take h.len bytes))) here ∙ e)
  first_judged at (h ∷ hs) bytes (suc k) x lt f e =
      let there : at + h.len + block_from hs k ≡ at + block_from (h ∷ hs) (suc k) = omega (arith, sum_by-cons (λ (h : BlockHead). h.len) h (take k hs)) in
      let rest = first_judged (at + h.len) hs (drop h.len bytes) k x (omega (arith, lt))
      (λ j less. ap (judged w (get_or hs j nothing) docs) (sym (block_in_next h hs bytes j)) ∙ f (suc j) (omega (arith, less)))
      (ap (λ (n : ℕ). option_map (in_file n) (judged w (get_or hs k nothing) docs (block_in hs (drop h.len bytes) k))) there
      ∙ ap (λ (l : List ℕ). option_map (in_file (at + block_from (h ∷ hs) (suc k))) (judged w (get_or hs k nothing) docs l)) (sym (block_in_next h hs bytes k)) ∙ e) in
      some_next at (judged w h docs (take h.len bytes)) (blocks_break w docs (at + h.len) hs (drop h.len bytes)) x (f 0 (omega arith)) rest

-- ---- the image
first_of : (o p q s : Option Broken) (x : Broken) → o ≡ Some x → first_reason (o ∷ p ∷ q ∷ s ∷ []) ≡ Some x
first_of o p q s x e = rw e refl

second_of : (o p q s : Option Broken) (x : Broken) → o ≡ None → p ≡ Some x → first_reason (o ∷ p ∷ q ∷ s ∷ []) ≡ Some x
second_of o p q s x a e = rw (a, e) refl

two_left : (o p q s : Option Broken) → o ≡ None → p ≡ None → first_reason (o ∷ p ∷ q ∷ s ∷ []) ≡ first_reason (q ∷ s ∷ [])
two_left o p q s a c = rw (a, c) refl

same_image : (i : IndexView) (ts ts' : List (List ℕ)) (bs bs' : List (List Post)) → ts ≡ ts' → bs ≡ bs' → read_image i ts bs ≡ read_image i ts' bs'
same_image i ts ts' bs bs' p q = rw (p, q) refl

-- the image of what was read, with what the index has
pub made_image : (i : IndexView) {titles words : List (List ℕ)} {heads : List BlockHead} {blocks : List (List Post)} {target : ℕ} {weights : Weights}
    → words ≡ i.words → heads ≡ i.heads → target ≡ i.target → weights ≡ i.weights
    → let x : Image = record { titles = titles; words = words; heads = heads; blocks = blocks; target = target; weights = weights } in x ≡ read_image i titles blocks
made_image i p q r s = rw (p, q, r, s) refl

module _ {i : IndexView} (is : IsIndex i) {told : Option (List ℕ)} (fits : HasAllBlocks told i) where
  -- a title that was read is that of the bytes
  title_same : {titles : List (List ℕ)} {d : ℕ} → AreTitlesRead i told titles d → (b : List ℕ) → told ≡ Some b → d ≤ i.docs → (j : ℕ) → j < d
      → get_or (titles_in i.offsets (drop i.titles_at b)) j [] ≡ get_or titles j []
  title_same h b t le j lt = title_there is b (fits b t) j (omega (arith, lt, le)) ∙ sym ((h.each j lt).read b t)

  title_utf8 : {titles : List (List ℕ)} {d : ℕ} → AreTitlesRead i told titles d → (b : List ℕ) → told ≡ Some b → d ≤ i.docs → (j : ℕ) → j < d
      → is_utf8 (get_or (titles_in i.offsets (drop i.titles_at b)) j []) ≡ true
  title_utf8 h b t le j lt = ap is_utf8 (title_same h b t le j lt) ∙ (h.each j lt).utf8

  titles_same : {titles : List (List ℕ)} → AreTitlesRead i told titles i.docs → (b : List ℕ) → told ≡ Some b → titles_in i.offsets (drop i.titles_at b) ≡ titles
  titles_same {titles} h b t =
      let many = ts_count is b (fits b t) in
      let count = h.count in
      let there = titles_in i.offsets (drop i.titles_at b) in
      same_lists there titles (omega (arith, many, count)) (λ j d lt.
      let known : j < i.docs = omega (arith, lt, many) in
      get_or_default there j d [] lt ∙ title_same h b t (omega arith) j known ∙ get_or_default titles j [] d (omega (arith, known, count)))

  titles_none : {titles : List (List ℕ)} → AreTitlesRead i told titles i.docs → (b : List ℕ) → told ≡ Some b
      → tried 9 (utf8s i.titles_at (titles_in i.offsets (drop i.titles_at b))) ≡ None
  titles_none h b t = ap (tried 9) (texts_fine is b (fits b t) (title_utf8 h b t (omega arith)))

  -- and so is a block
  block_kept : {blocks : List (List Post)} {k : ℕ} → AreBlocksRead i told blocks k → (b : List ℕ) → told ≡ Some b → (j : ℕ) → j < k
      → (judged i.weights (get_or i.heads j nothing) i.docs (block_in i.heads (drop i.blocks_at b) j) ≡ None)
      × (rows_read (get_or i.heads j nothing) (block_in i.heads (drop i.blocks_at b) j) ≡ get_or blocks j [])
  block_kept {blocks} h b t j lt =
      let r = h.each j lt in
      let head = get_or i.heads j nothing in
      let most = is.few_docs in
      let same : r.bytes ≡ block_in i.heads (drop i.blocks_at b) j = r.read nothing b t ∙ ap (take head.len) (sym (drop-drop (block_from i.heads j) i.blocks_at b)) in
      let one = one_reading i.weights is.weights head i.docs (get_or blocks j []) r.bytes (omega (arith, most)) (r.shaped nothing) (r.block nothing) in
      (ap (judged i.weights head i.docs) (sym same) ∙ one.0, ap (rows_read head) (sym same) ∙ one.1)

  blocks_same : {blocks : List (List Post)} → AreBlocksRead i told blocks (length i.heads) → (b : List ℕ) → told ≡ Some b
      → (blocks_break i.weights i.docs i.blocks_at i.heads (drop i.blocks_at b) ≡ None) × (blocks ≡ blocks_in i.heads (drop i.blocks_at b))
  blocks_same {blocks} h b t = all_judged i.weights i.docs i.blocks_at i.heads (drop i.blocks_at b) blocks h.count (block_kept h b t)

  pub title_changed : {titles : List (List ℕ)} {d : ℕ} → AreTitlesRead i told titles d → d < i.docs → (e : FetchFault) → IsChangeOfTitle i told d e
      → ForSome told (λ b. IsChangeBy (image_break i b) e)
  unfolding image_break image_at
  title_changed {titles} {d} h lt (fetches.Changed rule at) e b t =
      let there = titles_in i.offsets (drop i.titles_at b) in
      let broken : is_utf8 (get_or there d []) ≡ false = ap is_utf8 (title_there is b (fits b t) d lt ∙ sym (e.read b t)) ∙ e.broken in
      let found : utf8s i.titles_at there ≡ Some at = texts_broken is b (fits b t) d lt (title_utf8 h b t (omega (arith, lt))) broken ∙ ap Some (sym e.place) in
      first_of _ _ _ _ (broken_at rule at) (ap (tried 9) found ∙ ap (λ (n : ℕ). Some (broken_at n at)) (sym e.rule_is))
  title_changed h lt fetches.Read e b t = tt
  title_changed h lt fetches.Memory e b t = tt

  module _ {titles : List (List ℕ)} (read : AreTitlesRead i told titles i.docs) where
    pub block_changed : {blocks : List (List Post)} {k : ℕ} → AreBlocksRead i told blocks k → k < length i.heads → (e : FetchFault) → IsChangeOfBlock i told k e
        → ForSome told (λ b. IsChangeBy (image_break i b) e)
    unfolding image_break image_at
    block_changed {blocks} {k} h lt (fetches.Changed rule at) e b t =
        let head = get_or i.heads k nothing in
        let same : e.bytes ≡ block_in i.heads (drop i.blocks_at b) k = e.read nothing b t ∙ ap (take head.len) (sym (drop-drop (block_from i.heads k) i.blocks_at b)) in
        let broken = ap (λ (x : List ℕ). option_map (in_file (block_place i k)) (judged i.weights head i.docs x)) (sym same) ∙ e.broken nothing in
        second_of _ _ _ _ (broken_at rule at) (titles_none read b t)
        (first_judged i.weights i.docs i.blocks_at i.heads (drop i.blocks_at b) k (broken_at rule at) lt (λ j less. (block_kept h b t j less).0) broken)
    block_changed h lt fetches.Read e b t = tt
    block_changed h lt fetches.Memory e b t = tt

    module _ {blocks : List (List Post)} (rows : AreBlocksRead i told blocks (length i.heads)) where
      -- the first of what is tried behind the blocks
      behind : (b : List ℕ) → told ≡ Some b → image_break i b ≡ parts_break i blocks
      unfolding image_break image_at parts_break
      behind b t =
          let all = blocks_same rows b t in
          two_left _ _ _ _ (titles_none read b t) all.0
          ∙ ap (λ (bs : List (List Post)). first_reason (tried 18 (break_of (is_parted i.target i.words) (laid (λ p. entry_bytes_of i) (directory_place i) None (zip i.heads bs)))
          ∷ tried 19 (break_of (λ p. has_bounds p.value) (laid (λ p. entry_bytes_of i) (directory_place i) None (zip i.heads bs))) ∷ [])) (sym all.1)

      pub parts_changed : (e : FetchFault) → IsChangeBy (parts_break i blocks) e → ForSome told (λ b. IsChangeBy (image_break i b) e)
      parts_changed e h b t = subst (λ (o : Option Broken). IsChangeBy o e) (sym (behind b t)) h

      pub image_exact : parts_break i blocks ≡ None → ForSome told (λ b. (read_image i titles blocks ≡ image_at i b) × (image_break i b ≡ None))
      unfolding image_at
      image_exact none b t = (same_image i _ _ _ _ (sym (titles_same read b t)) (blocks_same rows b t).1, behind b t ∙ none)

-- an answer that passes a fault on
pub reads_along : (i : IndexView) (b : List ℕ) (e : FetchFault) (r : Result Image FetchFault) → IsChangeBy (image_break i b) e → IsErrAnd r (λ x. x ≡ e) → ReadsImage i b r
reads_along i b e (Ok im) h is = absurd is
reads_along i b e (Err x) h is = subst (IsChangeBy (image_break i b)) (sym is) h

-- ---- bytes that stand for the index
pub reads_stood : (i : IndexView) (b : List ℕ) (r : Result Image FetchFault) → StandsFor b i → ReadsImage i b r → IfOk r (λ im. im ≡ image_of b) × (is_changed r ≡ false)
reads_stood i b (Ok im) s h = (h.0 ∙ (stood_images i b s).0, refl)
reads_stood i b (Err (fetches.Changed rule at)) s h = absurd (none-some (broken_at rule at) (sym (stood_images i b s).1 ∙ h))
reads_stood i b (Err fetches.Read) s h = (tt, refl)
reads_stood i b (Err fetches.Memory) s h = (tt, refl)
