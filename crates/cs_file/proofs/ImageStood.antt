-- Of bytes that stand for an index their image is read where the index says, and no rule is broken there.
--
--   titles_cut         titles that lie within the first bytes are read of these alone
--   stood_images       the law
use Rattle.std.proofs.Common.{◌≡◌, ℕ, ◌+◌, ◌-◌, ◌≤◌, true, List, [], ◌∷◌, length, take, drop, Option, None, refl, sym, ap, subst, ◌∙◌, arith}
use Rattle.std.specs.List.{AllByRecursion, zip}
use Rattle.std.specs.Str.{is_utf8}
use Rattle.std.proofs.lemmas.Bool.{and_from, eq-eqb}
use Rattle.std.proofs.lemmas.List.{drop-take, take-take}
use Rattle.std.proofs.lemmas.List.Elements.{All-from_get_or, recursion_from_All}
use Rattle.cs_base.specs.declared.index.block.BlockHead.{BlockHead}
use Rattle.cs_base.specs.declared.index.block.Broken.{Broken}
use Rattle.cs_base.specs.declared.content.doc.Post.{Post}
use Rattle.cs_base.specs.declared.content.scores.Weights.{Weights}
use Rattle.cs_model.specs.First.{first_reason}
use Rattle.cs_model_index.specs.FileRules.{blocks_break, break_of, is_onward, is_parted, laid, tried}
use Rattle.cs_model_index.specs.Images.{Image}
use Rattle.cs_model_index.specs.Layout.{entry_size}
use Rattle.cs_model_index.specs.Sections.{blocks_at, blocks_in, contents_of, directory_at, heads_in, header_of, image_of, offsets_at, title_between, titles_at, titles_in}
use Rattle.cs_model_index.specs.WeightsField.{weights_of}
use Rattle.cs_model_index.specs.declared.limits.TheConstants.{NUMBER_BYTES}
use Rattle.cs_model_index.proofs.AcceptedLemmas.{IsSound, is_sound}
use Rattle.cs_model_index.proofs.AgainLemmas.{break_none}
use Rattle.cs_model_index.proofs.ReadBlocks.{AreBounded, heads_bounded}
use Rattle.cs_model_index.proofs.TextLimits.{placed}
use Rattle.cs_file.specs.ImageRead.{StoodImagesAreRead}
use Rattle.cs_file.specs.Indexes.{IndexView, index_in}
use Rattle.cs_file.specs.WholeImages.{directory_place, entry_bytes_of, has_bounds, image_at, image_break}
use Rattle.cs_file.proofs.ImageWritten.{anywhere, listed}
use Rattle.cs_file.proofs.OffsetsLemmas.{onward_end}
use Rattle.cs_file.proofs.StoodLemmas.{blocks_start}
use Rattle.cs_file.proofs.TitlesLemmas.{titles_start}

-- ---- titles
between_cut : (n o p : ℕ) (bytes : List ℕ) → o ≤ n → p ≤ n → title_between (take n bytes) (o, p) ≡ title_between bytes (o, p)
between_cut n o p bytes from to =
    let e : o + (n - o) ≡ n = omega (arith, from) in
    ap (λ (x : ℕ). take (p - o) (drop o (take x bytes))) (sym e) ∙ ap (take (p - o)) (drop-take o (n - o) bytes)
    ∙ take-take (p - o) (n - o) (drop o bytes) (omega (arith, from, to))

pub titles_cut : (n : ℕ) (os bytes : List ℕ) → AllByRecursion (λ o. o ≤ n) os → titles_in os (take n bytes) ≡ titles_in os bytes
titles_cut n [] bytes h = refl
titles_cut n (o ∷ []) bytes h = refl
titles_cut n (o ∷ p ∷ os) bytes h =
    ap (λ (t : List ℕ). t ∷ titles_in (p ∷ os) (take n bytes)) (between_cut n o p bytes h.0 h.1.0)
    ∙ ap (λ (ts : List (List ℕ)). title_between bytes (o, p) ∷ ts) (titles_cut n (p ∷ os) bytes h.1)

-- ---- bounds
bounds_kept : (hs : List BlockHead) (bytes : List ℕ) → AreBounded hs bytes → AllByRecursion (λ p. has_bounds p ≡ true) (zip hs (blocks_in hs bytes))
unfolding AreBounded blocks_in
bounds_kept [] bytes h = tt
bounds_kept (h ∷ hs) bytes b = (and_from _ _ (eq-eqb _ _ b.0.least) (eq-eqb _ _ b.0.greatest), bounds_kept hs (drop h.len bytes) b.1)

-- ---- all of it
same_image : (titles titles' words : List (List ℕ)) (heads : List BlockHead) (blocks blocks' : List (List Post)) (target : ℕ) (weights : Weights) → titles ≡ titles' → blocks ≡ blocks'
    → let x : Image = record { titles = titles; words = words; heads = heads; blocks = blocks; target = target; weights = weights } in let y : Image = record { titles = titles'; words = words; heads = heads; blocks = blocks'; target = target; weights = weights } in x ≡ y
same_image titles titles' words heads blocks blocks' target weights p q = rw (p, q) refl

four_none : (o p q s : Option Broken) → o ≡ None → p ≡ None → q ≡ None → s ≡ None → first_reason (o ∷ p ∷ q ∷ s ∷ []) ≡ None
four_none o p q s a b c d = rw (a, b, c, d) refl

tried_none : (n : ℕ) (o : Option ℕ) → o ≡ None → tried n o ≡ None
tried_none n o e = ap (tried n) e

module _ (b : List ℕ) (is : IsSound b) where
  titles_same : titles_in (contents_of b).offsets (drop (titles_at (header_of b)) b) ≡ (contents_of b).titles
  titles_same =
      let h = header_of b in
      let os = (contents_of b).offsets in
      let values = is.hold.values in
      let onward = listed (λ p. is_onward p.last p.value) (laid (λ o. NUMBER_BYTES) (offsets_at h) None os) values.onward in
      let last = values.last_offset in
      let within = recursion_from_All (λ o. o ≤ h.titles_len) os (All-from_get_or (λ o. o ≤ h.titles_len) os 0 (λ k lt.
      let end = onward_end (offsets_at h) None os k onward lt in
      omega (arith, end, last))) in
      sym (ap (titles_in os) (titles_start b) ∙ titles_cut h.titles_len os (drop (titles_at h) b) within)

  blocks_same : blocks_in (contents_of b).heads (drop (blocks_at (header_of b)) b) ≡ (contents_of b).blocks
  blocks_same = ap (blocks_in (contents_of b).heads) (sym (blocks_start b))

  image_same : image_at (index_in b) b ≡ image_of b
  unfolding image_at image_of index_in
  image_same = same_image _ _ (contents_of b).words (contents_of b).heads _ _ (header_of b).target (weights_of (header_of b).weights) titles_same blocks_same

  none_broken : image_break (index_in b) b ≡ None
  unfolding image_at image_break index_in
  none_broken =
      let h = header_of b in
      let r = contents_of b in
      let values = is.hold.values in
      let i = index_in b in
      let there : AllByRecursion (λ p. has_bounds p ≡ true) (zip r.heads r.blocks) =
      bounds_kept r.heads r.bytes.blocks (heads_bounded (heads_in (entry_size h.two) r.words h.blocks r.bytes.directory) r.bytes.blocks) in
      four_none _ _ _ _
      (tried_none 9 _ (ap (λ (ts : List (List ℕ)). break_of (λ t. is_utf8 t.value) (laid (λ t. length t) (titles_at h) None ts)) titles_same ∙ break_none (λ t. is_utf8 t.value) _ values.texts))
      (ap (λ (x : List ℕ). blocks_break (weights_of h.weights) h.docs (blocks_at h) r.heads x) (sym (blocks_start b)) ∙ is.hold.blocks)
      (tried_none 18 _ (ap (λ (bs : List (List Post)). break_of (is_parted h.target r.words) (laid (λ p. entry_bytes_of i) (directory_place i) None (zip r.heads bs))) blocks_same
      ∙ break_none (is_parted h.target r.words) _ (anywhere (is_parted h.target r.words) (λ x last next at there e. e) (λ p. entry_size h.two) (λ p. entry_bytes_of i) (directory_at h) (directory_place i) None (zip r.heads r.blocks) values.parted)))
      (tried_none 19 _ (ap (λ (bs : List (List Post)). break_of (λ p. has_bounds p.value) (laid (λ p. entry_bytes_of i) (directory_place i) None (zip r.heads bs))) blocks_same
      ∙ break_none (λ p. has_bounds p.value) _ (placed (λ p. has_bounds p ≡ true) (λ p. entry_bytes_of i) (directory_place i) None (zip r.heads r.blocks) there)))

pub stood_images : StoodImagesAreRead
stood_images i b s =
    let is = is_sound b s.bytes s.accepted in
    subst (λ (x : IndexView). (image_at x b ≡ image_of b) × (image_break x b ≡ None)) (sym s.index) (image_same b is, none_broken b is)
