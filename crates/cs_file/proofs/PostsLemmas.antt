-- The posts of an opened index that have some words: those of the blocks that hold such words, each block cut to them.
--
--   block_docs, block_words, block_scored     the documents of a block are below the index's, its words are those of its head, and its positions and
--                          scores those of its kind
--   is_between lo hi p     the post's word has a number from lo up to hi, hi left out
--   posts_between          the posts of all blocks that have such words are those of the blocks met
--   posts_known            each post of the image has a word of the vocabulary and a document below the index's
--   rows_between           the rows whose words begin with a text are those of the words' numbers
use Rattle.std.proofs.Common.{◌≡◌, ℕ, suc, ◌+◌, ◌-◌, ◌<◌, ◌≤◌, ◌&&◌, Bool, true, false, true≢false, cond, List, [], ◌∷◌, ◌++◌, length, get_or, take, drop}
use Rattle.std.proofs.Common.{Option, Some, None, refl, sym, ap, ◌∙◌, arith, length-take, length-drop, take-append-drop, get_or-drop, get_or-take}
use Rattle.std.specs.Prelude.{All, filter, flat_map, nat_le, nat_lt}
use Rattle.std.proofs.lemmas.Bool.{and_parts, and_from, leb-true, ltb-true, lt-ltb, false_from_ne_true}
use Rattle.std.proofs.lemmas.Grind.{flat_map-append}
use Rattle.std.proofs.lemmas.List.{append-nil}
use Rattle.std.proofs.lemmas.List.Elements.{All-nil, All-cons, All-head, All-tail, All-append, filter-append}
use Rattle.cs_base.specs.declared.index.block.BlockHead.{BlockHead}
use Rattle.cs_base.specs.declared.content.doc.Post.{Post}
use Rattle.cs_base.specs.declared.content.scores.Weights.{Weights}
use Rattle.cs_model.specs.Answers.{begins}
use Rattle.cs_model_index.specs.BlockRules.{keeps, in_docs, in_kind, in_words, is_scored, IsBlock}
use Rattle.cs_model_index.specs.Images.{image_posts, image_rows}
use Rattle.cs_model_index.specs.Numbered.{row_of, rows_at}
use Rattle.cs_model_index.specs.Sections.{image_of}
use Rattle.cs_vocab.specs.Ranges.{IsRange}
use Rattle.cs_file.specs.Indexes.{IndexView, IsIndex, StandsFor, is_met, AreMet, block_posts}
use Rattle.cs_file.proofs.HeadsLemmas.{head_within}
use Rattle.cs_file.proofs.StoodLemmas.{stood, stood_count, stood_block}

-- ---- the posts of a block
kept_all : (holds : Option Post → Post → Bool) (P : Post → Type 0) → ((last : Option Post) (r : Post) → holds last r ≡ true → P r)
    → (last : Option Post) (rs : List Post) → keeps holds last rs ≡ true → All P rs
unfolding keeps
kept_all holds P f last [] e = All-nil P
kept_all holds P f last (r ∷ rs) e =
    let p = and_parts (holds last r) (keeps holds (Some r) rs) e in
    All-cons P r rs (f last r p.0) (kept_all holds P f (Some r) rs p.1)

pub block_docs : {w : Weights} (h : BlockHead) (docs : ℕ) (rs : List Post) (bytes : List ℕ) → IsBlock w h docs rs bytes → All (λ p. p.doc < docs) rs
block_docs h docs rs bytes b = kept_all (in_docs docs).holds (λ p. p.doc < docs) (λ last r e. ltb-true _ _ e) None rs b.meets.0

pub block_words : {w : Weights} (h : BlockHead) (docs : ℕ) (rs : List Post) (bytes : List ℕ) → IsBlock w h docs rs bytes
    → All (λ p. (h.lo ≤ p.word) × (p.word < h.lo + h.words)) rs
block_words h docs rs bytes b =
    let below = kept_all (in_words h).holds (λ p. p.word < h.lo + h.words) (λ last r e. ltb-true _ _ e) None rs b.meets.1.0 in
    λ k d lt. ((b.writable.words k d lt).0, below k d lt)

pub block_scored : (w : Weights) (h : BlockHead) (docs : ℕ) (rs : List Post) (bytes : List ℕ) → IsBlock w h docs rs bytes
    → All (λ p. is_scored w h.facet p ≡ true) rs
block_scored w h docs rs bytes b = kept_all (in_kind w h).holds (λ p. is_scored w h.facet p ≡ true) (λ last r e. e) None rs b.meets.1.1.0

-- ---- the posts of some words
abbrev pub is_between : ℕ → ℕ → Post → Bool
is_between lo hi p = nat_le lo p.word && nat_lt p.word hi

filter_none : (t : Post → Bool) (rs : List Post) → All (λ p. t p ≡ false) rs → filter t rs ≡ []
filter_none t [] all = refl
filter_none t (r ∷ rs) all =
    let none : t r ≡ false = All-head (λ p. t p ≡ false) r rs all in
    rw none (filter_none t rs (All-tail (λ p. t p ≡ false) r rs all))

filter_flat : (t : Post → Bool) (bs : List (List Post)) → filter t (flat_map (λ block. block) bs) ≡ flat_map (filter t) bs
filter_flat t [] = refl
filter_flat t (b ∷ bs) = filter-append t b (flat_map (λ block. block) bs) ∙ ap (λ (x : List Post). filter t b ++ x) (filter_flat t bs)

flat_none : (f : List Post → List Post) (bs : List (List Post)) → ((k : ℕ) → k < length bs → f (get_or bs k []) ≡ []) → flat_map f bs ≡ []
flat_none f [] h = refl
flat_none f (b ∷ bs) h =
    let here : f b ≡ [] = h 0 (omega arith) in
    let rest : flat_map f bs ≡ [] = flat_none f bs (λ k lt. h (suc k) (omega arith)) in
    rw here rest

flat_cut : (f : List Post → List Post) (bs : List (List Post)) (first last : ℕ) → first ≤ last → last ≤ length bs
    → ((k : ℕ) → k < length bs → (nat_le first k && nat_lt k last) ≡ false → f (get_or bs k []) ≡ [])
    → flat_map f bs ≡ flat_map f (take (last - first) (drop first bs))
flat_cut f bs first last up within h =
    let rest = drop first bs in
    let met = take (last - first) rest in
    let behind = drop (last - first) rest in
    let l1 = length-take first bs in
    let l2 = length-drop first bs in
    let l3 = length-drop (last - first) rest in
    let front : flat_map f (take first bs) ≡ [] = flat_none f (take first bs) (λ k lt.
    let early : k < first = omega (arith, l1, lt) in
    let there : get_or (take first bs) k [] ≡ get_or bs k [] = get_or-take first bs k [] early in
    ap f there ∙ h k (omega (arith, l1, lt)) (ap (λ (x : Bool). x && nat_lt k last) (lt-leb' k first early))) in
    let back : flat_map f behind ≡ [] = flat_none f behind (λ k lt.
    let there : get_or behind k [] ≡ get_or bs (first + (last - first + k)) [] = get_or-drop (last - first) rest k []
    ∙ get_or-drop first bs (last - first + k) [] in
    let late : last ≤ first + (last - first + k) = omega (arith, up) in
    ap f there ∙ h (first + (last - first + k)) (omega (arith, l2, l3, lt, up))
    (ap (λ (x : Bool). nat_le first (first + (last - first + k)) && x) (le-ltb' _ _ late) ∙ and_right (nat_le first (first + (last - first + k))))) in
    ap (flat_map f) (sym (take-append-drop first bs)) ∙ flat_map-append f (take first bs) rest ∙ ap (λ (x : List Post). x ++ flat_map f rest) front
    ∙ ap (flat_map f) (sym (take-append-drop (last - first) rest)) ∙ flat_map-append f met behind ∙ ap (λ (x : List Post). flat_map f met ++ x) back
    ∙ append-nil (flat_map f met)
  where
    lt-leb' : (k n : ℕ) → k < n → nat_le n k ≡ false
    lt-leb' k n lt = false_from_ne_true _ (λ e. let le = leb-true _ _ e in omega (arith, lt, le))

    le-ltb' : (n k : ℕ) → n ≤ k → nat_lt k n ≡ false
    le-ltb' n k le = false_from_ne_true _ (λ e. let lt = ltb-true _ _ e in omega (arith, lt, le))

    and_right : (a : Bool) → (a && false) ≡ false
    and_right true = refl
    and_right false = refl

-- a post that is between has a word of its block that is
met_by : (lo hi : ℕ) (h : BlockHead) (p : Post) → h.lo ≤ p.word → p.word < h.lo + h.words → is_met lo hi h ≡ false → is_between lo hi p ≡ false
met_by lo hi h p from to none = false_from_ne_true _ (λ e.
    let q = and_parts (nat_le lo p.word) (nat_lt p.word hi) e in
    let a = leb-true _ _ q.0 in
    let b = ltb-true _ _ q.1 in
    let met : is_met lo hi h ≡ true = and_from _ _ (lt-ltb lo (h.lo + h.words) (omega (arith, a, to)))
    (and_from _ _ (lt-ltb h.lo hi (omega (arith, b, from))) (lt-ltb lo hi (omega (arith, a, b)))) in
    true≢false (sym met ∙ none))

pub posts_between : (b : List ℕ) (i : IndexView) → StandsFor b i → IsIndex i → (lo hi first last : ℕ) → AreMet i.heads lo hi first last
    → filter (is_between lo hi) (image_posts (image_of b)) ≡ flat_map (filter (is_between lo hi)) (take (last - first) (drop first (image_of b).blocks))
posts_between b i s is lo hi first last met =
    let none : BlockHead = record { lo = 0; words = 0; rows = 0; len = 0; facet = false; least = 0; greatest = 0 } in
    let bs = (image_of b).blocks in
    let count : length bs ≡ length i.heads = stood_count b i s in
    let within = met.within in
    filter_flat (is_between lo hi) bs
    ∙ flat_cut (filter (is_between lo hi)) bs first last met.ordered (omega (arith, count, within)) (λ k lt out.
    let lt' : k < length i.heads = omega (arith, count, lt) in
    let h = get_or i.heads k none in
    let away : is_met lo hi h ≡ false = met.met k none lt' ∙ out in
    let words = block_words h i.docs (block_posts b k) _ (stood_block b i s is k none lt') in
    filter_none (is_between lo hi) (block_posts b k) (λ j d l. met_by lo hi h (get_or (block_posts b k) j d) (words j d l).0 (words j d l).1 away))

-- ---- all posts
flat_all : (P : Post → Type 0) (bs : List (List Post)) → ((k : ℕ) → k < length bs → All P (get_or bs k [])) → All P (flat_map (λ block. block) bs)
flat_all P [] h = All-nil P
flat_all P (b ∷ bs) h = All-append P b (flat_map (λ block. block) bs) (h 0 (omega arith)) (flat_all P bs (λ k lt. h (suc k) (omega arith)))

pub posts_known : (b : List ℕ) (i : IndexView) → StandsFor b i → IsIndex i → All (λ p. (p.word < length i.words) × (p.doc < i.docs)) (image_posts (image_of b))
posts_known b i s is =
    let none : BlockHead = record { lo = 0; words = 0; rows = 0; len = 0; facet = false; least = 0; greatest = 0 } in
    let count : length (image_of b).blocks ≡ length i.heads = stood_count b i s in
    flat_all (λ p. (p.word < length i.words) × (p.doc < i.docs)) (image_of b).blocks (λ k lt.
    let lt' : k < length i.heads = omega (arith, count, lt) in
    let block = stood_block b i s is k none lt' in
    let words = block_words _ _ _ _ block in
    let docs = block_docs _ _ _ _ block in
    let to = head_within i is k none lt' in
    λ j d l. (omega (arith, (words j d l).1, to), docs j d l))

filter_rows : (ws : List (List ℕ)) (p : List ℕ) (t : Post → Bool) (posts : List Post) → All (λ q. begins p (row_of ws q).word ≡ t q) posts
    → filter (λ r. begins p r.word) (rows_at ws posts) ≡ rows_at ws (filter t posts)
filter_rows ws p t [] all = refl
filter_rows ws p t (q ∷ posts) all =
    let rest = filter_rows ws p t posts (All-tail (λ q. begins p (row_of ws q).word ≡ t q) q posts all) in
    let here : begins p (row_of ws q).word ≡ t q = All-head (λ q. begins p (row_of ws q).word ≡ t q) q posts all in
    ap (λ (b : Bool). cond b (row_of ws q ∷ filter (λ r. begins p r.word) (rows_at ws posts)) (filter (λ r. begins p r.word) (rows_at ws posts))) here
    ∙ elim (t q) as (λ b. cond b (row_of ws q ∷ filter (λ r. begins p r.word) (rows_at ws posts)) (filter (λ r. begins p r.word) (rows_at ws posts))
    ≡ rows_at ws (cond b (q ∷ filter t posts) (filter t posts))) [
      | true ↦ ap (λ x. row_of ws q ∷ x) rest
      | false ↦ rest
    ]

pub rows_between : (b : List ℕ) (i : IndexView) → StandsFor b i → IsIndex i → (p : List ℕ) (lo hi : ℕ) → IsRange i.words p lo hi
    → filter (λ r. begins p r.word) (image_rows (image_of b)) ≡ rows_at i.words (filter (is_between lo hi) (image_posts (image_of b)))
rows_between b i s is p lo hi range =
    let words : i.words ≡ (image_of b).words = (stood b i s).words in
    let known = posts_known b i s is in
    ap (λ (ws : List (List ℕ)). filter (λ r. begins p r.word) (rows_at ws (image_posts (image_of b)))) (sym words)
    ∙ filter_rows i.words p (is_between lo hi) (image_posts (image_of b)) (λ j d l. range.holds _ (known j d l).0)
