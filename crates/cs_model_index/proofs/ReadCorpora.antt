-- The corpus that is read of an index file is one: its rows are named and in their order, and their documents have titles.
--
--   IsOne r s         rows with one document, position and word are one row
--   posts_apart       so it is with the rows of any two posts that are read
--   rows_named        so rows that are listed by all four are in order by these three
--   titled            a document below as many as there are titles has one
--   corpora_read      the law, by the laws of blocks
use Rattle.std.proofs.Common.{◌≡◌, ℕ, ◌+◌, ◌<◌, ◌≤◌, true, false, cond, List, [], ◌∷◌, ◌++◌, length, map, refl, sym, ap, ◌∙◌, arith}
use Rattle.std.specs.Prelude.{Some, flat_map}
use Rattle.std.specs.List.{AllByRecursion, enumerate_from}
use Rattle.std.specs.List.Sorted.{IsStrictlySortedBy}
use Rattle.std.specs.Option.{is_some}
use Rattle.std.specs.Ordering.{nat_cmp, ordering_then, eq_by_cmp}
use Rattle.std.specs.Cmp.Lexicographic.{slice_cmp}
use Rattle.std.specs.FinMap.{find, contains_key, get-from_entries, nat_cmp-IsAntisymmetric}
use Rattle.std.specs.declared.cmp.Ordering.{Ordering}
use Rattle.std.specs.declared.cmp.Ordering.TheVariants.{Less, Equal, Greater}
use Rattle.std.proofs.lemmas.Bool.Decides.{nat_tests}
use Rattle.std.proofs.lemmas.Cmp.{nat_cmp_total, tied_itself}
use Rattle.std.proofs.lemmas.List.Elements.{All-from_recursion}
use Rattle.std.proofs.lemmas.Map.Lookups.{exact_bytes}
use Rattle.cs_base.proofs.MembersLemmas.{listing-rises, all_then}
use Rattle.cs_base.proofs.OrdersLemmas.{by_row_total, by_row_exact}
use Rattle.cs_base.specs.content.Members.{members_in}
use Rattle.cs_base.specs.content.Orders.{by_place, by_row, by_spot}
use Rattle.cs_base.specs.declared.content.doc.Post.{Post}
use Rattle.cs_base.specs.declared.content.doc.Row.{Row}
use Rattle.cs_base.specs.declared.index.block.BlockHead.{BlockHead}
use Rattle.cs_model.specs.Corpus.{by_number}
use Rattle.cs_model_index.specs.FileLaws.{ReadCorporaFollowBlocks}
use Rattle.cs_model_index.specs.Images.{Image}
use Rattle.cs_model_index.specs.Numbered.{word_at, word_number, row_of, rows_at}
use Rattle.cs_model_index.specs.Sections.{image_of}
use Rattle.cs_model_index.proofs.BlockUses.{blocks_are_read}
use Rattle.cs_model_index.proofs.Listings.{listed_each, all_both, both_all}
use Rattle.cs_model_index.proofs.NumberedLemmas.{number_of_word}
use Rattle.cs_model_index.proofs.ReadBlocks.{AreRead}
use Rattle.cs_model_index.proofs.ReadImages.{FileRead, file_read}
use Rattle.cs_model_index.proofs.RunRows.{Run}

-- ---- lists
all_map : {X Y : Type 0} (P : Y → Type 0) (f : X → Y) (xs : List X) → AllByRecursion (λ x. P (f x)) xs → AllByRecursion P (map f xs)
all_map P f [] h = tt
all_map P f (x ∷ xs) h = (h.0, all_map P f xs h.1)

-- ---- rows that are one
abbrev IsOne : Row → Row → Type 0
IsOne r s = r.doc ≡ s.doc → r.pos ≡ s.pos → r.word ≡ s.word → r ≡ s

turned_one : (r s : Row) → IsOne r s → IsOne s r
turned_one r s h = λ d p w. sym (h (sym d) (sym p) (sym w))

module _ (ws : Run) (up : IsStrictlySortedBy (slice_cmp nat_cmp) ws) where
  abbrev AreOne : Post → Post → Type 0
  AreOne p q = IsOne (row_of ws p) (row_of ws q)

  -- each post and each later one
  Pairs : List Post → Type 0
  Pairs [] = Unit {0}
  Pairs (p ∷ ps) = AllByRecursion (AreOne p) ps × Pairs ps

  pairs_append : (xs ys : List Post) → Pairs xs → Pairs ys → AllByRecursion (λ x. AllByRecursion (AreOne x) ys) xs → Pairs (xs ++ ys)
  unfolding Pairs
  pairs_append [] ys h k c = k
  pairs_append (x ∷ xs) ys h k c = (all_both (AreOne x) xs ys h.0 c.0, pairs_append xs ys h.1 k c.1)

  all_pairs : (ps : List Post) → Pairs ps → AllByRecursion (λ p. AllByRecursion (AreOne p) ps) ps
  unfolding Pairs
  all_pairs [] h = tt
  all_pairs (p ∷ ps) h = (
    (λ d b w. refl, h.0),
    both_all (AreOne p) (λ q. AllByRecursion (AreOne q) ps) (λ q. AllByRecursion (AreOne q) (p ∷ ps)) (λ q a b. (turned_one (row_of ws p) (row_of ws q) a, b)) ps h.0 (all_pairs ps h.1),
  )

  same_word : (m n : ℕ) → m < length ws → n < length ws → word_at ws m ≡ word_at ws n → m ≡ n
  same_word m n l k e = sym (number_of_word ws m up l) ∙ ap (word_number ws) e ∙ number_of_word ws n up k

  not_less : (d d' p p' w w' : ℕ) → ordering_then (nat_cmp d d') (ordering_then (nat_cmp p p') (nat_cmp w w')) ≡ Less → d ≡ d' → p ≡ p' → w ≡ w' → ⊥
  not_less d d' p p' w w' h a b c =
      let one : nat_cmp d d' ≡ Equal = ap (nat_cmp d) (sym a) ∙ tied_itself nat_cmp_total d in
      let two : nat_cmp p p' ≡ Equal = ap (nat_cmp p) (sym b) ∙ tied_itself nat_cmp_total p in
      let three : nat_cmp w w' ≡ Equal = ap (nat_cmp w) (sym c) ∙ tied_itself nat_cmp_total w in
      let all : ordering_then (nat_cmp d d') (ordering_then (nat_cmp p p') (nat_cmp w w')) ≡ Equal = rw (one, two, three) refl in
      cc

  later_one : (p q : Post) → p.word < length ws → q.word < length ws → by_place p q ≡ Less → AreOne p q
  later_one p q l k h = λ d b w. absurd (not_less p.doc q.doc p.pos q.pos p.word q.word h d b (same_word p.word q.word l k w))

  block_pairs : (b : List Post) → AllByRecursion (λ p. p.word < length ws) b → IsStrictlySortedBy by_place b → Pairs b
  unfolding Pairs IsStrictlySortedBy
  block_pairs [] l h = tt
  block_pairs (p ∷ b) l h = (both_all (λ q. q.word < length ws) (λ q. by_place p q ≡ Less) (AreOne p) (λ q k e. later_one p q l.0 k e) b l.1 h.0, block_pairs b l.1 h.1)

  module _ (docs target : ℕ) where
    posts_in : (lo : ℕ) (hs : List BlockHead) (bs : List (List Post)) → AreRead ws docs target lo hs bs → AllByRecursion (λ p. (lo ≤ p.word) × (p.word < length ws)) (flat_map (λ b. b) bs)
    unfolding AreRead
    posts_in lo [] [] r = tt
    posts_in lo [] (b ∷ bs) r = absurd r
    posts_in lo (h ∷ hs) [] r = absurd r
    posts_in lo (h ∷ hs) (b ∷ bs) r =
        all_both (λ p. (lo ≤ p.word) × (p.word < length ws)) b (flat_map (λ b. b) bs) (all_then (λ p. (lo ≤ p.word) × (p.word < lo + h.words)) (λ p. (lo ≤ p.word) × (p.word < length ws)) (λ p k. (k.0, omega (arith, k.1, r.0.within))) b r.0.words)
        (all_then (λ p. (lo + h.words ≤ p.word) × (p.word < length ws)) (λ p. (lo ≤ p.word) × (p.word < length ws)) (λ p k. (omega (arith, k.0), k.1)) (flat_map (λ b. b) bs) (posts_in (lo + h.words) hs bs r.2))

    -- posts of two blocks have two words
    apart_one : (n : ℕ) (p q : Post) → p.word < n → n ≤ q.word → p.word < length ws → q.word < length ws → AreOne p q
    apart_one n p q a b l k = λ d e w. absurd (let same : p.word ≡ q.word = same_word p.word q.word l k w in omega (arith, same, a, b))

    posts_apart : (lo : ℕ) (hs : List BlockHead) (bs : List (List Post)) → AreRead ws docs target lo hs bs → Pairs (flat_map (λ b. b) bs)
    unfolding AreRead Pairs
    posts_apart lo [] [] r = tt
    posts_apart lo [] (b ∷ bs) r = absurd r
    posts_apart lo (h ∷ hs) [] r = absurd r
    posts_apart lo (h ∷ hs) (b ∷ bs) r =
        let later : List Post = flat_map (λ b. b) bs in
        let far : AllByRecursion (λ q. (lo + h.words ≤ q.word) × (q.word < length ws)) later = posts_in (lo + h.words) hs bs r.2 in
        pairs_append b later (block_pairs b (all_then (λ p. (lo ≤ p.word) × (p.word < lo + h.words)) (λ p. p.word < length ws) (λ p k. omega (arith, k.1, r.0.within)) b r.0.words) r.0.sorted) (posts_apart (lo + h.words) hs bs r.2)
        (all_then (λ p. (lo ≤ p.word) × (p.word < lo + h.words)) (λ p. AllByRecursion (AreOne p) later)
        (λ p k. all_then (λ q. (lo + h.words ≤ q.word) × (q.word < length ws)) (AreOne p) (λ q f. apart_one (lo + h.words) p q k.1 f.0 (omega (arith, k.1, r.0.within)) f.1) later far) b r.0.words)

    posts_known : (lo : ℕ) (hs : List BlockHead) (bs : List (List Post)) → AreRead ws docs target lo hs bs → AllByRecursion (λ p. p.doc < docs) (flat_map (λ b. b) bs)
    unfolding AreRead
    posts_known lo [] [] r = tt
    posts_known lo [] (b ∷ bs) r = absurd r
    posts_known lo (h ∷ hs) [] r = absurd r
    posts_known lo (h ∷ hs) (b ∷ bs) r = all_both (λ p. p.doc < docs) b (flat_map (λ b. b) bs) r.0.known (posts_known (lo + h.words) hs bs r.2)

-- ---- rows in order
spot_step : (a b c e : Ordering) → ordering_then a (ordering_then b (ordering_then c e)) ≡ Less → (a ≡ Equal → b ≡ Equal → c ≡ Equal → ⊥) → ordering_then a (ordering_then b c) ≡ Less
spot_step Less b c e h k = refl
spot_step Greater b c e h k = h
spot_step Equal Less c e h k = refl
spot_step Equal Greater c e h k = h
spot_step Equal Equal Less e h k = refl
spot_step Equal Equal Greater e h k = h
spot_step Equal Equal Equal e h k = absurd (k refl refl refl)

spot_from : (r s : Row) → by_row r s ≡ Less → IsOne r s → by_spot r s ≡ Less
spot_from r s h one =
    spot_step (nat_cmp r.doc s.doc) (nat_cmp r.pos s.pos) (slice_cmp nat_cmp r.word s.word) (nat_cmp r.score s.score) h
    (λ a b c.
    let same : r ≡ s = one (nat_cmp-IsAntisymmetric r.doc s.doc a) (nat_cmp-IsAntisymmetric r.pos s.pos b) (exact_bytes r.word s.word c) in
    let tied : by_row r s ≡ Equal = ap (by_row r) (sym same) ∙ tied_itself by_row_total r in
    cc)

rows_named : (rows : List Row) → IsStrictlySortedBy by_row rows → AllByRecursion (λ r. AllByRecursion (IsOne r) rows) rows → IsStrictlySortedBy by_spot rows
unfolding IsStrictlySortedBy
rows_named [] h k = tt
rows_named (r ∷ rows) h k = (
  both_all (λ s. by_row r s ≡ Less) (IsOne r) (λ s. by_spot r s ≡ Less) (λ s a b. spot_from r s a b) rows h.0 k.0.1,
  rows_named rows h.1 (all_then (λ s. AllByRecursion (IsOne s) (r ∷ rows)) (λ s. AllByRecursion (IsOne s) rows) (λ s a. a.1) rows k.1),
)

-- ---- titles
later_number : (d n : ℕ) → n ≤ d → eq_by_cmp nat_cmp d n ≡ false → n + 1 ≤ d
later_number d n l e = grind (arith, nat_tests)

title_found : (d n : ℕ) (ts : List (List ℕ)) → n ≤ d → d < n + length ts → is_some (find nat_cmp d (enumerate_from n ts)) ≡ true
title_found d n [] l h = absurd (omega (arith, l, h))
title_found d n (t ∷ ts) l h =
    elim (eq_by_cmp nat_cmp d n) as (λ b. eq_by_cmp nat_cmp d n ≡ b → is_some (cond b (Some t) (find nat_cmp d (enumerate_from (n + 1) ts))) ≡ true) [
      | true ↦ λ e. refl
      | false ↦ λ e. title_found d (n + 1) ts (later_number d n l e) (omega (arith, h))
    ] refl

pub titled : (ts : List (List ℕ)) (d : ℕ) → d < length ts → contains_key (by_number ts) d ≡ true
titled ts d l = ap is_some (get-from_entries nat_cmp_total (enumerate_from 0 ts) d) ∙ title_found d 0 ts (omega arith) (omega (arith, l))

-- ---- the law
pub corpora_read : ReadCorporaFollowBlocks
corpora_read accepted one b small e =
    let i : Image = image_of b in
    let is : FileRead i = file_read (blocks_are_read accepted one) b small e in
    let all : List Post = flat_map (λ b. b) i.blocks in
    let read : List Row = rows_at i.words all in
    let rows : List Row = members_in by_row read in
    let pairs = all_pairs i.words is.up all (posts_apart i.words is.up is.docs i.target 0 i.heads i.blocks is.read) in
    let ones : AllByRecursion (λ r. AllByRecursion (IsOne r) read) read =
    all_map (λ r. AllByRecursion (IsOne r) read) (row_of i.words) all (all_then (λ p. AllByRecursion (λ q. IsOne (row_of i.words p) (row_of i.words q)) all) (λ p. AllByRecursion (IsOne (row_of i.words p)) read) (λ p h. all_map (IsOne (row_of i.words p)) (row_of i.words) all h) all pairs) in
    let listed : AllByRecursion (λ r. AllByRecursion (IsOne r) rows) rows =
    listed_each by_row by_row_total by_row_exact (λ r. AllByRecursion (IsOne r) rows) read (all_then (λ r. AllByRecursion (IsOne r) read) (λ r. AllByRecursion (IsOne r) rows) (λ r h. listed_each by_row by_row_total by_row_exact (IsOne r) read h) read ones) in
    let known : AllByRecursion (λ r. r.doc < is.docs) read = all_map (λ r. r.doc < is.docs) (row_of i.words) all (posts_known i.words is.up is.docs i.target 0 i.heads i.blocks is.read) in
    record {
      named = rows_named rows (listing-rises by_row read) listed;
      of_docs = All-from_recursion (λ r. contains_key (by_number i.titles) r.doc ≡ true) rows (all_then (λ r. r.doc < is.docs) (λ r. contains_key (by_number i.titles) r.doc ≡ true) (λ r l. titled i.titles r.doc (omega (arith, l, is.titles))) rows (listed_each by_row by_row_total by_row_exact (λ r. r.doc < is.docs) read known));
    }
