-- Blocks that are skipped.
--
--   parted, pointed         whether a hit of hits in order lies within bounds
--   read_where, read_not    whether a block is read
--   next_block, no_block, two_runs     in how many blocks there may be a hit, with one block more, and in two runs
--   few_hit, some_hit, all_reach, reached      of blocks that hold some words no more than those of them
--   skipped, same_keys, nothing_more   a block that is skipped has no row that is chosen
--   sieve_of, all_sieve, lists_of      what blocks are skipped by
--   HitWalk                 after some blocks, of which those that may have a hit were read
--   hits_begin, hits_go_on, hits_skip, hits_stop, hits_end
use Rattle.std.proofs.Common.{◌≡◌, ℕ, zero, suc, ◌+◌, ◌-◌, ◌<◌, ◌≤◌, ◌==◌, ◌&&◌, ◌||◌, Bool, true, false, true≢false, cond, List, [], ◌∷◌, ◌++◌}
use Rattle.std.proofs.Common.{length, get_or, map, take, drop, refl, sym, ap, subst, ◌∙◌, arith, length-drop, get_or-drop, Option, Ok, append-nil, inl, inr, ◌^◌}
use Rattle.std.specs.Prelude.{All, filter, nat_le, nat_lt}
use Rattle.std.specs.List.{AllByRecursion, list_any}
use Rattle.std.specs.List.Sorted.{IsPartitionedBy, IsPartitionPoint, IsStrictlySortedBy}
use Rattle.std.specs.declared.cmp.Ordering.TheVariants.{Less}
use Rattle.std.proofs.lemmas.Bool.{and_from, and_parts, cases_lt, eqb-true, leb-true, ltb-true, ltb-false}
use Rattle.std.proofs.lemmas.Bool.Decides.{nat_tests}
use Rattle.std.proofs.lemmas.List.{get_or_default, length-append, take_more}
use Rattle.std.proofs.lemmas.List.Elements.{All-weaker, filter-append, recursion_from_All}
use Rattle.cs_base.specs.content.Orders.{AreByDoc, by_doc}
use Rattle.cs_base.specs.declared.content.doc.Base.{Base}
use Rattle.cs_base.specs.declared.content.doc.Base.TheVariants as base
use Rattle.cs_base.specs.declared.content.doc.Post.{Post}
use Rattle.cs_base.specs.declared.content.doc.Scored.{Scored}
use Rattle.cs_base.specs.declared.index.block.BlockHead.{BlockHead}
use Rattle.cs_base.specs.outside.Causes.{ReadsWithin}
use Rattle.cs_file.specs.CallAnswers.{LeavesStore}
use Rattle.cs_file.specs.Indexes.{AreMet, IndexView, StandsFor, is_met}
use Rattle.cs_file.specs.declared.fault.FetchFault.{FetchFault}
use Rattle.cs_model.specs.Answers.{is_listed}
use Rattle.cs_model_kept.specs.Sharp.{has_hit, lies_in}
use Rattle.cs_tables.specs.WordCounts.{is_chosen}
use Rattle.cs_rows.specs.Counting.{AreListed, in_listed}
use Rattle.cs_rows.specs.IndexReading.{OnlyReads, run_of}
use Rattle.cs_rows.specs.Packing.{HasKeys}
use Rattle.cs_rows.specs.Skipping.{IsSieve, Lists, hit_blocks, hit_docs, hit_met, lists_doc, may_hit, may_read, no_head}
use Rattle.cs_rows.specs.Sources.{CanRead, IsSource, SourceView, met_in}
use Rattle.cs_rows.specs.Steps.{IsBaseOf, with_no_score}
use Rattle.cs_rows.specs.Stocked.{IsKnown, present_docs}
use Rattle.cs_rows.proofs.AskedWords.{filter_less}
use Rattle.cs_rows.proofs.CountingLemmas.{flat_more}
use Rattle.cs_rows.proofs.HitsLemmas.{own_docs}
use Rattle.cs_rows.proofs.PresentLemmas.{is_present, is_titled, present_below}
use Rattle.cs_rows.proofs.PartSteps.{base_in}
use Rattle.cs_rows.proofs.WalkLemmas.{nothing_read, reads_on, well}

-- ---- hits within bounds
before_doc : (x y : Scored) → by_doc x y ≡ Less → x.doc < y.doc
before_doc x y h = grind (arith, nat_tests)

beyond : (least greatest d : ℕ) → greatest < d → (nat_le least d && nat_le d greatest) ≡ false
beyond least greatest d lt = grind (arith, nat_tests)

under : (least greatest d : ℕ) → d < least → (nat_le least d && nat_le d greatest) ≡ false
under least greatest d lt = grind (arith, nat_tests)

there : (least greatest d : ℕ) → least ≤ d → d ≤ greatest → (nat_le least d && nat_le d greatest) ≡ true
there least greatest d le up = grind (arith, nat_tests)

none_beyond : (h : BlockHead) (hs : List Scored) (d : ℕ) → h.greatest ≤ d → AllByRecursion (λ y. d < y.doc) hs → list_any (lies_in h) (hit_docs hs) ≡ false
none_beyond h [] d le up = refl
none_beyond h (x ∷ hs) d le up = ap (λ b. b || list_any (lies_in h) (hit_docs hs)) (beyond h.least h.greatest x.doc (omega (arith, le, up.0)))
    ∙ none_beyond h hs d le up.1

all_behind : (x : Scored) (hs : List Scored) → AllByRecursion (λ y. by_doc x y ≡ Less) hs → AllByRecursion (λ y. x.doc < y.doc) hs
all_behind x [] up = tt
all_behind x (y ∷ hs) up = (before_doc x y up.0, all_behind x hs up.1)

-- the first hit that isn't below tells it
first_hit : (h : BlockHead) (hs : List Scored) → AreByDoc hs → (n : ℕ) (x : Scored) → n ≤ length hs
    → ((k : ℕ) (d : Scored) → k < n → (get_or hs k d).doc < h.least)
    → ((k : ℕ) (d : Scored) → n ≤ k → k < length hs → h.least ≤ (get_or hs k d).doc)
    → (nat_lt n (length hs) && nat_le (get_or hs n x).doc h.greatest) ≡ has_hit (hit_docs hs) h
unfolding has_hit IsStrictlySortedBy
first_hit h [] up n x le below from = ap (λ b. b && nat_le (get_or [] n x).doc h.greatest) (none_there n)
  where
    none_there : (n : ℕ) → nat_lt n 0 ≡ false
    none_there n = grind (arith, nat_tests)
first_hit h (y ∷ hs) up zero x le below from =
    let low : h.least ≤ y.doc = from 0 y (omega arith) (omega arith) in
    ap (λ b. b && nat_le y.doc h.greatest) (one_there (length hs))
    ∙ elim (nat_le y.doc h.greatest) as (λ b. nat_le y.doc h.greatest ≡ b → b ≡ (lies_in h y.doc || list_any (lies_in h) (hit_docs hs))) [
      | true ↦ λ e. ap (λ b. b || list_any (lies_in h) (hit_docs hs)) (sym (there h.least h.greatest y.doc low (leb-true _ _ e)))
      | false ↦ λ e.
          let high : h.greatest < y.doc = not_under y.doc h.greatest e in
          sym (ap (λ b. b || list_any (lies_in h) (hit_docs hs)) (beyond h.least h.greatest y.doc high)
          ∙ none_beyond h hs y.doc (omega (arith, high)) (all_behind y hs up.0))
    ] refl
  where
    not_under : (a b : ℕ) → nat_le a b ≡ false → b < a
    not_under a b e = grind (arith, nat_tests)

    one_there : (n : ℕ) → nat_lt 0 (suc n) ≡ true
    one_there n = grind (arith, nat_tests)
first_hit h (y ∷ hs) up (suc n) x le below from =
    ap (λ b. b && nat_le (get_or hs n x).doc h.greatest) (one_less n (length hs))
    ∙ first_hit h hs up.1 n x (omega (arith, le)) (λ k d lt. below (suc k) d (omega (arith, lt))) (λ k d a b. from (suc k) d (omega (arith, a)) (omega (arith, b)))
    ∙ sym (ap (λ b. b || list_any (lies_in h) (hit_docs hs)) (under h.least h.greatest y.doc (below 0 y (omega arith))))
  where
    one_less : (m n : ℕ) → nat_lt (suc m) (suc n) ≡ nat_lt m n
    one_less m n = grind (arith, nat_tests)

rises : (hs : List Scored) → AreByDoc hs → (i j : ℕ) (d : Scored) → i ≤ j → j < length hs → (get_or hs i d).doc ≤ (get_or hs j d).doc
unfolding IsStrictlySortedBy
rises [] up i j d le lt = absurd (omega (arith, lt))
rises (x ∷ hs) up zero zero d le lt = omega arith
rises (x ∷ hs) up (suc i) zero d le lt = absurd (omega (arith, le))
rises (x ∷ hs) up zero (suc j) d le lt = let h = later hs (all_behind x hs up.0) j d (omega (arith, lt)) in omega (arith, h)
  where
    later : (hs : List Scored) → AllByRecursion (λ y. x.doc < y.doc) hs → (j : ℕ) (d : Scored) → j < length hs → x.doc < (get_or hs j d).doc
    later [] a j d lt = absurd (omega (arith, lt))
    later (y ∷ hs) a zero d lt = a.0
    later (y ∷ hs) a (suc j) d lt = later hs a.1 j d (omega (arith, lt))
rises (x ∷ hs) up (suc i) (suc j) d le lt = rises hs up.1 i j d (omega (arith, le)) (omega (arith, lt))

pub parted : (hs : List Scored) → AreByDoc hs → (least : ℕ) → IsPartitionedBy (λ h. nat_lt h.doc least) hs
parted hs up least i j d le lt e = (let h = rises hs up i j d le lt in let f = ltb-true _ _ e in below (omega (arith, h, f)))
  where
    below : {a b : ℕ} → a < b → nat_lt a b ≡ true
    below lt = grind (arith, nat_tests)

pub pointed : (h : BlockHead) (hs : List Scored) → AreByDoc hs → (n : ℕ) (x : Scored) → n ≤ length hs
    → IsPartitionPoint (λ y. nat_lt y.doc h.least ≡ true) (λ y. nat_lt y.doc h.least ≡ false) hs n
    → (nat_lt n (length hs) && nat_le (get_or hs n x).doc h.greatest) ≡ has_hit (map (λ h. h.doc) hs) h
pointed h hs up n x le at = first_hit h hs up n x le (λ k d lt. ltb-true _ _ (at.0 k d (omega arith) lt)) (λ k d a b. ltb-false _ _ (at.1 k d a b))

-- ---- how many blocks
length_one : (b : Base) (h : BlockHead) → length (filter (may_hit b) (h ∷ [])) ≡ cond (may_hit b h) 1 0
length_one b h = elim (may_hit b h) as (λ c. length (cond c (h ∷ []) []) ≡ cond c 1 0) [
  | true ↦ refl
  | false ↦ refl
]

module _ (b : Base) (heads : List BlockHead) where
  pub read_where : (k : ℕ) → may_hit b (get_or heads k no_head) ≡ true → may_read b heads k ≡ 1
  read_where k e = ap (λ c. cond c 1 0) e

  pub read_not : (k : ℕ) → may_hit b (get_or heads k no_head) ≡ false → may_read b heads k ≡ 0
  read_not k e = ap (λ c. cond c 1 0) e

  pub next_block : (first k : ℕ) → first ≤ k → k < length heads → hit_blocks b heads first (k + 1) ≡ hit_blocks b heads first k + may_read b heads k
  next_block first k le lt =
      let rest = drop first heads in
      let e : k + 1 - first ≡ (k - first) + 1 = omega (arith, le) in
      let inside : k - first < length rest = omega (arith, lt, le, length-drop first heads) in
      let at : first + (k - first) ≡ k = omega (arith, le) in
      let h = get_or rest (k - first) no_head in
      let same : h ≡ get_or heads k no_head = get_or-drop first heads (k - first) no_head ∙ ap (λ n. get_or heads n no_head) at in
      ap (λ n. length (filter (may_hit b) (take n rest))) e
      ∙ ap (λ xs. length (filter (may_hit b) xs)) (take_more rest (k - first) no_head inside)
      ∙ ap length (filter-append (may_hit b) (take (k - first) rest) (h ∷ []))
      ∙ length-append (filter (may_hit b) (take (k - first) rest)) (filter (may_hit b) (h ∷ []))
      ∙ ap (λ n. length (filter (may_hit b) (take (k - first) rest)) + n) (length_one b h ∙ ap (λ x. cond (may_hit b x) 1 0) same)

  pub no_block : (k : ℕ) → hit_blocks b heads k k ≡ 0
  no_block k = let e : k - k ≡ 0 = omega arith in ap (λ m. length (filter (may_hit b) (take m (drop k heads)))) e

  runs_by : (first k n : ℕ) → first ≤ k → k + n ≤ length heads → hit_blocks b heads first (k + n) ≡ hit_blocks b heads first k + hit_blocks b heads k (k + n)
  runs_by first k zero le lt =
      let e : k + 0 ≡ k = omega arith in
      let none = no_block k in
      subst (λ m. hit_blocks b heads first m ≡ hit_blocks b heads first k + hit_blocks b heads k m) (sym e) (omega (arith, none))
  runs_by first k (suc n) le lt =
      let e : k + suc n ≡ (k + n) + 1 = omega arith in
      let h = runs_by first k n le (omega (arith, lt)) in
      let far = next_block first (k + n) (omega (arith, le)) (omega (arith, lt, e)) in
      let near = next_block k (k + n) (omega arith) (omega (arith, lt, e)) in
      subst (λ m. hit_blocks b heads first m ≡ hit_blocks b heads first k + hit_blocks b heads k m) (sym e) (omega (arith, h, far, near))

  -- two runs, one behind the other
  pub two_runs : (first k last : ℕ) → first ≤ k → k ≤ last → last ≤ length heads
      → hit_blocks b heads first last ≡ hit_blocks b heads first k + hit_blocks b heads k last
  two_runs first k last le up within =
      let e : k + (last - k) ≡ last = omega (arith, up) in
      subst (λ m. hit_blocks b heads first m ≡ hit_blocks b heads first k + hit_blocks b heads k m) e (runs_by first k (last - k) le (omega (arith, e, within)))

-- ---- of blocks that hold some words, those of their run
more_left : {Z : Type 0} (b : Bool) (z : Z) (zs : List Z) (n : ℕ) → n ≤ length zs → n ≤ length (cond b (z ∷ zs) zs)
more_left true z zs n le = omega (arith, le)
more_left false z zs n le = le

both_more : {Y : Type 0} (b c : Bool) (y : Y) (ys zs : List Y) → b ≡ c → length ys ≤ length zs → length (cond b (y ∷ ys) ys) ≤ length (cond c (y ∷ zs) zs)
both_more true c y ys zs e le = subst (λ d. suc (length ys) ≤ length (cond d (y ∷ zs) zs)) e (omega (arith, le))
both_more false c y ys zs e le = subst (λ d. length ys ≤ length (cond d (y ∷ zs) zs)) e le

count_run : {X : Type 0} (p q : X → Bool) (xs : List X) (first last : ℕ) → first ≤ last → last ≤ length xs
    → ((k : ℕ) (d : X) → first ≤ k → k < last → p (get_or xs k d) ≡ true)
    → length (filter q (take (last - first) (drop first xs))) ≤ length (filter (λ x. p x && q x) xs)
count_run p q [] first last up within h =
    let e : last - first ≡ 0 = omega (arith, within) in
    subst (λ n. length (filter q (take n (drop first []))) ≤ 0) (sym e) (omega arith)
count_run p q (x ∷ xs) first zero up within h =
    let e : zero - first ≡ 0 = omega arith in
    subst (λ n. length (filter q (take n (drop first (x ∷ xs)))) ≤ length (filter (λ x. p x && q x) (x ∷ xs))) (sym e) (omega arith)
count_run p q (x ∷ xs) zero (suc last) up within h =
    let e : suc last - 0 ≡ suc last = omega arith in
    let f : last - 0 ≡ last = omega arith in
    let rest = count_run p q xs 0 last (omega arith) (omega (arith, within)) (λ k d a b. h (suc k) d (omega arith) (omega (arith, b))) in
    let less : length (filter q (take last xs)) ≤ length (filter (λ x. p x && q x) xs) =
    subst (λ n. length (filter q (take n xs)) ≤ length (filter (λ x. p x && q x) xs)) f rest in
    let here : p x ≡ true = h 0 x (omega arith) (omega arith) in
    subst (λ n. length (filter q (take n (x ∷ xs))) ≤ length (filter (λ x. p x && q x) (x ∷ xs))) (sym e)
    (both_more (q x) (p x && q x) x (filter q (take last xs)) (filter (λ x. p x && q x) xs) (sym (ap (λ b. b && q x) here)) less)
count_run p q (x ∷ xs) (suc first) (suc last) up within h =
    let e : suc last - suc first ≡ last - first = omega arith in
    let rest = count_run p q xs first last (omega (arith, up)) (omega (arith, within)) (λ k d a b. h (suc k) d (omega (arith, a)) (omega (arith, b))) in
    subst (λ n. length (filter q (take n (drop first xs))) ≤ length (filter (λ x. p x && q x) (x ∷ xs))) (sym e)
    (more_left (p x && q x) x (filter (λ x. p x && q x) xs) _ rest)

in_turn : (first k last : ℕ) → first ≤ k → k < last → (nat_le first k && nat_lt k last) ≡ true
in_turn first k last a b = grind (arith, nat_tests)

module _ (v : SourceView) (b : Base) (lo hi first last : ℕ) (met : AreMet v.index.heads (v.before lo) (v.before hi) first last) where
  pub few_hit : hit_blocks b v.index.heads first last ≤ hit_met v b lo hi
  few_hit = count_run (is_met (v.before lo) (v.before hi)) (may_hit b) v.index.heads first last met.ordered met.within
      (λ k d a b. (let w = met.within in met.met k d (omega (arith, b, w))) ∙ in_turn first k last a b)

  -- the first ones
  pub some_hit : (k : ℕ) → first ≤ k → k ≤ last → hit_blocks b v.index.heads first k ≤ hit_met v b lo hi
  some_hit k le up =
      let all = few_hit in
      let within = met.within in
      let parts = two_runs b v.index.heads first k last le up within in
      omega (arith, all, parts)

both_true : {X : Type 0} (p : X → Bool) (xs : List X) → length (filter (λ x. p x && true) xs) ≤ length (filter p xs)
both_true p [] = omega arith
both_true p (x ∷ xs) = both_more (p x && true) (p x) x (filter (λ x. p x && true) xs) (filter p xs) (stays (p x)) (both_true p xs)
  where
    stays : (c : Bool) → (c && true) ≡ c
    stays true = refl
    stays false = refl

-- where a base stands for all
pub all_reach : (v : SourceView) (lo hi : ℕ) → hit_met v base.All lo hi ≤ met_in v lo hi
all_reach v lo hi = both_true (is_met (v.before lo) (v.before hi)) v.index.heads

-- where each of them is reached
pub reached : (v : SourceView) (b : Base) (lo hi first last : ℕ) → AreMet v.index.heads (v.before lo) (v.before hi) first last
    → ((j : ℕ) → first ≤ j → j < last → may_hit b (get_or v.index.heads j no_head) ≡ true) → met_in v lo hi ≤ hit_met v b lo hi
reached v b lo hi first last met each =
    filter_less (is_met (v.before lo) (v.before hi)) (λ h. is_met (v.before lo) (v.before hi) h && may_hit b h) v.index.heads (λ j d l e.
    let turn = and_parts (nat_le first j) (nat_lt j last) (sym (met.met j d l) ∙ e) in
    and_from _ _ e (ap (may_hit b) (get_or_default v.index.heads j d no_head l) ∙ each j (leb-true _ _ turn.0) (ltb-true _ _ turn.1)))

-- ---- a block that no hit reaches
or_parts : (a b : Bool) → (a || b) ≡ false → (a ≡ false) × (b ≡ false)
or_parts true b h = absurd (true≢false h)
or_parts false b h = (refl, h)

not_there : (h : BlockHead) (ds : List ℕ) (d : ℕ) → has_hit ds h ≡ false → lies_in h d ≡ true → is_listed ds d ≡ false
unfolding has_hit
not_there h [] d none lies = refl
not_there h (e ∷ ds) d none lies =
    let p = or_parts (lies_in h e) (list_any (lies_in h) ds) none in
    elim (e == d) as (λ b. e == d ≡ b → (b || is_listed ds d) ≡ false) [
      | true ↦ λ same. absurd (true≢false (sym lies ∙ ap (lies_in h) (sym (eqb-true e d same)) ∙ p.0))
      | false ↦ λ other. not_there h ds d p.1 lies
    ] refl

not_listed : (b : Base) (h : BlockHead) (d : ℕ) → may_hit b h ≡ false → lies_in h d ≡ true → lists_doc b d ≡ false
not_listed base.All h d none lies = absurd (true≢false none)
not_listed (base.Listed hs) h d none lies = not_there h (hit_docs hs) d none lies

none_kept : (t : Post → Bool) (ps : List Post) → AllByRecursion (λ p. t p ≡ false) ps → filter t ps ≡ []
none_kept t [] h = refl
none_kept t (p ∷ ps) h = ap (λ b. cond b (p ∷ filter t ps) (filter t ps)) h.0 ∙ none_kept t ps h.1

and_none : (a b : Bool) → b ≡ false → (a && b) ≡ false
and_none true b h = h
and_none false b h = refl

module _ (told : Option (List ℕ)) (v : SourceView) (b : Base) (listed : List Bool) (is : IsSieve told v b listed) where
  not_marked : (d : ℕ) → lists_doc b d ≡ false → get_or listed d false ≡ false
  not_marked d none = elim (get_or listed d false) as (λ c. get_or listed d false ≡ c → c ≡ false) [
    | true ↦ λ e. sym (is.inside d e) ∙ none
    | false ↦ λ e. refl
  ] refl

  pub skipped : (bytes : List ℕ) → StandsFor bytes v.index → (k lo hi : ℕ) → k < length v.index.heads → may_hit b (get_or v.index.heads k no_head) ≡ false
      → filter (is_chosen lo hi listed) (get_or (v.blocks bytes) k []) ≡ []
  skipped bytes stands k lo hi lt none =
      let posts = get_or (v.blocks bytes) k [] in
      let h = get_or v.index.heads k no_head in
      let each : All (λ p. is_chosen lo hi listed p ≡ false) posts = λ j d l.
      let p = get_or posts j d in
      and_none (nat_le lo p.word && nat_lt p.word hi) (get_or listed p.doc false)
      (not_marked p.doc (not_listed b h p.doc none ((is.opened.source.told bytes stands).lie k no_head lt j d l))) in
      none_kept (is_chosen lo hi listed) posts (recursion_from_All (λ p. is_chosen lo hi listed p ≡ false) posts each)

  -- so what was gathered is that of one block more
  pub same_keys : (first k lo hi : ℕ) (keys : List ℕ) → first ≤ k → k < length v.index.heads → may_hit b (get_or v.index.heads k no_head) ≡ false
      → HasKeys v told first k (is_chosen lo hi listed) keys → HasKeys v told first (k + 1) (is_chosen lo hi listed) keys
  same_keys first k lo hi keys le lt none h = record {
    rows = h.rows;
    are = h.are;
    packed = h.packed;
    within = h.within;
    passed = h.passed;
    run = λ bytes told_is stands.
        let count = (is.opened.source.told bytes stands).count in
        let t = is_chosen lo hi listed in
        h.run bytes told_is stands ∙ sym (append-nil (run_of (v.blocks bytes) first k t))
        ∙ ap (λ xs. run_of (v.blocks bytes) first k t ++ xs) (sym (skipped bytes stands k lo hi lt none))
        ∙ sym (flat_more (filter t) (v.blocks bytes) first k le (omega (arith, lt, count)));
  }

pub nothing_more : (P : List Post → Type 0) (seen more : List Post) → more ≡ [] → P seen → P (seen ++ more)
nothing_more P seen more none h = subst P (sym (ap (λ xs. seen ++ xs) none ∙ append-nil seen)) h

-- ---- walks
-- the store is only read, no read failed, and so many reads were made at most
pub record HitWalk {S L : Type 0} (tells : S → Option (List ℕ)) (lends : S → L) (fails counts : S → ℕ) (i : IndexView) (old now : S) (n : ℕ) : Type 0 where
  pub store : OnlyReads tells lends fails i old now well
  pub later : counts old ≤ counts now
  pub reads : counts now ≤ counts old + n

module _ {S L : Type 0} {tells : S → Option (List ℕ)} {lends : S → L} {fails counts : S → ℕ} {i : IndexView} {old : S} where
  pub hits_begin : (n : ℕ) → HitWalk tells lends fails counts i old old n
  hits_begin n = record { store = nothing_read; later = omega arith; reads = omega arith }

module _ {S L : Type 0} {tells : S → Option (List ℕ)} {lends : S → L} {fails counts : S → ℕ} {i : IndexView} {old now : S} {n : ℕ}
    (w : HitWalk tells lends fails counts i old now n) where
  pub hits_go_on : {next : S} {T : Type 0} {x : T} {Told : FetchFault → Type 0} {m all : ℕ} → LeavesStore tells lends fails i Told now next (Ok x)
      → ReadsWithin m (counts now) (counts next) → all ≡ n + m → HitWalk tells lends fails counts i old next all
  hits_go_on store one sum = record {
    store = reads_on w.store store;
    later = (let l = one.later in omega (arith, l, w.later));
    reads = (let r = one.within in omega (arith, r, w.reads, sum));
  }

  pub hits_skip : {all : ℕ} → n ≤ all → HitWalk tells lends fails counts i old now all
  hits_skip le = record { store = w.store; later = w.later; reads = omega (arith, w.reads, le) }

  pub hits_stop : {next : S} {m all : ℕ} → ReadsWithin m (counts now) (counts next) → n + m ≤ all → ReadsWithin all (counts old) (counts next)
  hits_stop one le = record { later = (let l = one.later in omega (arith, l, w.later)); within = (let r = one.within in omega (arith, r, w.reads, le)) }

  pub hits_end : {all : ℕ} → n ≤ all → ReadsWithin all (counts old) (counts now)
  hits_end le = record { later = w.later; within = omega (arith, w.reads, le) }

-- ---- bases
past : (xs : List Bool) (d : ℕ) → length xs ≤ d → get_or xs d false ≡ false
past [] d le = refl
past (x ∷ xs) zero le = absurd (omega (arith, le))
past (x ∷ xs) (suc d) le = past xs d (omega (arith, le))

listed_only : (present : List Bool) (b : Base) (listed : List Bool) → AreListed present b listed → (d : ℕ) → get_or listed d false ≡ true → lists_doc b d ≡ true
listed_only present base.All listed has d e = refl
listed_only present (base.Listed hs) listed has d e = elim (cases_lt d (length listed)) [
  | inl lt ↦ (let long = has.long in sym (has.each d (omega (arith, lt, long)))) ∙ e
  | inr le ↦ absurd (true≢false (sym e ∙ past listed d le))
]

-- what a base lists
pub sieve_of : (told : Option (List ℕ)) (v : SourceView) (bound : ℕ) (b : Base) (listed : List Bool) → CanRead told v → bound ≤ 2 ^ 20 → IsBaseOf v.docs bound b
    → AreListed v.present b listed → IsSieve told v b listed
sieve_of told v bound b listed opened small fits has = record {
  opened = opened;
  base = base_in v.docs bound b small fits;
  long = has.long ∙ opened.source.long;
  inside = listed_only v.present b listed has;
}

pub all_sieve : (told : Option (List ℕ)) (v : SourceView) (listed : List Bool) → CanRead told v → length listed ≡ v.docs → IsSieve told v base.All listed
all_sieve told v listed opened long = record { opened = opened; base = tt; long = long; inside = λ d e. refl }

each_listed : (present : List Bool) (b : Base) (listed : List Bool) → AreListed present b listed → (p : Post) → is_listed (present_docs present) p.doc ≡ true
    → in_listed listed p ≡ lists_doc b p.doc
each_listed present b listed has p there = by b has (present_below present p.doc (sym (is_present present p.doc) ∙ there))
  where
    by : (b : Base) → AreListed present b listed → p.doc < length present → in_listed listed p ≡ lists_doc b p.doc
    by base.All has lt = has.each p.doc lt ∙ ap (λ ds. is_listed ds p.doc) (own_docs with_no_score (λ d. refl) (present_docs present)) ∙ there
    by (base.Listed hs) has lt = has.each p.doc lt

pub lists_of : (v : SourceView) → IsSource v → (b : Base) (listed : List Bool) → AreListed v.present b listed → Lists v b listed
lists_of v is b listed has bytes stands =
    let s = v.stock bytes in
    let told = is.told bytes stands in
    All-weaker (IsKnown s) (λ p. in_listed listed p ≡ lists_doc b p.doc)
    (λ p h. each_listed v.present b listed has p (ap (λ ds. is_listed ds p.doc) told.docs ∙ is_titled s.titles p.doc ∙ h.doc)) s.posts told.stocked.known
