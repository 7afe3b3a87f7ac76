-- What the loops over the columns of a run know, and what is known of a block behind a run.
--
--   Each P xs i          a fact of each of the first i numbers; each_more: of one more
--   DocsTo               what the loops over the gap column know; docs_start, docs_more, docs_all: their steps
--   docs_joined          the documents of some rows, and of the rows behind them; docs_none, docs_put, doc_behind: steps of it
--   DocsUpTo             what a loop knows that fills a column some rows at a time; up_to_start, up_to_more: its steps
--   short_here           a byte below 128 is a code
--   pair_here            a code of one byte or two
--   IsRun, is_run        a run of rows that keep the rules, from the facts of its columns
--   pushes_run           what is known behind it: what is known behind each of its rows, one by one
use Rattle.std.proofs.Common.{◌≡◌, ℕ, zero, suc, ◌+◌, ◌-◌, ◌*◌, ◌/◌, ◌%◌, ◌<◌, ◌≤◌, Bool, true, false, ◌&&◌, ◌||◌, ltb, List, [], ◌∷◌, ◌++◌, length, get_or}
use Rattle.std.proofs.Common.{set, take, drop, Option, Some, refl, sym, ap, ap₂, subst, ◌∙◌, append_assoc, arith, inl, inr}
use Rattle.std.specs.Int.{w16, w32, from_be_bytes}
use Rattle.std.specs.Option.{unwrap_or}
use Rattle.std.proofs.lemmas.Bool.{cases_eq, cases_lt, lt-ltb, le-ltb, ltb-true, and_parts, and_from, or_cases}
use Rattle.std.proofs.lemmas.List.{get_or_append_left, get_or-append_right, length-append, length-take, length-drop, get_or-set_same, get_or-set_other}
use Rattle.std.proofs.lemmas.List.{drop_more, append-nil, take_more, take_all, get_or-take, get_or-drop}
use Rattle.std.proofs.lemmas.Slice.{take-put_mid}
use Rattle.cs_base.specs.index.GapCode.{code, code_in, first_code}
use Rattle.cs_base.specs.declared.index.block.BlockHead.{BlockHead}
use Rattle.cs_base.specs.declared.content.doc.Post.{Post}
use Rattle.cs_base.specs.declared.content.scores.Weights.{Weights}
use Rattle.cs_cols.specs.HeldPosts.{posts_of, AreEven}
use Rattle.cs_cols.proofs.Columns.{posts-length, posts-at}
use Rattle.cs_gaps.proofs.CodesLemmas.{first_found}
use Rattle.cs_model_index.specs.BlockRules.{gap_len, gap_number, row_at, is_scored, is_after, BlockColumns}
use Rattle.cs_block.specs.BlockReading.{GapHere}
use Rattle.cs_block.specs.Pass.{HasPushed}
use Rattle.cs_block.specs.RowRuns.{place_after, doc_after, HasGap, HaveDocs, HasDocs, AreWords, ArePositions, is_position, AreScores, is_score, AreOnward}
use Rattle.cs_block.specs.RowRuns.{AreAscending, row_in}
use Rattle.cs_block.proofs.RulePasses.{pushes_on, Tests}
use borrow.Rule.Slice.PartMut.{put_mid, post_of}

-- ---- a column that is filled

abbrev pub Each : (ℕ → ℕ → Type 0) → List ℕ → ℕ → Type 0
Each P xs i = (j : ℕ) → j < i → P j (get_or xs j 0)

pub each_more : (P : ℕ → ℕ → Type 0) (xs : List ℕ) (i x : ℕ) → i < length xs → P i x → Each P xs i → Each P (set xs i x) (i + 1)
each_more P xs i x lt here h = λ j less. elim (cases_eq j i) [
  | inl e ↦ subst (λ (k : ℕ). P k (get_or (set xs i x) k 0)) (sym e) (subst (P i) (sym (get_or-set_same xs i x 0 lt)) here)
  | inr ne ↦ subst (P j) (sym (get_or-set_other xs i j x 0 ne)) (h j (omega arith))
]

-- ---- the gap column

pub place_on : (gaps : List ℕ) (at j n next : ℕ) → GapHere gaps (place_after gaps at j) n next → place_after gaps at (suc j) ≡ next
unfolding place_after
place_on gaps at j n next h =
    let e : unwrap_or (first_code (drop (place_after gaps at j) gaps)) 0 ≡ n = ap (λ (o : Option ℕ). unwrap_or o 0) h.is in
    ap (λ (x : ℕ). place_after gaps at j + length (code x)) e ∙ sym h.behind

pub doc_on : (gaps : List ℕ) (at before j n next : ℕ) → GapHere gaps (place_after gaps at j) n next
    → doc_after gaps at before (suc j) ≡ doc_after gaps at before j + n
unfolding doc_after
doc_on gaps at before j n next h =
    let e : unwrap_or (first_code (drop (place_after gaps at j) gaps)) 0 ≡ n = ap (λ (o : Option ℕ). unwrap_or o 0) h.is in
    ap (λ (x : ℕ). doc_after gaps at before j + x) e

pub record DocsTo (gaps : List ℕ) (at before : ℕ) (ds : List ℕ) (i next doc : ℕ) : Type 0 where
  pub next_is : next ≡ place_after gaps at i
  pub inside : next ≤ length gaps
  pub doc_is : doc ≡ doc_after gaps at before i
  pub each : (j : ℕ) → j < i → HasGap gaps at before j (get_or ds j 0) × (get_or ds j 0 ≤ doc)

pub docs_start : (gaps : List ℕ) (at before : ℕ) (ds : List ℕ) → at ≤ length gaps → DocsTo gaps at before ds 0 at before
unfolding place_after doc_after
docs_start gaps at before ds le = record { next_is = refl; inside = le; doc_is = refl; each = λ j lt. absurd (omega arith) }

pub docs_more : (gaps : List ℕ) (at before : ℕ) (ds : List ℕ) (i next doc n behind more : ℕ) → i < length ds → GapHere gaps next n behind → more ≡ doc + n
    → DocsTo gaps at before ds i next doc → DocsTo gaps at before (set ds i more) (i + 1) behind more
docs_more gaps at before ds i next doc n behind more lt gap sum h =
    let here : GapHere gaps (place_after gaps at i) n behind = subst (λ (x : ℕ). GapHere gaps x n behind) h.next_is gap in
    let on : place_after gaps at (suc i) ≡ behind = place_on gaps at i n behind here in
    let made : more ≡ doc_after gaps at before i + n = sum ∙ ap (λ (x : ℕ). x + n) h.doc_is in
    let one : suc i ≡ i + 1 = omega arith in
    let old : (j : ℕ) → j < i → HasGap gaps at before j (get_or ds j 0) × (get_or ds j 0 ≤ more) =
    λ j less. (let f = h.each j less in let below = f.1 in (f.0, omega arith)) in
    record {
      next_is = sym on ∙ ap (place_after gaps at) one;
      inside = gap.within;
      doc_is = made ∙ sym (doc_on gaps at before i n behind here) ∙ ap (doc_after gaps at before) one;
      each = each_more (λ j d. HasGap gaps at before j d × (d ≤ more)) ds i more lt
          ((n, subst (λ (x : ℕ). GapHere gaps (place_after gaps at i) n x) (sym on) here, made), omega arith) old;
    }

pub docs_all : (gaps : List ℕ) (at before docs : ℕ) (ds : List ℕ) (i next doc : ℕ) → length ds ≡ i → (0 < i → doc < docs)
    → DocsTo gaps at before ds i next doc → HasDocs gaps at before docs ds next
docs_all gaps at before docs ds i next doc e below h = record {
  are = λ j lt. (let f = h.each j (omega arith) in let most = f.1 in let late = below (omega arith) in (f.0, omega arith));
  next_is = h.next_is ∙ ap (place_after gaps at) (sym e);
  within = h.inside;
}

-- codes behind others
places_joined : (gaps : List ℕ) (at n m : ℕ) → place_after gaps (place_after gaps at n) m ≡ place_after gaps at (n + m)
unfolding place_after
places_joined gaps at n zero = ap (place_after gaps at) (omega arith)
places_joined gaps at n (suc m) =
    let one : suc (n + m) ≡ n + suc m = omega arith in
    ap (λ (x : ℕ). x + gap_len (drop x gaps)) (places_joined gaps at n m) ∙ ap (place_after gaps at) one

sums_joined : (gaps : List ℕ) (at before n m : ℕ) → doc_after gaps (place_after gaps at n) (doc_after gaps at before n) m ≡ doc_after gaps at before (n + m)
unfolding doc_after
sums_joined gaps at before n zero = ap (doc_after gaps at before) (omega arith)
sums_joined gaps at before n (suc m) =
    let one : suc (n + m) ≡ n + suc m = omega arith in
    ap₂ (λ (x y : ℕ). x + gap_number (drop y gaps)) (sums_joined gaps at before n m) (places_joined gaps at n m) ∙ ap (doc_after gaps at before) one

gap_joined : (gaps : List ℕ) (at before n m d : ℕ) → HasGap gaps (place_after gaps at n) (doc_after gaps at before n) m d → HasGap gaps at before (n + m) d
gap_joined gaps at before n m d h =
    let one : n + suc m ≡ suc (n + m) = omega arith in
    let behind = places_joined gaps at n (suc m) ∙ ap (place_after gaps at) one in
    let there = subst (GapHere gaps (place_after gaps (place_after gaps at n) m) h.0) behind h.1 in
    let here = subst (λ (x : ℕ). GapHere gaps x h.0 (place_after gaps at (suc (n + m)))) (places_joined gaps at n m) there in
    (h.0, here, h.2 ∙ ap (λ (x : ℕ). x + h.0) (sums_joined gaps at before n m))

-- the documents of some rows, and of the rows behind them
pub docs_joined : (gaps : List ℕ) (at before docs : ℕ) (ds es : List ℕ) (next doc behind : ℕ) → doc ≡ doc_after gaps at before (length ds)
    → HasDocs gaps at before docs ds next → HasDocs gaps next doc docs es behind → HasDocs gaps at before docs (ds ++ es) behind
docs_joined gaps at before docs ds es next doc behind is h more =
    let n = length ds in
    let behind_doc = subst (λ (x : ℕ). HasDocs gaps next x docs es behind) is more in
    let from_here = subst (λ (x : ℕ). HasDocs gaps x (doc_after gaps at before n) docs es behind) h.next_is behind_doc in
    let long = length-append ds es in
    record {
      are = λ j lt. elim (cases_lt j n) [
        | inl less ↦ subst (λ (x : ℕ). HasGap gaps at before j x × (x < docs)) (sym (get_or_append_left ds es 0 j less)) (h.are j less)
        | inr ge ↦
            let m = j - n in
            let there : n + m ≡ j = omega (arith, ge) in
            let same : get_or (ds ++ es) j 0 ≡ get_or es m 0 = get_or-append_right ds es n j 0 refl ge in
            let f = from_here.are m (omega (arith, lt, long, ge)) in
            let gap = subst (λ (x : ℕ). HasGap gaps at before x (get_or es m 0)) there (gap_joined gaps at before n m (get_or es m 0) f.0) in
            subst (λ (x : ℕ). HasGap gaps at before j x × (x < docs)) (sym same) (gap, f.1)
      ];
      next_is = from_here.next_is ∙ places_joined gaps at n (length es) ∙ ap (place_after gaps at) (sym long);
      within = from_here.within;
    }

pub docs_none : (gaps : List ℕ) (at before docs : ℕ) → at ≤ length gaps → HasDocs gaps at before docs [] at
unfolding place_after
docs_none gaps at before docs le = record { are = λ j lt. absurd (omega (arith, lt)); next_is = refl; within = le }

-- a column whose first rows are filled, and the next ones written
pub docs_put : (gaps : List ℕ) (at before docs : ℕ) (out es : List ℕ) (i k next doc behind : ℕ) → i ≤ length out → doc ≡ doc_after gaps at before i
    → HasDocs gaps at before docs (take i out) next → HasDocs gaps next doc docs es behind
    → HasDocs gaps at before docs (take (i + length es) (put_mid i k out es)) behind
docs_put gaps at before docs out es i k next doc behind inside is h more =
    let long : length (take i out) ≡ i = omega (arith, length-take i out, inside) in
    subst (λ (xs : List ℕ). HasDocs gaps at before docs xs behind) (sym (take-put_mid i k out es (i + length es) refl inside))
    (docs_joined gaps at before docs (take i out) es next doc behind (is ∙ ap (doc_after gaps at before) (sym long)) h more)

-- the document behind some rows is that of the last of them
pub doc_behind : (gaps : List ℕ) (at before docs : ℕ) (ds : List ℕ) (k : ℕ) → length ds ≡ k + 1 → HaveDocs gaps at before docs ds
    → get_or ds k 0 ≡ doc_after gaps at before (length ds)
doc_behind gaps at before docs ds k len h =
    let last = (h k (omega (arith, len))).0 in
    let one : suc k ≡ length ds = omega (arith, len) in
    last.2 ∙ sym (doc_on gaps at before k last.0 (place_after gaps at (suc k)) last.1) ∙ ap (doc_after gaps at before) one

-- a column whose first i rows are filled
pub record DocsUpTo (gaps : List ℕ) (at before docs : ℕ) (out : List ℕ) (i next doc : ℕ) : Type 0 where
  pub made : HasDocs gaps at before docs (take i out) next
  pub doc_is : doc ≡ doc_after gaps at before i
  pub inside : i ≤ length out

pub up_to_start : (gaps : List ℕ) (at before docs : ℕ) (out : List ℕ) → at ≤ length gaps → DocsUpTo gaps at before docs out 0 at before
unfolding doc_after
up_to_start gaps at before docs out le = record { made = docs_none gaps at before docs le; doc_is = refl; inside = omega arith }

-- n rows more
pub up_to_more : (gaps : List ℕ) (at before docs : ℕ) (out es : List ℕ) (i n k next doc behind : ℕ) → k ≡ n → 0 < n → i + n ≤ length out
    → length es ≡ length (take k (drop i out)) → HasDocs gaps next doc docs es behind → DocsUpTo gaps at before docs out i next doc
    → DocsUpTo gaps at before docs (put_mid i k out es) (i + n) behind (get_or (put_mid i k out es) (i + n - 1) 0)
up_to_more gaps at before docs out es i n k next doc behind is some room same more h =
    let inside = h.inside in
    let full : length es ≡ n = omega (arith, same, is, length-take k (drop i out), length-drop i out, room, inside) in
    let now = put_mid i k out es in
    let rest = post_of i k out in
    let long : i + n ≤ length now = omega (arith, full, length-append (take i out) (es ++ rest), length-append es rest, length-take i out, inside) in
    let first : take (i + length es) now ≡ take (i + n) now = ap (λ (x : ℕ). take (i + x) now) full in
    let put = docs_put gaps at before docs out es i k next doc behind inside h.doc_is h.made more in
    let made = subst (λ (xs : List ℕ). HasDocs gaps at before docs xs behind) first put in
    let many : length (take (i + n) now) ≡ i + n = omega (arith, length-take (i + n) now, long) in
    let end = i + n - 1 in
    let last = doc_behind gaps at before docs (take (i + n) now) end (omega (arith, many, some)) made.are in
    record {
      made = made;
      doc_is = sym (get_or-take (i + n) now end 0 (omega (arith, some))) ∙ last ∙ ap (doc_after gaps at before) many;
      inside = long;
    }

pub docs_onward : (gaps : List ℕ) (at before docs : ℕ) (ds : List ℕ) → HaveDocs gaps at before docs ds → AreOnward ds
docs_onward gaps at before docs ds h = λ j lt.
    (let here = (h j (omega arith)).0 in
    let more = (h (suc j) lt).0 in
    let is : get_or ds j 0 ≡ doc_after gaps at before (suc j) = here.2 ∙ sym (doc_on gaps at before j here.0 (place_after gaps at (suc j)) here.1) in
    let sum : get_or ds (suc j) 0 ≡ doc_after gaps at before (suc j) + more.0 = more.2 in
    omega (arith, is, sum))

short_code : (n : ℕ) → n < 128 → code n ≡ n ∷ []
unfolding code code_in
short_code n lt = rw (lt-ltb n 128 lt) refl

pub short_here : (gaps : List ℕ) (at next : ℕ) → next ≡ at + 1 → at < length gaps → get_or gaps at 0 < 128 → GapHere gaps at (get_or gaps at 0) next
short_here gaps at next e inside lt =
    let n = get_or gaps at 0 in
    let c = short_code n lt in
    record {
      is = ap first_code (drop_more gaps at 0 inside ∙ ap (λ (x : List ℕ). x ++ drop (at + 1) gaps) (sym c)) ∙ first_found n (drop (at + 1) gaps) (omega arith);
      behind = e ∙ ap (λ (x : List ℕ). at + length x) (sym c);
      within = omega arith;
      below = omega arith;
    }

pair_code : (a b n : ℕ) → 128 ≤ a → a < 256 → 0 < b → b < 128 → n + 128 ≡ a + 128 * b → code n ≡ a ∷ b ∷ []
unfolding code code_in
pair_code a b n long byte some lt e =
    let large : 128 ≤ n = omega arith in
    let quotient : n / 128 ≡ b = omega arith in
    let digit : n % 128 + 128 ≡ a = omega arith in
    rw (le-ltb n 128 large, quotient, digit, lt-ltb b 128 lt) refl

two_here : (gaps : List ℕ) (at n next : ℕ) → at + 1 < length gaps → 128 ≤ get_or gaps at 0 → get_or gaps at 0 < 256 → 0 < get_or gaps (at + 1) 0
    → get_or gaps (at + 1) 0 < 128
    → n + 128 ≡ get_or gaps at 0 + 128 * get_or gaps (at + 1) 0 → next ≡ at + 2 → GapHere gaps at n next
two_here gaps at n next inside long byte some lt e is =
    let a = get_or gaps at 0 in
    let b = get_or gaps (at + 1) 0 in
    let c = pair_code a b n long byte some lt e in
    let rest = drop (at + 1 + 1) gaps in
    let front : drop at gaps ≡ code n ++ rest = drop_more gaps at 0 (omega arith) ∙ ap (λ (x : List ℕ). a ∷ x) (drop_more gaps (at + 1) 0 inside)
    ∙ ap (λ (x : List ℕ). x ++ rest) (sym c) in
    record {
      is = ap first_code front ∙ first_found n rest (omega arith);
      behind = is ∙ ap (λ (x : List ℕ). at + length x) (sym c);
      within = omega arith;
      below = omega arith;
    }

-- one byte or two, as the test says
pub pair_here : (gaps : List ℕ) (at n next : ℕ) → at + 1 < length gaps → get_or gaps at 0 < 256
    → (ltb (get_or gaps at 0) 128 || (ltb 0 (get_or gaps (at + 1) 0) && ltb (get_or gaps (at + 1) 0) 128)) ≡ true
    → (get_or gaps at 0 < 128 → n ≡ get_or gaps at 0) → (128 ≤ get_or gaps at 0 → n + 128 ≡ get_or gaps at 0 + 128 * get_or gaps (at + 1) 0)
    → (get_or gaps at 0 < 128 → next ≡ at + 1) → (128 ≤ get_or gaps at 0 → next ≡ at + 2) → GapHere gaps at n next
pair_here gaps at n next inside byte test one two one_on two_on =
    let a = get_or gaps at 0 in
    let b = get_or gaps (at + 1) 0 in
    elim (cases_lt a 128) [
      | inl lt ↦ subst (λ (x : ℕ). GapHere gaps at x next) (sym (one lt)) (short_here gaps at next (one_on lt) (omega arith) lt)
      | inr ge ↦ elim (or_cases (ltb a 128) (ltb 0 b && ltb b 128) test) [
        | inl e ↦ absurd (let lt = ltb-true a 128 e in omega arith)
        | inr e ↦ let p = and_parts (ltb 0 b) (ltb b 128) e in two_here gaps at n next inside ge byte (ltb-true 0 b p.0) (ltb-true b 128 p.1) (two ge)
            (two_on ge)
      ]
    ]

-- ---- a run, row by row

-- a row of the run, behind which the next one stands
last_in : Option Post → List ℕ → List ℕ → List ℕ → List ℕ → ℕ → Option Post
last_in last ds ws ps ss zero = last
last_in last ds ws ps ss (suc j) = Some (row_in ds ws ps ss j)

-- a row of the block at these columns
pub record IsRow (w : Weights) (head : BlockHead) (docs : ℕ) (c : BlockColumns) (i at before : ℕ) (ds ws ps ss : List ℕ) (j : ℕ) : Type 0 where
  pub gap : HasGap c.gaps at before j (get_or ds j 0)
  pub below : get_or ds j 0 < docs
  pub word : get_or ws j 0 ≡ head.lo + from_be_bytes w16 (take 2 (drop (2 * (i + j)) c.words))
  pub pos : get_or ps j 0 ≡ from_be_bytes w32 (take 4 (drop (4 * (i + j)) c.positions))
  pub score : get_or ss j 0 ≡ get_or (drop (i + j) c.scores) 0 0
  pub in_words : get_or ws j 0 < head.lo + head.words
  pub scored : is_scored w head.facet (row_in ds ws ps ss j) ≡ true

pub record IsRun (w : Weights) (head : BlockHead) (docs : ℕ) (c : BlockColumns) (i at before : ℕ) (last : Option Post) (ds ws ps ss : List ℕ) : Type 0 where
  pub even : AreEven ds ws ps ss
  pub within : i + length ds ≤ head.rows
  pub rows : (j : ℕ) → j < length ds → IsRow w head docs c i at before ds ws ps ss j
  pub front : is_after last (row_in ds ws ps ss 0) ≡ true
  pub ascending : AreAscending ds ws ps

behind_last : (w : Weights) (head : BlockHead) (docs : ℕ) (c : BlockColumns) (i at before : ℕ) (last : Option Post) (ds ws ps ss : List ℕ) (j : ℕ) → j < length ds
    → IsRun w head docs c i at before last ds ws ps ss → is_after (last_in last ds ws ps ss j) (row_in ds ws ps ss j) ≡ true
unfolding last_in
behind_last w head docs c i at before last ds ws ps ss zero lt h = h.front
behind_last w head docs c i at before last ds ws ps ss (suc j) lt h = h.ascending j lt

posts_more : (ds ws ps ss : List ℕ) (j : ℕ) → AreEven ds ws ps ss → j < length ds
    → take (suc j) (posts_of ds ws ps ss) ≡ take j (posts_of ds ws ps ss) ++ row_in ds ws ps ss j ∷ []
posts_more ds ws ps ss j even lt =
    let rs = posts_of ds ws ps ss in
    let row = row_in ds ws ps ss j in
    let one : suc j ≡ j + 1 = omega arith in
    ap (λ (x : ℕ). take x rs) one ∙ take_more rs j row (omega (arith, posts-length ds ws ps ss even))
    ∙ ap (λ (x : Post). take j rs ++ x ∷ []) (sym (posts-at ds ws ps ss even j row lt))

row_is : (w : Weights) (head : BlockHead) (docs : ℕ) (c : BlockColumns) (i at before : ℕ) (ds ws ps ss : List ℕ) (j : ℕ) → IsRow w head docs c i at before ds ws ps ss j
    → row_in ds ws ps ss j ≡ row_at head.lo (get_or ds j 0) (drop (2 * (i + j)) c.words) (drop (4 * (i + j)) c.positions) (drop (i + j) c.scores)
row_is w head docs c i at before ds ws ps ss j h = rw (h.word, h.pos, h.score) refl

record Until (w : Weights) (head : BlockHead) (docs : ℕ) (c : BlockColumns) (i at before : ℕ) (last : Option Post) (ds ws ps ss : List ℕ) (first now : List Post)
    (room k : ℕ) : Type 0 where
  pub pushed : HasPushed w head docs c (i + k) (place_after c.gaps at k) (last_in last ds ws ps ss k) (doc_after c.gaps at before k) first
      (now ++ take k (posts_of ds ws ps ss)) (room - k)

pushes_until : (w : Weights) (head : BlockHead) (docs : ℕ) (c : BlockColumns) (i at before : ℕ) (last : Option Post) (ds ws ps ss : List ℕ) (first now : List Post)
    (room k : ℕ)
    → k ≤ length ds → length ds ≤ room → IsRun w head docs c i at before last ds ws ps ss → HasPushed w head docs c i at last before first now room
    → Until w head docs c i at before last ds ws ps ss first now room k
unfolding place_after doc_after last_in
pushes_until w head docs c i at before last ds ws ps ss first now room zero le fits run h =
    let zero_rows : i ≡ i + 0 = omega arith in
    let same_room : room ≡ room - 0 = omega arith in
    record {
      pushed = subst (λ (x : ℕ). HasPushed w head docs c x at last before first (now ++ take 0 (posts_of ds ws ps ss)) (room - 0)) zero_rows
          (subst (λ (x : ℕ). HasPushed w head docs c i at last before first (now ++ take 0 (posts_of ds ws ps ss)) x) same_room
          (subst (λ (x : List Post). HasPushed w head docs c i at last before first x room) (sym (append-nil now)) h));
    }
pushes_until w head docs c i at before last ds ws ps ss first now room (suc j) le fits run h =
    let lt : j < length ds = omega arith in
    let ih = pushes_until w head docs c i at before last ds ws ps ss first now room j (omega arith) fits run h in
    let rs = posts_of ds ws ps ss in
    let row = row_in ds ws ps ss j in
    let is = run.rows j lt in
    let n = is.gap.0 in
    let gap = is.gap.1 in
    let sum = is.gap.2 in
    let within = run.within in
    let in_words : ltb row.word (head.lo + head.words) ≡ true = lt-ltb row.word (head.lo + head.words) is.in_words in
    let met : Tests w head (last_in last ds ws ps ss j) row ≡ true =
    and_from _ _ in_words (and_from _ _ is.scored (behind_last w head docs c i at before last ds ws ps ss j lt run)) in
    let added : now ++ take (suc j) rs ≡ (now ++ take j rs) ++ row ∷ [] = ap (λ (x : List Post). now ++ x) (posts_more ds ws ps ss j run.even lt)
    ∙ sym (append_assoc now (take j rs) (row ∷ [])) in
    let on = pushes_on w head docs c (i + j) (place_after c.gaps at j) n (place_after c.gaps at (suc j)) (last_in last ds ws ps ss j)
    (doc_after c.gaps at before j) (get_or ds j 0) row first (now ++ take j rs) (now ++ take (suc j) rs) (room - j) (room - suc j)
    (omega arith) gap sum is.below (row_is w head docs c i at before ds ws ps ss j is) met added (omega arith) ih.pushed in
    let one_row : i + j + 1 ≡ i + suc j = omega arith in
    let doc : row.doc ≡ doc_after c.gaps at before (suc j) = sum ∙ sym (doc_on c.gaps at before j n (place_after c.gaps at (suc j)) gap) in
    record {
      pushed = subst (λ (x : ℕ). HasPushed w head docs c x (place_after c.gaps at (suc j)) (Some row) (doc_after c.gaps at before (suc j)) first
          (now ++ take (suc j) rs) (room - suc j)) one_row
          (subst (λ (x : ℕ). HasPushed w head docs c (i + j + 1) (place_after c.gaps at (suc j)) (Some row) x first (now ++ take (suc j) rs) (room - suc j))
          doc on);
    }

-- the whole run: its last row is the one behind which the next run stands
pub pushes_run : (w : Weights) (head : BlockHead) (docs : ℕ) (c : BlockColumns) (i at before : ℕ) (last : Option Post) (ds ws ps ss : List ℕ) (first now then : List Post)
    (room left k next rows : ℕ)
    → length ds ≡ suc k → rows ≡ i + length ds → next ≡ place_after c.gaps at (length ds) → then ≡ now ++ posts_of ds ws ps ss → room ≤ left + length ds
    → length ds ≤ room → IsRun w head docs c i at before last ds ws ps ss → HasPushed w head docs c i at last before first now room
    → HasPushed w head docs c rows next (Some (row_in ds ws ps ss k)) (get_or ds k 0) first then left
unfolding last_in
pushes_run w head docs c i at before last ds ws ps ss first now then room left k next rows len rows_is next_is added less fits run h =
    let u = pushes_until w head docs c i at before last ds ws ps ss first now room (suc k) (omega arith) fits run h in
    let is = run.rows k (omega arith) in
    let all : take (suc k) (posts_of ds ws ps ss) ≡ posts_of ds ws ps ss =
    take_all (suc k) (posts_of ds ws ps ss) (omega (arith, posts-length ds ws ps ss run.even)) in
    let doc : doc_after c.gaps at before (suc k) ≡ get_or ds k 0 = doc_on c.gaps at before k is.gap.0 (place_after c.gaps at (suc k)) is.gap.1 ∙ sym is.gap.2 in
    let rows' : i + suc k ≡ rows = omega arith in
    let next' : place_after c.gaps at (suc k) ≡ next = ap (place_after c.gaps at) (sym len) ∙ sym next_is in
    let then' : now ++ take (suc k) (posts_of ds ws ps ss) ≡ then = ap (λ (x : List Post). now ++ x) all ∙ sym added in
    let a = subst (λ (x : ℕ). HasPushed w head docs c x (place_after c.gaps at (suc k)) (Some (row_in ds ws ps ss k)) (doc_after c.gaps at before (suc k))
    first (now ++ take (suc k) (posts_of ds ws ps ss)) (room - suc k)) rows' u.pushed in
    let b = subst (λ (x : ℕ). HasPushed w head docs c rows x (Some (row_in ds ws ps ss k)) (doc_after c.gaps at before (suc k)) first
    (now ++ take (suc k) (posts_of ds ws ps ss)) (room - suc k)) next' a in
    let d = subst (λ (x : ℕ). HasPushed w head docs c rows next (Some (row_in ds ws ps ss k)) x first (now ++ take (suc k) (posts_of ds ws ps ss))
    (room - suc k)) doc b in
    let e = subst (λ (x : List Post). HasPushed w head docs c rows next (Some (row_in ds ws ps ss k)) (get_or ds k 0) first x (room - suc k)) then' d in
    let left_over = e.room_left in
    record { judged = e.judged; told = e.told; kept = e.kept; room_left = omega arith }

-- the facts of the columns are those of the rows
scored_by : (w : Weights) (facet : Bool) (ds ws ps ss : List ℕ) (j : ℕ) → is_position facet (get_or ps j 0) ≡ true
    → is_score w facet (get_or ss j 0) ≡ true
    → is_scored w facet (row_in ds ws ps ss j) ≡ true
scored_by w true ds ws ps ss j p s = and_from (is_position true (get_or ps j 0)) (is_score w true (get_or ss j 0)) p s
scored_by w false ds ws ps ss j p s = and_from (is_position false (get_or ps j 0)) (is_score w false (get_or ss j 0)) p s

score_at : (scores : List ℕ) (i n j : ℕ) → j < n → get_or (take n (drop i scores)) j 0 ≡ get_or (drop (i + j) scores) 0 0
score_at scores i n j lt =
    let e : i + j ≡ i + j + 0 = omega arith in
    get_or-take n (drop i scores) j 0 lt ∙ get_or-drop i scores j 0 ∙ ap (λ (x : ℕ). get_or scores x 0) e ∙ sym (get_or-drop (i + j) scores 0 0)

pub is_run : (w : Weights) (head : BlockHead) (docs : ℕ) (c : BlockColumns) (i at before : ℕ) (last : Option Post) (ds ws ps ss : List ℕ) (n : ℕ)
    → length ds ≡ n → length ws ≡ n → length ps ≡ n → length ss ≡ n → i + n ≤ head.rows → ss ≡ take n (drop i c.scores)
    → HaveDocs c.gaps at before docs ds → AreWords head.lo head.words c.words i ws → ArePositions head.facet c.positions i ps → AreScores w head.facet ss
    → AreAscending ds ws ps
    → is_after last (row_in ds ws ps ss 0) ≡ true → IsRun w head docs c i at before last ds ws ps ss
is_run w head docs c i at before last ds ws ps ss n ld lw lp ls within cut_out are_docs are_words are_positions are_scores ascending front = record {
  even = (omega arith, omega arith, omega arith);
  within = omega arith;
  rows = λ j lt.
      (let d = are_docs j lt in
      let known = are_words j (omega arith) in
      let p = are_positions j (omega arith) in
      let s = are_scores j (omega arith) in
      record {
        gap = d.0;
        below = d.1;
        word = known.0;
        pos = p.0;
        score = ap (λ (x : List ℕ). get_or x j 0) cut_out ∙ score_at c.scores i n j (omega arith);
        in_words = known.1;
        scored = scored_by w head.facet ds ws ps ss j p.1 s;
      });
  front = front;
  ascending = ascending;
}
