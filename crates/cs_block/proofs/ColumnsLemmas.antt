-- The columns and their rows, both ways, one row at a time.
--
--   reads        where the gap codes hold, the columns are those of the rows that are read
--   items_step   one item, where its gap, its row and the rest of the gaps are known
--   codes_step   one gap code of the column
--   again        the columns of rows that have a spelling hold, and are read as these rows
use Rattle.std.proofs.Common.{◌≡◌, ℕ, zero, suc, ◌+◌, ◌-◌, ◌*◌, Bool, true, false, cond, List, [], ◌∷◌, ◌++◌, length, map, get_or, take, drop, Option, Some}
use Rattle.std.proofs.Common.{None, refl, sym, ap, ◌∙◌, arith, inl, inr}
use Rattle.std.specs.Int.{w16, w32, to_be_bytes, from_be_bytes}
use Rattle.std.specs.Option.{is_some, unwrap_or}
use Rattle.std.proofs.lemmas.Bool.{cases_lt}
use Rattle.std.proofs.lemmas.List.{drop_at, take-append-drop, length-take, length-drop, get_or-take, get_or_past, nil_from_length}
use Rattle.std.proofs.lemmas.Nat.{be_bytes_2, be_bytes_4, from_be_bytes-to_be_bytes_2, from_be_bytes-to_be_bytes_4}
use Rattle.cs_base.specs.index.GapCode.{code, first_code}
use Rattle.cs_base.specs.declared.content.doc.Post.{Post}
use Rattle.cs_gaps.proofs.CodesLemmas.{IsBytes, first_found, found_first}
use Rattle.cs_model_index.specs.Blocks.{gap_column, word_column, position_column, score_column}
use Rattle.cs_model_index.specs.BlockRules.{gap_number, gap_len, codes_break, item_row, doc_before, row_at, items_in}
use Rattle.cs_block.specs.BlockSpelling.{HasSpelling}
use Rattle.cs_gaps.proofs.CodesLemmas.{IsBytes-drop}

pub IsBytes-take : (n : ℕ) (bytes : List ℕ) → IsBytes bytes → IsBytes (take n bytes)
IsBytes-take n bytes h i =
    elim (cases_lt i n) [
      | inl lt ↦ rw (get_or-take n bytes i 0 lt) (h i)
      | inr le ↦ rw (get_or_past (take n bytes) i 0 (omega (arith, length-take n bytes))) (omega arith)
    ]

pub some_is : (o : Option ℕ) → is_some o ≡ true → o ≡ Some (unwrap_or o 0)
some_is None e = absurd cc
some_is (Some n) e = refl

pub guard_none : {A : Type 0} (b : Bool) (o : Option A) (x : A) → cond b o (Some x) ≡ None → (b ≡ true) × (o ≡ None)
guard_none true o x e = (refl, e)
guard_none false o x e = absurd cc

-- ---- from bytes to rows and back to the bytes

pub record ReadsBack (lo k before : ℕ) (gaps words positions scores : List ℕ) (rs : List Post) : Type 0 where
  pub count : length rs ≡ k
  pub gaps_are : gaps ≡ gap_column before rs
  pub words_are : words ≡ word_column lo rs
  pub positions_are : positions ≡ position_column rs
  pub scores_are : scores ≡ score_column rs
  pub fits : HasSpelling lo before rs

pub record AreSized (k : ℕ) (gaps words positions scores : List ℕ) : Type 0 where
  pub words_len : length words ≡ 2 * k
  pub positions_len : length positions ≡ 4 * k
  pub scores_len : length scores ≡ k
  pub words_fit : IsBytes words
  pub positions_fit : IsBytes positions
  pub scores_fit : IsBytes scores

first_score : (k : ℕ) (scores : List ℕ) → length scores ≡ suc k → scores ≡ get_or scores 0 0 ∷ drop 1 scores
first_score k [] e = absurd (omega arith)
first_score k (s ∷ scores) e = refl

one_more : (lo k before n : ℕ) (gaps words positions scores : List ℕ) (rs : List Post) → AreSized (suc k) gaps words positions scores → first_code gaps ≡ Some n
    → ReadsBack lo k (before + n) (drop (length (code n)) gaps) (drop 2 words) (drop 4 positions) (drop 1 scores) rs
    → ReadsBack lo (suc k) before gaps words positions scores (row_at lo (before + n) words positions scores ∷ rs)
unfolding gap_column word_column position_column score_column HasSpelling
one_more lo k before n gaps words positions scores rs sized is back =
    let t = found_first n gaps is in
    let gap_num : before + n - before ≡ n = omega arith in
    let words_len = sized.words_len in
    let positions_len = sized.positions_len in
    let half = from_be_bytes w16 (take 2 words) in
    let word_num : lo + half - lo ≡ half = omega arith in
    let half_back : to_be_bytes w16 half ≡ take 2 words =
    be_bytes_2 (take 2 words) _ (omega (arith, length-take 2 words)) (IsBytes-take 2 words sized.words_fit) refl in
    let pos_back : to_be_bytes w32 (from_be_bytes w32 (take 4 positions)) ≡ take 4 positions =
    be_bytes_4 (take 4 positions) _ (omega (arith, length-take 4 positions)) (IsBytes-take 4 positions sized.positions_fit) refl in
    let wf = IsBytes-take 2 words sized.words_fit in
    let pf = IsBytes-take 4 positions sized.positions_fit in
    record {
      count = ap suc back.count;
      gaps_are = t.1 ∙ ap (λ (x : List ℕ). code n ++ x) back.gaps_are ∙ ap (λ (x : ℕ). code x ++ gap_column (before + n) rs) (sym gap_num);
      words_are = sym (take-append-drop 2 words) ∙ ap (λ (x : List ℕ). take 2 words ++ x) back.words_are
          ∙ ap (λ (x : List ℕ). x ++ word_column lo rs) (sym half_back ∙ ap (to_be_bytes w16) (sym word_num));
      positions_are = sym (take-append-drop 4 positions) ∙ ap (λ (x : List ℕ). take 4 positions ++ x) back.positions_are
          ∙ ap (λ (x : List ℕ). x ++ position_column rs) (sym pos_back);
      scores_are = first_score k scores sized.scores_len ∙ ap (λ (x : List ℕ). get_or scores 0 0 ∷ x) back.scores_are;
      fits = (
        record {
          onward = omega arith;
          gap = omega (arith, t.0);
          word_from = omega arith;
          word_below = omega (arith, wf 0, wf 1);
          pos = omega (arith, pf 0, pf 1, pf 2, pf 3);
          score = sized.scores_fit 0;
        },
        back.fits,
      );
    }

pub AreSized-rest : (k len : ℕ) (gaps words positions scores : List ℕ) → AreSized (suc k) gaps words positions scores
    → AreSized k (drop len gaps) (drop 2 words) (drop 4 positions) (drop 1 scores)
AreSized-rest k len gaps words positions scores h =
    let w = h.words_len in
    let p = h.positions_len in
    let s = h.scores_len in
    record {
      words_len = omega (arith, length-drop 2 words);
      positions_len = omega (arith, length-drop 4 positions);
      scores_len = omega (arith, length-drop 1 scores);
      words_fit = IsBytes-drop 2 words h.words_fit;
      positions_fit = IsBytes-drop 4 positions h.positions_fit;
      scores_fit = IsBytes-drop 1 scores h.scores_fit;
    }

break_none : (at : ℕ) (gaps : List ℕ) → codes_break 0 at gaps ≡ None → gaps ≡ []
unfolding codes_break
break_none at [] e = refl
break_none at (b ∷ bytes) e = absurd cc

pub reads : (k lo : ℕ) (last : Option Post) (index at : ℕ) (gaps words positions scores : List ℕ) → AreSized k gaps words positions scores
    → codes_break k at gaps ≡ None
    → ReadsBack lo k (doc_before last) gaps words positions scores (map item_row (items_in lo k last index at gaps words positions scores))
unfolding items_in codes_break gap_column word_column position_column score_column HasSpelling
reads zero lo last index at gaps words positions scores sized e = record {
  count = refl;
  gaps_are = break_none at gaps e;
  words_are = nil_from_length words sized.words_len;
  positions_are = nil_from_length positions sized.positions_len;
  scores_are = nil_from_length scores sized.scores_len;
  fits = tt;
}
reads (suc k) lo last index at gaps words positions scores sized e =
    let n = gap_number gaps in
    let len = gap_len gaps in
    let g = guard_none (is_some (first_code gaps)) (codes_break k (at + len) (drop len gaps)) at e in
    let is : first_code gaps ≡ Some n = some_is (first_code gaps) g.0 in
    let row = row_at lo (doc_before last + n) words positions scores in
    let back = reads k lo (Some row) (index + 1) (at + len) (drop len gaps) (drop 2 words) (drop 4 positions) (drop 1 scores)
    (AreSized-rest k len gaps words positions scores sized) g.1 in
    one_more lo k (doc_before last) n gaps words positions scores
    (map item_row (items_in lo k (Some row) (index + 1) (at + len) (drop len gaps) (drop 2 words) (drop 4 positions) (drop 1 scores))) sized is back

-- ---- one item, where its gap, its row and the rest of the gaps are known
pub items_step : (lo k : ℕ) (last : Option Post) (index at n : ℕ) (gaps rest words positions scores : List ℕ) (row : Post)
    → first_code gaps ≡ Some n → drop (length (code n)) gaps ≡ rest → row_at lo (doc_before last + n) words positions scores ≡ row
    → items_in lo (suc k) last index at gaps words positions scores
    ≡ record { row = row; last = last; index = index; gap_at = at } ∷ items_in lo k (Some row) (index + 1) (at + length (code n)) rest (drop 2 words)
    (drop 4 positions) (drop 1 scores)
unfolding items_in
items_step lo k last index at n gaps rest words positions scores row is left same = rw (is, left, same) refl

pub codes_step : (k at n : ℕ) (gaps rest : List ℕ) → first_code gaps ≡ Some n → drop (length (code n)) gaps ≡ rest
    → codes_break (suc k) at gaps ≡ codes_break k (at + length (code n)) rest
unfolding codes_break
codes_step k at n gaps rest is left = rw (is, left) refl

-- ---- from rows to bytes and back to the rows

same_row : (lo doc : ℕ) (words positions scores : List ℕ) (r : Post) → doc ≡ r.doc → lo + from_be_bytes w16 (take 2 words) ≡ r.word
    → from_be_bytes w32 (take 4 positions) ≡ r.pos → get_or scores 0 0 ≡ r.score → row_at lo doc words positions scores ≡ r
same_row lo doc words positions scores r a b c d = rw (a, b, c, d) refl

pub again : (lo : ℕ) (last : Option Post) (index at : ℕ) (rs : List Post) → HasSpelling lo (doc_before last) rs
    → (codes_break (length rs) at (gap_column (doc_before last) rs) ≡ None)
    × (map item_row (items_in lo (length rs) last index at (gap_column (doc_before last) rs) (word_column lo rs) (position_column rs) (score_column rs)) ≡ rs)
unfolding gap_column word_column position_column score_column HasSpelling codes_break items_in
again lo last index at [] fits = (refl, refl)
again lo last index at (r ∷ rs) fits =
    let f = fits.0 in
    let d = r.doc - doc_before last in
    let onward = f.onward in
    let from = f.word_from in
    let below = f.word_below in
    let is : first_code (code d ++ gap_column r.doc rs) ≡ Some d = first_found d (gap_column r.doc rs) f.gap in
    let left : drop (length (code d)) (code d ++ gap_column r.doc rs) ≡ gap_column r.doc rs = drop_at (code d) (gap_column r.doc rs) (length (code d)) refl in
    let word : lo + from_be_bytes w16 (to_be_bytes w16 (r.word - lo)) ≡ r.word =
    ap (λ (x : ℕ). lo + x) (from_be_bytes-to_be_bytes_2 (r.word - lo) (omega arith)) ∙ omega arith in
    let same : row_at lo (doc_before last + d) (word_column lo (r ∷ rs)) (position_column (r ∷ rs)) (score_column (r ∷ rs)) ≡ r =
    same_row lo (doc_before last + d) (word_column lo (r ∷ rs)) (position_column (r ∷ rs)) (score_column (r ∷ rs)) r (omega arith) word
    (from_be_bytes-to_be_bytes_4 r.pos f.pos) refl in
    let t = again lo (Some r) (index + 1) (at + length (code d)) rs fits.1 in
    let step = items_step lo (length rs) last index at d (code d ++ gap_column r.doc rs) (gap_column r.doc rs) (word_column lo (r ∷ rs))
    (position_column (r ∷ rs)) (score_column (r ∷ rs)) r is left same in (
      codes_step (length rs) at d (code d ++ gap_column r.doc rs) (gap_column r.doc rs) is left ∙ t.0,
      ap (map item_row) step ∙ ap (λ (x : List Post). r ∷ x) t.1,
    )
