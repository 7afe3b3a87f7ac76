-- What the loops over a block's rows know.
--
--   judging, judges_on, judged_all    the steps of the loop that looks for the first broken rule
--   pushing, pushes_on    the steps of a loop that adds rows
--   stops_at_code, stops_at_doc, stops_at_row    where it stops a rule is broken
--   ends, pushed_all    where it ends no rule on rows is broken, and all rows are added
use Rattle.std.proofs.Common.{◌≡◌, ℕ, ◌+◌, ◌-◌, ◌*◌, ◌<◌, ◌≤◌, Bool, true, false, ◌&&◌, cond, ltb, eqb, List, [], ◌∷◌, ◌++◌, length, map, drop, Option, Some}
use Rattle.std.proofs.Common.{None, refl, sym, ap, ◌∙◌, append_assoc, arith, inl, inr}
use Rattle.std.specs.Option.{option_or, is_none}
use Rattle.std.proofs.lemmas.Bool.{and_parts, and_cases, eq-eqb, cases_lt, lt-ltb, le-ltb, ne_eqb}
use Rattle.std.proofs.lemmas.Option.{none-some}
use Rattle.std.proofs.lemmas.List.{length-take, append-nil, take_all, take-append-le}
use Rattle.cs_base.specs.index.GapCode.{first_code}
use Rattle.cs_base.specs.declared.index.block.BlockHead.{BlockHead}
use Rattle.cs_base.specs.declared.index.block.Broken.{Broken}
use Rattle.cs_base.specs.declared.content.doc.Post.{Post}
use Rattle.cs_base.specs.declared.content.scores.Weights.{Weights}
use Rattle.cs_model_index.specs.BlockRules.{codes_break, Item, item_row, doc_before, row_at, gap_bytes, rules, in_docs, in_words, in_kind, in_order}
use Rattle.cs_model_index.specs.BlockRules.{is_scored, is_after, first_break, first_broken, BlockColumns, block_items, judged_columns}
use Rattle.cs_block.specs.BlockReading.{GapHere}
use Rattle.cs_block.specs.Pass.{items_from, HasJudged, HasPushed}
use Rattle.cs_block.proofs.ItemsLemmas.{bad_on, bad_here, bad_over, bad_done, items_on, items_end, items_start, keeps_on, keeps_end, keeps_start, keeps_found}
use Rattle.cs_block.proofs.ItemsLemmas.{or_broken, in_turn}

-- ---- the loop over the rows

pub judging : (w : Weights) (head : BlockHead) (docs : ℕ) (c : BlockColumns) → HasJudged w head docs c 0 0 None 0 None None None
judging w head docs c = let all = items_start head c in record {
  codes = ap (λ (x : ℕ). codes_break x 0 c.gaps) (omega arith);
  within = omega arith;
  before_is = refl;
  before_below = omega arith;
  docs_kept = keeps_start _ _ _ all;
  words_kept = keeps_start _ _ _ all;
  scores_kept = keeps_start _ _ _ all;
  order_kept = keeps_start _ _ _ all;
}

-- what a call of row_at gives, at the document before
pub is_row : (w : Weights) (head : BlockHead) (docs : ℕ) (c : BlockColumns) (i at n : ℕ) (last : Option Post) (before : ℕ) (word score order : Option ℕ) (row : Post)
    → HasJudged w head docs c i at last before word score order
    → row ≡ row_at head.lo (before + n) (drop (2 * i) c.words) (drop (4 * i) c.positions) (drop i c.scores)
    → row ≡ row_at head.lo (doc_before last + n) (drop (2 * i) c.words) (drop (4 * i) c.positions) (drop i c.scores)
is_row w head docs c i at n last before word score order row h is = is
    ∙ ap (λ (x : ℕ). row_at head.lo (x + n) (drop (2 * i) c.words) (drop (4 * i) c.positions) (drop i c.scores)) h.before_is

pub judges_on : (w : Weights) (head : BlockHead) (docs : ℕ) (c : BlockColumns) (i at n next : ℕ) (last : Option Post) (before doc : ℕ)
    (word score order word' score' order' : Option ℕ) (worded held after : Bool) (row : Post)
    → i < head.rows → GapHere c.gaps at n next → doc ≡ before + n → doc < docs
    → row ≡ row_at head.lo doc (drop (2 * i) c.words) (drop (4 * i) c.positions) (drop i c.scores)
    → worded ≡ ltb row.word (head.lo + head.words) → word' ≡ option_or word (cond worded None (Some (gap_bytes head + 2 * i)))
    → held ≡ is_scored w head.facet row → score' ≡ option_or score (cond held None (Some (gap_bytes head + 2 * head.rows + 4 * i)))
    → after ≡ is_after last row → order' ≡ option_or order (cond after None (Some at))
    → HasJudged w head docs c i at last before word score order → HasJudged w head docs c (i + 1) next (Some row) row.doc word' score' order'
judges_on w head docs c i at n next last before doc word score order word' score' order' worded held after row lt gap sum below is worded_is word_is held_is score_is after_is order_is h =
    let item : Item = record { row = row; last = last; index = i; gap_at = at } in
    let all = block_items head c in
    let here = items_from head c i at last in
    let rest = items_from head c (i + 1) next (Some row) in
    let is' : row ≡ row_at head.lo (before + n) (drop (2 * i) c.words) (drop (4 * i) c.positions) (drop i c.scores) = is
    ∙ ap (λ (x : ℕ). row_at head.lo x (drop (2 * i) c.words) (drop (4 * i) c.positions) (drop i c.scores)) sum in
    let split : here ≡ item ∷ rest = items_on head c i at n next last row lt gap (is_row w head docs c i at n last before word score order row h is') in
    let doc_is : row.doc ≡ doc = ap (λ (r : Post). r.doc) is in
    let in_time : ltb row.doc docs ≡ true = lt-ltb row.doc docs (omega arith) in
    let none : None ≡ option_or None (cond (ltb row.doc docs) None (Some at)) = rw in_time refl in
    record {
      codes = sym (bad_on head.rows i at n next c.gaps lt gap) ∙ h.codes;
      within = gap.within;
      before_is = refl;
      before_below = omega arith;
      docs_kept = keeps_on (in_docs docs) all None None item here rest split none h.docs_kept;
      words_kept = keeps_on (in_words head) all word word' item here rest split
          (word_is ∙ ap (λ (b : Bool). option_or word (cond b None (Some (gap_bytes head + 2 * i)))) worded_is) h.words_kept;
      scores_kept = keeps_on (in_kind w head) all score score' item here rest split
          (score_is ∙ ap (λ (b : Bool). option_or score (cond b None (Some (gap_bytes head + 2 * head.rows + 4 * i)))) held_is) h.scores_kept;
      order_kept = keeps_on in_order all order order' item here rest split (order_is ∙ ap (λ (b : Bool). option_or order (cond b None (Some at))) after_is) h.order_kept;
    }

pub too_late : (w : Weights) (head : BlockHead) (docs : ℕ) (c : BlockColumns) (i at n next : ℕ) (last : Option Post) (before : ℕ) (word score order : Option ℕ)
    → i < head.rows → GapHere c.gaps at n next → docs ≤ before + n → HasJudged w head docs c i at last before word score order
    → first_broken (rules w head docs) (block_items head c) ≡ Some (record { n = 14; at = at })
too_late w head docs c i at n next last before word score order lt gap late h =
    let row = row_at head.lo (before + n) (drop (2 * i) c.words) (drop (4 * i) c.positions) (drop i c.scores) in
    let item : Item = record { row = row; last = last; index = i; gap_at = at } in
    let split = items_on head c i at n next last row lt gap (is_row w head docs c i at n last before word score order row h refl) in
    let broken = keeps_found (in_docs docs) (block_items head c) item _ _ split (le-ltb (before + n) docs late) h.docs_kept in
    in_turn w head docs (block_items head c) ∙ rw broken refl

pub judged_all : (w : Weights) (head : BlockHead) (docs : ℕ) (c : BlockColumns) (i at : ℕ) (last : Option Post) (before : ℕ) (word score order : Option ℕ)
    (r17 r16 r15 : Option Broken)
    → head.rows ≤ i → HasJudged w head docs c i at last before word score order
    → r17 ≡ or_broken 17 order None → r16 ≡ or_broken 16 score r17 → r15 ≡ or_broken 15 word r16
    → r15 ≡ first_broken (rules w head docs) (block_items head c)
judged_all w head docs c i at last before word score order r17 r16 r15 le h a b d =
    let all = block_items head c in
    let done = items_end head c i at last le in
    let words = keeps_end (in_words head) all word _ done h.words_kept in
    let scores = keeps_end (in_kind w head) all score _ done h.scores_kept in
    let orders = keeps_end in_order all order _ done h.order_kept in
    let e = keeps_end (in_docs docs) all None _ done h.docs_kept in
    d ∙ ap (or_broken 15 word) (b ∙ ap (or_broken 16 score) a)
    ∙ rw (words, scores, orders) (ap (λ (x : Option ℕ). or_broken 14 x
    (or_broken 15 (first_break (in_words head) all)
    (or_broken 16 (first_break (in_kind w head) all) (or_broken 17 (first_break in_order all) None)))) e) ∙ sym (in_turn w head docs all)

pub stuck : (rows i at : ℕ) (gaps : List ℕ) → i < rows → first_code (drop at gaps) ≡ None → codes_break (rows - i) at (drop at gaps) ≡ None → ⊥
stuck rows i at gaps lt none h = none-some at (sym h ∙ bad_here rows i at gaps lt none)

-- ---- the loop that adds the rows

pub pushing : (w : Weights) (head : BlockHead) (docs : ℕ) (c : BlockColumns) (first : List Post) (room : ℕ) → head.rows ≤ room
    → HasPushed w head docs c 0 0 None 0 first first room
pushing w head docs c first room le = record {
  judged = judging w head docs c;
  told = ap (λ (x : List Item). first ++ map item_row x) (sym (items_start head c));
  kept = take_all (length first) first (omega arith);
  room_left = omega arith;
}

-- the three tests that the code makes at once
abbrev pub Tests : Weights → BlockHead → Option Post → Post → Bool
Tests w head last row = ltb row.word (head.lo + head.words) && (is_scored w head.facet row && is_after last row)

pub pushes_on : (w : Weights) (head : BlockHead) (docs : ℕ) (c : BlockColumns) (i at n next : ℕ) (last : Option Post) (before doc : ℕ) (row : Post)
    (first now then : List Post) (room left : ℕ)
    → i < head.rows → GapHere c.gaps at n next → doc ≡ before + n → doc < docs
    → row ≡ row_at head.lo doc (drop (2 * i) c.words) (drop (4 * i) c.positions) (drop i c.scores)
    → Tests w head last row ≡ true → then ≡ now ++ row ∷ [] → room ≤ left + 1
    → HasPushed w head docs c i at last before first now room → HasPushed w head docs c (i + 1) next (Some row) row.doc first then left
pushes_on w head docs c i at n next last before doc row first now then room left lt gap sum below is met added less h =
    let p = and_parts (ltb row.word (head.lo + head.words)) (is_scored w head.facet row && is_after last row) met in
    let q = and_parts (is_scored w head.facet row) (is_after last row) p.1 in
    let none_word : None ≡ option_or None (cond true None (Some (gap_bytes head + 2 * i))) = refl in
    let none_score : None ≡ option_or None (cond true None (Some (gap_bytes head + 2 * head.rows + 4 * i))) = refl in
    let none_order : None ≡ option_or None (cond true None (Some at)) = refl in
    let item : Item = record { row = row; last = last; index = i; gap_at = at } in
    let is' : row ≡ row_at head.lo (before + n) (drop (2 * i) c.words) (drop (4 * i) c.positions) (drop i c.scores) = is
    ∙ ap (λ (x : ℕ). row_at head.lo x (drop (2 * i) c.words) (drop (4 * i) c.positions) (drop i c.scores)) sum in
    let rest = items_from head c (i + 1) next (Some row) in
    let split : items_from head c i at last ≡ item ∷ rest =
    items_on head c i at n next last row lt gap (is_row w head docs c i at n last before None None None row h.judged is') in
    let len : length first ≤ length now = omega (arith, ap length h.kept, length-take (length first) now) in
    let room_left = h.room_left in
    record {
      judged = judges_on w head docs c i at n next last before doc None None None None None None true true true row lt gap sum below is (sym p.0) none_word
          (sym q.0) none_score (sym q.1) none_order h.judged;
      told = h.told ∙ ap (λ (x : List Item). now ++ map item_row x) split ∙ rw added (sym (append_assoc now (row ∷ []) (map item_row rest)));
      kept = rw added (take-append-le (length first) now (row ∷ []) len ∙ h.kept);
      room_left = omega arith;
    }

-- ---- where it stops

none_false : (o : Option Broken) (b : Broken) → o ≡ Some b → is_none o ≡ false
none_false o b e = ap is_none e

or_broken_late : (n : ℕ) (o : Option ℕ) (other : Option Broken) → is_none other ≡ false → is_none (or_broken n o other) ≡ false
or_broken_late n None other e = e
or_broken_late n (Some at) other e = refl

or_broken_here : (n at : ℕ) (o : Option ℕ) (other : Option Broken) → o ≡ Some at → is_none (or_broken n o other) ≡ false
or_broken_here n at o other e = rw e refl

pub stops_at_code : (w : Weights) (head : BlockHead) (docs : ℕ) (c : BlockColumns) (i at : ℕ) (last : Option Post) (before : ℕ) (word score order : Option ℕ)
    → i < head.rows → first_code (drop at c.gaps) ≡ None
    → HasJudged w head docs c i at last before word score order → is_none (judged_columns w head docs c) ≡ false
stops_at_code w head docs c i at last before word score order lt none h =
    or_broken_here 13 at (codes_break head.rows 0 c.gaps) (first_broken (rules w head docs) (block_items head c))
    (sym h.codes ∙ bad_here head.rows i at c.gaps lt none)

pub stops_at_doc : (w : Weights) (head : BlockHead) (docs : ℕ) (c : BlockColumns) (i at n next : ℕ) (last : Option Post) (before : ℕ) (word score order : Option ℕ)
    → i < head.rows → GapHere c.gaps at n next → docs ≤ before + n → HasJudged w head docs c i at last before word score order
    → is_none (judged_columns w head docs c) ≡ false
stops_at_doc w head docs c i at n next last before word score order lt gap late h =
    or_broken_late 13 (codes_break head.rows 0 c.gaps) (first_broken (rules w head docs) (block_items head c))
    (none_false _ _ (too_late w head docs c i at n next last before word score order lt gap late h))

pub stops_at_row : (w : Weights) (head : BlockHead) (docs : ℕ) (c : BlockColumns) (i at n next : ℕ) (last : Option Post) (before doc : ℕ) (row : Post)
    → i < head.rows → GapHere c.gaps at n next → doc ≡ before + n
    → row ≡ row_at head.lo doc (drop (2 * i) c.words) (drop (4 * i) c.positions) (drop i c.scores)
    → Tests w head last row ≡ false → HasJudged w head docs c i at last before None None None → is_none (judged_columns w head docs c) ≡ false
stops_at_row w head docs c i at n next last before doc row lt gap sum is failed h =
    let all = block_items head c in
    let item : Item = record { row = row; last = last; index = i; gap_at = at } in
    let is' : row ≡ row_at head.lo (before + n) (drop (2 * i) c.words) (drop (4 * i) c.positions) (drop i c.scores) = is
    ∙ ap (λ (x : ℕ). row_at head.lo x (drop (2 * i) c.words) (drop (4 * i) c.positions) (drop i c.scores)) sum in
    let rest = items_from head c (i + 1) next (Some row) in
    let split : items_from head c i at last ≡ item ∷ rest =
    items_on head c i at n next last row lt gap (is_row w head docs c i at n last before None None None row h is') in
    let orders = or_broken 17 (first_break in_order all) None in
    let scores = or_broken 16 (first_break (in_kind w head) all) orders in
    let words = or_broken 15 (first_break (in_words head) all) scores in
    let broken : is_none words ≡ false = elim (and_cases (ltb row.word (head.lo + head.words)) (is_scored w head.facet row && is_after last row) failed) [
      | inl word ↦ or_broken_here 15 _ _ scores (keeps_found (in_words head) all item _ rest split word h.words_kept)
      | inr more ↦ or_broken_late 15 (first_break (in_words head) all) scores (elim (and_cases (is_scored w head.facet row) (is_after last row) more) [
        | inl score ↦ or_broken_here 16 _ _ orders (keeps_found (in_kind w head) all item _ rest split score h.scores_kept)
        | inr order ↦ or_broken_late 16 (first_break (in_kind w head) all) orders
            (or_broken_here 17 _ _ None (keeps_found in_order all item _ rest split order h.order_kept))
      ])
    ] in
    or_broken_late 13 (codes_break head.rows 0 c.gaps) (first_broken (rules w head docs) all)
    (ap is_none (in_turn w head docs all) ∙ or_broken_late 14 (first_break (in_docs docs) all) words broken)

pub ends_whole : (w : Weights) (head : BlockHead) (docs : ℕ) (c : BlockColumns) (i at : ℕ) (last : Option Post) (before : ℕ) → head.rows ≤ i → at ≡ length c.gaps
    → HasJudged w head docs c i at last before None None None → is_none (judged_columns w head docs c) ≡ true
ends_whole w head docs c i at last before le end h =
    let codes : codes_break head.rows 0 c.gaps ≡ None = sym h.codes ∙ bad_done head.rows i at c.gaps le (omega arith) in
    rw codes (ap is_none (sym (judged_all w head docs c i at last before None None None None None None le h refl refl refl)))

pub ends_early : (w : Weights) (head : BlockHead) (docs : ℕ) (c : BlockColumns) (i at : ℕ) (last : Option Post) (before : ℕ) → head.rows ≤ i → at < length c.gaps
    → HasJudged w head docs c i at last before None None None → is_none (judged_columns w head docs c) ≡ false
ends_early w head docs c i at last before le lt h =
    or_broken_here 13 at (codes_break head.rows 0 c.gaps) (first_broken (rules w head docs) (block_items head c))
    (sym h.codes ∙ bad_over head.rows i at c.gaps le lt)

pub ends : (w : Weights) (head : BlockHead) (docs : ℕ) (c : BlockColumns) (i at : ℕ) (last : Option Post) (before : ℕ) → head.rows ≤ i
    → HasJudged w head docs c i at last before None None None → eqb at (length c.gaps) ≡ is_none (judged_columns w head docs c)
ends w head docs c i at last before le h =
    let within = h.within in
    elim (cases_lt at (length c.gaps)) [
      | inl lt ↦ ne_eqb at (length c.gaps) (λ e. omega arith) ∙ sym (ends_early w head docs c i at last before le lt h)
      | inr ge ↦
          let end : at ≡ length c.gaps = omega arith in
          eq-eqb at (length c.gaps) end ∙ sym (ends_whole w head docs c i at last before le end h)
    ]

pub pushed_all : (w : Weights) (head : BlockHead) (docs : ℕ) (c : BlockColumns) (i at : ℕ) (last : Option Post) (before : ℕ) (first now : List Post) (room : ℕ)
    → head.rows ≤ i → HasPushed w head docs c i at last before first now room
    → now ≡ first ++ map item_row (block_items head c)
pushed_all w head docs c i at last before first now room le h =
    sym (h.told ∙ ap (λ (x : List Item). now ++ map item_row x) (items_end head c i at last le) ∙ append-nil now)

pub none-from_test : (o : Option Broken) → is_none o ≡ true → o ≡ None
none-from_test None e = refl
none-from_test (Some b) e = absurd cc
