-- The documents and the words of rows, listed one by one up to the first rule that they break.
--
--   ListedTo                     what is known behind the first rows; listing, lists_on: its steps
--   never_stuck, broken_code, broken_doc, broken_word      what is broken where it stops, and where it ends
--   listed_all                   where it ends and nothing is broken, all rows are listed
--   AreCut, cut_by, front_broken, front_listed, none_then   the same of each block that begins so
use Rattle.std.proofs.Common.{◌≡◌, ℕ, ◌+◌, ◌*◌, ◌<◌, ◌≤◌, Bool, true, false, cond, ltb, List, [], length, set, take, drop, Option, Some, None, arith}
use Rattle.std.proofs.Common.{refl, sym, ap, ap₂, subst, ◌∙◌}
use Rattle.std.specs.Prelude.{IfNone, IfSome}
use Rattle.std.specs.Int.{w16, from_be_bytes}
use Rattle.std.specs.Option.{option_or}
use Rattle.std.proofs.lemmas.Bool.{ltb-true}
use Rattle.std.proofs.lemmas.List.{drop-take, take-take}
use Rattle.cs_base.specs.index.GapCode.{first_code}
use Rattle.cs_base.specs.declared.index.block.BlockHead.{BlockHead}
use Rattle.cs_base.specs.declared.index.block.Broken.{Broken}
use Rattle.cs_base.specs.declared.content.doc.Post.{Post}
use Rattle.cs_base.specs.declared.content.scores.TheConstants.{USUAL_WEIGHTS}
use Rattle.cs_base.specs.declared.content.scores.Weights.{Weights}
use Rattle.cs_model_index.specs.BlockRules.{BlockColumns, block_columns, broken_at, codes_break, gap_bytes, is_after, is_scored, judged, row_at}
use Rattle.cs_block.specs.BlockReading.{GapHere}
use Rattle.cs_block.specs.DocWords.{BreaksFirst, HasDocWords, HasFront, ListsFront}
use Rattle.cs_block.specs.Pass.{HasJudged}
use Rattle.cs_block.proofs.DocWordsLemmas.{doc_words_all}
use Rattle.cs_block.proofs.ItemsLemmas.{judged_at_code, judged_at_row, judged_cut, or_broken}
use Rattle.cs_block.proofs.RulePasses.{judged_all, judges_on, judging, stuck, too_late}
use Rattle.cs_block.proofs.RunsLemmas.{DocsTo, Each, docs_all, docs_more, docs_start, each_more}

-- whatever positions and scores stand behind the words
abbrev pub with_behind : List ℕ → List ℕ → List ℕ → List ℕ → BlockColumns
with_behind gaps words positions scores = record { gaps = gaps; words = words; positions = positions; scores = scores }

-- the loop over all rules would know this, with what else it has found
pub record Judging (w : Weights) (head : BlockHead) (docs : ℕ) (c : BlockColumns) (i at before : ℕ) (word : Option ℕ) : Type 0 where
  pub last : Option Post
  pub score : Option ℕ
  pub order : Option ℕ
  pub judged : HasJudged w head docs c i at last before word score order

abbrev pub IsWordAt : BlockHead → List ℕ → ℕ → ℕ → Type 0
IsWordAt head words j w = (w ≡ head.lo + from_be_bytes w16 (take 2 (drop (2 * (0 + j)) words))) × (w < head.lo + head.words)

-- a place kept, or this one where the word isn't in range
abbrev pub word_kept : BlockHead → ℕ → Option ℕ → ℕ → Option ℕ
word_kept head i bad word = option_or bad (cond (ltb word (head.lo + head.words)) None (Some (gap_bytes head + 2 * i)))

none_kept : (found : Option ℕ) (holds : Bool) (at : ℕ) → option_or found (cond holds None (Some at)) ≡ None → (found ≡ None) × (holds ≡ true)
none_kept (Some f) holds at e = absurd cc
none_kept None true at e = (refl, refl)
none_kept None false at e = absurd cc

-- the first i rows; `word` is the first place where a word isn't in range
pub record ListedTo (head : BlockHead) (docs : ℕ) (gaps words : List ℕ) (i at before : ℕ) (word : Option ℕ) (ds ws : List ℕ) : Type 0 where
  pub judging : (w : Weights) (positions scores : List ℕ) → Judging w head docs (with_behind gaps words positions scores) i at before word
  pub made : DocsTo gaps 0 0 ds i at before
  pub below : 0 < i → before < docs
  pub in_range : word ≡ None → Each (IsWordAt head words) ws i

-- the next row, of a document and a word
pub record IsNextRow (head : BlockHead) (docs : ℕ) (gaps words : List ℕ) (i at before n next doc word : ℕ) : Type 0 where
  pub more : i < head.rows
  pub gap : GapHere gaps at n next
  pub sum : doc ≡ before + n
  pub below : doc < docs
  pub word_is : word ≡ head.lo + from_be_bytes w16 (take 2 (drop (2 * i) words))

module _ (head : BlockHead) (docs : ℕ) (gaps words : List ℕ) where
  pub listing : (ds ws : List ℕ) → ListedTo head docs gaps words 0 0 0 None ds ws
  listing ds ws = record {
    judging = λ w ps ss. record { last = None; score = None; order = None; judged = judging w head docs (with_behind gaps words ps ss) };
    made = docs_start gaps 0 0 ds (omega arith);
    below = λ lt. absurd (omega (arith, lt));
    in_range = λ e j lt. absurd (omega (arith, lt));
  }

  judging_on : (w : Weights) (i at before n next doc word : ℕ) (bad now : Option ℕ) (ps ss : List ℕ)
      → IsNextRow head docs gaps words i at before n next doc word
      → now ≡ word_kept head i bad word → Judging w head docs (with_behind gaps words ps ss) i at before bad
      → Judging w head docs (with_behind gaps words ps ss) (i + 1) next doc now
  judging_on w i at before n next doc word bad now ps ss row is g =
      let c = with_behind gaps words ps ss in
      let post = row_at head.lo doc (drop (2 * i) words) (drop (4 * i) ps) (drop i ss) in
      let worded = ltb post.word (head.lo + head.words) in
      let held = is_scored w head.facet post in
      let after = is_after g.last post in
      let score = option_or g.score (cond held None (Some (gap_bytes head + 2 * head.rows + 4 * i))) in
      let order = option_or g.order (cond after None (Some at)) in
      let now_is = is ∙ ap (word_kept head i bad) row.word_is in
      record {
        last = Some post;
        score = score;
        order = order;
        judged = judges_on w head docs c i at n next g.last before doc bad g.score g.order now score order worded held after post
            row.more row.gap row.sum row.below refl refl now_is refl refl refl refl g.judged;
      }

  pub lists_on : (i at before n next doc word : ℕ) (bad now : Option ℕ) (ds ws : List ℕ) → IsNextRow head docs gaps words i at before n next doc word
      → now ≡ word_kept head i bad word → i < length ds → i < length ws
      → ListedTo head docs gaps words i at before bad ds ws → ListedTo head docs gaps words (i + 1) next doc now (set ds i doc) (set ws i word)
  lists_on i at before n next doc word bad now ds ws row is room_docs room_words h = record {
    judging = λ w ps ss. judging_on w i at before n next doc word bad now ps ss row is (h.judging w ps ss);
    made = docs_more gaps 0 0 ds i at before n next doc room_docs row.gap row.sum h.made;
    below = λ lt. row.below;
    in_range = λ e.
        (let kept = none_kept bad (ltb word (head.lo + head.words)) (gap_bytes head + 2 * i) (sym is ∙ e) in
        let from_none : i ≡ 0 + i = omega arith in
        let word_is = row.word_is ∙ ap (λ (x : ℕ). head.lo + from_be_bytes w16 (take 2 (drop (2 * x) words))) from_none in
        each_more (IsWordAt head words) ws i word room_words (word_is, ltb-true word (head.lo + head.words) kept.1) (h.in_range kept.0));
  }

  -- over codes that hold the loop stops at none
  pub never_stuck : (i at before : ℕ) (bad : Option ℕ) (ds ws : List ℕ) → codes_break head.rows 0 gaps ≡ None → i < head.rows
      → first_code (drop at gaps) ≡ None → ListedTo head docs gaps words i at before bad ds ws → ⊥
  never_stuck i at before bad ds ws codes more none h = stuck head.rows i at gaps more none ((h.judging USUAL_WEIGHTS [] []).judged.codes ∙ codes)

  -- ---- what is broken

  pub broken_code : (at : ℕ) → Some at ≡ codes_break head.rows 0 gaps → BreaksFirst head docs gaps words (broken_at 13 at)
  broken_code at bad = λ w ps ss. sym (judged_at_code w head docs (with_behind gaps words ps ss) at bad)

  pub broken_doc : (i at before n next : ℕ) (bad : Option ℕ) (ds ws : List ℕ) → codes_break head.rows 0 gaps ≡ None → i < head.rows
      → GapHere gaps at n next → docs ≤ before + n → ListedTo head docs gaps words i at before bad ds ws → BreaksFirst head docs gaps words (broken_at 14 at)
  broken_doc i at before n next bad ds ws codes more gap late h = λ w ps ss.
      (let c = with_behind gaps words ps ss in
      let g = h.judging w ps ss in
      let broken = too_late w head docs c i at n next g.last before bad g.score g.order more gap late g.judged in
      sym (judged_at_row w head docs c (Some (broken_at 14 at)) codes (sym broken)))

  pub broken_word : (i at before : ℕ) (bad : Option ℕ) (r : Option Broken) (ds ws : List ℕ) → codes_break head.rows 0 gaps ≡ None → head.rows ≤ i
      → r ≡ or_broken 15 bad None → ListedTo head docs gaps words i at before bad ds ws → IfSome r (BreaksFirst head docs gaps words)
  broken_word i at before None r ds ws codes end is h = subst (λ (x : Option Broken). IfSome x (BreaksFirst head docs gaps words)) (sym is) tt
  broken_word i at before (Some place) r ds ws codes end is h =
      subst (λ (x : Option Broken). IfSome x (BreaksFirst head docs gaps words)) (sym is) (λ w ps ss.
      let c = with_behind gaps words ps ss in
      let g = h.judging w ps ss in
      let late = or_broken 17 g.order None in
      let later = or_broken 16 g.score late in
      let broken = broken_at 15 place in
      let all = judged_all w head docs c i at g.last before (Some place) g.score g.order late later (Some broken) end g.judged refl refl refl in
      sym (judged_at_row w head docs c (Some broken) codes all))

  pub listed_all : (i at before : ℕ) (bad : Option ℕ) (r : Option Broken) (ds ws : List ℕ) → length ds ≡ i → length ws ≡ i
      → r ≡ or_broken 15 bad None → ListedTo head docs gaps words i at before bad ds ws → IfNone r (ListsFront head docs gaps words ds ws)
  listed_all i at before None r ds ws many_docs many_words is h =
      let words_are = h.in_range refl in
      subst (λ (x : Option Broken). IfNone x (ListsFront head docs gaps words ds ws)) (sym is)
      ((at, docs_all gaps 0 0 docs ds i at before many_docs h.below h.made), λ j lt. words_are j (omega (arith, lt, many_words)))
  listed_all i at before (Some place) r ds ws many_docs many_words is h =
      subst (λ (x : Option Broken). IfNone x (ListsFront head docs gaps words ds ws)) (sym is) tt

-- ---- each block that begins so

-- the gaps and the words of its bytes
pub record AreCut (head : BlockHead) (bytes gaps words : List ℕ) : Type 0 where
  pub gaps_are : gaps ≡ take (gap_bytes head) bytes
  pub words_are : words ≡ take (2 * head.rows) (drop (gap_bytes head) bytes)

pub cut_by : (head : BlockHead) (bytes gaps rest words : List ℕ) → gaps ≡ take (gap_bytes head) bytes → rest ≡ drop (gap_bytes head) bytes
    → words ≡ take (2 * head.rows) rest → AreCut head bytes gaps words
cut_by head bytes gaps rest words first behind second = record { gaps_are = first; words_are = second ∙ ap (take (2 * head.rows)) behind }

module _ (head : BlockHead) (docs : ℕ) (bytes gaps words : List ℕ) (cut : AreCut head bytes gaps words) where
  front_columns : (block : List ℕ) → HasFront head bytes block
      → with_behind gaps words (block_columns head block).positions (block_columns head block).scores ≡ block_columns head block
  front_columns block same =
      let n = gap_bytes head in
      let m = 2 * head.rows in
      let c = block_columns head block in
      let first = cut.gaps_are ∙ sym (take-take n (n + m) bytes (omega arith)) ∙ ap (take n) (sym same) ∙ take-take n (n + m) block (omega arith) in
      let second = cut.words_are ∙ sym (drop-take n m bytes) ∙ ap (drop n) (sym same) ∙ drop-take n m block in
      ap₂ (λ (xs ys : List ℕ). with_behind xs ys c.positions c.scores) first second

  pub front_broken : (broken : Broken) → BreaksFirst head docs gaps words broken → (w : Weights) (block : List ℕ) → HasFront head bytes block
      → judged w head docs block ≡ Some broken
  front_broken broken breaks w block same =
      let c = block_columns head block in
      sym (judged_cut w head docs block (with_behind gaps words c.positions c.scores) (front_columns block same)) ∙ breaks w c.positions c.scores

  pub front_listed : (ds ws : List ℕ) → length ds ≡ head.rows → length ws ≡ head.rows → ListsFront head docs gaps words ds ws
      → (block : List ℕ) → HasFront head bytes block → HasDocWords head docs block ds ws
  front_listed ds ws many_docs many_words lists block same =
      let c = block_columns head block in
      let cols = front_columns block same in
      doc_words_all head docs block (with_behind gaps words c.positions c.scores) ds ws lists.0.0 cols many_docs many_words lists.0.1 lists.1

pub none_then : (r : Option Broken) (P Q : Type 0) → (P → Q) → IfNone r P → IfNone r Q
none_then None P Q f h = f h
none_then (Some broken) P Q f h = tt
