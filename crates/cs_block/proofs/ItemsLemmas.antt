-- The gap column, the items and the rules, from a place of the columns on.
--
--   here_from, none_from      what a call of next_gap tells of a place
--   bad_on, bad_here, bad_over, bad_done    the gap column behind a code, and where it breaks or ends
--   items_on, items_end, items_start    the items from a place on
--   keeps_on, keeps_end, keeps_start, keeps_found    one rule's first place, as far as the items are gone through
--   or_broken, in_front, in_turn    a rule in front of others, and the four rules in turn
--   columns_cut               the columns as the code cuts them
use Rattle.std.proofs.Common.{◌≡◌, ℕ, suc, ◌+◌, ◌-◌, ◌*◌, ◌^◌, ◌<◌, ◌≤◌, Bool, true, false, not, cond, List, [], ◌∷◌, ◌++◌, length, map, take, drop, Option}
use Rattle.std.proofs.Common.{Some, None, refl, sym, ap, ◌∙◌, arith}
use Rattle.std.specs.Option.{option_map, option_or}
use Rattle.std.specs.List.{find}
use Rattle.std.proofs.lemmas.List.{drop-drop, drop_all, length-drop}
use Rattle.cs_base.specs.index.GapCode.{code, first_code}
use Rattle.cs_base.specs.declared.index.block.BlockHead.{BlockHead}
use Rattle.cs_base.specs.declared.index.block.Broken.{Broken}
use Rattle.cs_base.specs.declared.content.doc.Post.{Post}
use Rattle.cs_base.specs.declared.content.scores.Weights.{Weights}
use Rattle.cs_gaps.specs.declared.gap.Gap.{Gap}
use Rattle.cs_gaps.specs.declared.gap.Gap.TheVariants.{Is}
use Rattle.cs_gaps.specs.Reading.{StandsAt}
use Rattle.cs_gaps.proofs.CodesLemmas.{first_found, found_first}
use Rattle.cs_model_index.specs.BlockRules.{codes_break, Item, item_row, doc_before, row_at, items_in, gap_bytes, Rule, rules, in_docs, in_words, in_kind}
use Rattle.cs_model_index.specs.BlockRules.{in_order, first_break, broken_at, first_broken, BlockColumns, block_items, block_columns, judged_columns, judged}
use Rattle.cs_model_index.specs.BlockRules.{rows_read}
use Rattle.cs_model.proofs.FirstLemmas.{first-cons}
use Rattle.cs_block.specs.Pass.{items_from, Keeps}
use Rattle.cs_block.specs.BlockReading.{GapHere}
use Rattle.cs_block.proofs.ColumnsLemmas.{items_step, codes_step}

pub left_from : (gaps : List ℕ) (at n next : ℕ) (h : GapHere gaps at n next) → drop (length (code n)) (drop at gaps) ≡ drop next gaps
left_from gaps at n next h = drop-drop (length (code n)) at gaps ∙ ap (λ (x : ℕ). drop x gaps) (sym h.behind)

pub here_from : (gaps : List ℕ) (at n next : ℕ) → StandsAt n at next gaps → GapHere gaps at n next
here_from gaps at n next h = record { is = ap first_code h.parts ∙ first_found n h.rest h.below; behind = h.behind; within = h.within; below = h.below }

-- what else than a code is found shows that no code stands there
pub none_from : (gaps : List ℕ) (at : ℕ) (g : Gap) → ((n : ℕ) (rest : List ℕ) → n < 2 ^ 32 → drop at gaps ≡ code n ++ rest → g ≡ Is n (at + length (code n)))
    → ((n next : ℕ) → g ≡ Is n next → ⊥) → first_code (drop at gaps) ≡ None
none_from gaps at g only not = elim (first_code (drop at gaps)) as (λ o. first_code (drop at gaps) ≡ o → first_code (drop at gaps) ≡ None) [
  | None ↦ λ e. e
  | Some n ↦ λ e. absurd (let f = found_first n (drop at gaps) e in not n (at + length (code n)) (only n (drop (length (code n)) (drop at gaps)) f.0 f.1))
] refl

-- ---- the gap column

pub bad_on : (rows i at n next : ℕ) (gaps : List ℕ) → i < rows → GapHere gaps at n next
    → codes_break (rows - i) at (drop at gaps) ≡ codes_break (rows - (i + 1)) next (drop next gaps)
bad_on rows i at n next gaps lt h =
    let k : rows - i ≡ suc (rows - (i + 1)) = omega arith in
    ap (λ (x : ℕ). codes_break x at (drop at gaps)) k ∙ codes_step (rows - (i + 1)) at n (drop at gaps) (drop next gaps) h.is (left_from gaps at n next h)
    ∙ ap (λ (x : ℕ). codes_break (rows - (i + 1)) x (drop next gaps)) (sym h.behind)

pub bad_here : (rows i at : ℕ) (gaps : List ℕ) → i < rows → first_code (drop at gaps) ≡ None → codes_break (rows - i) at (drop at gaps) ≡ Some at
unfolding codes_break
bad_here rows i at gaps lt none =
    let k : rows - i ≡ suc (rows - (i + 1)) = omega arith in
    rw (k, none) refl

left_over : (at : ℕ) (bytes : List ℕ) → 0 < length bytes → codes_break 0 at bytes ≡ Some at
unfolding codes_break
left_over at [] h = absurd (omega arith)
left_over at (b ∷ bytes) h = refl

pub bad_over : (rows i at : ℕ) (gaps : List ℕ) → rows ≤ i → at < length gaps → codes_break (rows - i) at (drop at gaps) ≡ Some at
bad_over rows i at gaps le lt =
    let k : rows - i ≡ 0 = omega arith in
    rw k (left_over at (drop at gaps) (omega (arith, length-drop at gaps)))

pub bad_done : (rows i at : ℕ) (gaps : List ℕ) → rows ≤ i → length gaps ≤ at → codes_break (rows - i) at (drop at gaps) ≡ None
unfolding codes_break
bad_done rows i at gaps le lt =
    let k : rows - i ≡ 0 = omega arith in
    rw (k, drop_all at gaps lt) refl

-- ---- the items from a place on

pub items_on : (head : BlockHead) (c : BlockColumns) (i at n next : ℕ) (last : Option Post) (row : Post) → i < head.rows → GapHere c.gaps at n next
    → row ≡ row_at head.lo (doc_before last + n) (drop (2 * i) c.words) (drop (4 * i) c.positions) (drop i c.scores)
    → items_from head c i at last ≡ record { row = row; last = last; index = i; gap_at = at } ∷ items_from head c (i + 1) next (Some row)
unfolding items_from
items_on head c i at n next last row lt h is =
    let rest = head.rows - (i + 1) in
    let k : head.rows - i ≡ suc rest = omega arith in
    let w : drop 2 (drop (2 * i) c.words) ≡ drop (2 * (i + 1)) c.words = drop-drop 2 (2 * i) c.words ∙ ap (λ (x : ℕ). drop x c.words) (omega arith) in
    let p : drop 4 (drop (4 * i) c.positions) ≡ drop (4 * (i + 1)) c.positions = drop-drop 4 (4 * i) c.positions
    ∙ ap (λ (x : ℕ). drop x c.positions) (omega arith) in
    let s : drop 1 (drop i c.scores) ≡ drop (i + 1) c.scores = drop-drop 1 i c.scores in
    ap (λ (x : ℕ). items_in head.lo x last i at (drop at c.gaps) (drop (2 * i) c.words) (drop (4 * i) c.positions) (drop i c.scores)) k
    ∙ items_step head.lo rest last i at n (drop at c.gaps) (drop next c.gaps) (drop (2 * i) c.words) (drop (4 * i) c.positions) (drop i c.scores) row h.is
    (left_from c.gaps at n next h) (sym is)
    ∙ rw (w, p, s, h.behind) refl

pub items_end : (head : BlockHead) (c : BlockColumns) (i at : ℕ) (last : Option Post) → head.rows ≤ i → items_from head c i at last ≡ []
unfolding items_from items_in
items_end head c i at last le =
    let k : head.rows - i ≡ 0 = omega arith in
    rw k refl

pub items_start : (head : BlockHead) (c : BlockColumns) → items_from head c 0 0 None ≡ block_items head c
unfolding items_from
items_start head c = ap (λ (x : ℕ). items_in head.lo x None 0 0 c.gaps c.words c.positions c.scores) (omega arith)

-- ---- one rule's first place, as far as the loop has come

break_by : (rule : Rule) (item : Item) (rest : List Item) (holds : Bool)
    → option_map rule.at (cond (not holds) (Some item) (find (λ i. not (rule.holds i.last i.row)) rest))
    ≡ cond holds (first_break rule rest) (Some (rule.at item))
unfolding first_break
break_by rule item rest true = refl
break_by rule item rest false = refl

-- the first item goes before the others
pub break_cons : (rule : Rule) (item : Item) (rest : List Item)
    → first_break rule (item ∷ rest) ≡ cond (rule.holds item.last item.row) (first_break rule rest) (Some (rule.at item))
unfolding first_break
break_cons rule item rest = break_by rule item rest (rule.holds item.last item.row)

keeps_by : (holds : Bool) (found : Option ℕ) (at : ℕ) (rest : Option ℕ)
    → option_or (option_or found (cond holds None (Some at))) rest ≡ option_or found (cond holds rest (Some at))
keeps_by true None at rest = refl
keeps_by false None at rest = refl
keeps_by true (Some f) at rest = refl
keeps_by false (Some f) at rest = refl

pub keeps_on : (rule : Rule) (all : List Item) (found now : Option ℕ) (item : Item) (here rest : List Item) → here ≡ item ∷ rest
    → now ≡ option_or found (cond (rule.holds item.last item.row) None (Some (rule.at item)))
    → Keeps rule all found here → Keeps rule all now rest
unfolding Keeps
keeps_on rule all found now item here rest e is h =
    ap (λ (x : Option ℕ). option_or x (first_break rule rest)) is
    ∙ keeps_by (rule.holds item.last item.row) found (rule.at item) (first_break rule rest)
    ∙ ap (option_or found) (sym (ap (first_break rule) e ∙ break_cons rule item rest)) ∙ h

or_nothing : (o : Option ℕ) → option_or o None ≡ o
or_nothing None = refl
or_nothing (Some x) = refl

pub keeps_end : (rule : Rule) (all : List Item) (found : Option ℕ) (rest : List Item) → rest ≡ [] → Keeps rule all found rest → found ≡ first_break rule all
unfolding Keeps first_break
keeps_end rule all found rest e h = sym (or_nothing found) ∙ sym (ap (λ (x : List Item). option_or found (first_break rule x)) e) ∙ h

pub keeps_start : (rule : Rule) (all rest : List Item) → rest ≡ all → Keeps rule all None rest
unfolding Keeps
keeps_start rule all rest e = ap (first_break rule) e

-- the first item that breaks a rule, where none before it does
pub keeps_found : (rule : Rule) (all : List Item) (item : Item) (here rest : List Item) → here ≡ item ∷ rest → rule.holds item.last item.row ≡ false
    → Keeps rule all None here → first_break rule all ≡ Some (rule.at item)
unfolding Keeps
keeps_found rule all item here rest e broken h = sym h ∙ ap (first_break rule) e ∙ break_cons rule item rest ∙ rw broken refl

-- ---- the rules in turn

-- a place where a rule is broken goes before what later rules say
abbrev pub or_broken : ℕ → Option ℕ → Option Broken → Option Broken
or_broken n o other = option_or (option_map (broken_at n) o) other

pub in_front : (rule : Rule) (rest : List Rule) (items : List Item)
    → first_broken (rule ∷ rest) items ≡ or_broken rule.number (first_break rule items) (first_broken rest items)
in_front rule rest items = first-cons (option_map (broken_at rule.number) (first_break rule items)) _

pub in_turn : (w : Weights) (head : BlockHead) (docs : ℕ) (items : List Item)
    → first_broken (rules w head docs) items
    ≡ or_broken 14 (first_break (in_docs docs) items)
    (or_broken 15 (first_break (in_words head) items)
    (or_broken 16 (first_break (in_kind w head) items) (or_broken 17 (first_break in_order items) None)))
in_turn w head docs items =
    in_front (in_docs docs) (in_words head ∷ in_kind w head ∷ in_order ∷ []) items
    ∙ ap (or_broken 14 (first_break (in_docs docs) items)) (in_front (in_words head) (in_kind w head ∷ in_order ∷ []) items
    ∙ ap (or_broken 15 (first_break (in_words head) items)) (in_front (in_kind w head) (in_order ∷ []) items
    ∙ ap (or_broken 16 (first_break (in_kind w head) items)) (in_front in_order [] items)))

-- ---- the columns as the code cuts them

pub columns_cut : (head : BlockHead) (bytes gaps rest words rest2 positions scores : List ℕ) → gaps ≡ take (gap_bytes head) bytes
    → rest ≡ drop (gap_bytes head) bytes
    → words ≡ take (2 * head.rows) rest → rest2 ≡ drop (2 * head.rows) rest → positions ≡ take (4 * head.rows) rest2 → scores ≡ drop (4 * head.rows) rest2
    → let c : BlockColumns = record { gaps = gaps; words = words; positions = positions; scores = scores } in c ≡ block_columns head bytes
columns_cut head bytes gaps rest words rest2 positions scores a b d e f g = rw (f, g, e, d, b, a) refl

pub judged_at_row : (w : Weights) (head : BlockHead) (docs : ℕ) (c : BlockColumns) (r : Option Broken) → codes_break head.rows 0 c.gaps ≡ None
    → r ≡ first_broken (rules w head docs) (block_items head c) → r ≡ judged_columns w head docs c
judged_at_row w head docs c r codes is = is ∙ rw codes refl

pub judged_at_code : (w : Weights) (head : BlockHead) (docs : ℕ) (c : BlockColumns) (at : ℕ) → Some at ≡ codes_break head.rows 0 c.gaps
    → Some (record { n = 13; at = at }) ≡ judged_columns w head docs c
judged_at_code w head docs c at bad = rw (← bad) refl

pub judged_cut : (w : Weights) (head : BlockHead) (docs : ℕ) (bytes : List ℕ) (c : BlockColumns) → c ≡ block_columns head bytes
    → judged_columns w head docs c ≡ judged w head docs bytes
unfolding judged
judged_cut w head docs bytes c e = ap (judged_columns w head docs) e

pub rows_cut : (head : BlockHead) (bytes : List ℕ) (c : BlockColumns) → c ≡ block_columns head bytes → map item_row (block_items head c) ≡ rows_read head bytes
unfolding rows_read
rows_cut head bytes c e = ap (λ (x : BlockColumns). map item_row (block_items head x)) e
