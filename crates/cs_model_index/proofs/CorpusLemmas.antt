-- The image of a corpus keeps its rows: each stands in the block of the run that has its word.
--
--   listed_word       a word is listed exactly where some row has it
--   known_words       each row's word is among the words of the rows
--   kept              what holds of each holds of each that is kept
--   rows_of_runs      the rows of the blocks are those of the runs
--   same_members      they are all rows
--   corpora_are_kept  the law
use Rattle.std.proofs.Common.{◌≡◌, ℕ, ◌&&◌, ◌||◌, Bool, true, false, cond, List, [], ◌∷◌, ◌++◌, map, refl, sym, ◌∙◌, ap, subst}
use Rattle.std.specs.Prelude.{filter, flat_map}
use Rattle.std.specs.List.{AllByRecursion, list_any}
use Rattle.std.specs.Ordering.{nat_cmp, eq_by_cmp}
use Rattle.std.specs.Cmp.{Equal-is}
use Rattle.std.specs.Cmp.Lexicographic.{slice_cmp}
use Rattle.std.specs.Str.{bytes_eq}
use Rattle.std.proofs.lemmas.Bool.{or_right}
use Rattle.std.proofs.lemmas.Cmp.{nat_list_cmp_total}
use Rattle.std.proofs.lemmas.List.{map-append}
use Rattle.std.proofs.lemmas.List.Folds.{list_any-append}
use Rattle.std.proofs.lemmas.Map.Text.{is_eq-slice_cmp}
use Rattle.std.proofs.lemmas.Slice.Eq.{bytes_eq-Decides}
use Rattle.cs_base.proofs.MembersLemmas.{members_are, is_member-listed}
use Rattle.cs_base.proofs.OrdersLemmas.{by_row_total, by_row_exact, rows_up}
use Rattle.cs_base.specs.content.Members.{members_in}
use Rattle.cs_base.specs.content.Orders.{by_row}
use Rattle.cs_base.specs.declared.content.doc.Row.{Row}
use Rattle.cs_base.specs.declared.content.scores.Weights.{Weights}
use Rattle.cs_base.proofs.ListsLemmas.{any_through}
use Rattle.cs_model.specs.Corpus.{Corpus, by_number, distinct_words, IsCorpus}
use Rattle.cs_model_index.proofs.NumberedLemmas.{rows_of_numbered}
use Rattle.cs_model_index.specs.Images.{Image, block_of, image_rows, image_corpus, IsImage}
use Rattle.cs_model_index.specs.Numbered.{rows_at, HasWord}

-- ---- words
pub any_alike : {X : Type 0} (p q : X → Bool) (xs : List X) → ((x : X) → p x ≡ q x) → list_any p xs ≡ list_any q xs
any_alike p q [] h = refl
any_alike p q (x ∷ xs) h = ap (λ b. b || list_any p xs) (h x) ∙ ap (λ b. q x || b) (any_alike p q xs h)

-- a word is listed exactly where some row has it
pub listed_word : (rows : List Row) (w : List ℕ) → list_any (bytes_eq w) (distinct_words rows) ≡ list_any (λ r. bytes_eq w r.word) rows
listed_word rows w =
    let listed : List (List ℕ) = map (λ r. r.word) rows in
    any_alike (bytes_eq w) (eq_by_cmp (slice_cmp nat_cmp) w) (distinct_words rows) (λ v. sym (is_eq-slice_cmp w v))
    ∙ is_member-listed (slice_cmp nat_cmp) nat_list_cmp_total listed w
    ∙ any_alike (eq_by_cmp (slice_cmp nat_cmp) w) (bytes_eq w) listed (is_eq-slice_cmp w)
    ∙ any_through (λ r. r.word) (bytes_eq w) rows

each_known : (ws : List (List ℕ)) (rows : List Row) → ((w : List ℕ) → list_any (λ r. bytes_eq w r.word) rows ≡ true → list_any (bytes_eq w) ws ≡ true) → AllByRecursion (HasWord ws) rows
each_known ws [] h = tt
each_known ws (r ∷ rows) h = (
  h r.word (ap (λ b. b || list_any (λ s. bytes_eq r.word s.word) rows) ((bytes_eq-Decides r.word r.word).1 refl)),
  each_known ws rows (λ w k. h w (or_right (bytes_eq w r.word) (list_any (λ s. bytes_eq w s.word) rows) k)),
)

pub known_words : (rows : List Row) → AllByRecursion (HasWord (distinct_words rows)) rows
known_words rows = each_known (distinct_words rows) rows (λ w h. listed_word rows w ∙ h)

pub kept : {X : Type 0} (P : X → Type 0) (t : X → Bool) (xs : List X) → AllByRecursion P xs → AllByRecursion P (filter t xs)
kept P t [] h = tt
kept P t (x ∷ xs) h =
    elim (t x) as (λ b. AllByRecursion P (cond b (x ∷ filter t xs) (filter t xs))) [
      | true ↦ (h.0, kept P t xs h.1)
      | false ↦ kept P t xs h.1
    ]

-- ---- runs
abbrev has : List (List ℕ) → Row → Bool
has run r = list_any (bytes_eq r.word) run

pub rows_of_runs : (ws : List (List ℕ)) (rows : List Row) (runs : List (List (List ℕ))) → AllByRecursion (HasWord ws) rows → rows_at ws (flat_map (λ block. block) (map (block_of ws rows) runs)) ≡ flat_map (λ run. filter (has run) rows) runs
rows_of_runs ws rows [] h = refl
rows_of_runs ws rows (run ∷ runs) h =
    map-append _ (block_of ws rows run) (flat_map (λ block. block) (map (block_of ws rows) runs))
    ∙ ap (λ l. l ++ rows_at ws (flat_map (λ block. block) (map (block_of ws rows) runs))) (rows_of_numbered ws (filter (has run) rows) (kept (HasWord ws) (has run) rows h))
    ∙ ap (λ l. filter (has run) rows ++ l) (rows_of_runs ws rows runs h)

-- ---- members
any_flat : {X Y : Type 0} (f : X → List Y) (p : Y → Bool) (xs : List X) → list_any p (flat_map f xs) ≡ list_any (λ x. list_any p (f x)) xs
any_flat f p [] = refl
any_flat f p (x ∷ xs) = list_any-append p (f x) (flat_map f xs) ∙ ap (λ b. list_any p (f x) || b) (any_flat f p xs)

any_cond : (p : Row → Bool) (t : Bool) (r : Row) (rows : List Row) → list_any p (cond t (r ∷ rows) rows) ≡ ((t && p r) || list_any p rows)
any_cond p true r rows = refl
any_cond p false r rows = refl

member_step : (e t h a : Bool) → (e ≡ true → t ≡ h) → ((t && e) || (h && a)) ≡ (h && (e || a))
member_step false true h a k = refl
member_step false false h a k = refl
member_step true t true a k = ap (λ b. (b && true) || a) (k refl)
member_step true t false a k = ap (λ b. (b && true) || false) (k refl)

same_row : (q r : Row) → eq_by_cmp by_row q r ≡ true → q ≡ r
same_row q r e = by_row_exact q r ((Equal-is (by_row q r)).0 e)

-- a row among those of a run is a row with one of its words
of_run : (run : List (List ℕ)) (q : Row) (rows : List Row) → list_any (eq_by_cmp by_row q) (filter (has run) rows) ≡ (has run q && list_any (eq_by_cmp by_row q) rows)
of_run run q [] = elim (has run q) as (λ b. false ≡ (b && false)) [ true ↦ refl | false ↦ refl ]
of_run run q (r ∷ rows) =
    any_cond (eq_by_cmp by_row q) (has run r) r (filter (has run) rows)
    ∙ ap (λ b. (has run r && eq_by_cmp by_row q r) || b) (of_run run q rows)
    ∙ member_step (eq_by_cmp by_row q r) (has run r) (has run q) (list_any (eq_by_cmp by_row q) rows) (λ e. sym (ap (has run) (same_row q r e)))

factor : (a b c : Bool) → ((a && c) || (b && c)) ≡ ((a || b) && c)
factor true true true = refl
factor true true false = refl
factor true false true = refl
factor true false false = refl
factor false b c = refl

any_factor : {X : Type 0} (p : X → Bool) (c : Bool) (xs : List X) → list_any (λ x. p x && c) xs ≡ (list_any p xs && c)
any_factor p c [] = refl
any_factor p c (x ∷ xs) = ap (λ b. (p x && c) || b) (any_factor p c xs) ∙ factor (p x) (list_any p xs) c

implied : (a b : Bool) → (b ≡ true → a ≡ true) → (a && b) ≡ b
implied true b h = refl
implied false true h = h refl
implied false false h = refl

or_alike : (a b c : Bool) → (a ≡ true → c ≡ true) → (b ≡ true → c ≡ true) → (a || b) ≡ true → c ≡ true
or_alike true b c h k e = h refl
or_alike false b c h k e = k e

has_word : (q : Row) (rows : List Row) → list_any (eq_by_cmp by_row q) rows ≡ true → list_any (λ r. bytes_eq q.word r.word) rows ≡ true
has_word q [] h = h
has_word q (r ∷ rows) h = or_alike (eq_by_cmp by_row q r) (list_any (eq_by_cmp by_row q) rows) (list_any (λ s. bytes_eq q.word s.word) (r ∷ rows))
    (λ e. ap (λ b. b || list_any (λ s. bytes_eq q.word s.word) rows) ((bytes_eq-Decides q.word r.word).1 (ap (λ (x : Row). x.word) (same_row q r e))))
    (λ e. or_right (bytes_eq q.word r.word) (list_any (λ s. bytes_eq q.word s.word) rows) (has_word q rows e)) h

pub same_members : (rows : List Row) (runs : List (List (List ℕ))) (q : Row) → flat_map (λ run. run) runs ≡ distinct_words rows → list_any (eq_by_cmp by_row q) rows ≡ list_any (eq_by_cmp by_row q) (flat_map (λ run. filter (has run) rows) runs)
same_members rows runs q joined =
    let is : Bool = list_any (eq_by_cmp by_row q) rows in
    sym (any_flat (λ run. filter (has run) rows) (eq_by_cmp by_row q) runs
    ∙ any_alike (λ run. list_any (eq_by_cmp by_row q) (filter (has run) rows)) (λ run. has run q && is) runs (λ run. of_run run q rows)
    ∙ any_factor (λ run. has run q) is runs
    ∙ ap (λ b. b && is) (sym (any_flat (λ run. run) (bytes_eq q.word) runs) ∙ ap (list_any (bytes_eq q.word)) joined ∙ listed_word rows q.word)
    ∙ implied (list_any (λ r. bytes_eq q.word r.word) rows) is (has_word q rows))

-- ---- the law
pub corpora_are_kept : (k : Corpus) (target : ℕ) (weights : Weights) (i : Image) → IsCorpus k → IsImage k target weights i → image_corpus i ≡ k
corpora_are_kept k target weights i is image =
    let rows = k.rows in
    let runs = image.runs in
    let words : flat_map (λ run. run) runs ≡ distinct_words rows = image.parted.joined in
    let known : AllByRecursion (HasWord (flat_map (λ run. run) runs)) rows = subst (λ ws. AllByRecursion (HasWord ws) rows) (sym words) (known_words rows) in
    let made : image_rows i ≡ flat_map (λ run. filter (has run) rows) runs = ap image_rows image.made ∙ rows_of_runs (flat_map (λ run. run) runs) rows runs known in
    let all : rows ≡ members_in by_row (image_rows i) = members_are by_row by_row_total by_row_exact rows (image_rows i) (rows_up rows is.named) (λ q. same_members rows runs q words ∙ ap (list_any (eq_by_cmp by_row q)) (sym made)) in
    ap (λ rows. let c : Corpus = record { titles = by_number i.titles; rows = rows } in c) (sym all) ∙ ap (λ titles. let c : Corpus = record { titles = titles; rows = k.rows } in c) image.titles
