-- After rows that are sorted, the mark of a word has the number of its documents.
--
--   word_marked, marked-is     the mark of a word whose rows are in order has the number of its documents
--   word_docs_few, docs_few    there are at most MAX_DOCS of them
--   has_room         a mark can count one more
--   in_range         a row's word has a mark
--   seen_more        the marks after one more row
--   each             a fact on each index as a fact on each entry
use Rattle.std.proofs.Common.{◌≡◌, ◌≢◌, ℕ, zero, suc, ◌+◌, ◌-◌, ◌<◌, ◌≤◌, true, false, List, [], ◌∷◌, ◌++◌, map, fold, length, take, get_or, set, ◌==◌, get_or-set_other, refl, sym, ◌∙◌, ap, ap₂, subst, arith, if◌then◌else◌}
use Rattle.std.specs.List.{AllByRecursion}
use Rattle.std.specs.Ordering.{nat_cmp}
use Rattle.std.proofs.lemmas.Bool.{eqb-true, eq-eqb, ne_eqb}
use Rattle.std.proofs.lemmas.Bool.Decides.{nat_tests}
use Rattle.std.proofs.lemmas.Grind.{get_or-set_at}
use Rattle.std.proofs.lemmas.List.{length-map, take_more}
use Rattle.std.proofs.lemmas.List.Kept.{IsStrictlySortedBy-filter}
use Rattle.cs_base.specs.content.Members.{members_in}
use Rattle.cs_base.specs.content.Orders.{by_place, AreSorted}
use Rattle.cs_base.specs.declared.content.doc.Post.{Post}
use Rattle.cs_base.specs.declared.content.limits.TheConstants.{MAX_DOCS}
use Rattle.cs_rank.proofs.Climbs.{Climbs, fresh, fresh-listed, docs_climb}
use Rattle.cs_rank.proofs.GroupsLemmas.{nothing_listed}
use Rattle.cs_rank.proofs.ScorePlaces.{take_rises}
use Rattle.cs_tables.specs.declared.counts.Mark.{Mark}
use Rattle.cs_tables.specs.declared.counts.TheConstants.{NO_DOC}
use Rattle.cs_tables.specs.TableListings.{with_word, doc_count}
use Rattle.cs_tables.specs.Marks.{saw, sees, mark_of}

-- a word's mark looks at its own rows
fold_sees : (w : ℕ) (m : Mark) (rows : List Post) → fold (sees w) m rows ≡ fold saw m (map (λ p. p.doc) (with_word w rows))
fold_sees w m [] = refl
fold_sees w m (p ∷ rows) =
    elim (p.word == w) as (λ b. fold (sees w) (if b then saw m p.doc else m) rows ≡ fold saw m (map (λ p. p.doc) (if b then p ∷ with_word w rows else with_word w rows))) [
      | true ↦ fold_sees w (saw m p.doc) rows
      | false ↦ fold_sees w m rows
    ]

turned : (x l : ℕ) → (l == x) ≡ (x == l)
turned x l = grind (arith, nat_tests)

-- it counts the documents that differ from the one before
fold_saw : (m : Mark) (ds : List ℕ) → (fold saw m ds).docs ≡ m.docs + length (fresh m.last ds)
fold_saw m [] = omega arith
fold_saw m (d ∷ ds) =
    ap (λ b. (fold saw (if b then m else record { docs = m.docs + 1; last = d }) ds).docs) (turned d m.last)
    ∙ elim (d == m.last) as (λ b. (fold saw (if b then m else record { docs = m.docs + 1; last = d }) ds).docs ≡ m.docs + length (if b then fresh m.last ds else d ∷ fresh d ds)) [
      | true ↦ fold_saw m ds
      | false ↦ (let more = fold_saw (record { docs = m.docs + 1; last = d }) ds in omega arith)
    ]

-- numbers that climb below a bound are few
fresh_few : (b l : ℕ) (ds : List ℕ) → Climbs (l ∷ ds) → AllByRecursion (λ d. d < b) (l ∷ ds) → l + length (fresh l ds) < b
fresh_few b l [] up below = (let lt = below.0 in omega arith)
fresh_few b l (d ∷ ds) up below =
    elim (d == l) as (λ t. d == l ≡ t → l + length (if t then fresh l ds else d ∷ fresh d ds) < b) [
      | true ↦ λ e. fresh_few b l ds (up.0.1, up.1.1) (below.0, below.1.1)
      | false ↦ λ e. (let more = fresh_few b d ds up.1 below.1 in let le : l ≤ d = up.0.0 in let lt : l < d = grind (arith, nat_tests) in omega arith)
    ] refl

abbrev blank : Mark
blank = record { docs = 0; last = NO_DOC }

not_none : (d : ℕ) → d < MAX_DOCS → d == NO_DOC ≡ false
not_none d lt = grind (arith, nat_tests)

tally : (ds : List ℕ) → Climbs ds → AllByRecursion (λ d. d < MAX_DOCS) ds → (fold saw blank ds).docs ≡ length (members_in nat_cmp ds)
tally [] up below = ap length nothing_listed
tally (d ∷ ds) up below =
    fold_saw blank (d ∷ ds) ∙ ap (λ b. 0 + length (if b then fresh NO_DOC ds else d ∷ fresh d ds)) (not_none d below.0)
    ∙ (let n : 0 + length (d ∷ fresh d ds) ≡ length (d ∷ fresh d ds) = omega arith in n) ∙ ap length (fresh-listed d ds up)

few : (ds : List ℕ) → Climbs ds → AllByRecursion (λ d. d < MAX_DOCS) ds → length (members_in nat_cmp ds) ≤ MAX_DOCS
few [] up below = subst (λ xs. length xs ≤ MAX_DOCS) nothing_listed (omega arith)
few (d ∷ ds) up below = subst (λ xs. length xs ≤ MAX_DOCS) (fresh-listed d ds up) (let short = fresh_few MAX_DOCS d ds up below in omega arith)

each_doc : (w : ℕ) (rows : List Post) → AllByRecursion (λ p. p.doc < MAX_DOCS) rows → AllByRecursion (λ d. d < MAX_DOCS) (map (λ p. p.doc) (with_word w rows))
each_doc w [] h = tt
each_doc w (p ∷ rows) h =
    elim (p.word == w) as (λ b. AllByRecursion (λ d. d < MAX_DOCS) (map (λ p. p.doc) (if b then p ∷ with_word w rows else with_word w rows))) [
      | true ↦ (h.0, each_doc w rows h.1)
      | false ↦ each_doc w rows h.1
    ]

pub word_sorted : (w : ℕ) (rows : List Post) → AreSorted rows → AreSorted (with_word w rows)
word_sorted w rows up = IsStrictlySortedBy-filter by_place (λ p. p.word == w) rows up

-- it is enough that the rows of the word are in order
pub word_marked : (w : ℕ) (rows : List Post) → AreSorted (with_word w rows) → AllByRecursion (λ p. p.doc < MAX_DOCS) rows → (mark_of w rows).docs ≡ doc_count (with_word w rows)
word_marked w rows up below = ap (λ (m : Mark). m.docs) (fold_sees w blank rows) ∙ tally _ (docs_climb (with_word w rows) up) (each_doc w rows below)

pub word_docs_few : (w : ℕ) (rows : List Post) → AreSorted (with_word w rows) → AllByRecursion (λ p. p.doc < MAX_DOCS) rows → doc_count (with_word w rows) ≤ MAX_DOCS
word_docs_few w rows up below = few _ (docs_climb (with_word w rows) up) (each_doc w rows below)

pub marked-is : (w : ℕ) (rows : List Post) → AreSorted rows → AllByRecursion (λ p. p.doc < MAX_DOCS) rows → (mark_of w rows).docs ≡ doc_count (with_word w rows)
marked-is w rows up below = word_marked w rows (word_sorted w rows up) below

pub docs_few : (w : ℕ) (rows : List Post) → AreSorted rows → AllByRecursion (λ p. p.doc < MAX_DOCS) rows → doc_count (with_word w rows) ≤ MAX_DOCS
docs_few w rows up below = word_docs_few w rows (word_sorted w rows up) below

pub each : (P : Post → Type 0) (rows : List Post) → ((k : ℕ) (d : Post) → k < length rows → P (get_or rows k d)) → AllByRecursion P rows
each P [] h = tt
each P (p ∷ rows) h = (h 0 p (omega arith), each P rows (λ k d lt. h (suc k) d (omega arith)))

all_take : (P : Post → Type 0) (n : ℕ) (rows : List Post) → AllByRecursion P rows → AllByRecursion P (take n rows)
all_take P zero rows h = tt
all_take P (suc n) [] h = tt
all_take P (suc n) (p ∷ rows) h = (h.0, all_take P n rows h.1)

-- a mark has room for one more
pub has_room : (w i : ℕ) (rows : List Post) (m : Mark) → AreSorted rows → AllByRecursion (λ p. p.doc < MAX_DOCS) rows → m ≡ mark_of w (take i rows) → m.docs < NO_DOC
has_room w i rows m up below is =
    let up_i = take_rises by_place i rows up in
    let below_i = all_take (λ p. p.doc < MAX_DOCS) i rows below in
    let docs : m.docs ≡ doc_count (with_word w (take i rows)) = ap (λ (m : Mark). m.docs) is ∙ marked-is w (take i rows) up_i below_i in
    let least = docs_few w (take i rows) up_i below_i in
    omega arith

at_field : (f : Post → ℕ) (rows : List Post) (i : ℕ) (d : Post) → i < length rows → get_or (map f rows) i 0 ≡ f (get_or rows i d)
at_field f [] i d lt = absurd (omega arith)
at_field f (p ∷ rows) zero d lt = refl
at_field f (p ∷ rows) (suc i) d lt = at_field f rows i d (omega arith)

pub fold_push : (w : ℕ) (m : Mark) (rows : List Post) (p : Post) → fold (sees w) m (rows ++ p ∷ []) ≡ sees w (fold (sees w) m rows) p
fold_push w m [] p = refl
fold_push w m (r ∷ rows) p = fold_push w (sees w m r) rows p

abbrev no_post : Post
no_post = record { doc = 0; word = 0; pos = 0; score = 0 }

-- the marks after one more row
marked_more : (w i : ℕ) (rows : List Post) → i < length rows → mark_of w (take (i + 1) rows) ≡ sees w (mark_of w (take i rows)) (get_or rows i no_post)
marked_more w i rows lt = ap (fold (sees w) blank) (take_more rows i no_post lt) ∙ fold_push w blank (take i rows) (get_or rows i no_post)

-- a row's word is in the range
pub in_range : (rows : List Post) (docs words : List ℕ) (i low many : ℕ) → docs ≡ map (λ p. p.doc) rows → words ≡ map (λ p. p.word) rows → ((k : ℕ) → k < length words → (low ≤ get_or words k 0) × (get_or words k 0 < low + many)) → i < length docs → get_or words i 0 - low < many
in_range rows docs words i low many is_docs is_words within lt =
    let at = within i (omega (arith, ap length is_docs, ap length is_words, length-map rows (λ (p : Post). p.doc), length-map rows (λ (p : Post). p.word))) in
    omega arith

pub seen_more : (rows : List Post) (docs words : List ℕ) (i low many : ℕ) (marks : List Mark) (m now : Mark) → docs ≡ map (λ p. p.doc) rows → words ≡ map (λ p. p.word) rows → ((k : ℕ) → k < length words → (low ≤ get_or words k 0) × (get_or words k 0 < low + many)) → i < length docs → length marks ≡ many → ((k : ℕ) (d : Mark) → k < many → get_or marks k d ≡ mark_of (low + k) (take i rows)) → m ≡ get_or marks (get_or words i 0 - low) m → now ≡ saw m (get_or docs i 0) → (k : ℕ) (d : Mark) → k < many → get_or (set marks (get_or words i 0 - low) now) k d ≡ mark_of (low + k) (take (i + 1) rows)
seen_more rows docs words i low many marks m now is_docs is_words range lt long each_mark is saws k d below =
    let in_rows : i < length rows = omega (arith, ap length is_docs, length-map rows (λ (p : Post). p.doc)) in
    let p = get_or rows i no_post in
    let word : get_or words i 0 ≡ p.word = ap (λ xs. get_or xs i 0) is_words ∙ at_field (λ p. p.word) rows i no_post in_rows in
    let doc : get_or docs i 0 ≡ p.doc = ap (λ xs. get_or xs i 0) is_docs ∙ at_field (λ p. p.doc) rows i no_post in_rows in
    let within : get_or words i 0 - low < many = in_range rows docs words i low many is_docs is_words range lt in
    let least = (range i (omega (arith, ap length is_docs, ap length is_words, length-map rows (λ (p : Post). p.doc), length-map rows (λ (p : Post). p.word)))).0 in
    let j = get_or words i 0 - low in
    elim (j == k) as (λ b. j == k ≡ b → get_or (set marks j now) k d ≡ mark_of (low + k) (take (i + 1) rows)) [
      | true ↦ λ e.
          let at : j ≡ k = eqb-true j k e in
          let there : p.word ≡ low + k = omega arith in
          get_or-set_at marks j k now d (sym at) (omega arith) ∙ saws ∙ ap₂ saw (is ∙ each_mark j m within ∙ ap (λ n. mark_of (low + n) (take i rows)) at) doc
          ∙ sym (marked_more (low + k) i rows in_rows ∙ ap (λ b. if b then saw (mark_of (low + k) (take i rows)) p.doc else mark_of (low + k) (take i rows)) (eq-eqb p.word (low + k) there))
      | false ↦ λ e.
          let apart : k ≢ j = (λ s. absurd (let t = eq-eqb j k (sym s) in cc)) in
          let elsewhere : p.word ≢ low + k = (λ s. apart (omega arith)) in
          get_or-set_other marks j k now d apart ∙ each_mark k d below
          ∙ sym (marked_more (low + k) i rows in_rows ∙ ap (λ b. if b then saw (mark_of (low + k) (take i rows)) p.doc else mark_of (low + k) (take i rows)) (ne_eqb p.word (low + k) elsewhere))
    ] refl
