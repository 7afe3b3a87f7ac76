-- Tables through the vocabulary.
--
--   table_through    the table of posts, each word in place of its number, is the table of their rows
--   table_known      its words are there
use Rattle.std.proofs.Common.{◌≡◌, ℕ, ◌<◌, ◌==◌, ◌||◌, true, false, List, [], ◌∷◌, length, map, refl, sym, ◌∙◌, ap, arith}
use Rattle.std.specs.List.{AllByRecursion, list_any}
use Rattle.std.specs.List.Sorted.{IsStrictlySortedBy}
use Rattle.std.specs.Ordering.{nat_cmp, ordering_then, eq_by_cmp, flip_args}
use Rattle.std.specs.Cmp.{IsTotalOrder}
use Rattle.std.specs.Cmp.Lexicographic.{slice_cmp}
use Rattle.std.specs.FinMap.{IsAntisymmetric}
use Rattle.std.specs.Str.{bytes_eq}
use Rattle.std.specs.declared.cmp.Ordering.{Ordering}
use Rattle.std.specs.declared.cmp.Ordering.TheVariants.{Less, Equal, Greater}
use Rattle.std.proofs.lemmas.Bool.Decides.{nat_tests}
use Rattle.std.proofs.lemmas.Cmp.{then_total, on_total, back_total, nat_cmp_total, nat_list_cmp_total}
use Rattle.std.proofs.lemmas.List.Elements.{All-from_recursion, recursion_from_All}
use Rattle.std.proofs.lemmas.Map.Lookups.{exact_pairs, exact_unsigned, exact_bytes}
use Rattle.std.proofs.lemmas.Slice.Eq.{bytes_eq-Decides}
use Rattle.cs_base.specs.content.Members.{members_in}
use Rattle.cs_base.specs.declared.content.doc.Post.{Post}
use Rattle.cs_base.specs.declared.content.doc.Row.{Row}
use Rattle.cs_base.proofs.MembersLemmas.{all_then, any_listed, members_are, listing-rises}
use Rattle.cs_base.proofs.NameMaps.{name_sym}
use Rattle.cs_base.proofs.ListsLemmas.{filter_through, filter_alike, any_through}
use Rattle.cs_docs.proofs.TextLemmas.{All-members}
use Rattle.cs_model.specs.Answers.{by_count, table_of}
use Rattle.cs_model.specs.Answers as rows
use Rattle.cs_tables.specs.declared.tables.Completion.{Completion}
use Rattle.cs_tables.specs.TableListings.{by_docs, post_table, with_word, post_completion}
use Rattle.cs_model_index.specs.Numbered.{word_at, row_of, rows_at}
use Rattle.cs_rows.specs.Stocked.{named_at}
use Rattle.cs_vocab.proofs.RangesLemmas.{three_ways}
use Rattle.cs_tables.proofs.TablesLemmas.{by_docs_total, by_docs_exact}
use Rattle.cs_rows.proofs.VocabLemmas.{apart, is_less, less_word}

-- ---- orders

pub by_count_total : IsTotalOrder by_count
by_count_total = then_total (on_total (λ c. c.docs) (back_total nat_cmp_total)) (on_total (λ c. c.word) nat_list_cmp_total)

pub by_count_exact : IsAntisymmetric by_count
by_count_exact a b h =
    ap (λ (p : ℕ × List ℕ). let c : rows.Completion = record { docs = p.0; word = p.1 } in c)
    (exact_pairs (flip_args nat_cmp) (slice_cmp nat_cmp) (λ x y e. sym (exact_unsigned y x e)) exact_bytes (a.docs, a.word) (b.docs, b.word) h)

equal_numbers : (m n : ℕ) → m ≡ n → (m == n) ≡ true
equal_numbers m n h = grind (arith, nat_tests)

is_under : (m n : ℕ) → m < n → (m == n) ≡ false
is_under m n h = grind (arith, nat_tests)

is_over : (m n : ℕ) → n < m → (m == n) ≡ false
is_over m n h = grind (arith, nat_tests)

-- ---- tables

module _ (ws : List (List ℕ)) (up : IsStrictlySortedBy (slice_cmp nat_cmp) ws) where
  same_word : (m n : ℕ) → m < length ws → n < length ws → bytes_eq (word_at ws m) (word_at ws n) ≡ (m == n)
  same_word m n k l = three_ways m n
      (λ h. apart (word_at ws m) (word_at ws n) (less_word ws up m n h l) ∙ sym (is_under m n h))
      (λ h. (bytes_eq-Decides (word_at ws m) (word_at ws n)).1 (ap (word_at ws) h) ∙ sym (equal_numbers m n h))
      (λ h. name_sym (word_at ws m) (word_at ws n) ∙ apart (word_at ws n) (word_at ws m) (less_word ws up n m h k) ∙ sym (is_over m n h))

  below_named : (o : Ordering) (m n : ℕ) → n < length ws → ordering_then o (nat_cmp m n) ≡ Less
      → ordering_then o (slice_cmp nat_cmp (word_at ws m) (word_at ws n)) ≡ Less
  below_named Less m n l h = refl
  below_named Greater m n l h = h
  below_named Equal m n l h = less_word ws up m n (is_less m n h) l

  abbrev IsThere : Completion → Type 0
  IsThere c = c.word < length ws

  rest_named : (c : Completion) (cs : List Completion) → AllByRecursion IsThere cs → AllByRecursion (λ d. by_docs c d ≡ Less) cs
      → AllByRecursion (λ d. by_count (named_at ws c) d ≡ Less) (map (named_at ws) cs)
  rest_named c [] l h = tt
  rest_named c (d ∷ cs) l h = (below_named (nat_cmp d.docs c.docs) c.word d.word l.0 h.0, rest_named c cs l.1 h.1)

  rise_named : (cs : List Completion) → AllByRecursion IsThere cs → IsStrictlySortedBy by_docs cs → IsStrictlySortedBy by_count (map (named_at ws) cs)
  unfolding IsStrictlySortedBy
  rise_named [] l h = tt
  rise_named (c ∷ cs) l h = (rest_named c cs l.1 h.0, rise_named cs l.1 h.1)

  docs_at : (ps : List Post) → map (λ r. r.doc) (rows_at ws ps) ≡ map (λ p. p.doc) ps
  docs_at [] = refl
  docs_at (p ∷ ps) = ap (λ l. p.doc ∷ l) (docs_at ps)

  module _ (ps : List Post) (known : AllByRecursion (λ p. p.word < length ws) ps) where
    of_word_through : (n : ℕ) → n < length ws → rows_at ws (with_word n ps) ≡ rows.of_word (word_at ws n) (rows_at ws ps)
    of_word_through n l =
        ap (rows_at ws) (filter_alike (λ p. p.word == n) (λ p. bytes_eq (word_at ws p.word) (word_at ws n)) ps
        (all_then (λ p. p.word < length ws) (λ p. (p.word == n) ≡ bytes_eq (word_at ws p.word) (word_at ws n))
        (λ p k. sym (same_word p.word n k l)) ps known))
        ∙ filter_through (row_of ws) (λ r. bytes_eq r.word (word_at ws n)) ps

    completion_through : (n : ℕ) → n < length ws → named_at ws (post_completion ps n) ≡ rows.completion_of (rows_at ws ps) (word_at ws n)
    completion_through n l =
        ap (λ (ds : List ℕ). let c : rows.Completion = record { docs = length (members_in nat_cmp ds); word = word_at ws n } in c)
        (sym (docs_at (with_word n ps)) ∙ ap (map (λ (r : Row). r.doc)) (of_word_through n l))

    abbrev listed_words : List Completion
    listed_words = map (λ p. post_completion ps p.word) ps

    there : (qs : List Post) → AllByRecursion (λ p. p.word < length ws) qs → AllByRecursion IsThere (map (λ p. post_completion ps p.word) qs)
    there [] l = tt
    there (q ∷ qs) l = (l.0, there qs l.1)

    -- the words of the table are there
    pub table_known : AllByRecursion (λ c. c.word < length ws) (post_table ps)
    table_known =
        recursion_from_All IsThere (post_table ps)
        (All-members by_docs by_docs_total by_docs_exact IsThere listed_words (All-from_recursion IsThere listed_words (there ps known)))

    any_named : (q : rows.Completion) (qs : List Post) → AllByRecursion (λ p. p.word < length ws) qs
        → list_any (λ c. eq_by_cmp by_count q (named_at ws c)) (map (λ p. post_completion ps p.word) qs) ≡ list_any (eq_by_cmp by_count q)
        (map (λ r. rows.completion_of (rows_at ws ps) r.word) (rows_at ws qs))
    any_named q [] l = refl
    any_named q (p ∷ qs) l =
        ap (λ c. eq_by_cmp by_count q c || list_any (λ c. eq_by_cmp by_count q (named_at ws c)) (map (λ p. post_completion ps p.word) qs))
        (completion_through p.word l.0)
        ∙ ap (λ b. eq_by_cmp by_count q (rows.completion_of (rows_at ws ps) (word_at ws p.word)) || b) (any_named q qs l.1)

    pub table_through : map (named_at ws) (post_table ps) ≡ table_of (rows_at ws ps)
    table_through =
        members_are by_count by_count_total by_count_exact (map (named_at ws) (post_table ps))
        (map (λ r. rows.completion_of (rows_at ws ps) r.word) (rows_at ws ps))
        (rise_named (post_table ps) table_known (listing-rises by_docs listed_words))
        (λ q.
        any_through (named_at ws) (eq_by_cmp by_count q) (post_table ps)
        ∙ any_listed by_docs by_docs_total by_docs_exact (λ c. eq_by_cmp by_count q (named_at ws c)) listed_words
        ∙ any_named q ps known)
