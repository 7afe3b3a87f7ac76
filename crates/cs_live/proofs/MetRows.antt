-- Rows that are met: those of a corpus and of all documents that were added to it, also of those that are gone since.
--
--   AreBelow           rows in order, of documents below a number
--   met_none           of no documents they are those of the corpus
--   met_more           one document more
--   distinct_more      the words of further rows among those of others
use Rattle.std.proofs.Common.{◌≡◌, ℕ, ◌+◌, ◌<◌, ◌≤◌, ◌||◌, List, [], ◌∷◌, ◌++◌, length, map, ap, subst, sym, ◌∙◌, arith, append-nil, append_assoc}
use Rattle.std.specs.Prelude.{flat_map}
use Rattle.std.specs.List.{AllByRecursion, enumerate_from, list_any}
use Rattle.std.specs.List.Sorted.{IsStrictlySortedBy}
use Rattle.std.specs.Ordering.{eq_by_cmp, nat_cmp}
use Rattle.std.specs.Cmp.Lexicographic.{slice_cmp}
use Rattle.std.specs.FinMap.{len}
use Rattle.std.proofs.lemmas.Cmp.{nat_list_cmp_total}
use Rattle.std.proofs.lemmas.List.{map-append}
use Rattle.std.proofs.lemmas.List.Folds.{list_any-append}
use Rattle.std.proofs.lemmas.Map.Lookups.{exact_bytes}
use Rattle.cs_base.specs.content.Members.{members_in}
use Rattle.cs_base.specs.content.Orders.{by_row, by_spot}
use Rattle.cs_base.specs.declared.content.doc.Doc.{Doc}
use Rattle.cs_base.specs.declared.content.doc.Row.{Row}
use Rattle.cs_base.specs.declared.content.scores.Weights.{Weights}
use Rattle.cs_base.proofs.MembersLemmas.{all_then, is_member-listed, listed_itself, members-alike}
use Rattle.cs_base.proofs.OrdersLemmas.{by_row_exact, by_row_total, rows_up}
use Rattle.cs_model.specs.Corpus.{Corpus, distinct_words, doc_rows}
use Rattle.cs_model_index.proofs.Listings.{all_both}
use Rattle.cs_model_live.specs.LiveStates.{met_rows}
use Rattle.cs_live.proofs.AddedRows.{numbered_rows, own_any, own_docs, own_spots, spots_behind}

pub record AreBelow (n : ℕ) (xs : List Row) : Type 0 where
  pub up : IsStrictlySortedBy by_spot xs
  pub below : AllByRecursion (λ r. r.doc < n) xs

below_more : (w : Weights) (n : ℕ) (xs : List Row) (doc : Doc) → AreBelow n xs → AreBelow (n + 1) (xs ++ numbered_rows w n doc)
below_more w n xs doc h =
    let own = numbered_rows w n doc in
    let docs = own_docs w n doc in
    record {
      up = spots_behind n xs own h.up (own_spots w n doc) h.below (all_then (λ r. r.doc ≡ n) (λ r. n ≤ r.doc) (λ r e. omega (arith, e)) own docs);
      below = all_both (λ r. r.doc < n + 1) xs own (all_then (λ r. r.doc < n) (λ r. r.doc < n + 1) (λ r l. omega (arith, l)) xs h.below)
          (all_then (λ r. r.doc ≡ n) (λ r. r.doc < n + 1) (λ r e. omega (arith, e)) own docs);
    }

-- those of documents that are numbered from n on, one document behind the other
abbrev owns : Weights → ℕ → List Doc → List Row
owns w n [] = []
owns w n (doc ∷ docs) = numbered_rows w n doc ++ owns w (n + 1) docs

owns_push : (w : Weights) (n : ℕ) (docs : List Doc) (doc : Doc) → owns w n (docs ++ doc ∷ []) ≡ owns w n docs ++ numbered_rows w (n + length docs) doc
owns_push w n [] doc = let e : n ≡ n + 0 = omega arith in append-nil (numbered_rows w n doc) ∙ ap (λ m. numbered_rows w m doc) e
owns_push w n (d ∷ docs) doc =
    let e : n + 1 + length docs ≡ n + length (d ∷ docs) = omega arith in
    ap (λ l. numbered_rows w n d ++ l) (owns_push w (n + 1) docs doc ∙ ap (λ m. owns w (n + 1) docs ++ numbered_rows w m doc) e)
    ∙ sym (append_assoc (numbered_rows w n d) (owns w (n + 1) docs) (numbered_rows w (n + length (d ∷ docs)) doc))

met_are : (w : Weights) (n : ℕ) (xs : List Row) (docs : List Doc) → AreBelow n xs → members_in by_row (xs ++ flat_map (doc_rows w) (enumerate_from n docs)) ≡ xs ++ owns w n docs
met_are w n xs [] h =
    sym (listed_itself by_row by_row_total by_row_exact (xs ++ []) (rows_up (xs ++ []) (subst (IsStrictlySortedBy by_spot) (sym (append-nil xs)) h.up)))
met_are w n xs (doc ∷ docs) h =
    let own = numbered_rows w n doc in
    let rest = flat_map (doc_rows w) (enumerate_from (n + 1) docs) in
    members-alike by_row by_row_total by_row_exact (xs ++ (doc_rows w (n, doc) ++ rest)) ((xs ++ own) ++ rest) (λ q.
    let t = eq_by_cmp by_row q in
    list_any-append t xs (doc_rows w (n, doc) ++ rest)
    ∙ ap (λ b. list_any t xs || b) (list_any-append t (doc_rows w (n, doc)) rest ∙ ap (λ b. b || list_any t rest) (sym (own_any w n doc t)) ∙ sym (list_any-append t own rest))
    ∙ sym (list_any-append t xs (own ++ rest)) ∙ ap (list_any t) (sym (append_assoc xs own rest)))
    ∙ met_are w (n + 1) (xs ++ own) docs (below_more w n xs doc h)
    ∙ append_assoc xs own (owns w (n + 1) docs)

module _ (w : Weights) (k : Corpus) (h : AreBelow (len k.titles) k.rows) where
  pub met_none : met_rows w k [] ≡ k.rows
  met_none = met_are w (len k.titles) k.rows [] h ∙ append-nil k.rows

  pub met_more : (docs : List Doc) (doc : Doc) → met_rows w k (docs ++ doc ∷ []) ≡ met_rows w k docs ++ numbered_rows w (len k.titles + length docs) doc
  met_more docs doc =
      let n = len k.titles in
      let own = numbered_rows w (n + length docs) doc in
      met_are w n k.rows (docs ++ doc ∷ []) h ∙ ap (λ l. k.rows ++ l) (owns_push w n docs doc) ∙ sym (append_assoc k.rows (owns w n docs) own)
      ∙ ap (λ l. l ++ own) (sym (met_are w n k.rows docs h))

pub distinct_more : (xs own : List Row) → distinct_words (xs ++ own) ≡ members_in (slice_cmp nat_cmp) (distinct_words xs ++ map (λ r. r.word) own)
distinct_more xs own =
    let w : Row → List ℕ = λ r. r.word in
    members-alike (slice_cmp nat_cmp) nat_list_cmp_total exact_bytes (map w (xs ++ own)) (distinct_words xs ++ map w own) (λ q.
    let is = eq_by_cmp (slice_cmp nat_cmp) q in
    ap (list_any is) (map-append w xs own) ∙ list_any-append is (map w xs) (map w own)
    ∙ ap (λ b. b || list_any is (map w own)) (sym (is_member-listed (slice_cmp nat_cmp) nat_list_cmp_total (map w xs) q))
    ∙ sym (list_any-append is (distinct_words xs) (map w own)))
