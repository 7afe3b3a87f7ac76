-- The corpus of a collection is one: its rows are named and in their order, and their documents have titles.
use Rattle.std.proofs.Common.{◌≡◌, ℕ, ◌+◌, ◌<◌, ◌≤◌, true, false, cond, List, [], ◌∷◌, length, map, refl, ap, ◌∙◌, arith}
use Rattle.std.specs.Prelude.{Some}
use Rattle.std.specs.List.{enumerate_from}
use Rattle.std.specs.Option.{is_some}
use Rattle.std.specs.Ordering.{nat_cmp, eq_by_cmp}
use Rattle.std.specs.FinMap.{find, contains_key, get-from_entries}
use Rattle.std.proofs.lemmas.Bool.Decides.{nat_tests}
use Rattle.std.proofs.lemmas.Cmp.{nat_cmp_total}
use Rattle.std.proofs.lemmas.List.{length-map}
use Rattle.std.proofs.lemmas.List.Elements.{All-from_recursion}
use Rattle.cs_base.specs.declared.content.doc.Doc.{Doc}
use Rattle.cs_base.specs.declared.content.scores.Weights.{Weights}
use Rattle.cs_base.proofs.MembersLemmas.{all_then}
use Rattle.cs_model.specs.Collection.{documents, weights}
use Rattle.cs_model.specs.Corpus.{corpus, corpus_of, rows_of, title_of, titles_of, IsCorpus}
use Rattle.cs_docs.proofs.ListingLemmas.{spots-rise, docs-below}

later : (d n : ℕ) → n ≤ d → eq_by_cmp nat_cmp d n ≡ false → n + 1 ≤ d
later d n l e = grind (arith, nat_tests)

-- each number of a list that is numbered from n has an entry
numbered : (d n : ℕ) (ts : List (List ℕ)) → n ≤ d → d < n + length ts → is_some (find nat_cmp d (enumerate_from n ts)) ≡ true
numbered d n [] l h = absurd (omega arith)
numbered d n (t ∷ ts) l h =
    elim (eq_by_cmp nat_cmp d n) as (λ b. eq_by_cmp nat_cmp d n ≡ b → is_some (cond b (Some t) (find nat_cmp d (enumerate_from (n + 1) ts))) ≡ true) [
      | true ↦ λ e. refl
      | false ↦ λ e. numbered d (n + 1) ts (later d n l e) (omega arith)
    ] refl

titled : (docs : List Doc) (d : ℕ) → d < length docs → contains_key (titles_of docs) d ≡ true
titled docs d l = ap is_some (get-from_entries nat_cmp_total (enumerate_from 0 (map title_of docs)) d) ∙ numbered d 0 (map title_of docs) (omega arith) (omega (arith, l, length-map docs title_of))

-- so is that of any documents, under any weights
pub corpus_of_is : (w : Weights) (docs : List Doc) → IsCorpus (corpus_of w docs)
corpus_of_is w docs = record {
  named = spots-rise w docs;
  of_docs = All-from_recursion (λ r. contains_key (titles_of docs) r.doc ≡ true) (rows_of w docs) (all_then (λ r. r.doc < length docs) (λ r. contains_key (titles_of docs) r.doc ≡ true) (λ r l. titled docs r.doc l) (rows_of w docs) (docs-below w docs));
}

pub corpus_is : (c : List ℕ) → IsCorpus (corpus c)
corpus_is c = corpus_of_is (weights c) (documents c)
