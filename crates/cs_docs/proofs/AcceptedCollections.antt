-- Documents of a collection that isn't refused: few words, named pieces, few documents.
--
--   accepted_docs      each document can be listed
--   accepted_lent      each document that is lent can be listed
--   few_docs           there are no more of them than the most bytes of a collection, and one
--   few_documents      there are at most MAX_DOCS
use Rattle.std.proofs.Common.{◌≡◌, ℕ, ◌+◌, ◌≤◌, Bool, true, false, not, ◌&&◌, cond, nat_le, nat_eq, List, [], ◌∷◌, length, map, filter, drop, sym, ap, subst, arith, length-drop}
use Rattle.std.specs.Prelude.{None}
use Rattle.std.specs.List.{All, AllByRecursion, starts_with, enumerate_from}
use Rattle.std.proofs.lemmas.Bool.Decides.{nat_tests}
use Rattle.std.proofs.lemmas.List.{length-map}
use Rattle.std.proofs.lemmas.List.FromFn.{length-enumerate_from}
use Rattle.std.proofs.lemmas.List.Elements.{All-from_recursion, recursion_from_All}
use Rattle.cs_base.specs.declared.content.doc.Doc.{Doc}
use Rattle.cs_base.specs.declared.content.limits.TheConstants.{MAX_COLLECTION_BYTES, MAX_DOCS}
use Rattle.cs_model.specs.Collection.{piece_refusal, line_refusal, docs_refusal, documents, document, DocLine, doc_line, doc_lines, collection_lines, is_weights_line, weights_lines, weights_refusal, facet_pieces, columns, without_mark, too_large}
use Rattle.cs_model.specs.Words.{is_filled}
use Rattle.cs_model.specs.First.{unless, first_reason}
use Rattle.cs_model.proofs.FirstLemmas.{none_first, none_rest, unless_none}
use Rattle.cs_docs.specs.FacetPieces.{IsNamed, AreNamed, CanBeListed}
use Rattle.cs_docs.specs.declared.document.LentDoc.{LentDoc}
use Rattle.cs_docs.specs.LinesRead.{doc_of_lent}
use Rattle.cs_docs.proofs.LinesLemmas.{none_behind}
use Rattle.cs_docs.proofs.PlainLemmas.{length_documents_of_lines}

-- ---- nothing is refused

named_piece : (n : ℕ) (p : List ℕ) → piece_refusal n p ≡ None → IsNamed p
named_piece n p h = record {
  cut = grind (arith, h);
  name = grind (arith, h);
}

named_pieces : (n : ℕ) (ps : List (List ℕ)) → first_reason (map (piece_refusal n) ps) ≡ None → AreNamed ps
named_pieces n [] h = tt
named_pieces n (p ∷ ps) h = (named_piece n p (none_first (piece_refusal n p) (map (piece_refusal n) ps) h), named_pieces n ps (none_rest (piece_refusal n p) (map (piece_refusal n) ps) h))

-- A line that isn't refused breaks no rule, whichever rules there are.
accepted_line : (l : DocLine) → line_refusal l ≡ None → CanBeListed (document l)
accepted_line l h = record {
  pieces = named_pieces l.line (facet_pieces (columns l.bytes).facets) (grind (arith, h));
  few = grind (arith, nat_tests, h);
}

accepted_lines : (ks : List DocLine) → first_reason (map line_refusal ks) ≡ None → AllByRecursion CanBeListed (map document ks)
accepted_lines [] h = tt
accepted_lines (k ∷ ks) h = (accepted_line k (none_first (line_refusal k) (map line_refusal ks) h), accepted_lines ks (none_rest (line_refusal k) (map line_refusal ks) h))

-- ---- the documents of a collection that isn't refused

no_line_refused : (c : List ℕ) → docs_refusal c ≡ None → first_reason (map line_refusal (doc_lines c)) ≡ None
no_line_refused c h = none_behind (map weights_refusal (weights_lines c)) (map line_refusal (doc_lines c)) (none_rest (unless (nat_le (length c) MAX_COLLECTION_BYTES) too_large) _ h)

pub accepted_docs : (c : List ℕ) (docs : List Doc) → docs_refusal c ≡ None → docs ≡ documents c → All CanBeListed docs
accepted_docs c docs h e = subst (All CanBeListed) (sym e) (All-from_recursion CanBeListed (documents c) (accepted_lines (doc_lines c) (no_line_refused c h)))

listed_each : (docs : List LentDoc) → AllByRecursion CanBeListed (map doc_of_lent docs) → AllByRecursion (λ d. CanBeListed (doc_of_lent d)) docs
listed_each [] h = tt
listed_each (d ∷ docs) h = (h.0, listed_each docs h.1)

pub accepted_lent : (c : List ℕ) (docs : List LentDoc) → docs_refusal c ≡ None → map doc_of_lent docs ≡ documents c → All (λ d. CanBeListed (doc_of_lent d)) docs
accepted_lent c docs h e = All-from_recursion (λ d. CanBeListed (doc_of_lent d)) docs (listed_each docs (recursion_from_All CanBeListed (map doc_of_lent docs) (accepted_docs c (map doc_of_lent docs) h e)))

unmarked_length : (b : Bool) (c : List ℕ) → length (cond b (drop 3 c) c) ≤ length c
unmarked_length true c = omega (arith, length-drop 3 c)
unmarked_length false c = omega arith

pub few_docs : (c : List ℕ) (docs : List Doc) → docs_refusal c ≡ None → docs ≡ documents c → length docs ≤ MAX_COLLECTION_BYTES + 1
few_docs c docs h e =
    let small : nat_le (length c) MAX_COLLECTION_BYTES ≡ true = unless_none (nat_le (length c) MAX_COLLECTION_BYTES) too_large (none_first _ _ h) in
    let bound : length c ≤ MAX_COLLECTION_BYTES = grind (arith, nat_tests) in
    omega (arith, ap length e, length_documents_of_lines (without_mark c), unmarked_length (starts_with nat_eq c (239 ∷ 187 ∷ 191 ∷ [])) c, bound)

-- ---- there are few of them

few_line : (l : DocLine) → line_refusal l ≡ None → l.doc + 1 ≤ MAX_DOCS
few_line l h = grind (arith, nat_tests, h)

few_lines : (d : ℕ) (ls : List (ℕ × List ℕ)) → d ≤ MAX_DOCS → first_reason (map line_refusal (map doc_line (enumerate_from d ls))) ≡ None → d + length ls ≤ MAX_DOCS
few_lines d [] le h = omega (arith, le)
few_lines d (l ∷ ls) le h =
    let next = few_line (doc_line (d, l)) (none_first (line_refusal (doc_line (d, l))) _ h) in
    omega (arith, few_lines (d + 1) ls next (none_rest (line_refusal (doc_line (d, l))) _ h))

pub few_documents : (c : List ℕ) → docs_refusal c ≡ None → length (documents c) ≤ MAX_DOCS
few_documents c h =
    let ls = filter (λ l. is_filled l.1 && not (is_weights_line l)) (collection_lines c) in
    let few = few_lines 0 ls (omega arith) (no_line_refused c h) in
    omega (arith, few, length-map (doc_lines c) document, length-map (enumerate_from 0 ls) doc_line, length-enumerate_from 0 ls)
