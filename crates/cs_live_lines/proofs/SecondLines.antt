-- A line behind an empty one, as a collection.
--
--   IsBehindEmpty l c    its one document is that of its second line, and it is refused as that line is
--   behind_empty         such a collection is so
--   IsOfSecond r         a refusal that a second line may have, as it is said of line 2
--   second_cause         each refusal of a second line is such a one
--   only_last            the last entry of a list of one
use Rattle.std.proofs.Common.{◌≡◌, ◌≢◌, ◌⊎◌, ℕ, ◌+◌, ◌<◌, ◌≤◌, Bool, true, false, not, ◌&&◌, nat_le, List, [], ◌∷◌, ◌++◌, length, map, filter, inl, inr, refl, ap, subst, ◌∙◌, arith}
use Rattle.std.specs.Prelude.{nat_lt, Option, Some, None}
use Rattle.std.specs.List.{All, AllByRecursion, enumerate_from, list_any}
use Rattle.std.specs.Str.{is_utf8}
use Rattle.std.specs.Str.Lines.{lines}
use Rattle.std.proofs.lemmas.Bool.Decides.{nat_tests}
use Rattle.std.proofs.lemmas.List.Elements.{All-get_or}
use Rattle.memchr.specs.Find.{IsFirstByte, is_byte}
use Rattle.cs_base.specs.declared.content.doc.Doc.{Doc}
use Rattle.cs_base.specs.declared.content.limits.TheConstants.{MAX_COLLECTION_BYTES, MAX_DOC_WORDS, MAX_DOCS, MAX_LINE_BYTES}
use Rattle.cs_docs.proofs.LinesLemmas.{last_line, line_at, small_refusal}
use Rattle.cs_docs.specs.FaultRefusals.{IsCauseOf}
use Rattle.cs_docs.specs.declared.fault.DocFault.{DocFault}
use Rattle.cs_docs.specs.declared.fault.DocFault.TheVariants.{BadWeights, TooLarge, TooManyDocs}
use Rattle.cs_model.proofs.FirstLemmas.{first-one}
use Rattle.cs_model.specs.Collection.{CollectionRefusal, bad_facet, bad_name, bad_weights, columns, doc_line, doc_lines, docs_refusal, document, documents, facet_pieces, has_name_form, is_equals, is_weights_line, line_refusal, line_too_long, not_utf8, piece_name, piece_refusal, too_large, too_many_docs, weights_lines, weights_refusal, word_count, words_too_many}
use Rattle.cs_model.specs.First.{first_reason, unless}
use Rattle.cs_model.specs.Words.{is_filled}
use Rattle.cs_model_live.specs.LiveLines.{second_line}

-- ---- the collection
module _ (b : ℕ) (bs : List ℕ) (one : All (λ x. x ≢ 10) (b ∷ bs)) where
  no_end : IsFirstByte (is_byte 10) (b ∷ bs) None
  no_end k low high h = let apart = All-get_or (λ x. x ≢ 10) (b ∷ bs) k 0 high one in grind (arith, nat_tests)

  filled : is_filled (b ∷ bs) ≡ true
  filled = grind (arith, nat_tests)

  lines_are : lines (10 ∷ b ∷ bs) ≡ [] ∷ (b ∷ bs) ∷ []
  lines_are = line_at (10 ∷ b ∷ bs) 0 (omega arith) (λ k l. absurd (omega (arith, l))) refl ∙ ap (λ ls. [] ∷ ls) (last_line (b ∷ bs) (omega arith) no_end)

  by_filled : (f : Bool) → is_filled (b ∷ bs) ≡ f → f ≡ true → map doc_line (enumerate_from 0 (filter (λ l. is_filled l.1 && not (is_weights_line l)) (enumerate_from 1 ([] ∷ (b ∷ bs) ∷ [])))) ≡ second_line (b ∷ bs) ∷ []
  by_filled f h t = rw (h ∙ t) refl

  doc_lines_are : doc_lines (10 ∷ b ∷ bs) ≡ second_line (b ∷ bs) ∷ []
  doc_lines_are = ap (λ ls. map doc_line (enumerate_from 0 (filter (λ l. is_filled l.1 && not (is_weights_line l)) (enumerate_from 1 ls)))) lines_are ∙ by_filled true filled refl

  weights_lines_are : weights_lines (10 ∷ b ∷ bs) ≡ []
  weights_lines_are = ap (λ ls. filter is_weights_line (enumerate_from 1 ls)) lines_are

  second_documents : documents (10 ∷ b ∷ bs) ≡ document (second_line (b ∷ bs)) ∷ []
  second_documents = ap (map document) doc_lines_are

  second_refusal : length (b ∷ bs) + 1 ≤ MAX_COLLECTION_BYTES → docs_refusal (10 ∷ b ∷ bs) ≡ line_refusal (second_line (b ∷ bs))
  second_refusal small =
      small_refusal (10 ∷ b ∷ bs) (omega arith)
      ∙ ap (λ ws. first_reason (map weights_refusal ws ++ map line_refusal (doc_lines (10 ∷ b ∷ bs)))) weights_lines_are
      ∙ ap (λ ls. first_reason (map line_refusal ls)) doc_lines_are
      ∙ first-one (line_refusal (second_line (b ∷ bs)))

-- a collection of an empty line and another one
pub record IsBehindEmpty (l c : List ℕ) : Type 0 where
  pub docs : documents c ≡ document (second_line l) ∷ []
  pub refused : docs_refusal c ≡ line_refusal (second_line l)

pub behind_empty : (l c : List ℕ) → l ≢ [] → All (λ x. x ≢ 10) l → length l < MAX_COLLECTION_BYTES → c ≡ 10 ∷ l → IsBehindEmpty l c
behind_empty [] c some one short is = absurd (some refl)
behind_empty (b ∷ bs) c some one short is = record {
  docs = ap documents is ∙ second_documents b bs one;
  refused = ap docs_refusal is ∙ second_refusal b bs one (omega (arith, short));
}

-- ---- refusals
-- of line 2, and none of the number of documents, of which the line's is the first
abbrev pub IsOfSecond : CollectionRefusal → Type 0
IsOfSecond (not_utf8 n) = n ≡ 2
IsOfSecond (line_too_long n) = n ≡ 2
IsOfSecond (words_too_many n) = n ≡ 2
IsOfSecond (bad_facet n) = n ≡ 2
IsOfSecond (bad_name n) = n ≡ 2
IsOfSecond _ = ⊥

-- where there is a refusal, it is such a one
abbrev MayBe : Option CollectionRefusal → Type 0
MayBe None = Unit {0}
MayBe (Some r) = IsOfSecond r

unless_may : (b : Bool) (r : CollectionRefusal) → IsOfSecond r → MayBe (unless b r)
unless_may true r h = tt
unless_may false r h = h

first_may : (rs : List (Option CollectionRefusal)) → AllByRecursion MayBe rs → MayBe (first_reason rs)
first_may [] h = tt
first_may (None ∷ rs) h = first_may rs h.1
first_may (Some r ∷ rs) h = h.0

piece_may : (p : List ℕ) → MayBe (piece_refusal 2 p)
piece_may p =
    let cut = list_any is_equals p in
    let name = has_name_form (piece_name p) in
    first_may (unless cut (bad_facet 2) ∷ unless name (bad_name 2) ∷ []) (unless_may cut (bad_facet 2) refl, (unless_may name (bad_name 2) refl, tt))

pieces_may : (ps : List (List ℕ)) → AllByRecursion MayBe (map (piece_refusal 2) ps)
pieces_may [] = tt
pieces_may (p ∷ ps) = (piece_may p, pieces_may ps)

second_may : (l : List ℕ) → MayBe (line_refusal (second_line l))
second_may l =
    let utf8 = is_utf8 l in
    let short = nat_le (length l) MAX_LINE_BYTES in
    let few = nat_le (word_count (columns l)) MAX_DOC_WORDS in
    let pieces = map (piece_refusal 2) (facet_pieces (columns l).facets) in
    first_may
    (unless utf8 (not_utf8 2) ∷ unless short (line_too_long 2) ∷ unless few (words_too_many 2) ∷ first_reason pieces ∷ unless (nat_lt 0 MAX_DOCS) (too_many_docs 2) ∷ [])
    (unless_may utf8 (not_utf8 2) refl, (unless_may short (line_too_long 2) refl, (unless_may few (words_too_many 2) refl, (first_may pieces (pieces_may (facet_pieces (columns l).facets)), (tt, tt)))))

pub second_cause : (l : List ℕ) (r : CollectionRefusal) → line_refusal (second_line l) ≡ Some r → IsOfSecond r
second_cause l r h = subst MayBe h (second_may l)

-- a fault of a second line is none of a whole collection, of weights or of the number of documents
pub never : (l : List ℕ) (e : DocFault) → IsCauseOf (line_refusal (second_line l)) e → (e ≡ TooLarge) ⊎ (((n : ℕ) × (e ≡ BadWeights n)) ⊎ ((n : ℕ) × (e ≡ TooManyDocs n))) → ⊥
never l e h (inl is) = second_cause l too_large (subst (IsCauseOf (line_refusal (second_line l))) is h)
never l e h (inr (inl is)) = second_cause l (bad_weights is.0) (subst (IsCauseOf (line_refusal (second_line l))) is.1 h)
never l e h (inr (inr is)) = second_cause l (too_many_docs is.0) (subst (IsCauseOf (line_refusal (second_line l))) is.1 h)

-- ---- lists
pub only_last : (d x : Doc) (ys : List Doc) → d ∷ [] ≡ ys ++ x ∷ [] → x ≡ d
only_last d x [] h = cc
only_last d x (y ∷ []) h = absurd (cc)
only_last d x (y ∷ z ∷ ys) h = absurd (cc)
