-- The words of rows are text: each is UTF-8.
--
--   All-members            what each of a list is, each of its listing is
--   text_of_doc            the rows of a document whose words are UTF-8
--   named_text             the word of a facet whose name and value are
use Rattle.std.proofs.Common.{arith, ◌≡◌, ℕ, ◌+◌, Bool, true, false, ◌||◌, List, [], ◌∷◌, ◌++◌, map, refl, sym, subst, ◌∙◌, ap}
use Rattle.std.specs.List.{All, AllByRecursion, list_any, enumerate_from}
use Rattle.std.specs.Ordering.{eq_by_cmp, is_eq}
use Rattle.std.specs.declared.cmp.Ordering.{Ordering}
use Rattle.std.specs.Cmp.{IsTotalOrder, Equal-is}
use Rattle.std.specs.FinMap.{IsAntisymmetric}
use Rattle.std.specs.Str.{IsUtf8}
use Rattle.std.proofs.lemmas.List.Elements.{All-from_recursion, recursion_from_All, All-append}
use Rattle.std.proofs.lemmas.Str.{IsUtf8-append, IsUtf8-encode, encode_ascii}
use Rattle.std.proofs.lemmas.Bool.{or_left, or_right}
use Rattle.std.proofs.lemmas.Cmp.{tied_itself}
use Rattle.cs_base.specs.content.Members.{members_in}
use Rattle.cs_base.specs.declared.content.doc.Doc.{Doc}
use Rattle.cs_base.specs.declared.content.scores.Weights.{Weights}
use Rattle.cs_base.proofs.MembersLemmas.{is_member-listed}
use Rattle.cs_model.specs.Collection.{named}
use Rattle.cs_model.specs.Corpus.{placed, title_rows, text_rows}
use Rattle.cs_model.specs.Words.{words}
use Rattle.cs_docs.specs.Listing.{listed_facets, listed_doc, HasUtf8Word}

-- in a total order each thing ties with itself
pub ties : {X : Type 0} (R : X → X → Ordering) → IsTotalOrder R → (x : X) → eq_by_cmp R x x ≡ true
ties R o x = ap is_eq (tied_itself o x)

module _ {X : Type 0} (R : X → X → Ordering) (o : IsTotalOrder R) (exact : IsAntisymmetric R) (P : X → Type 0) where
  here_or_there : (q x : X) (xs : List X) → P x → (list_any (eq_by_cmp R q) xs ≡ true → P q) → (b : Bool) → eq_by_cmp R q x ≡ b → b || list_any (eq_by_cmp R q) xs ≡ true → P q
  here_or_there q x xs p there true e h = subst P (sym (exact q x ((Equal-is (R q x)).0 e))) p
  here_or_there q x xs p there false e h = there h

  has : (xs : List X) → AllByRecursion P xs → (q : X) → list_any (eq_by_cmp R q) xs ≡ true → P q
  has [] h q e = absurd (cc)
  has (x ∷ xs) h q e = here_or_there q x xs h.0 (has xs h.1 q) (eq_by_cmp R q x) refl e

  each : (xs : List X) → ((q : X) → list_any (eq_by_cmp R q) xs ≡ true → P q) → AllByRecursion P xs
  each [] h = tt
  each (x ∷ xs) h = (h x (or_left _ _ (ties R o x)), each xs (λ q e. h q (or_right (eq_by_cmp R q x) _ e)))

  pub All-members : (xs : List X) → All P xs → All P (members_in R xs)
  All-members xs h = All-from_recursion P (members_in R xs) (each (members_in R xs) (λ q e. has xs (recursion_from_All P xs h) q (sym (is_member-listed R o xs q) ∙ e)))

placed_text : (d score : ℕ) (n : ℕ) (ws : List (List ℕ)) → AllByRecursion IsUtf8 ws → AllByRecursion HasUtf8Word (map (placed d score) (enumerate_from n ws))
placed_text d score n [] h = tt
placed_text d score n (w ∷ ws) h = (h.0, placed_text d score (n + 1) ws h.1)

facets_text : (d score : ℕ) (ws : List (List ℕ)) → AllByRecursion IsUtf8 ws → AllByRecursion HasUtf8Word (map (λ x. placed d score (0, x)) ws)
facets_text d score [] h = tt
facets_text d score (x ∷ ws) h = (h.0, facets_text d score ws h.1)

pub text_of_doc : (w : Weights) (d : ℕ) (doc : Doc) → All IsUtf8 (listed_facets doc.facets) → All IsUtf8 (words doc.title) → All IsUtf8 (words doc.text) → All HasUtf8Word (listed_doc w (d, doc))
text_of_doc w d doc facets title text =
    let facet_rows = map (λ x. placed d w.facet (0, x)) (listed_facets doc.facets) in
    All-append HasUtf8Word (facet_rows ++ title_rows w d doc) (text_rows w d doc)
    (All-append HasUtf8Word facet_rows (title_rows w d doc)
    (All-from_recursion HasUtf8Word facet_rows (facets_text d w.facet (listed_facets doc.facets) (recursion_from_All IsUtf8 (listed_facets doc.facets) facets)))
    (All-from_recursion HasUtf8Word (title_rows w d doc) (placed_text d w.title 1 (words doc.title) (recursion_from_All IsUtf8 (words doc.title) title))))
    (All-from_recursion HasUtf8Word (text_rows w d doc) (placed_text d w.text _ (words doc.text) (recursion_from_All IsUtf8 (words doc.text) text)))

pub named_text : (name value : List ℕ) → IsUtf8 name → IsUtf8 value → IsUtf8 (named name value)
named_text name value n v =
    let colon : IsUtf8 (58 ∷ []) = subst IsUtf8 (encode_ascii 58 (omega arith)) (IsUtf8-encode 58 refl) in
    IsUtf8-append (58 ∷ name) (58 ∷ value) (IsUtf8-append (58 ∷ []) name colon n) (IsUtf8-append (58 ∷ []) value colon v)
