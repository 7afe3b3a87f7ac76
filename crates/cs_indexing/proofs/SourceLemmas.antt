-- Refusals of sources, by those of their translations.
--
--   flat_caused                       a translation without a bad line is refused as its collection
--   unrefused, unsaid                 a fault of an accepted collection names no refusal, and so no words
--   source_accepted, source_caused    a source that is small enough is accepted and refused as its translation
use Rattle.std.proofs.Common.{◌≡◌, ◌≤◌, ℕ, true, List, [], ◌∷◌, ap, refl, sym, subst, ◌∙◌, length, nat_le, None}
use Rattle.std.specs.Prelude.{◌&&◌, if◌then◌else◌, Option, Some, MatchOption}
use Rattle.std.specs.Option.{option_map}
use Rattle.std.proofs.lemmas.Bool.{le-leb}
use Rattle.cs_base.specs.declared.content.limits.TheConstants.{MAX_COLLECTION_BYTES}
use Rattle.cs_docs.specs.FaultRefusals.{reason_text}
use Rattle.cs_docs.specs.declared.fault.Reason.{Reason}
use Rattle.cs_model.specs.Collection.{CollectionRefusal, docs_refusal, documents, refusal_words, too_large, weights}
use Rattle.cs_model.specs.Corpus.{refusal, rows_of, rows_refusal}
use Rattle.cs_model.specs.First.{first_reason}
use Rattle.cs_model_sources.specs.SourceRefusals.{ImportRefusal, flat_refusal, of_line, of_lines, source_refusal}
use Rattle.cs_model_sources.specs.declared.flat.BadLine.{BadLine}
use Rattle.cs_model_sources.specs.declared.flat.Flat.{Flat}
use Rattle.cs_indexing.specs.Views.{IsCollectionCause, IsFlatCause, IsImportCause, collection_refusal_of, import_refusal_of}
use Rattle.cs_indexing.specs.declared.collection.CollectionFault.{CollectionFault}
use Rattle.cs_indexing.specs.declared.sources.ImportFault.{ImportFault}

-- ---- a translation
-- the first refusal of a translation whose bad line is known
abbrev reasons : Flat → Option BadLine → Option ImportRefusal
reasons f bad = first_reason (option_map of_lines (docs_refusal f.tsv) ∷ option_map of_line bad ∷ option_map of_lines (refusal f.tsv) ∷ [])

-- the first of two refusals is counted twice
twice : (o p : Option CollectionRefusal) → first_reason (option_map of_lines o ∷ None ∷ option_map of_lines (first_reason (o ∷ p ∷ [])) ∷ []) ≡ option_map of_lines (first_reason (o ∷ p ∷ []))
twice (Some r) p = refl
twice None (Some r) = refl
twice None None = refl

whole : (f : Flat) → f.bad ≡ None → flat_refusal f ≡ option_map of_lines (refusal f.tsv)
whole f bad = ap (λ o. reasons f o) bad ∙ twice (docs_refusal f.tsv) (rows_refusal (rows_of (weights f.tsv) (documents f.tsv)))

pub flat_caused : (f : Flat) (o : Option CollectionRefusal) → f.bad ≡ None → MatchOption o (Unit {0}) (λ r. refusal f.tsv ≡ Some r) → MatchOption (option_map of_lines o) (Unit {0}) (λ r. flat_refusal f ≡ Some r)
flat_caused f None bad is = tt
flat_caused f (Some r) bad is = whole f bad ∙ ap (option_map of_lines) is

-- ---- a source
fits : (read : List ℕ → Flat) (b : List ℕ) → length b ≤ MAX_COLLECTION_BYTES → length (read b).tsv ≤ MAX_COLLECTION_BYTES → source_refusal read b ≡ flat_refusal (read b)
fits read b few short =
    let a : nat_le (length b) MAX_COLLECTION_BYTES ≡ true = le-leb _ _ few in
    let c : nat_le (length (read b).tsv) MAX_COLLECTION_BYTES ≡ true = le-leb _ _ short in
    ap (λ t. if t && nat_le (length (read b).tsv) MAX_COLLECTION_BYTES then flat_refusal (read b) else Some (of_lines too_large)) a ∙ ap (λ t. if t then flat_refusal (read b) else Some (of_lines too_large)) c

pub source_caused : (read : List ℕ → Flat) (b : List ℕ) (f : Flat) (e : ImportFault) → f ≡ read b → length b ≤ MAX_COLLECTION_BYTES → length (read b).tsv ≤ MAX_COLLECTION_BYTES → IsFlatCause f e → IsImportCause read b e
source_caused read b f e is few short h = subst (λ s. MatchOption (import_refusal_of e) (Unit {0}) (λ r. s ≡ Some r)) (sym (fits read b few short ∙ ap flat_refusal (sym is))) h

pub source_accepted : (read : List ℕ → Flat) (b : List ℕ) (f : Flat) → f ≡ read b → length b ≤ MAX_COLLECTION_BYTES → length (read b).tsv ≤ MAX_COLLECTION_BYTES → flat_refusal f ≡ None → source_refusal read b ≡ None
source_accepted read b f is few short h = fits read b few short ∙ ap flat_refusal (sym is) ∙ h

-- ---- a collection that is accepted
by_cause : (x y : Option CollectionRefusal) → y ≡ None → MatchOption x (Unit {0}) (λ r. y ≡ Some r) → x ≡ None
by_cause None y none h = refl
by_cause (Some r) y none h = absurd (let wrong : None ≡ Some r = sym none ∙ h in cc)

pub unrefused : (b : List ℕ) (f : CollectionFault) → refusal b ≡ None → IsCollectionCause b f → collection_refusal_of f ≡ None
unrefused b f none h = by_cause (collection_refusal_of f) (refusal b) none h

pub unsaid : (f : CollectionFault) (r : Reason) (said : Option Reason) → collection_refusal_of f ≡ None
    → option_map reason_text said ≡ option_map refusal_words (collection_refusal_of f) → said ≡ Some r → ⊥
unsaid f r said none words is =
    absurd (let wrong : Some (reason_text r) ≡ None = ap (option_map reason_text) (sym is) ∙ words ∙ ap (option_map refusal_words) none in cc)
