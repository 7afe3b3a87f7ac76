-- Rows whose word is marked are those that share their word, where the words of the rows in listed documents are marked.
--
--   shared_by_words     a row shares its word if that is a word of a row in a listed document
--   shared_by_marks     so the marked rows are those that share their word
use Rattle.std.proofs.Common.{◌≡◌, ℕ, ◌||◌, ◌&&◌, Bool, true, false, List, [], ◌∷◌, cond, refl, ◌∙◌, arith}
use Rattle.std.specs.Prelude.{◌==◌, map, filter}
use Rattle.std.specs.List.{list_any}
use Rattle.std.proofs.lemmas.List.Elements.{filter_agree}
use Rattle.std.proofs.lemmas.Bool.Decides.{nat_tests}
use Rattle.cs_base.specs.declared.content.doc.Post.{Post}
use Rattle.cs_meet.specs.Filters.{is_of_doc, keep_docs}
use Rattle.cs_join.specs.Shared.{shares_word, shared}
use Rattle.cs_join.specs.Marked.{AreMarksOf, has_mark}

shared_by_words : (hits : List ℕ) (r : Post) (rows : List Post) → list_any (λ v. v == r.word) (map (λ p. p.word) (keep_docs rows hits)) ≡ shares_word hits rows r
shared_by_words hits r [] = refl
shared_by_words hits r (o ∷ rows) =
    elim (list_any (is_of_doc o) hits) as (λ picked. list_any (λ v. v == r.word) (map (λ (p : Post). p.word) (cond picked (o ∷ keep_docs rows hits) (keep_docs rows hits))) ≡ (((o.word == r.word) && picked) || shares_word hits rows r)) [
      | true ↦ (let rest = shared_by_words hits r rows in grind (arith, nat_tests, rest))
      | false ↦ (let rest = shared_by_words hits r rows in grind (arith, nat_tests, rest))
    ]

pub shared_by_marks : (hits : List ℕ) (rows : List Post) (least : ℕ) (marks : List Bool) → AreMarksOf (map (λ p. p.word) (keep_docs rows hits)) least marks → filter (has_mark least marks) rows ≡ shared rows hits
shared_by_marks hits rows least marks marked =
    filter_agree (has_mark least marks) (shares_word hits rows) (λ r. marked r.word ∙ shared_by_words hits r rows) rows
