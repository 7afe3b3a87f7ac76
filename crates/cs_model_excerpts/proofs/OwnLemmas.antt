-- Which text words of a document serve a part, and so its excerpt, depends on the document alone.
--
--   marks_own       the law of marks
--   excerpts_own    the law of excerpts
use Rattle.std.proofs.Common.{◌≡◌, ◌+◌, ◌-◌, ℕ, List, [], ◌∷◌, true, false, Bool, map, length, refl, sym, ap, ◌∙◌, arith}
use Rattle.std.specs.Prelude.{◌&&◌, nat_le, fold}
use Rattle.std.specs.List.{range_with_len}
use Rattle.std.proofs.lemmas.Bool.Decides.{nat_tests}
use Rattle.std.proofs.lemmas.List.FromFn.{fill_by_all}
use Rattle.cs_base.specs.declared.content.doc.Doc.{Doc}
use Rattle.cs_base.specs.declared.content.query.Chain.{Chain}
use Rattle.cs_base.specs.declared.content.query.Part.{Part, out-Part}
use Rattle.cs_base.specs.declared.content.query.Query.{Query}
use Rattle.cs_base.specs.declared.content.scores.TheConstants.{BEHIND_TITLE}
use Rattle.cs_base.specs.declared.content.scores.Weights.{Weights}
use Rattle.cs_model.specs.Corpus.{Corpus}
use Rattle.cs_model.specs.Words.{words}
use Rattle.cs_model_excerpts.specs.ExcerptLaws.{HasDocument}
use Rattle.cs_model_excerpts.specs.Excerpts.{excerpt, excerpt_of, marks_in, own_excerpt, positive, serves, textual}
use Rattle.cs_model_excerpts.specs.OwnWords.{chain_marks, either_marks, part_marks}
use Rattle.cs_model_excerpts.specs.Runs.{has_mark_at}
use Rattle.cs_model_excerpts.proofs.PartMarks.{chain-length, either-length, mapped-length, part_shown}
use Rattle.cs_model_excerpts.proofs.ServesLemmas.{mark_at}
use Rattle.cs_model_excerpts.proofs.OwnRows.{doc_text}
use Rattle.cs_model_excerpts.proofs.TextWords.{are_text}

mark_back : (t : ℕ) (ms : List Bool) (j : ℕ) → mark_at t ms (t + BEHIND_TITLE + j) ≡ has_mark_at ms j
mark_back t ms j =
    let late : nat_le (t + BEHIND_TITLE) (t + BEHIND_TITLE + j) ≡ true = grind (arith, nat_tests) in
    let there : t + BEHIND_TITLE + j - (t + BEHIND_TITLE) ≡ j = omega arith in
    ap (λ b. b && has_mark_at ms (t + BEHIND_TITLE + j - (t + BEHIND_TITLE))) late ∙ ap (has_mark_at ms) there

chains-length : (ws : List (List ℕ)) (cs : List Chain) (ms : List Bool) → length ms ≡ length ws → length (fold (λ ms c. either_marks ms (chain_marks ws c)) ms cs) ≡ length ws
chains-length ws [] ms h = h
chains-length ws (c ∷ cs) ms h = chains-length ws cs (either_marks ms (chain_marks ws c)) (either-length ws ms (chain_marks ws c) ∙ chain-length ws c)

pub part-length : (ws : List (List ℕ)) (p : Part) → length (part_marks ws p) ≡ length ws
part-length ws p = chains-length ws (out-Part p).chains (map (λ x. false) ws) (mapped-length (λ x. false) ws)

same_map : {X Y : Type 0} (f g : X → Y) → ((x : X) → f x ≡ g x) → (xs : List X) → map f xs ≡ map g xs
same_map f g h [] = refl
same_map f g h (x ∷ xs) = ap (λ y. y ∷ map f xs) (h x) ∙ ap (λ ys. g x ∷ ys) (same_map f g h xs)

pub marks_own : (k : Corpus) (w : Weights) (d : ℕ) (doc : Doc) → HasDocument k w d doc → (part : Part) → marks_in k d doc part ≡ part_marks (words doc.text) part
marks_own k w d doc has p =
    let t = length (words doc.title) in
    let ws = words doc.text in
    let ms = part_marks ws p in
    same_map (serves k d t p) (has_mark_at ms) (λ j. part_shown k d t ws (doc_text k w d doc has) (are_text doc.text) p (t + BEHIND_TITLE + j) (omega arith) ∙ mark_back t ms j) (range_with_len 0 (length ws))
    ∙ sym (fill_by_all (has_mark_at ms) ms (length ws) false (part-length ws p) (λ i l. refl))

pub excerpts_own : (k : Corpus) (w : Weights) (d : ℕ) (doc : Doc) → HasDocument k w d doc → (q : Query) → excerpt k q d doc ≡ own_excerpt q doc
unfolding excerpt own_excerpt
excerpts_own k w d doc has q = ap (λ ms. excerpt_of (words doc.text) (textual ms)) (same_map (marks_in k d doc) (part_marks (words doc.text)) (marks_own k w d doc has) (positive q))
