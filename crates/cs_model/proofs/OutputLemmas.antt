-- Texts for lines, one after another.
--
--   one_each-push          one member more, and its text
--   length-one_each        as many texts as members
--   answers-first          texts of some members answer so many first ones of a longer list
--   behind_answered        behind these stand the others
--   put_of-push            what is put for one text more
--   failed_reads-push      one text more counts or doesn't
use Rattle.std.proofs.Common.{◌≡◌, ℕ, suc, ◌+◌, List, [], ◌∷◌, ◌++◌, length, take, drop, filter, refl, sym, ◌∙◌, ap, subst, append-nil}
use Rattle.std.specs.Str.{bytes_eq}
use Rattle.std.proofs.Math.Seq.{take-append_seam, drop-append_seam}
use Rattle.std.proofs.lemmas.Grind.{flat_map-append}
use Rattle.std.proofs.lemmas.List.{length-append}
use Rattle.std.proofs.lemmas.List.Elements.{filter-append}
use Rattle.cs_model.specs.Outputs.{MayPut, OneEach, AnswersFirst, put_of, failed_reads, read_text}

pub one_each-push : {X T : Type 0} (A : X → T → Type 0) (xs : List X) (ts : List T) (x : X) (t : T) → OneEach A xs ts → A x t → OneEach A (xs ++ x ∷ []) (ts ++ t ∷ [])
one_each-push A [] [] x t h a = (a, tt)
one_each-push A [] (u ∷ ts) x t h a = absurd h
one_each-push A (y ∷ xs) [] x t h a = absurd h
one_each-push A (y ∷ xs) (u ∷ ts) x t h a = (h.0, one_each-push A xs ts x t h.1 a)

pub length-one_each : {X T : Type 0} (A : X → T → Type 0) (xs : List X) (ts : List T) → OneEach A xs ts → length ts ≡ length xs
length-one_each A [] [] h = refl
length-one_each A [] (t ∷ ts) h = absurd h
length-one_each A (x ∷ xs) [] h = absurd h
length-one_each A (x ∷ xs) (t ∷ ts) h = ap suc (length-one_each A xs ts h.1)

module _ (A : MayPut) (done left ts : List (List ℕ)) (h : OneEach A done ts) where
  pub answers-first : AnswersFirst A (done ++ left) ts
  answers-first =
      let same : take (length ts) (done ++ left) ≡ done = ap (λ n. take n (done ++ left)) (length-one_each A done ts h) ∙ take-append_seam done left in
      subst (λ ls. OneEach A ls ts) (sym same) h

  pub behind_answered : drop (length ts) (done ++ left) ≡ left
  behind_answered = ap (λ n. drop n (done ++ left)) (length-one_each A done ts h) ∙ drop-append_seam done left

pub put_of-push : (ts : List (List ℕ)) (t : List ℕ) → put_of (ts ++ t ∷ []) ≡ put_of ts ++ (t ++ 10 ∷ [])
put_of-push ts t = flat_map-append (λ u. u ++ 10 ∷ []) ts (t ∷ []) ∙ ap (λ b. put_of ts ++ b) (append-nil (t ++ 10 ∷ []))

pub failed_reads-push : (ts : List (List ℕ)) (t : List ℕ) → failed_reads (ts ++ t ∷ []) ≡ failed_reads ts + failed_reads (t ∷ [])
unfolding failed_reads
failed_reads-push ts t = ap length (filter-append (λ u. bytes_eq u read_text) ts (t ∷ [])) ∙ length-append (filter (λ u. bytes_eq u read_text) ts) (filter (λ u. bytes_eq u read_text) (t ∷ []))
