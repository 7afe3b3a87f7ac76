-- How many titles are read of an index.
--
--   filed_sum, filed_shown     each title that the index has is read once, and no other
--   err_reads            of a refusal they are as many as it asks
--   filed_few, filed_less     they are no more than there are, nor than are asked
--   fewer_due, fewer_sharp     so no more is read than where the titles of all are
use Rattle.std.proofs.Common.{◌≡◌, ℕ, ◌+◌, ◌≤◌, true, false, cond, if◌then◌else◌, List, [], ◌∷◌, length, map, refl, sym, ap, ◌∙◌, arith}
use Rattle.std.specs.Prelude.{filter, nat_lt, not, sum, Result, Ok, Err}
use Rattle.std.specs.Result.{IsErr}
use Rattle.std.proofs.lemmas.List.{length-map}
use Rattle.std.proofs.lemmas.List.Filters.{length-filter_both}
use Rattle.std.proofs.lemmas.List.Sums.{sum_by-cons}
use Rattle.cs_base.specs.declared.content.doc.Scored.{Scored}
use Rattle.cs_base.specs.declared.index.plan.Plan.{Plan}
use Rattle.cs_base.specs.outside.Causes.{ReadsWithin}
use Rattle.cs_base.proofs.ListsLemmas.{filter_through}
use Rattle.cs_file.specs.declared.fault.FetchFault.{FetchFault}
use Rattle.cs_model.specs.Replies.{HitShown, Reply}
use Rattle.cs_model.specs.Corpus.{Corpus}
use Rattle.cs_model.specs.Requests.{Request}
use Rattle.cs_model_kept.specs.Due.{Division, due}
use Rattle.cs_model_kept.specs.Sharp.{sharp}
use Rattle.cs_engine.specs.Asking.{filed_titles, titles_asked, titles_read}
use Rattle.cs_rows.proofs.WalkLemmas.{within_more}

pub filed_sum : (n : ℕ) (hs : List Scored) → sum (map (λ h. if nat_lt h.doc n then 1 else 0) hs) ≡ length (filter (λ h. nat_lt h.doc n) hs)
filed_sum n [] = refl
filed_sum n (h ∷ hs) =
    let reads : Scored → ℕ = λ h. if nat_lt h.doc n then 1 else 0 in
    let filed = filter (λ (h : Scored). nat_lt h.doc n) hs in
    let rest = filed_sum n hs in
    sum_by-cons (λ x. x) (reads h) (map reads hs)
    ∙ elim (nat_lt h.doc n) as (λ b. (if b then 1 else 0) + sum (map reads hs) ≡ length (cond b (h ∷ filed) filed)) [
      | true ↦ omega (arith, rest)
      | false ↦ omega (arith, rest)
    ]

by_number : {X : Type 0} (doc : X → ℕ) (n : ℕ) (xs : List X) → length (filter (λ x. nat_lt (doc x) n) xs) ≡ length (filter (λ d. nat_lt d n) (map doc xs))
by_number doc n xs = sym (length-map (filter (λ x. nat_lt (doc x) n) xs) doc) ∙ ap length (filter_through doc (λ d. nat_lt d n) xs)

pub filed_shown : (n : ℕ) (shown : List HitShown) (hs : List Scored) → map (λ s. s.doc) shown ≡ map (λ h. h.doc) hs
    → length (filter (λ s. nat_lt s.doc n) shown) ≡ length (filter (λ h. nat_lt h.doc n) hs)
filed_shown n shown hs same =
    by_number (λ (s : HitShown). s.doc) n shown ∙ ap (λ ds. length (filter (λ d. nat_lt d n) ds)) same ∙ sym (by_number (λ (h : Scored). h.doc) n hs)

pub err_reads : (n : ℕ) (q : Request) (r : Result Reply FetchFault) → IsErr r → titles_read n q r ≡ q.hits
err_reads n q (Ok r) h = absurd cc
err_reads n q (Err e) h = refl

pub filed_few : (n : ℕ) (hs : List Scored) → length (filter (λ h. nat_lt h.doc n) hs) ≤ length hs
filed_few n hs =
    let both = length-filter_both (λ (h : Scored). nat_lt h.doc n) (λ h. not (nat_lt h.doc n)) (λ h. refl) hs in
    omega (arith, both)

pub filed_less : {T : Type 0} (n : ℕ) (q : Request) (r : Result (Reply × T) FetchFault) → filed_titles n q r ≤ titles_asked q r
filed_less n q (Ok r) =
    let both = length-filter_both (λ (h : HitShown). nat_lt h.doc n) (λ h. not (nat_lt h.doc n)) (λ h. refl) r.0.hits in
    omega (arith, both)
filed_less n q (Err e) = omega arith

module _ (v : Division) (r : Request) (plan : Plan) {few many : ℕ} (less : few ≤ many) {before now : ℕ} where
  pub fewer_due : ReadsWithin (due v r plan few) before now → ReadsWithin (due v r plan many) before now
  unfolding due
  fewer_due read = within_more read (omega (arith, less))

  pub fewer_sharp : (k : Corpus) → ReadsWithin (sharp v k r plan few) before now → ReadsWithin (sharp v k r plan many) before now
  unfolding sharp
  fewer_sharp k read = within_more read (omega (arith, less))
