-- Titles at the numbers that are those of documents.
--
--   there_set      where one number is that of a document no longer
--   titled_at      what stands at a number
--   titled_docs, titled_there      which numbers have one
--   titled_all     where each number is that of a document
--   titled_more    one document more
--   titled_gone    one document gone
--   title_there, title_gone      the title of a number
use Rattle.std.proofs.Common.{◌≡◌, ℕ, zero, suc, ◌<◌, ◌==◌, Bool, true, false, cond, List, [], ◌∷◌, ◌++◌, length, map, get_or, set, Option, Some, None}
use Rattle.std.proofs.Common.{refl, sym, ap, ap₂, ◌∙◌, arith, inl, inr}
use Rattle.std.specs.Prelude.{filter}
use Rattle.std.specs.List.{range_with_len, slice_get}
use Rattle.std.specs.Option.{unwrap_or}
use Rattle.std.specs.Ordering.{nat_cmp}
use Rattle.std.specs.Cmp.{nat_cmp_total, unsigned_tied}
use Rattle.std.specs.declared.cmp.Ordering.TheVariants.{Equal}
use Rattle.std.specs.FinMap.{FinMap, contains_key, entries, entries-from_sorted, entries_sorted, from_sorted, get, get-entries, get-from_sorted, get-insert, get-remove, get-retain_keys}
use Rattle.std.specs.FinMap.{insert, keys, nat_cmp-IsAntisymmetric, remove, retain_keys, same_map}
use Rattle.std.specs.FinMap.Entries.{find-where_key, is_sorted-where_key, where_key}
use Rattle.std.proofs.lemmas.Bool.{cases_lt}
use Rattle.std.proofs.lemmas.Bool.Decides.{nat_tests}
use Rattle.std.proofs.lemmas.Option.{slice_get_past, unwrap_or-slice_get}
use Rattle.cs_base.proofs.ListsLemmas.{filter_through}
use Rattle.cs_rows.specs.Stocked.{present_docs, title_at}
use Rattle.cs_rows.proofs.ListedLemmas.{get_numbered, keys_numbered}
use Rattle.cs_rows.proofs.PresentLemmas.{is_present, is_titled}
use Rattle.cs_live.specs.States.{titles_now}
use Rattle.cs_model.specs.Answers.{is_listed}
use Rattle.cs_model.specs.Corpus.{by_number}

-- ---- numbers
not_first : (n : ℕ) → (suc n == 0) ≡ false
not_first n = grind (arith, nat_tests)

first_not : (n : ℕ) → (0 == suc n) ≡ false
first_not n = grind (arith, nat_tests)

both_later : (m n : ℕ) → (suc m == suc n) ≡ (m == n)
both_later m n = grind (arith, nat_tests)

no_bit : (b : Bool) → false ≡ cond b false false
no_bit true = refl
no_bit false = refl

pub there_set : (ps : List Bool) (d q : ℕ) → get_or (set ps d false) q false ≡ cond (q == d) false (get_or ps q false)
there_set [] d q = no_bit (q == d)
there_set (p ∷ ps) zero zero = refl
there_set (p ∷ ps) zero (suc q) = ap (λ b. cond b false (get_or ps q false)) (sym (not_first q))
there_set (p ∷ ps) (suc d) zero = ap (λ b. cond b false p) (sym (first_not d))
there_set (p ∷ ps) (suc d) (suc q) = there_set ps d q ∙ ap (λ b. cond b false (get_or ps q false)) (sym (both_later q d))

-- ---- titles
alike : (p : ℕ → Bool) (q x : ℕ) → nat_cmp q x ≡ Equal → p x ≡ p q
alike p q x tied = ap p (sym (nat_cmp-IsAntisymmetric q x tied))

keys_retained : {X : Type 0} (m : FinMap nat_cmp X) (p : ℕ → Bool) → keys (retain_keys m p) ≡ filter p (keys m)
keys_retained m p =
    let es = where_key nat_cmp p (entries m) in
    let up = is_sorted-where_key nat_cmp p (entries m) (entries_sorted m) in
    let one : retain_keys m p ≡ from_sorted es = same_map nat_cmp_total nat_cmp-IsAntisymmetric (retain_keys m p) (from_sorted es) (λ q.
    get-retain_keys m p q (alike p q) ∙ ap (λ o. cond (p q) o None) (get-entries m q) ∙ sym (find-where_key nat_cmp p q (alike p q) (entries m))
    ∙ sym (get-from_sorted nat_cmp es q up)) in
    ap keys one ∙ ap (map (λ e. e.0)) (entries-from_sorted nat_cmp es up) ∙ filter_through (λ e. e.0) p (entries m)

pub titled_at : (ps : List Bool) (ts : List (List ℕ)) (q : ℕ) → get (titles_now ps ts) q ≡ cond (get_or ps q false) (slice_get ts q) None
titled_at ps ts q =
    get-retain_keys (by_number ts) (λ d. get_or ps d false) q (alike (λ d. get_or ps d false) q)
    ∙ ap (λ o. cond (get_or ps q false) o None) (get_numbered ts q)

pub titled_docs : (ps : List Bool) (ts : List (List ℕ)) → length ps ≡ length ts → keys (titles_now ps ts) ≡ present_docs ps
titled_docs ps ts same =
    keys_retained (by_number ts) (λ d. get_or ps d false)
    ∙ ap (filter (λ d. get_or ps d false)) (keys_numbered ts ∙ ap (range_with_len 0) (sym same))

pub titled_there : (ps : List Bool) (ts : List (List ℕ)) (d : ℕ) → length ps ≡ length ts → contains_key (titles_now ps ts) d ≡ get_or ps d false
titled_there ps ts d same =
    sym (is_titled (titles_now ps ts) d) ∙ ap (λ ds. is_listed ds d) (titled_docs ps ts same) ∙ is_present ps d

pub titled_all : (ps : List Bool) (ts : List (List ℕ)) → ((d : ℕ) → d < length ts → get_or ps d false ≡ true) → titles_now ps ts ≡ by_number ts
titled_all ps ts all = same_map nat_cmp_total nat_cmp-IsAntisymmetric (titles_now ps ts) (by_number ts) (λ q. titled_at ps ts q ∙ here q ∙ sym (get_numbered ts q))
  where
    none : (b : Bool) → cond b (let o : Option (List ℕ) = None in o) None ≡ None
    none true = refl
    none false = refl

    here : (q : ℕ) → cond (get_or ps q false) (slice_get ts q) None ≡ slice_get ts q
    here q =
        elim (cases_lt q (length ts)) [
          | inl lt ↦ ap (λ b. cond b (slice_get ts q) None) (all q lt)
          | inr le ↦ ap (λ o. cond (get_or ps q false) o None) (slice_get_past ts q le) ∙ none (get_or ps q false) ∙ sym (slice_get_past ts q le)
        ]

one_more : (ps : List Bool) (ts : List (List ℕ)) (t : List ℕ) (q : ℕ) → length ps ≡ length ts
    → cond (get_or (ps ++ true ∷ []) q false) (slice_get (ts ++ t ∷ []) q) None ≡ cond (q == length ps) (Some t) (cond (get_or ps q false) (slice_get ts q) None)
one_more [] [] t zero e = refl
one_more [] [] t (suc q) e = ap (λ b. cond b (Some t) None) (sym (not_first q))
one_more [] (x ∷ ts) t q e = absurd (omega (arith, e))
one_more (p ∷ ps) [] t q e = absurd (omega (arith, e))
one_more (p ∷ ps) (x ∷ ts) t zero e = ap (λ b. cond b (Some t) (cond p (Some x) None)) (sym (first_not (length ps)))
one_more (p ∷ ps) (x ∷ ts) t (suc q) e =
    one_more ps ts t q (omega (arith, e)) ∙ ap (λ b. cond b (Some t) (cond (get_or ps q false) (slice_get ts q) None)) (sym (both_later q (length ps)))

pub titled_more : (ps : List Bool) (ts : List (List ℕ)) (t : List ℕ) → length ps ≡ length ts → titles_now (ps ++ true ∷ []) (ts ++ t ∷ []) ≡ insert (titles_now ps ts) (length ps) t
titled_more ps ts t same =
    same_map nat_cmp_total nat_cmp-IsAntisymmetric (titles_now (ps ++ true ∷ []) (ts ++ t ∷ [])) (insert (titles_now ps ts) (length ps) t) (λ q.
    titled_at (ps ++ true ∷ []) (ts ++ t ∷ []) q ∙ one_more ps ts t q same
    ∙ sym (get-insert nat_cmp_total (titles_now ps ts) (length ps) t q
    ∙ ap₂ (λ b o. cond b (Some t) o) (unsigned_tied q (length ps)) (titled_at ps ts q)))

pub titled_gone : (ps : List Bool) (ts : List (List ℕ)) (d : ℕ) → titles_now (set ps d false) ts ≡ remove (titles_now ps ts) d
titled_gone ps ts d =
    same_map nat_cmp_total nat_cmp-IsAntisymmetric (titles_now (set ps d false) ts) (remove (titles_now ps ts) d) (λ q.
    titled_at (set ps d false) ts q ∙ ap (λ b. cond b (slice_get ts q) None) (there_set ps d q) ∙ split (q == d) (get_or ps q false) (slice_get ts q)
    ∙ sym (get-remove nat_cmp_total (titles_now ps ts) d q
    ∙ ap₂ (λ b o. cond b None o) (unsigned_tied q d) (titled_at ps ts q)))
  where
    split : (a b : Bool) (o : Option (List ℕ)) → cond (cond a false b) o None ≡ cond a None (cond b o None)
    split true b o = refl
    split false b o = refl

-- ---- one title
pub title_there : (ps : List Bool) (ts : List (List ℕ)) (d : ℕ) → get_or ps d false ≡ true → title_at (titles_now ps ts) d ≡ get_or ts d []
title_there ps ts d here =
    ap (λ o. unwrap_or o []) (titled_at ps ts d ∙ ap (λ b. cond b (slice_get ts d) None) here) ∙ unwrap_or-slice_get ts d []

pub title_gone : (ps : List Bool) (ts : List (List ℕ)) (d : ℕ) → get_or ps d false ≡ false → title_at (titles_now ps ts) d ≡ []
title_gone ps ts d away = ap (λ o. unwrap_or o []) (titled_at ps ts d ∙ ap (λ b. cond b (slice_get ts d) None) away)
