-- Documents put down one by one, each in the place of the one before where the two are the same, are those that dropping repeats leaves.
use Rattle.std.proofs.Common.{◌≡◌, ℕ, ◌+◌, ◌<◌, ◌≤◌, List, [], ◌∷◌, ◌++◌, length, drop, take, get_or, sym, ◌∙◌, ap, arith}
use Rattle.std.specs.Prelude.{nat_eq}
use Rattle.std.specs.Ordering.{nat_cmp}
use Rattle.std.specs.List.{dedup, dedup_from}
use Rattle.std.specs.List.Sorted.{IsSorted}
use Rattle.std.proofs.lemmas.List.{drop_all, take_more}
use Rattle.std.proofs.lemmas.List.Kept.{IsStrictlySortedBy-dedup}
use Rattle.std.proofs.lemmas.Cmp.{nat_cmp_total}
use Rattle.std.proofs.lemmas.Map.Lookups.{exact_unsigned}
use Rattle.cs_base.specs.content.Members.{members_in}
use Rattle.cs_base.proofs.MembersLemmas.{members_are, any_dedup}
use Rattle.cs_meet.proofs.Ascent.{nat_ties}

-- the last one ends them
pub unlike_all : (all docs now : List ℕ) (current last i : ℕ) → dedup nat_eq all ≡ take last docs ++ dedup_from nat_eq current (drop i all) → length all ≤ i → last < length docs → get_or docs last 0 ≡ current → now ≡ take (last + 1) docs → now ≡ dedup nat_eq all
unlike_all all docs now current last i whole past within here is =
    is ∙ take_more docs last 0 within ∙ ap (λ x. take last docs ++ x ∷ []) here ∙ ap (λ l. take last docs ++ dedup_from nat_eq current l) (sym (drop_all i all past)) ∙ sym whole

-- and of documents that don't fall these are the listing
pub unlike_listed : (all now : List ℕ) → IsSorted nat_cmp all → now ≡ dedup nat_eq all → now ≡ members_in nat_cmp all
unlike_listed all now up is =
    is ∙ members_are nat_cmp nat_cmp_total exact_unsigned (dedup nat_eq all) all (IsStrictlySortedBy-dedup nat_cmp_total nat_ties all up) (λ q. any_dedup nat_cmp_total exact_unsigned nat_eq nat_ties q all)

-- of no rows there is none
pub unlike_none : (all now : List ℕ) → length all ≡ 0 → now ≡ all → now ≡ dedup nat_eq all
unlike_none [] now none is = is
unlike_none (d ∷ all) now none is = absurd (omega arith)
