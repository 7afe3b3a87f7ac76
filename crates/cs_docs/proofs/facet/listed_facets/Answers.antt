use Rattle.std.proofs.Common.{◌≡◌, ◌≤◌, ℕ, List, [], ◌∷◌, length, sym, ap, subst, ◌∙◌, arith}
use Rattle.std.specs.List.{All}
use Rattle.std.specs.List.Sorted.{IsStrictlySortedBy}
use Rattle.std.specs.Ordering.{nat_cmp}
use Rattle.std.specs.Cmp.Lexicographic.{slice_cmp}
use Rattle.std.specs.Str.{IsUtf8, bytes_eq}
use Rattle.std.proofs.lemmas.Cmp.{nat_list_cmp_total}
use Rattle.std.proofs.lemmas.Map.Lookups.{exact_bytes}
use Rattle.cs_base.specs.content.Members.{members_in}
use Rattle.cs_base.specs.contracts.content.word.WordOrd.TheImpl.Laws.{matches_eq-law}
use Rattle.cs_base.proofs.MembersLemmas.{listed_itself, sorted_members}
use Rattle.cs_docs.proofs.TextLemmas.{All-members}
use Rattle.cs_docs.proofs.facet.listed_facets.Goals as goal

at_most_one : (ws : List (List ℕ)) → length ws ≤ 1 → IsStrictlySortedBy (slice_cmp nat_cmp) ws
unfolding IsStrictlySortedBy
at_most_one [] h = tt
at_most_one (w ∷ []) h = (tt, tt)
at_most_one (v ∷ (w ∷ ws)) h = absurd (omega arith)

pub returns-then-len-le1-clause-ok : goal.returns-then-len-le1-clause-ok
returns-then-len-le1-clause-ok c =
    let ws = c.in_ok-found.found.items in
    listed_itself (slice_cmp nat_cmp) nat_list_cmp_total exact_bytes ws (at_most_one ws (omega (arith, c.if-len-le1.true, c.in_ok-found.found.ok)))
    ∙ ap (members_in (slice_cmp nat_cmp)) c.in_ok-found.ensures.ok

pub returns-clause-ok : goal.returns-clause-ok
returns-clause-ok c =
    sorted_members nat_list_cmp_total exact_bytes bytes_eq matches_eq-law c.in_ok-found.found.items c.sort.new.self.items c.dedup.new.self.items
    c.in_ok-sort.ensures.permutation c.in_ok-sort.ensures.sorted c.dedup.ensures.filtered
    ∙ ap (members_in (slice_cmp nat_cmp)) c.in_ok-found.ensures.ok

pub returns-clause-utf8 : goal.returns-clause-utf8
returns-clause-utf8 c =
    let ws = c.in_ok-found.found.items in
    let listed : c.dedup.new.self.items ≡ members_in (slice_cmp nat_cmp) ws =
    sorted_members nat_list_cmp_total exact_bytes bytes_eq matches_eq-law ws c.sort.new.self.items c.dedup.new.self.items
    c.in_ok-sort.ensures.permutation c.in_ok-sort.ensures.sorted c.dedup.ensures.filtered in
    subst (All IsUtf8) (sym listed) (All-members (slice_cmp nat_cmp) nat_list_cmp_total exact_bytes IsUtf8 ws c.in_ok-found.ensures.utf8)
