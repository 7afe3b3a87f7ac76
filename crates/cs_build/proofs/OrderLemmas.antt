-- Rows that are in order, and rows that are brought into order.
--
--   decided          a further order decides nothing that three decide
--   row_less         a row that comes before another by document, position and word comes before it by all four
--   in_their_order   rows in order are their own listing
--   spot_of          the spot of a row
use Rattle.std.proofs.Common.{◌≡◌, true, true≢false, List, is_lt, refl, sym}
use Rattle.std.specs.List.Sorted.{IsStrictlySortedBy}
use Rattle.std.specs.Ordering.{nat_cmp, ordering_then}
use Rattle.std.specs.Cmp.Lexicographic.{slice_cmp}
use Rattle.std.specs.declared.cmp.Ordering.{Ordering}
use Rattle.std.specs.declared.cmp.Ordering.TheVariants.{Less, Equal, Greater}
use Rattle.cs_base.specs.content.Members.{members_in}
use Rattle.cs_base.specs.content.Orders.{by_row, by_spot}
use Rattle.cs_base.specs.declared.content.doc.Row.{Row}
use Rattle.cs_base.proofs.MembersLemmas.{listed_itself}
use Rattle.cs_base.proofs.OrdersLemmas.{by_row_total, by_row_exact}
use Rattle.cs_build.specs.declared.ordering.Spot.{Spot}

pub decided : (a b o e : Ordering) → is_lt (ordering_then a (ordering_then b o)) ≡ true → ordering_then a (ordering_then b (ordering_then o e)) ≡ Less
decided Less b o e h = refl
decided Greater b o e h = absurd (true≢false (sym h))
decided Equal Less o e h = refl
decided Equal Greater o e h = absurd (true≢false (sym h))
decided Equal Equal Less e h = refl
decided Equal Equal Greater e h = absurd (true≢false (sym h))
decided Equal Equal Equal e h = absurd (true≢false (sym h))

pub row_less : (r s : Row) → is_lt (by_spot r s) ≡ true → by_row r s ≡ Less
row_less r s h = decided (nat_cmp r.doc s.doc) (nat_cmp r.pos s.pos) (slice_cmp nat_cmp r.word s.word) (nat_cmp r.score s.score) h

pub in_their_order : (rows : List Row) → IsStrictlySortedBy by_row rows → rows ≡ members_in by_row rows
in_their_order rows up = listed_itself by_row by_row_total by_row_exact rows up

abbrev pub spot_of : Row → Spot
spot_of r = record { doc = r.doc; pos = r.pos; word = r.word; score = r.score }
