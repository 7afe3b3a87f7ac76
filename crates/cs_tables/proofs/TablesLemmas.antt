-- The table of rows is the listing of their counted words in the order of hits.
--
--   table-is        the table, by the counted words
--   table_total     how many words it has
use Rattle.std.proofs.Common.{◌≡◌, ℕ, ◌+◌, false, ◌||◌, cond, List, [], ◌∷◌, map, length, refl, sym, ◌∙◌, ap, arith}
use Rattle.std.specs.List.{AllByRecursion, list_any}
use Rattle.std.specs.List.Sorted.{IsStrictlySortedBy}
use Rattle.std.specs.Ordering.{nat_cmp, eq_by_cmp, is_eq, ordering_then}
use Rattle.std.specs.declared.cmp.Ordering.{Ordering}
use Rattle.std.specs.declared.cmp.Ordering.TheVariants.{Less, Equal, Greater}
use Rattle.std.specs.FinMap.{FinMap, IsAntisymmetric, len, entries, insert, from_entries, contains_key, len-insert, len-entries, contains_key-keys, nat_cmp-IsAntisymmetric}
use Rattle.std.specs.Cmp.{IsTotalOrder, nat_cmp_total}
use Rattle.std.proofs.lemmas.Cmp.{then_total, on_total, back_total}
use Rattle.std.proofs.lemmas.List.{length-map}
use Rattle.cs_base.specs.content.Members.{marked, members_in}
use Rattle.cs_base.specs.content.Orders.{by_rank}
use Rattle.cs_base.specs.declared.content.doc.Post.{Post}
use Rattle.cs_base.specs.declared.content.doc.Scored.{Scored}
use Rattle.cs_base.proofs.MembersLemmas.{members_are, is_member-listed, listing-rises, none_listed, any_listed}
use Rattle.cs_base.proofs.ListsLemmas.{any_through}
use Rattle.cs_base.proofs.OrdersLemmas.{by_rank_total, by_rank_exact}
use Rattle.cs_tables.specs.declared.tables.Completion.{Completion}
use Rattle.cs_tables.specs.TableListings.{by_docs, post_table, completion, post_completion}
use Rattle.cs_tables.specs.Marks.{counted_word, post_words}

abbrev scored_of : Completion → Scored
scored_of c = record { doc = c.word; score = c.docs }

pub by_docs_total : IsTotalOrder by_docs
by_docs_total = then_total (on_total (λ c. c.docs) (back_total nat_cmp_total)) (on_total (λ c. c.word) nat_cmp_total)

pub by_docs_exact : IsAntisymmetric by_docs
by_docs_exact a b h = ap completion (by_rank_exact (scored_of a) (scored_of b) h)

abbrev counted : List Post → List Scored
counted rows = map (counted_word rows) (post_words rows)

-- entries that are in order stay so as completions
below_as : (h : Scored) (hs : List Scored) → AllByRecursion (λ y. by_rank h y ≡ Less) hs → AllByRecursion (λ y. by_docs (completion h) y ≡ Less) (map completion hs)
below_as h [] up = tt
below_as h (x ∷ hs) up = (up.0, below_as h hs up.1)

rise_as : (hs : List Scored) → IsStrictlySortedBy by_rank hs → IsStrictlySortedBy by_docs (map completion hs)
unfolding IsStrictlySortedBy
rise_as [] up = tt
rise_as (h ∷ hs) up = (below_as h hs up.0, rise_as hs up.1)

any_as : (q : Completion) (hs : List Scored) → list_any (eq_by_cmp by_docs q) (map completion hs) ≡ list_any (eq_by_cmp by_rank (scored_of q)) hs
any_as q [] = refl
any_as q (h ∷ hs) = ap (λ b. eq_by_cmp by_rank (scored_of q) h || b) (any_as q hs)

any_rows : (all : List Post) (q : Completion) (rows : List Post) → list_any (λ x. eq_by_cmp by_rank (scored_of q) (counted_word all x)) (map (λ p. p.word) rows) ≡ list_any (eq_by_cmp by_docs q) (map (λ p. post_completion all p.word) rows)
any_rows all q [] = refl
any_rows all q (p ∷ rows) = ap (λ b. eq_by_cmp by_docs q (post_completion all p.word) || b) (any_rows all q rows)

pub table-is : (rows : List Post) → map completion (members_in by_rank (counted rows)) ≡ post_table rows
table-is rows =
    members_are by_docs by_docs_total by_docs_exact (map completion (members_in by_rank (counted rows))) (map (λ p. post_completion rows p.word) rows)
    (rise_as _ (listing-rises by_rank (counted rows)))
    (λ q. any_as q (members_in by_rank (counted rows))
    ∙ is_member-listed by_rank by_rank_total (counted rows) (scored_of q)
    ∙ any_through (counted_word rows) (eq_by_cmp by_rank (scored_of q)) (post_words rows)
    ∙ any_listed nat_cmp nat_cmp_total nat_cmp-IsAntisymmetric (λ x. eq_by_cmp by_rank (scored_of q) (counted_word rows x)) (map (λ p. p.word) rows)
    ∙ any_rows rows q rows)

never : (o : Ordering) → is_eq (ordering_then o Less) ≡ false
never Less = refl
never Equal = refl
never Greater = refl

-- a counted word isn't among those behind it
not_among : (rows : List Post) (w : ℕ) (ws : List ℕ) → AllByRecursion (λ y. nat_cmp w y ≡ Less) ws → list_any (eq_by_cmp by_rank (counted_word rows w)) (map (counted_word rows) ws) ≡ false
not_among rows w [] up = refl
not_among rows w (y ∷ ws) up =
    let o = nat_cmp (counted_word rows y).score (counted_word rows w).score in
    let apart : eq_by_cmp by_rank (counted_word rows w) (counted_word rows y) ≡ false = ap (λ r. is_eq (ordering_then o r)) up.0 ∙ never o in
    ap (λ b. b || list_any (eq_by_cmp by_rank (counted_word rows w)) (map (counted_word rows) ws)) apart ∙ not_among rows w ws up.1

ranked_long : (rows : List Post) (ws : List ℕ) → IsStrictlySortedBy nat_cmp ws → length (members_in by_rank (map (counted_word rows) ws)) ≡ length ws
unfolding IsStrictlySortedBy
ranked_long rows [] up = ap length (sym (none_listed by_rank by_rank_total by_rank_exact))
ranked_long rows (w ∷ ws) up =
    let m : FinMap by_rank (Unit {0}) = from_entries (map marked (map (counted_word rows) ws)) in
    let s = counted_word rows w in
    let new : contains_key m s ≡ false = contains_key-keys m s ∙ is_member-listed by_rank by_rank_total (map (counted_word rows) ws) s ∙ not_among rows w ws up.0 in
    let short : len m ≡ length ws = len-entries m ∙ sym (length-map (entries m) (λ (e : Scored × Unit {0}). e.0)) ∙ ranked_long rows ws up.1 in
    length-map (entries (insert m s tt)) (λ (e : Scored × Unit {0}). e.0) ∙ sym (len-entries (insert m s tt)) ∙ len-insert by_rank_total m s tt
    ∙ ap (λ b. cond b (len m) (len m + 1)) new ∙ (let long : len m + 1 ≡ length (w ∷ ws) = omega arith in long)

pub table_total : (rows : List Post) → length (counted rows) ≡ length (post_table rows)
table_total rows =
    length-map (post_words rows) (counted_word rows) ∙ sym (ranked_long rows (post_words rows) (listing-rises nat_cmp (map (λ p. p.word) rows)))
    ∙ sym (length-map (members_in by_rank (counted rows)) completion) ∙ ap length (table-is rows)
