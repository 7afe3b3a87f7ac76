use Rattle.std.proofs.Common.{◌≡◌, ◌+◌, ◌≤◌, ◌<◌, ◌∙◌, ap, sym, subst, length, take, map, drop, arith}
use Rattle.std.specs.List.{take-map}
use Rattle.std.specs.Prelude.{All}
use Rattle.cs_base.specs.content.Members.{members_in}
use Rattle.cs_base.specs.content.Orders.{by_rank}
use Rattle.cs_tables.specs.declared.tables.Completion.{Completion}
use Rattle.cs_tables.specs.TableListings.{completion}
use Rattle.cs_tables.specs.Marks.{collected}
use Rattle.cs_tables.specs.WordCounts.{WordCountsView}
use Rattle.cs_tables.proofs.TablesLemmas.{table-is, table_total}
use Rattle.cs_tables.proofs.WordCountsLemmas.{first_below, words_counted}
use Rattle.cs_tables.proofs.word_counts.WordCounts.table.Goals as goal

pub returns-clause-total : goal.returns-clause-total
returns-clause-total c = λ rows few h.
    let sized = subst (λ (t : WordCountsView). t.low + length t.marks ≡ t.high) c.self.view_is c.self.invariant.0 in
    let same = ap (collected c.self.inside.low) c.as_slice.ensures.value ∙ ap (λ (t : WordCountsView). collected t.low t.marks) c.self.view_is in
    c.len.ensures ∙ c.in_ok-counted.counted.ok.0 ∙ ap length (c.in_ok-counted.ensures.ok ∙ same ∙ words_counted c.args.self.now rows sized few h) ∙ table_total rows

pub returns-clause-first : goal.returns-clause-first
returns-clause-first c = λ rows few h.
    let sized = subst (λ (t : WordCountsView). t.low + length t.marks ≡ t.high) c.self.view_is c.self.invariant.0 in
    let same = ap (collected c.self.inside.low) c.as_slice.ensures.value ∙ ap (λ (t : WordCountsView). collected t.low t.marks) c.self.view_is in
    c.from_vec.ensures ∙ c.in_ok-first.ensures
    ∙ ap (map completion) (c.as_slice-3.ensures ∙ c.in_ok-best.ensures.ok
    ∙ ap (λ xs. take c.args.cut (members_in by_rank xs)) (c.as_slice-2.ensures.value ∙ c.in_ok-counted.ensures.ok ∙ same ∙ words_counted c.args.self.now rows sized few h))
    ∙ sym (take-map completion c.args.cut _) ∙ ap (take c.args.cut) (table-is rows)

pub returns-clause-known : goal.returns-clause-known
returns-clause-known c =
    let sized = subst (λ (t : WordCountsView). t.low + length t.marks ≡ t.high) c.self.view_is c.self.invariant.0 in
    let t = c.args.self.now in
    let le : t.low + length t.marks ≤ t.high = omega (arith, sized) in
    let same = ap (collected c.self.inside.low) c.as_slice.ensures.value ∙ ap (λ (t : WordCountsView). collected t.low t.marks) c.self.view_is in
    let first = c.from_vec.ensures ∙ c.in_ok-first.ensures ∙ ap (map completion) (c.as_slice-3.ensures ∙ c.in_ok-best.ensures.ok ∙ ap (λ xs. take c.args.cut (drop 0 (members_in by_rank xs))) (c.as_slice-2.ensures.value ∙ c.in_ok-counted.ensures.ok ∙ same)) in
    subst (All (λ (w : Completion). w.word < t.high)) (sym first) (first_below t.high t.low c.args.cut t.marks le)
