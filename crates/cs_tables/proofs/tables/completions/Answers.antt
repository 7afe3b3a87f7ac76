use Rattle.std.proofs.Common.{◌∙◌, ap, sym, length, take, map}
use Rattle.std.specs.List.{take-map}
use Rattle.cs_base.specs.content.Members.{members_in}
use Rattle.cs_base.specs.content.Orders.{by_rank}
use Rattle.cs_tables.specs.TableListings.{completion}
use Rattle.cs_tables.proofs.TablesLemmas.{table-is, table_total}
use Rattle.cs_tables.proofs.tables.completions.Goals as goal

pub returns-clause-total : goal.returns-clause-total
returns-clause-total c =
    c.len.ensures ∙ c.in_ok-counted.counted.ok.0 ∙ ap length c.in_ok-counted.ensures.ok ∙ table_total c.args.rows.now.posts

pub returns-clause-first : goal.returns-clause-first
returns-clause-first c =
    c.from_vec.ensures ∙ c.in_ok-first.ensures
    ∙ ap (map completion) (c.as_slice-2.ensures ∙ c.in_ok-best.ensures.ok
    ∙ ap (λ xs. take c.args.cut (members_in by_rank xs)) (c.as_slice.ensures.value ∙ c.in_ok-counted.ensures.ok))
    ∙ sym (take-map completion c.args.cut _) ∙ ap (take c.args.cut) (table-is c.args.rows.now.posts)
