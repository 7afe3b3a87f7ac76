use Rattle.std.proofs.Common.{◌∙◌, ap, filter, arith}
use Rattle.std.specs.Cmp.Lexicographic.{slice_cmp, nat_list_cmp_total}
use Rattle.std.specs.Ordering.{nat_cmp}
use Rattle.std.specs.Str.{bytes_eq}
use Rattle.std.proofs.lemmas.Iterator.Consumers.{YieldsList-end, YieldsList-at}
use Rattle.std.proofs.lemmas.Iterator.Splits.{YieldsList-from_str_split}
use Rattle.std.proofs.lemmas.Map.Lookups.{exact_bytes}
use Rattle.cs_base.specs.content.Members.{members_in}
use Rattle.cs_base.specs.contracts.content.text.TextOrd.TheImpl.Laws.{matches_eq-law}
use Rattle.cs_base.proofs.MembersLemmas.{sorted_members}
use Rattle.cs_model.specs.Words.{is_filled}
use Rattle.cs_http.proofs.facets.listed.Goals as goal

pub returns : goal.returns
returns c =
    let all = YieldsList-end (YieldsList-at c.into_iter-piece-iterator.ensures.into_iter_gives (YieldsList-from_str_split 44 c.args.value.now (omega arith)
    c.split-piece-items.ensures.text c.split-piece-items.ensures.has_more c.split-piece-items.ensures.pattern)) c.loop-piece.yielded _ c.loop-piece.yielded_by _ _ c.in-None.is c.next.ensures.steps in
    record {
      ok =
          sorted_members nat_list_cmp_total exact_bytes bytes_eq matches_eq-law c.loop-piece.names.items c.sort.new.self.items c.dedup.new.self.items
          c.in_ok-sort.ensures.permutation c.in_ok-sort.ensures.sorted c.dedup.ensures.filtered
          ∙ ap (members_in (slice_cmp nat_cmp)) (c.loop-piece.invariant ∙ ap (filter is_filled) all.0);
    }
