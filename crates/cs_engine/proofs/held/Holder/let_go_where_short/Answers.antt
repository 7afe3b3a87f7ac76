use Rattle.std.proofs.Common.{sym, subst}
use Rattle.std.specs.List.{Contains}
use Rattle.std.proofs.lemmas.List.Elements.{All-contains_itself}
use Rattle.cs_engine.specs.HeldRanges.{OnlyGoes}
use Rattle.cs_engine.proofs.RangeLemmas.{held_if}
use Rattle.cs_engine.proofs.held.Holder.let_go_where_short.Goals as goal

pub returns : goal.returns
returns c =
    let old = c.args.self.now in
    subst (OnlyGoes old) (sym c.self.view_is) (held_if (Contains old) c.is_err-is_short.result _ c.give_back.ensures.left (All-contains_itself old))
