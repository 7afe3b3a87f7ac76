use Rattle.std.proofs.Common.{ap, ◌∙◌}
use Rattle.std.specs.List.{list_any}
use Rattle.cs_engine.specs.declared.held.HeldKind.TheVariants as kinds
use Rattle.cs_engine.specs.HeldRanges.{is_range}
use Rattle.cs_engine.proofs.RangeLemmas.{any_placed}
use Rattle.cs_engine.proofs.held.Holder.has_counted.Goals as goal

pub returns : goal.returns
returns c =
    let t = is_range c.args.words.0 c.args.words.1 kinds.Counted in
    c.is_some.ensures ∙ any_placed t c.deref.result.now c.place_of.result c.place_of.ensures.none c.place_of.ensures.some
    ∙ ap (list_any t) (c.deref.ensures.value ∙ c.self.view_is)
