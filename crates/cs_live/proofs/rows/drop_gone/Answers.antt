use Rattle.std.proofs.Common.{rules, sym}
use Rattle.std.proofs.lemmas.Fn.{filter_same}
use Rattle.std.proofs.lemmas.List.Elements.{recursion_from_All}
use Rattle.cs_rows.specs.Sources.{is_there}
use Rattle.cs_rows.proofs.FoundLemmas.{stays}
use Rattle.cs_live.proofs.rows.drop_gone.Goals as goal

pub returns-then-whole : goal.returns-then-whole
returns-then-whole c =
    let there = is_there c.args.present.now in
    sym (stays there c.args.posts.now.items (recursion_from_All _ c.args.posts.now.items (c.requires c.if-whole.true)))

pub returns : goal.returns
returns c = filter_same _ _ _ (λ x b f' k. search rules) _ _ c.retain.ensures.filtered
