use Rattle.std.proofs.Common.{rules, sym}
use Rattle.std.proofs.lemmas.Fn.{filter_same}
use Rattle.cs_live.proofs.RemovedLemmas.{later_posts}
use Rattle.cs_live.proofs.state.forget.Goals as goal

pub returns-then-doc-first : goal.returns-then-doc-first
returns-then-doc-first c = sym (later_posts c.args.first c.args.doc c.args.by_word.now.items c.if-doc-first.true c.requires)

pub returns : goal.returns
returns c = filter_same _ _ _ (λ x b f' k. search rules) _ _ c.retain.ensures.filtered
