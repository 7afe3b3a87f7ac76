use Rattle.cs_model_index.specs.FileRules.{tried}
use Rattle.cs_file.specs.HeaderView.{seen_header}
use Rattle.cs_file.specs.Opening.{bounds_judged}
use Rattle.cs_file.proofs.BlockParts.{bounds_named, none_named}
use Rattle.cs_file.proofs.StagesLemmas.{judges_by}
use Rattle.cs_file.proofs.opening.judge_bounds.Goals as goal

pub returns-then-header-clause-exact : goal.returns-then-header-clause-exact
returns-then-header-clause-exact c =
    let h = seen_header c.args.header.now in
    judges_by (bounds_judged h c.args.named.now c.args.parts.now) (tried 19 c.bad_bound.result) c.tried.result
    (bounds_named h c.args.named.now c.args.parts.now c.entries.result c.bad_bound.result c.if-header.true c.entries.ensures.value c.bad_bound.ensures)
    c.tried.ensures.judged

pub returns-clause-exact : goal.returns-clause-exact
returns-clause-exact c = none_named (seen_header c.args.header.now) c.args.named.now c.args.parts.now c.if-header.false
