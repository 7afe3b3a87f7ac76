use Rattle.std.proofs.Common.{◌∙◌, ap, sym, refl, rules, subst, Some, None}
use Rattle.std.specs.Option.{option_map}
use Rattle.std.specs.Result.{IsErrOf}
use Rattle.serde_json.specs.View.{view}
use Rattle.cs_more.specs.declared.fault.FlatFault.TheVariants.{TooLarge}
use Rattle.cs_model_sources.specs.declared.flat.Why.TheVariants.{Json}
use Rattle.cs_more.specs.LineGiven.{Adds, OverflowsBy}
use Rattle.cs_more.proofs.JsonFields.{read_empty, read_filled}
use Rattle.cs_more.proofs.json_line.push_line.Goals as goal

pub returns-in_err-push_blank-clause-too_large : goal.returns-in_err-push_blank-clause-too_large
returns-in_err-push_blank-clause-too_large c =
    let read = read_empty c.args.line.now c.is_empty.result c.is_empty.ensures c.if-is_empty.true in
    let large = subst (λ r. IsErrOf c.push_blank.result TooLarge → OverflowsBy r c.args.tsv.now.items) (sym read) c.push_blank.ensures.too_large in
    search rules

pub returns-then-is_empty-clause-ok : goal.returns-then-is_empty-clause-ok
returns-then-is_empty-clause-ok c =
    let read = read_empty c.args.line.now c.is_empty.result c.is_empty.ensures c.if-is_empty.true in
    subst (λ r. Adds r c.args.tsv.now.items c.push_blank.new.tsv.items None) (sym read) (refl, c.in_ok-push_blank.ensures.ok)

pub returns-in_default-clause-ok : goal.returns-in_default-clause-ok
returns-in_default-clause-ok c =
    let read = read_filled c.args.line.now c.is_empty.result None c.is_empty.ensures c.if-is_empty.false (ap (option_map view) (sym c.in_default.is) ∙ c.in_ok-value.ensures.ok) in
    subst (λ r. Adds r c.args.tsv.now.items c.args.tsv.now.items (Some Json)) (sym read) (refl, refl)

pub returns-in_err-bad-clause-too_large : goal.returns-in_err-bad-clause-too_large
returns-in_err-bad-clause-too_large c =
    let read = read_filled c.args.line.now c.is_empty.result (Some (view c.in-Some.value)) c.is_empty.ensures c.if-is_empty.false (ap (option_map view) (sym c.in-Some.is) ∙ c.in_ok-value.ensures.ok) in
    let large = subst (λ r. IsErrOf c.push_value.result TooLarge → OverflowsBy r c.args.tsv.now.items) (sym read) c.push_value.ensures.too_large in
    search rules

pub returns-clause-ok : goal.returns-clause-ok
returns-clause-ok c =
    let read = read_filled c.args.line.now c.is_empty.result (Some (view c.in-Some.value)) c.is_empty.ensures c.if-is_empty.false (ap (option_map view) (sym c.in-Some.is) ∙ c.in_ok-value.ensures.ok) in
    subst (λ r. Adds r c.args.tsv.now.items c.push_value.new.tsv.items c.in_ok-bad.bad) (sym read) c.in_ok-bad.ensures.ok
