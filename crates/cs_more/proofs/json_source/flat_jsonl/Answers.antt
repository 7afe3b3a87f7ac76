use Rattle.std.proofs.Common.{◌<◌, ◌+◌, ◌∙◌, ap, arith, length, rules, sym}
use Rattle.std.specs.Result.{IsErrOf}
use Rattle.std.specs.Str.Lines.{lines}
use Rattle.cs_base.specs.declared.content.limits.TheConstants.{MAX_COLLECTION_BYTES}
use Rattle.cs_more.specs.declared.fault.FlatFault.TheVariants.{TooLarge}
use Rattle.cs_model_sources.specs.JsonSources.{in_front, flat_of_jsonl, line_read, lines_flat}
use Rattle.cs_model_sources.specs.Translated.{usual_weights_line}
use Rattle.cs_more.proofs.JsonFields.{too_long, unmarked}
use Rattle.cs_more.proofs.json_source.flat_jsonl.Goals as goal

pub loop-rest-init : goal.loop-rest-init
loop-rest-init c =
    let rest = c.without_mark-rest.result.now in
    record {
      whole = sym (ap (λ t. in_front t (lines_flat 1 (lines rest))) c.in_ok-tsv.ensures.ok ∙ ap (λ r. in_front usual_weights_line (lines_flat 1 (lines r))) c.without_mark-rest.ensures);
      within = omega (arith, ap length c.without_mark-rest.ensures, unmarked c.args.source.now, c.if-source-gt-MAX_COLLECTION_BYTES.false);
      few = c.in_ok-tsv.ensures.few;
    }

pub returns-in_err-why-clause-too_large : goal.returns-in_err-why-clause-too_large
returns-in_err-why-clause-too_large c =
    let n = c.loop-rest.line + 1 in
    let tsv = c.loop-rest.tsv.items in
    let whole = c.loop-rest.invariant.whole ∙ ap (λ ls. in_front tsv (lines_flat n ls)) c.first_line.ensures.lines in
    let large : IsErrOf c.push_line.result TooLarge → MAX_COLLECTION_BYTES < length (flat_of_jsonl c.args.source.now).tsv =
    λ e. too_long (line_read c.first_line.result.0.now) (flat_of_jsonl c.args.source.now) (lines_flat (n + 1) (lines c.first_line.result.1.now)) tsv n (c.push_line.ensures.too_large e) whole in
    search rules
