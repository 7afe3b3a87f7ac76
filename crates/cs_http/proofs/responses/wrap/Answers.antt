use Rattle.std.proofs.Common.{◌++◌, ap, ◌∙◌}
use Rattle.cs_http.proofs.WrapLemmas.{wrapped_by}
use Rattle.cs_http.proofs.responses.wrap.Goals as goal

pub returns : goal.returns
returns c = record {
  ok = wrapped_by _ _ _ _ _ _ _ _ c.reason.ensures c.allow.ensures c.closing.ensures c.in_ok-head.ensures.ok (c.in_ok-extend_from_slice.ensures.items ∙ ap (λ v. v.items ++ c.args.body.now) c.into_bytes-response.ensures.value);
}
