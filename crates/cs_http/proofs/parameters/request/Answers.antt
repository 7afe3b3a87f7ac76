use Rattle.std.specs.Prelude.{codes}
use Rattle.std.specs.Str.{chars}
use Rattle.cs_base.specs.declared.content.limits.TheConstants.{MAX_SHOWN, MAX_OFFSET}
use Rattle.cs_model.specs.FirstRefusal.{first_refusal}
use Rattle.cs_model.specs.Parameters.{parameter, is_count, are_facets, asked_text}
use Rattle.cs_query.specs.declared.request.Param.TheVariants as params
use Rattle.cs_http.specs.Refusing.{IsCause}
use Rattle.cs_http.proofs.RequestLemmas.{handed_on, cause_by, cause_query, refused-h, refused-c, refused-o, refused-f, refused-q, nothing_refused, request_is, holds}
use Rattle.cs_http.proofs.parameters.request.Goals as goal

pub returns-in_err-hits-clause-err : goal.returns-in_err-hits-clause-err
returns-in_err-hits-clause-err c =
    let p = c.args.params.now in
    handed_on c.from_residual.result c.in_err-hits.field-0.0 (IsCause p) c.from_residual.ensures.1
    (cause_by p params.H (is_count MAX_SHOWN (parameter (codes "h") p)) c.in_err-hits.field-0.0 c.in_err-hits.ensures.err (refused-h p))

pub returns-in_err-completions-clause-err : goal.returns-in_err-completions-clause-err
returns-in_err-completions-clause-err c =
    let p = c.args.params.now in
    handed_on c.from_residual-in_err-completions.result c.in_err-completions.field-0.0 (IsCause p) c.from_residual-in_err-completions.ensures.1
    (cause_by p params.C (is_count MAX_SHOWN (parameter (codes "c") p)) c.in_err-completions.field-0.0 c.in_err-completions.ensures.err (refused-c p c.in_ok-hits.ensures.accepted))

pub returns-in_err-offset-clause-err : goal.returns-in_err-offset-clause-err
returns-in_err-offset-clause-err c =
    let p = c.args.params.now in
    handed_on c.from_residual-in_err-offset.result c.in_err-offset.field-0.0 (IsCause p) c.from_residual-in_err-offset.ensures.1
    (cause_by p params.O (is_count MAX_OFFSET (parameter (codes "o") p)) c.in_err-offset.field-0.0 c.in_err-offset.ensures.err
    (refused-o p c.in_ok-hits.ensures.accepted c.in_ok-completions.ensures.accepted))

pub returns-in_err-facets-clause-err : goal.returns-in_err-facets-clause-err
returns-in_err-facets-clause-err c =
    let p = c.args.params.now in
    handed_on c.from_residual-in_err-facets.result c.in_err-facets.field-0.0 (IsCause p) c.from_residual-in_err-facets.ensures.1
    (cause_by p params.F (are_facets (parameter (codes "f") p)) c.in_err-facets.field-0.0 c.in_err-facets.ensures.err
    (refused-f p c.in_ok-hits.ensures.accepted c.in_ok-completions.ensures.accepted c.in_ok-offset.ensures.accepted))

pub returns-in_err-query-clause-err : goal.returns-in_err-query-clause-err
returns-in_err-query-clause-err c =
    let p = c.args.params.now in
    handed_on c.from_residual-in_err-query.result c.in_err-query.field-0.0 (IsCause p) c.from_residual-in_err-query.ensures.1
    (cause_query p (first_refusal (chars (asked_text p))) c.in_err-query.field-0.0 c.in_err-query.ensures.err
    (refused-q p c.in_ok-hits.ensures.accepted c.in_ok-completions.ensures.accepted c.in_ok-offset.ensures.accepted c.in_ok-facets.ensures.accepted))

pub returns-clause-ok : goal.returns-clause-ok
returns-clause-ok c =
    request_is c.args.params.now c.in_ok-query.query c.in_ok-hits.hits c.in_ok-completions.completions c.in_ok-offset.offset c.in_ok-facets.facets
    c.in_ok-query.ensures.ok c.in_ok-hits.ensures.ok c.in_ok-completions.ensures.ok c.in_ok-offset.ensures.ok c.in_ok-facets.ensures.ok

pub returns-clause-accepted : goal.returns-clause-accepted
returns-clause-accepted c =
    nothing_refused c.args.params.now c.in_ok-hits.ensures.accepted c.in_ok-completions.ensures.accepted c.in_ok-offset.ensures.accepted c.in_ok-facets.ensures.accepted
    c.in_ok-query.ensures.accepted

pub returns-clause-limits : goal.returns-clause-limits
returns-clause-limits c =
    holds c.args.params.now c.in_ok-query.query c.in_ok-hits.hits c.in_ok-completions.completions c.in_ok-offset.offset c.in_ok-facets.facets
    c.in_ok-query.ensures.grammar c.in_ok-hits.ensures.accepted c.in_ok-completions.ensures.accepted c.in_ok-offset.ensures.accepted c.in_ok-facets.ensures.accepted
    c.in_ok-hits.ensures.ok c.in_ok-completions.ensures.ok c.in_ok-offset.ensures.ok c.in_ok-facets.ensures.ok
