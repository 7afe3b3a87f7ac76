use Rattle.std.proofs.Common.{◌≡◌, false, ◌||◌, ◌==◌, Result, Ok, Err, sym, ap, subst, ◌∙◌}
use Rattle.std.specs.Prelude.{IfErr}
use Rattle.std.specs.Result.{IsErrAnd}
use Rattle.cs_http.specs.Judging.{IsHeadCause, IsSearch}
use Rattle.cs_http.specs.declared.heads.HeadFault.{HeadFault}
use Rattle.cs_http.specs.declared.heads.HeadFault.TheVariants as faults
use Rattle.cs_model_serving.specs.Heads.{Judgement, has_body, closes, announces, is_closing, path_of, params_of}
use Rattle.cs_http.proofs.HeadLemmas.{judged_none, judged_body, judged_path, judged_method, judged_asks, any_at, same_text, other_text}
use Rattle.cs_http.proofs.heads.head.Goals as goal

pub returns-in_default-clause-err : goal.returns-in_default-clause-err
returns-in_default-clause-err c = judged_none _ c.in_default.ensures.none

pub returns-then-announces_body-clause-err : goal.returns-then-announces_body-clause-err
returns-then-announces_body-clause-err c =
    let found = c.in-Some.ensures.some in
    judged_body _ found.0 found.1 (sym (any_at announces _ _ _ found.0 found.2.fields) ∙ sym c.announces_body.ensures ∙ c.if-announces_body.true)

pub returns-then-ne-clause-err : goal.returns-then-ne-clause-err
returns-then-ne-clause-err c =
    let found = c.in-Some.ensures.some in
    let body : has_body found.0 ≡ false = sym (any_at announces _ _ _ found.0 found.2.fields) ∙ sym c.announces_body.ensures ∙ c.if-announces_body.false in
    let close : c.closes-close.result ≡ closes found.0 =
    c.closes-close.ensures ∙ (λ i. (found.2.version i == 0) || any_at is_closing _ _ _ found.0 found.2.fields i) in
    let path : c.split_target.result.0.now ≡ path_of found.0.target = c.split_target.ensures.path ∙ ap path_of (c.of.ensures ∙ found.2.path) in
    judged_path _ found.0 _ found.1 body (other_text _ _ _ _ c.ne.result c.ne.ensures c.if-ne.true path c.as_slice.ensures) close

pub returns-then-ne-2-clause-err : goal.returns-then-ne-2-clause-err
returns-then-ne-2-clause-err c =
    let found = c.in-Some.ensures.some in
    let body : has_body found.0 ≡ false = sym (any_at announces _ _ _ found.0 found.2.fields) ∙ sym c.announces_body.ensures ∙ c.if-announces_body.false in
    let close : c.closes-close.result ≡ closes found.0 =
    c.closes-close.ensures ∙ (λ i. (found.2.version i == 0) || any_at is_closing _ _ _ found.0 found.2.fields i) in
    let path : c.split_target.result.0.now ≡ path_of found.0.target = c.split_target.ensures.path ∙ ap path_of (c.of.ensures ∙ found.2.path) in
    judged_method _ found.0 _ found.1 body (same_text _ _ _ _ c.ne.result c.ne.ensures c.if-ne.false path c.as_slice.ensures)
    (other_text _ _ _ _ c.ne-2.result c.ne-2.ensures c.if-ne-2.true (c.of-2.ensures ∙ found.2.method) c.as_slice-2.ensures) close

-- memory ran out for the parameters of a search
no_memory : {T : Type 0} (j : Judgement) (r : Result T HeadFault) → IsSearch j → IsErrAnd r (λ e. e ≡ faults.Memory) → IfErr r (IsHeadCause j)
no_memory j (Ok x) h is = tt
no_memory j (Err e) h is = subst (IsHeadCause j) (sym is) h

pub returns-in_err-params-clause-err : goal.returns-in_err-params-clause-err
returns-in_err-params-clause-err c =
    let found = c.in-Some.ensures.some in
    let body : has_body found.0 ≡ false = sym (any_at announces _ _ _ found.0 found.2.fields) ∙ sym c.announces_body.ensures ∙ c.if-announces_body.false in
    let close : c.closes-close.result ≡ closes found.0 =
    c.closes-close.ensures ∙ (λ i. (found.2.version i == 0) || any_at is_closing _ _ _ found.0 found.2.fields i) in
    let target = c.of.ensures ∙ found.2.path in
    let path : c.split_target.result.0.now ≡ path_of found.0.target = c.split_target.ensures.path ∙ ap path_of target in
    no_memory _ c.from_residual.result (
      c.split_target.result.1.now,
      c.closes-close.result,
      judged_asks _ found.0 _ _ found.1 body (same_text _ _ _ _ c.ne.result c.ne.ensures c.if-ne.false path c.as_slice.ensures)
          (same_text _ _ _ _ c.ne-2.result c.ne-2.ensures c.if-ne-2.false (c.of-2.ensures ∙ found.2.method) c.as_slice-2.ensures) close
          (c.split_target.ensures.params ∙ ap params_of target),
    ) c.from_residual.ensures.1

pub returns-clause-ok : goal.returns-clause-ok
returns-clause-ok c =
    let found = c.in-Some.ensures.some in
    let body : has_body found.0 ≡ false = sym (any_at announces _ _ _ found.0 found.2.fields) ∙ sym c.announces_body.ensures ∙ c.if-announces_body.false in
    let close : c.closes-close.result ≡ closes found.0 =
    c.closes-close.ensures ∙ (λ i. (found.2.version i == 0) || any_at is_closing _ _ _ found.0 found.2.fields i) in
    let target = c.of.ensures ∙ found.2.path in
    let path : c.split_target.result.0.now ≡ path_of found.0.target = c.split_target.ensures.path ∙ ap path_of target in
    judged_asks _ found.0 _ _ found.1 body (same_text _ _ _ _ c.ne.result c.ne.ensures c.if-ne.false path c.as_slice.ensures)
    (same_text _ _ _ _ c.ne-2.result c.ne-2.ensures c.if-ne-2.false (c.of-2.ensures ∙ found.2.method) c.as_slice-2.ensures) close
    (c.from_vec.ensures ∙ c.in_ok-params.ensures.items ∙ c.split_target.ensures.params ∙ ap params_of target)
