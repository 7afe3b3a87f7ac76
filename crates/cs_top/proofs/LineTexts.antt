-- What the readers of a line say of it, in the words that define its answer.
use Rattle.std.proofs.Common.{◌≡◌, ◌≢◌, ◌<◌, ◌≤◌, ℕ, true, false, List, length, nat_le, inl, inr, refl, sym, ◌∙◌, ap, arith}
use Rattle.std.specs.Prelude.{Some, None}
use Rattle.std.specs.Str.{is_utf8, IsUtf8}
use Rattle.std.proofs.lemmas.Bool.{false_from_ne_true}
use Rattle.std.proofs.lemmas.Bool.Decides.{nat_tests}
use Rattle.std.proofs.lemmas.Str.{IsUtf8-from_is_utf8, is_utf8-from_IsUtf8}
use Rattle.cs_base.specs.declared.content.limits.TheConstants.{MAX_SCRIPT_LINE_BYTES}
use Rattle.cs_http.specs.Refusing.{IsCause}
use Rattle.cs_json.specs.FaultTexts.{fault_text}
use Rattle.cs_json.specs.declared.fault.Fault.TheVariants as faults
use Rattle.cs_model.specs.Corpus.{Corpus}
use Rattle.cs_model.specs.Faults.{bad_text, limit_text, param_text}
use Rattle.cs_model.specs.Outputs.{script_line_too_long, script_line_not_utf8, line_fault, text, text_by}
use Rattle.cs_model.specs.Parameters.{bad_param, bad_query, request_of, request_refusal}
use Rattle.cs_model.specs.Refusals.{Bad, Limit}
use Rattle.cs_query.specs.ParamNames.{param_name}
use Rattle.cs_model.specs.Replies.{reply_text}
use Rattle.cs_model.specs.Requests.{Request, reply_of}
use Rattle.cs_indexing.specs.declared.words.HitForm.{HitForm}
use Rattle.cs_top.specs.PutTexts.{IsOwnText}
use Rattle.cs_query.specs.declared.request.ReqFault.{ReqFault}
use Rattle.cs_query.specs.declared.request.ReqFault.TheVariants as causes

-- the text of a refused line
pub refused_text : (k : Corpus) (p : List ℕ) (e : ReqFault) → IsCause p e → e ≢ causes.Memory → text k p ≡ fault_text (faults.Refused e)
unfolding text fault_text bad_text limit_text param_text
refused_text k p (causes.BadParam which) h other = ap (text_by k p) h
refused_text k p (causes.Bad at) h other = ap (text_by k p) h
refused_text k p (causes.Limit at which) h other = ap (text_by k p) h
refused_text k p causes.Memory h other = absurd (other refl)

-- of a refusal that isn't want of memory
pub refused_own : (form : HitForm) (e : ReqFault) → e ≢ causes.Memory → IsOwnText form (fault_text (faults.Refused e))
unfolding fault_text
refused_own form (causes.BadParam which) other = inr (inl (bad_param (param_name which), refl))
refused_own form (causes.Bad at) other = inr (inl (bad_query at Bad, refl))
refused_own form (causes.Limit at which) other = inr (inl (bad_query at (Limit which), refl))
refused_own form causes.Memory other = absurd (other refl)

-- the text of a line that is a request
pub request_text : (k : Corpus) (p : List ℕ) (r : Request) → request_refusal p ≡ None → r ≡ request_of p → text k p ≡ reply_text (reply_of k r)
unfolding text
request_text k p r accepted is = ap (text_by k p) accepted ∙ ap (λ x. reply_text (reply_of k x)) (sym is)

pub fault-none : (n : ℕ) (l : List ℕ) → length l ≤ MAX_SCRIPT_LINE_BYTES → IsUtf8 l → line_fault (n, l) ≡ None
fault-none n l short utf8 =
    let fits : nat_le (length l) MAX_SCRIPT_LINE_BYTES ≡ true = grind (arith, nat_tests) in
    let good : is_utf8 l ≡ true = is_utf8-from_IsUtf8 l utf8 in
    rw (fits, good) refl

pub fault-too_long : (n : ℕ) (l : List ℕ) → MAX_SCRIPT_LINE_BYTES < length l → line_fault (n, l) ≡ Some (script_line_too_long n)
fault-too_long n l long =
    let over : nat_le (length l) MAX_SCRIPT_LINE_BYTES ≡ false = grind (arith, nat_tests) in
    rw over refl

pub fault-not_utf8 : (n : ℕ) (l : List ℕ) → length l ≤ MAX_SCRIPT_LINE_BYTES → ¬ IsUtf8 l → line_fault (n, l) ≡ Some (script_line_not_utf8 n)
fault-not_utf8 n l short other =
    let fits : nat_le (length l) MAX_SCRIPT_LINE_BYTES ≡ true = grind (arith, nat_tests) in
    let bad : is_utf8 l ≡ false = false_from_ne_true _ (λ t. other (IsUtf8-from_is_utf8 l t)) in
    rw (fits, bad) refl
