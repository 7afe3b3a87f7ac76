use Rattle.std.proofs.Common.{◌≡◌, List, [], ℕ, Option, None, Some, Err, ap, ◌∙◌, subst}
use Rattle.std.specs.Option.{option_map, unwrap_or}
use Rattle.std.specs.Str.{chars}
use Rattle.std.specs.String.{string_bytes}
use Rattle.cs_model.specs.FirstRefusal.{first_refusal}
use Rattle.cs_model.specs.KeyText.{norm}
use Rattle.cs_model.specs.Refusals.{Bad, Limit}
use Rattle.cs_model.proofs.RefusalLemmas.{accepted_is_none, refused_is_first}
use Rattle.cs_http.proofs.parameters.query.Goals as goal

-- the text of a value or of the default, which is empty
text_given : {X : Type 0} (f : X → List ℕ) (o : Option X) (d s : X) (t : List ℕ) (p : Option (List ℕ)) → option_map f o ≡ p → f d ≡ [] → s ≡ unwrap_or o d → t ≡ f s → t ≡ unwrap_or p []
text_given f None d s t p h e same told = told ∙ ap f same ∙ e ∙ ap (λ q. unwrap_or q []) h
text_given f (Some x) d s t p h e same told = told ∙ ap f same ∙ ap (λ q. unwrap_or q []) h

pub returns-in-Ok-clause-accepted : goal.returns-in-Ok-clause-accepted
returns-in-Ok-clause-accepted c =
    let text = text_given (λ x. string_bytes x) c.in_ok-text.text c.new.result _ _ _ c.in_ok-text.ensures.ok c.new.ensures.bytes c.unwrap_or-text.ensures c.as_str.ensures.value in
    subst (λ t. first_refusal (chars (norm t)) ≡ None) text ((accepted_is_none _).0 c.in-Ok.ensures.ok.0)

pub returns-in-Err-Bad-clause-err : goal.returns-in-Err-Bad-clause-err
returns-in-Err-Bad-clause-err c =
    let text = text_given (λ x. string_bytes x) c.in_ok-text.text c.new.result _ _ _ c.in_ok-text.ensures.ok c.new.ensures.bytes c.unwrap_or-text.ensures c.as_str.ensures.value in
    subst (λ t. first_refusal (chars (norm t)) ≡ Some (c.in-Err-Bad.at, Bad)) text ((refused_is_first _ _ _).0 (c.parse.ensures.bad c.in-Err-Bad.at (c.in-Err-Bad.is ∙ ap Err c.in-Err-Bad.field-0-is)))

pub returns-in-Err-Limit-clause-err : goal.returns-in-Err-Limit-clause-err
returns-in-Err-Limit-clause-err c =
    let text = text_given (λ x. string_bytes x) c.in_ok-text.text c.new.result _ _ _ c.in_ok-text.ensures.ok c.new.ensures.bytes c.unwrap_or-text.ensures c.as_str.ensures.value in
    subst (λ t. first_refusal (chars (norm t)) ≡ Some (c.in-Err-Limit.at, Limit c.in-Err-Limit.which)) text ((refused_is_first _ _ _).0 (c.parse.ensures.limit c.in-Err-Limit.at c.in-Err-Limit.which (c.in-Err-Limit.is ∙ ap Err c.in-Err-Limit.field-0-is)))
