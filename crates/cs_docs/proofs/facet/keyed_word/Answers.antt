use Rattle.std.proofs.Common.{◌≡◌, true, rules, IfOk, sym, subst}
use Rattle.cs_model.specs.Collection.{has_name_form, named}
use Rattle.cs_text.proofs.KeyBytesLemmas.{norm-has_name_form}
use Rattle.cs_docs.proofs.facet.keyed_word.Goals as goal

pub returns-then-has_name_form-clause-ok : goal.returns-then-has_name_form-clause-ok
returns-then-has_name_form-clause-ok c =
    let has_form : has_name_form c.args.name.now ≡ true = search rules in
    subst (λ name. IfOk c.word_of.result (λ w. w ≡ named name c.args.slug.now)) (sym (norm-has_name_form c.args.name.now has_form)) c.word_of.ensures.ok
