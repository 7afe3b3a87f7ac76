use Rattle.std.proofs.Common.{Some, None, sym, ap, ◌∙◌, lit<}
use Rattle.std.specs.Str.{is_utf8}
use Rattle.std.proofs.lemmas.Bool.{false_from_ne_true}
use Rattle.std.proofs.lemmas.Str.{is_utf8-from_IsUtf8, IsUtf8-from_is_utf8}
use Rattle.std.proofs.lemmas.Str.Pattern.{strip_prefix_char}
use Rattle.cs_model_index.specs.FileRules.{is_plain_word}
use Rattle.cs_file.proofs.WordLemmas.{named_is, plain_is, none_is}
use Rattle.cs_file.proofs.vocabulary.is_word.Goals as goal

pub returns-in-Some : goal.returns-in-Some
returns-in-Some c =
    let w = c.args.word.now in
    let here = strip_prefix_char 58 c.in-Ok.text.now (Some c.in-Some.rest) c.in-Some.ensures.cases (lit< tt) in
    named_is w c.in-Some.rest.now c.is_named_value.result (is_utf8-from_IsUtf8 w c.in-Ok.ensures.cases.1) (sym c.in-Ok.ensures.cases.0 ∙ here)
    c.is_named_value.ensures

pub returns-in-None : goal.returns-in-None
returns-in-None c =
    let w = c.args.word.now in
    let none = strip_prefix_char 58 c.in-Ok.text.now None c.in-None.ensures.cases (lit< tt) in
    plain_is w c.is_plain_word.result (is_utf8-from_IsUtf8 w c.in-Ok.ensures.cases.1) (λ rest e. none rest (c.in-Ok.ensures.cases.0 ∙ e))
    (c.is_plain_word.ensures ∙ ap is_plain_word c.in-Ok.ensures.cases.0)

pub returns-in-Err : goal.returns-in-Err
returns-in-Err c =
    let w = c.args.word.now in
    none_is w (false_from_ne_true (is_utf8 w) (λ e. c.in-Err.ensures.cases.0 (IsUtf8-from_is_utf8 w e)))
