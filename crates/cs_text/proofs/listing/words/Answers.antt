use Rattle.std.proofs.Common.{ap, sym, subst, ◌∙◌}
use Rattle.std.specs.List.{All}
use Rattle.std.specs.Str.{chars, IsUtf8}
use Rattle.cs_model.specs.Words.{words, words_of}
use Rattle.std.proofs.lemmas.Str.{scalars-chars}
use Rattle.cs_text.proofs.Utf8Lemmas.{words_of-utf8}
use Rattle.cs_text.proofs.listing.words.Goals as goal

pub returns-clause-ok : goal.returns-clause-ok
unfolding words
returns-clause-ok c = c.in_ok-found.ensures.ok ∙ ap (λ bs. words_of (chars bs)) (c.as_str.ensures.value ∙ c.in_ok-key.ensures.ok)

pub returns-clause-utf8 : goal.returns-clause-utf8
returns-clause-utf8 c = subst (All IsUtf8) (sym c.in_ok-found.ensures.ok) (words_of-utf8 (chars c.as_str.result.now) (scalars-chars c.as_str.result.now c.as_str.utf8))
