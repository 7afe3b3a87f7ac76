use Rattle.std.proofs.Common.{length, sym, ap, subst, ◌∙◌, arith}
use Rattle.std.specs.List.{All}
use Rattle.std.specs.Str.{IsUtf8}
use Rattle.std.proofs.lemmas.List.Elements.{All-push}
use Rattle.cs_docs.proofs.ShortSlugs.{short_slug}
use Rattle.cs_docs.proofs.facet.push_facet.Goals as goal

pub keyed_word-requires-clause-slug : goal.keyed_word-requires-clause-slug
keyed_word-requires-clause-slug c =
    omega (arith, ap length c.as_str.ensures, short_slug c.in-Some.value.now c.in-Some-2.slug (sym c.in_ok-slug.ensures.ok ∙ c.in-Some-2.is))

pub returns-clause-utf8 : goal.returns-clause-utf8
returns-clause-utf8 c =
    λ h. subst (All IsUtf8) (sym c.in_ok-push.ensures.items) (All-push IsUtf8 c.args.found.now.items c.in_ok-word.word h c.in_ok-word.ensures.utf8)
