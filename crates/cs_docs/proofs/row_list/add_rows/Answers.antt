use Rattle.std.proofs.Common.{ap, subst}
use Rattle.std.specs.List.{All}
use Rattle.std.specs.Str.{IsUtf8}
use Rattle.cs_model.specs.Words.{words}
use Rattle.cs_docs.specs.Listing.{listed_facets}
use Rattle.cs_docs.proofs.TextLemmas.{text_of_doc}
use Rattle.cs_docs.proofs.row_list.add_rows.Goals as goal

pub returns-clause-utf8 : goal.returns-clause-utf8
returns-clause-utf8 c = text_of_doc c.args.weights c.args.number c.args.doc.now
    (subst (All IsUtf8) (ap listed_facets c.as_str.ensures) c.in_ok-push_facets.ensures.utf8)
    (subst (All IsUtf8) (ap words c.as_str-2.ensures) c.in_ok-end.ensures.utf8)
    (subst (All IsUtf8) (ap words c.as_str-3.ensures) c.in_ok-push_words.ensures.utf8)
