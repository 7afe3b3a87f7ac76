use Rattle.std.proofs.Common.{◌≡◌, ◌++◌, length}
use Rattle.std.specs.List.{All}
use Rattle.std.specs.Str.{IsUtf8}
use Rattle.cs_model.specs.Collection.{facet_words, facet_pieces}
use Rattle.cs_docs.specs.FacetPieces.{AreNamed}
use Rattle.cs_docs.proofs.facet.facet_words.Given as goal

abbrev pub invariant-loop-rest : goal.invariant-loop-rest
invariant-loop-rest l = record {
  told : facet_words l.column ≡ l.found.items ++ facet_words l.rest;
  named : AreNamed (facet_pieces l.rest);
  utf8 : IsUtf8 l.rest;
  text : All IsUtf8 l.found.items;
}

abbrev pub decreases-loop-rest : goal.decreases-loop-rest
decreases-loop-rest l = length l.rest
