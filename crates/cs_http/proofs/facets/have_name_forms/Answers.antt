use Rattle.std.proofs.Common.{rules}
use borrow.Author.Tests.{tests}
use Rattle.std.proofs.lemmas.Iterator.{YieldsList-from_slice}
use Rattle.std.proofs.lemmas.Iterator.Search.{all_from_yields_List}
use Rattle.cs_model.specs.Collection.{has_name_form}
use Rattle.cs_http.proofs.facets.have_name_forms.Goals as goal

pub returns : goal.returns
returns c = all_from_yields_List has_name_form _ _ _ c.all.ensures.ran (YieldsList-from_slice c.args.names.now c.iter.ensures.rest) (λ x b q k. search (rules, tests))
