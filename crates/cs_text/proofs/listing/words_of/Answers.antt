use Rattle.std.proofs.Common.{rules, ap, ◌∙◌}
use borrow.Author.Tests.{tests}
use Rattle.std.proofs.lemmas.Iterator.Consumers.{YieldsList-end, YieldsList-at}
use Rattle.cs_model.specs.Words.{is_gap}
use Rattle.cs_text.specs.WordPieces.{words_of_pieces}
use Rattle.cs_text.proofs.SplitLemmas.{YieldsList-from_str_split_at}
use Rattle.cs_text.proofs.listing.words_of.Goals as goal

pub returns : goal.returns
returns c =
    let all = YieldsList-end (YieldsList-at c.into_iter-piece-iterator.ensures.into_iter_gives (YieldsList-from_str_split_at _ is_gap c.args.key.now c.utf8.key
    c.split-piece-items.ensures.text c.split-piece-items.ensures.has_more c.split-piece-items.ensures.pattern (λ x r q k. search (rules, tests)))) c.loop-piece.yielded _ c.loop-piece.yielded_by _ _ c.in-None.is c.next.ensures.steps in
    record { ok = c.from_vec.ensures ∙ c.loop-piece.invariant ∙ ap words_of_pieces all.0 }
