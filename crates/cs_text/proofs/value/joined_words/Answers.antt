use Rattle.std.proofs.Common.{rules, ◌∷◌, [], map, sym, ap, ◌∙◌}
use borrow.Author.Tests.{tests}
use Rattle.std.specs.Str.{chars}
use Rattle.std.specs.List.{join_with_byte}
use Rattle.std.proofs.lemmas.Iterator.Consumers.{YieldsList-end, YieldsList-at}
use Rattle.std.proofs.lemmas.List.{map-append}
use Rattle.cs_model.specs.Words.{is_gap}
use Rattle.cs_text.specs.WordPieces.{words_of_pieces, joined_with}
use Rattle.cs_text.proofs.SlugLemmas.{joined_with-piece}
use Rattle.cs_text.proofs.SplitLemmas.{YieldsList-from_str_split_at}
use Rattle.cs_text.proofs.value.joined_words.Goals as goal

pub loop-piece-preserved : goal.loop-piece-preserved
loop-piece-preserved c =
    c.in_ok-join_word.ensures.ok ∙ ap (λ bs. joined_with bs (words_of_pieces (chars c.in-Some.piece.now ∷ []))) c.loop-piece.invariant
    ∙ joined_with-piece (map (λ x. chars x.now) c.loop-piece.yielded) (chars c.in-Some.piece.now)
    ∙ ap (λ ps. join_with_byte 95 (words_of_pieces ps)) (sym (map-append (λ x. chars x.now) c.loop-piece.yielded (c.in-Some.piece ∷ [])))

pub returns : goal.returns
returns c =
    let all = YieldsList-end (YieldsList-at c.into_iter-piece-iterator.ensures.into_iter_gives (YieldsList-from_str_split_at _ is_gap c.args.key.now c.utf8.key
    c.split-piece-items.ensures.text c.split-piece-items.ensures.has_more c.split-piece-items.ensures.pattern (λ x r q k. search (rules, tests)))) c.loop-piece.yielded _ c.loop-piece.yielded_by _ _ c.in-None.is c.next.ensures.steps in
    record { ok = c.loop-piece.invariant ∙ ap (λ ps. join_with_byte 95 (words_of_pieces ps)) all.0 }
