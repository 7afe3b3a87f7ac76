use Rattle.std.proofs.Common.{◌∙◌}
use Rattle.cs_rows.proofs.InsideLemmas.{exact_sharp, prefix_sharp}
use Rattle.cs_rows.proofs.PlainParts.{exact_words, prefix_words}
use Rattle.cs_rows.proofs.plain.words_of_atom.Goals as goal

pub returns-in-Prefix-clause-words : goal.returns-in-Prefix-clause-words
returns-in-Prefix-clause-words g c = prefix_words (g.I.Source.view c.args.index.now) c.requires.index c.args.atom.now c.in-Prefix.prefix c.as_bytes.result.now
    c.range.result.0 c.range.result.1
    c.in-Prefix.is (c.as_bytes.ensures.value ∙ c.as_str.ensures) c.range.ensures

pub returns-in-Exact-clause-words : goal.returns-in-Exact-clause-words
returns-in-Exact-clause-words g c =
    exact_words (g.I.Source.view c.args.index.now) c.requires.index c.args.atom.now c.in-Exact.word c.as_bytes-in-Exact.result.now
    c.range_of_word.result.0 c.range_of_word.result.1
    c.in-Exact.is (c.as_bytes-in-Exact.ensures.value ∙ c.as_str-in-Exact.ensures) c.range_of_word.ensures.range c.range_of_word.ensures.short
    c.range_of_word.ensures.none

pub returns-in-Prefix-clause-sharp : goal.returns-in-Prefix-clause-sharp
returns-in-Prefix-clause-sharp g c =
    let v = g.I.Source.view c.args.index.now in
    let same = c.as_bytes.ensures.value ∙ c.as_str.ensures in
    let asks = prefix_words v c.requires.index c.args.atom.now c.in-Prefix.prefix c.as_bytes.result.now c.range.result.0 c.range.result.1 c.in-Prefix.is same
    c.range.ensures in
    prefix_sharp v c.requires.index c.args.atom.now c.in-Prefix.prefix c.as_bytes.result.now c.range.result.0 c.range.result.1 c.in-Prefix.is same
    c.range.ensures asks.few

pub returns-in-Exact-clause-sharp : goal.returns-in-Exact-clause-sharp
returns-in-Exact-clause-sharp g c =
    let v = g.I.Source.view c.args.index.now in
    let same = c.as_bytes-in-Exact.ensures.value ∙ c.as_str-in-Exact.ensures in
    let asks = exact_words v c.requires.index c.args.atom.now c.in-Exact.word c.as_bytes-in-Exact.result.now c.range_of_word.result.0 c.range_of_word.result.1
    c.in-Exact.is same c.range_of_word.ensures.range c.range_of_word.ensures.short c.range_of_word.ensures.none in
    exact_sharp v c.requires.index c.args.atom.now c.in-Exact.word c.as_bytes-in-Exact.result.now c.range_of_word.result.0 c.range_of_word.result.1
    c.in-Exact.is same c.range_of_word.ensures.range asks.few
