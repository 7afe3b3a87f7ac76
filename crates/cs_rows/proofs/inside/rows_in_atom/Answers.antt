use Rattle.std.proofs.Common.{◌∙◌, arith, sym, subst}
use Rattle.cs_model.specs.Answers.{rows_of_atom}
use Rattle.cs_rows.specs.IndexReading.{division, AreWithin}
use Rattle.cs_rows.specs.Skipping.{lists_doc}
use Rattle.cs_rows.specs.Sources.{seen}
use Rattle.cs_rows.specs.Stocked.{corpus_in}
use Rattle.cs_rows.proofs.InsideLemmas.{exact_sharp, in_kept, join_sharp, kept_docs, prefix_sharp, words_inside}
use Rattle.cs_rows.proofs.PlainParts.{exact_words, prefix_words}
use Rattle.cs_rows.proofs.RowsInRange.{kept_within}
use Rattle.cs_rows.proofs.WalkLemmas.{within_more}
use Rattle.cs_rows.proofs.inside.rows_in_atom.Goals as goal

pub returns-in-Prefix-clause-told : goal.returns-in-Prefix-clause-told
returns-in-Prefix-clause-told g c b is stands =
    let v = g.I.Source.view c.args.index.now in
    let asks = prefix_words v c.requires.sieve.opened.source c.args.atom.now c.in-Prefix.prefix c.as_bytes.result.now c.range-words.result.0
    c.range-words.result.1 c.in-Prefix.is (c.as_bytes.ensures.value ∙ c.as_str.ensures) c.range-words.ensures in
    words_inside asks c.args.hits.now c.args.listed.now c.requires.lists _ c.rows_in_hits.result b stands (c.rows_in_hits.ensures.told b is stands)

pub returns-in-Prefix-clause-reads : goal.returns-in-Prefix-clause-reads
returns-in-Prefix-clause-reads g c =
    let v = g.I.Source.view c.args.index.now in
    let source = c.requires.sieve.opened.source in
    let same = c.as_bytes.ensures.value ∙ c.as_str.ensures in
    let asks = prefix_words v source c.args.atom.now c.in-Prefix.prefix c.as_bytes.result.now c.range-words.result.0 c.range-words.result.1 c.in-Prefix.is same
    c.range-words.ensures in
    within_more c.rows_in_hits.ensures.reads
    (prefix_sharp v source c.args.atom.now c.in-Prefix.prefix c.as_bytes.result.now c.range-words.result.0 c.range-words.result.1 c.in-Prefix.is same
    c.range-words.ensures asks.few c.args.hits.now)

pub returns-in-Exact-clause-told : goal.returns-in-Exact-clause-told
returns-in-Exact-clause-told g c b is stands =
    let v = g.I.Source.view c.args.index.now in
    let asks = exact_words v c.requires.sieve.opened.source c.args.atom.now c.in-Exact.word c.as_bytes-in-Exact.result.now c.range_of_word-words.result.0
    c.range_of_word-words.result.1 c.in-Exact.is (c.as_bytes-in-Exact.ensures.value ∙ c.as_str-in-Exact.ensures) c.range_of_word-words.ensures.range
    c.range_of_word-words.ensures.short c.range_of_word-words.ensures.none in
    words_inside asks c.args.hits.now c.args.listed.now c.requires.lists _ c.rows_in_hits-in-Exact.result b stands
    (c.rows_in_hits-in-Exact.ensures.told b is stands)

pub returns-in-Exact-clause-reads : goal.returns-in-Exact-clause-reads
returns-in-Exact-clause-reads g c =
    let v = g.I.Source.view c.args.index.now in
    let source = c.requires.sieve.opened.source in
    let same = c.as_bytes-in-Exact.ensures.value ∙ c.as_str-in-Exact.ensures in
    let asks = exact_words v source c.args.atom.now c.in-Exact.word c.as_bytes-in-Exact.result.now c.range_of_word-words.result.0
    c.range_of_word-words.result.1 c.in-Exact.is same c.range_of_word-words.ensures.range c.range_of_word-words.ensures.short c.range_of_word-words.ensures.none in
    within_more c.rows_in_hits-in-Exact.ensures.reads
    (exact_sharp v source c.args.atom.now c.in-Exact.word c.as_bytes-in-Exact.result.now c.range_of_word-words.result.0 c.range_of_word-words.result.1
    c.in-Exact.is same c.range_of_word-words.ensures.range asks.few c.args.hits.now)

-- ---- joins
pub returns-in_ok-kept-in-Join-clause-told : goal.returns-in_ok-kept-in-Join-clause-told
returns-in_ok-kept-in-Join-clause-told g c b is stands =
    let v = g.I.Source.view c.args.index.now in
    let s = v.stock b in
    let hits = c.args.hits.now in
    let rows = c.in_ok-rows-in-Join.rows.posts in
    in_kept s (lists_doc hits) (rows_of_atom (corpus_in s) c.args.atom.now) rows c.in_ok-kept-in-Join.kept.posts
    (c.in_ok-rows-in-Join.ensures.told b is stands)
    (c.in_ok-kept-in-Join.ensures.ok ∙ kept_docs hits rows)

pub returns-in_ok-kept-in-Join-clause-within : goal.returns-in_ok-kept-in-Join-clause-within
returns-in_ok-kept-in-Join-clause-within g c =
    let i = seen (g.I.Source.view c.args.index.now) in
    let rows = c.in_ok-rows-in-Join.rows.posts in
    subst (AreWithin i) (sym (c.in_ok-kept-in-Join.ensures.ok ∙ kept_docs c.args.hits.now rows))
    (kept_within i (λ p. lists_doc c.args.hits.now p.doc) rows c.in_ok-rows-in-Join.ensures.within)

pub returns-in_err-rows-in-Join-clause-reads : goal.returns-in_err-rows-in-Join-clause-reads
returns-in_err-rows-in-Join-clause-reads g c =
    let same = join_sharp (division (g.I.Source.view c.args.index.now).index) c.args.hits.now c.args.atom.now _ _ c.in-Join.is in
    within_more c.rows_of_atom.ensures.reads (omega (arith, same))

pub returns-in_err-kept-in-Join-clause-reads : goal.returns-in_err-kept-in-Join-clause-reads
returns-in_err-kept-in-Join-clause-reads g c =
    let same = join_sharp (division (g.I.Source.view c.args.index.now).index) c.args.hits.now c.args.atom.now _ _ c.in-Join.is in
    within_more c.rows_of_atom.ensures.reads (omega (arith, same))

pub returns-in_ok-kept-in-Join-clause-reads : goal.returns-in_ok-kept-in-Join-clause-reads
returns-in_ok-kept-in-Join-clause-reads g c =
    let same = join_sharp (division (g.I.Source.view c.args.index.now).index) c.args.hits.now c.args.atom.now _ _ c.in-Join.is in
    within_more c.rows_of_atom.ensures.reads (omega (arith, same))
