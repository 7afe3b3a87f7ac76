use Rattle.std.proofs.Common.{ℕ, List, true≢false, ap, sym, subst, ◌∙◌}
use Rattle.std.specs.Str.{bytes_eq}
use Rattle.cs_file.specs.Indexes.{IndexView}
use Rattle.cs_rows.specs.IndexReading.{IsRangeOf}
use Rattle.cs_vocab.specs.Ranges.{IsWordAt}
use Rattle.cs_rows.proofs.AskedWords.{range_there, word_there, no_range}
use Rattle.cs_rows.proofs.words.range_of_word.Goals as goal

pub returns-in-Some-clause-range : goal.returns-in-Some-clause-range
returns-in-Some-clause-range c =
    let same = ap (λ (x : IndexView). x.words) c.index.view_is in
    range_there c.args.index.now c.requires.index c.in-Some.n c.args.word.now
    (subst (λ (ws : List (List ℕ)). IsWordAt ws c.in-Some.n c.args.word.now) same c.in-Some.ensures.found)

pub returns-in-Some-clause-none : goal.returns-in-Some-clause-none
returns-in-Some-clause-none c none =
    let same = ap (λ (x : IndexView). x.words) c.index.view_is in
    absurd (true≢false (sym (word_there c.args.index.now.words c.in-Some.n c.args.word.now
    (subst (λ (ws : List (List ℕ)). IsWordAt ws c.in-Some.n c.args.word.now) same c.in-Some.ensures.found)) ∙ none))

pub returns-in-None-clause-range : goal.returns-in-None-clause-range
returns-in-None-clause-range c =
    let same = ap (λ (x : IndexView). x.words) c.index.view_is in
    subst (λ (ws : List (List ℕ)). IsRangeOf ws (λ v. bytes_eq v c.args.word.now) 0 0) same (no_range _ c.args.word.now c.in-None.ensures.absent)
