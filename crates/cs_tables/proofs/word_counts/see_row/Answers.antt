use Rattle.std.proofs.Common.{◌≡◌, ◌&&◌, true, nat_le, nat_lt}
use Rattle.std.proofs.lemmas.Bool.{and_from, le-leb, lt-ltb}
use Rattle.cs_tables.proofs.WordCountsLemmas.{row_counted}
use Rattle.cs_tables.proofs.word_counts.see_row.Goals as goal

pub returns-then-word-high-clause-counted : goal.returns-then-word-high-clause-counted
returns-then-word-high-clause-counted c = λ listed p d w known.
    let low = c.args.low in
    let high = c.args.high in
    let word = c.args.word in
    let range : (nat_le low word && nat_lt word high) ≡ true = and_from _ _ (le-leb low word c.if-low-word.true) (lt-ltb word high c.if-word-high.true) in
    row_counted low high listed c.args.marks.now c.args.doc word c.see.new.self c.requires.sized (and_from _ _ range known) c.see.ensures p d w
