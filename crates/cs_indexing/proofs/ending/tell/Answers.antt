use Rattle.std.proofs.Common.{◌≡◌, ◌∙◌, sym, ap, subst, List, ℕ}
use Rattle.cs_indexing.specs.CommandLine.{line_of, SaysLine}
use Rattle.cs_indexing.specs.Met.{wrote}
use Rattle.cs_indexing.specs.Views.{ended, said_text}
use Rattle.cs_indexing.proofs.SaysLemmas.{says}
use Rattle.cs_indexing.proofs.ending.tell.Goals as goal

pub returns-in-Err : goal.returns-in-Err
returns-in-Err g c =
    let is : said_text c.said.result ≡ line_of (ended c.args.run) = c.said.ensures ∙ ap (λ r. line_of (ended r)) (sym c.in-Err.is) in
    let w = wrote g.E.Sink c.args.err.now c.put_said.new.err in
    subst (λ (line : List ℕ). SaysLine w line) is (says c.put_said.result w (said_text c.said.result) c.put_said.ensures.ok c.put_said.ensures.err c.put_said.ensures.counted)
