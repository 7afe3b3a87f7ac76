use Rattle.std.proofs.Common.{◌≡◌, ◌-◌, ◌∷◌, length, take, drop, sym, ap, ◌∙◌, arith, length-drop}
use Rattle.std.specs.Str.Lines.{lines}
use Rattle.std.proofs.lemmas.List.{take_all}
use Rattle.cs_docs.proofs.LinesLemmas.{shown_line}
use Rattle.cs_docs.proofs.lines.first_line.Goals as goal

pub returns-clause-lines : goal.returns-clause-lines
returns-clause-lines c =
    let text = c.args.text.now in
    let len = c.first_end-len.result.0 in
    let next = c.first_end-len.result.1 in
    let rest : take (length text - next) (drop next text) ≡ drop next text = take_all _ (drop next text) (omega (arith, length-drop next text)) in
    shown_line text len next c.requires c.first_end-len.ensures.shows ∙ ap (λ l. take len text ∷ lines l) (sym rest)
