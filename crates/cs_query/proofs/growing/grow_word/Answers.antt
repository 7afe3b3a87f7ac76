use Rattle.std.proofs.Common.{arith, List, ◌∷◌, ◌++◌, ℕ, encode_utf8, length-append}
use Rattle.cs_model.specs.Tokens.{Word}
use Rattle.cs_query.proofs.Verdicts.{over_room}
use Rattle.cs_query.proofs.growing.grow_word.Goals as goal

pub returns-in_err-gathered : goal.returns-in_err-gathered
returns-in_err-gathered c = λ rest f. let x = encode_utf8 c.args.c in let w : List ℕ = c.args.text ++ x in
    over_room (Word w ∷ rest) _ c.from_residual.ensures.0 c.from_residual.ensures.1 f.fine
    (omega (arith, f.stands.left, c.in_err-gathered.ensures.over, c.len_utf8.ensures.len, length-append c.args.text x))
