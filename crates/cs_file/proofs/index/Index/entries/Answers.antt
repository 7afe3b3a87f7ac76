use Rattle.std.proofs.Common.{◌*◌, ap, arith}
use Rattle.cs_file.proofs.ImageParts.{places}
use Rattle.cs_file.proofs.index.Index.entries.Goals as goal

pub overflow_mul-bounded : goal.overflow_mul-bounded
overflow_mul-bounded c = let p = places _ c.self.invariant.index in let few = p.blocks in omega (arith, few, c.len.ensures, ap (λ n. n * c.len.result) c.from-2.ensures)

pub overflow_add-first-2 : goal.overflow_add-first-2
overflow_add-first-2 c =
    let p = places _ c.self.invariant.index in
    let few = p.blocks in
    let at = p.titles in
    omega (arith, few, at, c.len.ensures, ap (λ n. n * c.len.result) c.from-2.ensures, c.from.ensures, c.last.type_inv)

pub returns-clause-small : goal.returns-clause-small
returns-clause-small c = let p = places _ c.self.invariant.index in let at = p.titles in omega (arith, at, c.from.ensures, c.last.type_inv)
