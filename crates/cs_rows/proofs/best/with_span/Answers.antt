use Rattle.std.proofs.Common.{◌++◌, ap}
use Rattle.cs_rows.proofs.SpansLemmas.{none_in_span}
use Rattle.cs_rows.proofs.best.with_span.Goals as goal

pub returns-then-is_bare : goal.returns-then-is_bare
returns-then-is_bare c =
    ap (λ xs. c.args.hits.items ++ xs)
    (none_in_span c.args.best.now c.args.from c.args.to c.requires.span.onward c.requires.span.within (c.is_bare.ensures c.if-is_bare.true))
