use Rattle.std.proofs.Common.{[], ◌∷◌, length, ap, arith, length-append, chars}
use Rattle.cs_docs.specs.declared.fault.RowsFault.TheVariants.{TooManyRows}
use Rattle.cs_model.specs.Words.{words_of}
use Rattle.cs_vocab.specs.Gathering.{gathered}
use Rattle.cs_build.proofs.RowGatheringLemmas.{err_is}
use Rattle.cs_build.proofs.column_words.add_ascii.Goals as goal

pub returns-in_err-add-clause-too_many : goal.returns-in_err-add-clause-too_many
returns-in_err-add-clause-too_many c = λ told.
    let l = c.loop-word in
    omega (
      arith,
      c.in_err-add.ensures.too_many (err_is c.from_residual.result c.in_err-add.field-0.0 TooManyRows c.from_residual.ensures.1 told),
      ap length l.invariant.words,
      length-append (gathered l.gathering) (words_of (chars l.rest.now)),
      length-append (gathered c.args.gathering.now) (words_of (chars c.args.key.now)),
      ap length c.in-Some.ensures.some,
    )

pub overflow_add-count : goal.overflow_add-count
overflow_add-count c =
    let l = c.loop-word in
    omega (
      arith,
      c.in_ok-add.ensures.is.few,
      ap length c.in_ok-add.ensures.word,
      length-append (gathered l.gathering) (c.in-Some.word.now ∷ []),
      ap length l.invariant.words,
      length-append (gathered l.gathering) (words_of (chars l.rest.now)),
      length-append (gathered c.args.gathering.now) (words_of (chars c.args.key.now)),
      l.invariant.count,
    )
