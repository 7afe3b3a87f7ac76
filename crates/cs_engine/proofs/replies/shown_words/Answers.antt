use Rattle.std.proofs.Common.{subst, sym, []}
use Rattle.std.specs.Str.{IsUtf8}
use Rattle.cs_tables.specs.declared.tables.Completion.{Completion}
use Rattle.cs_engine.proofs.replies.shown_words.Goals as goal

pub shown_text-requires : goal.shown_text-requires
shown_text-requires g c =
    let none : Completion = record { word = 0; docs = 0 } in
    subst IsUtf8 (sym c.word.ensures) (c.requires.texts _ [] (c.requires.known c.loop-completion.completion-index none c.loop-completion-test.true))
