use Rattle.std.proofs.Common.{sym, ◌∙◌}
use Rattle.cs_engine.proofs.ColonLemmas.{colon_rest}
use Rattle.cs_engine.proofs.replies.shown_text.Goals as goal

pub text_of-requires : goal.text_of-requires
text_of-requires c = colon_rest c.args.word.now c.requires (sym c.starts_with.ensures.value ∙ c.if-starts_with.true)
