use Rattle.std.proofs.Common.{◌∙◌, [], ap, if◌then◌else◌}
use Rattle.cs_query.specs.RequestView.{asked}
use Rattle.cs_engine.specs.HeldRanges.{FitsRange, IsHeldOver}
use Rattle.cs_engine.specs.Keeping.{AreGoodFor, engine_with, wants_memory}
use Rattle.cs_rows.specs.Sources.{seen}
use Rattle.cs_rows.specs.Stocked.{corpus_in}
use Rattle.cs_engine.proofs.LentLemmas.{same_after}
use Rattle.cs_engine.proofs.RangeLemmas.{held_if, still_held}
use Rattle.cs_engine.proofs.ask.ask_over.Goals as goal

pub noted_reply-answer-requires-clause-kept : goal.noted_reply-answer-requires-clause-kept
noted_reply-answer-requires-clause-kept g c = (
  c.requires.kept.0,
  still_held (FitsRange (seen (g.I.Source.view c.args.over.index.now))) c.args.held.now c.let_go_where_short.new.self c.let_go_where_short.ensures c.requires.kept.1,
)

pub returns-clause-told : goal.returns-clause-told
returns-clause-told g c b is stands good =
    let v = g.I.Source.view c.args.over.index.now in
    let q = (asked c.args.over.request.now).query in
    let a = c.args.answers.now in
    let left : AreGoodFor (corpus_in (v.stock b)) (v.stock b) (engine_with (seen v) a c.let_go_where_short.new.self) = record {
      kept = good.kept;
      held = still_held (IsHeldOver (v.stock b)) c.args.held.now c.let_go_where_short.new.self c.let_go_where_short.ensures good.held;
    } in
    let told = c.noted_reply-answer.ensures.told b is stands left in
    record {
      reply = told.reply;
      good = record { kept = told.good.kept; held = held_if (IsHeldOver (v.stock b)) c.wants_memory-wanted.result _ c.give_back.ensures.left told.good.held };
      after = same_after (corpus_in (v.stock b)) q (engine_with (seen v) a c.args.held.now) c.let_go_where_short.new.self (seen v) c.noted_reply-answer.new.answers
          c.noted_reply-answer.new.held c.give_back.new.self c.noted_reply-answer.result told.after;
    }

pub returns-clause-kept : goal.returns-clause-kept
returns-clause-kept g c = (
  c.noted_reply-answer.ensures.kept.0,
  held_if (FitsRange (seen (g.I.Source.view c.args.over.index.now))) c.wants_memory-wanted.result _ c.give_back.ensures.left c.noted_reply-answer.ensures.kept.1,
)

pub returns-clause-sharp : goal.returns-clause-sharp
returns-clause-sharp g c b is stands good =
    let v = g.I.Source.view c.args.over.index.now in
    c.noted_reply-answer.ensures.sharp b is stands
    (record { kept = good.kept; held = still_held (IsHeldOver (v.stock b)) c.args.held.now c.let_go_where_short.new.self c.let_go_where_short.ensures good.held })

pub returns-clause-bounded : goal.returns-clause-bounded
returns-clause-bounded g c = (
  c.give_back.ensures.bounded,
  λ is. c.give_back.ensures.left ∙ ap (λ w. if w then [] else c.noted_reply-answer.new.held) (c.wants_memory-wanted.ensures ∙ ap wants_memory is),
)
