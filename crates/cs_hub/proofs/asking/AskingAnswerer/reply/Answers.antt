use Rattle.std.proofs.Common.{ap, refl, subst, sym, ◌∙◌}
use Rattle.cs_rows.specs.IndexReading.{division}
use Rattle.cs_engine.specs.Asking.{titles_asked}
use Rattle.cs_engine.specs.Keeping.{note_plan}
use Rattle.cs_file.specs.CallAnswers.{is_read}
use Rattle.cs_file.specs.Indexes.{CausedReads}
use Rattle.cs_model_kept.specs.Due.{due}
use Rattle.cs_query.specs.RequestView.{asked}
use Rattle.cs_hub.specs.DueReads.{reply_in}
use Rattle.cs_hub.proofs.AskedLemmas.{few_titles, read_in, same_refusal}
use Rattle.cs_hub.proofs.asking.AskingAnswerer.reply.Goals as goal

pub returns-in_err-reply-clause-asked : goal.returns-in_err-reply-clause-asked
returns-in_err-reply-clause-asked g c =
    let q = asked c.args.request.now in
    let old = c.args.self.now.engine.now in
    let answer = c.ask.result in
    let same = same_refusal answer c.in_err-reply.field-0.0 c.from_residual.result c.in_err-reply.was c.from_residual.ensures.1 in
    record {
      n = due (division old.index) q (note_plan q.query old.answers) (titles_asked q answer);
      is_due = record {
        answer = answer;
        reply = same;
        few = few_titles q answer c.ask.ensures.few;
        index = c.ask.ensures.index;
        keeps = c.ask.ensures.keeps;
        unchanged = c.ask.ensures.unchanged;
        changed = c.ask.ensures.changed;
        right = λ b told stands good. record {
          right = c.ask.ensures.ok b told stands good;
          after = c.ask.ensures.after b told stands good;
          good = c.ask.ensures.good b told stands good;
        };
        sum = refl;
      };
      told = c.ask.ensures.bytes;
      reads = c.ask.ensures.reads;
      sharp = c.ask.ensures.sharp;
      caused = subst (λ read. CausedReads read (g.S.Store.faults c.args.self.now.store.now) (g.S.Store.faults c.ask.new.store))
          (sym (ap is_read same ∙ read_in answer)) c.ask.ensures.caused;
    }

pub returns-clause-asked : goal.returns-clause-asked
returns-clause-asked g c =
    let q = asked c.args.request.now in
    let old = c.args.self.now.engine.now in
    let answer = c.ask.result in
    let same = sym (ap reply_in c.in_ok-reply.was) in
    record {
      n = due (division old.index) q (note_plan q.query old.answers) (titles_asked q answer);
      is_due = record {
        answer = answer;
        reply = same;
        few = few_titles q answer c.ask.ensures.few;
        index = c.ask.ensures.index;
        keeps = c.ask.ensures.keeps;
        unchanged = c.ask.ensures.unchanged;
        changed = c.ask.ensures.changed;
        right = λ b told stands good. record {
          right = c.ask.ensures.ok b told stands good;
          after = c.ask.ensures.after b told stands good;
          good = c.ask.ensures.good b told stands good;
        };
        sum = refl;
      };
      told = c.ask.ensures.bytes;
      reads = c.ask.ensures.reads;
      sharp = c.ask.ensures.sharp;
      caused = subst (λ read. CausedReads read (g.S.Store.faults c.args.self.now.store.now) (g.S.Store.faults c.ask.new.store))
          (sym (ap is_read same ∙ read_in answer)) c.ask.ensures.caused;
    }
