use Rattle.std.proofs.Common.{◌≡◌, ◌∙◌, ap, sym, true≢false}
use Rattle.std.specs.Prelude.{is_some}
use Rattle.cs_base.specs.declared.index.plan.Plan.TheVariants.{Same}
use Rattle.cs_model_kept.specs.KeptList.{is_held, used_key, is_same}
use Rattle.cs_model_kept.proofs.HeldLemmas.{others_are_new}
use Rattle.cs_engine.proofs.ask.put.Goals as goal

pub keep-requires : goal.keep-requires
keep-requires c =
    let other : ¬ (c.args.plan ≡ Same) = λ same. true≢false (ap is_some (sym c.in-Some.is) ∙ c.requires.own (ap is_same same)) in
    record {
      new = ap (λ xs. is_held xs c.args.keys.same) c.resume.ensures.entries
          ∙ others_are_new c.args.answers.now.entries (used_key c.args.keys c.args.plan) c.args.keys (λ same. other (c.requires.plan ∙ same));
    }
