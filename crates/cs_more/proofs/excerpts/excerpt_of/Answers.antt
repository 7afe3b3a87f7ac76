use Rattle.std.proofs.Common.{◌≡◌, ◌==◌, ◌∙◌, ap, sym, arith, length, map, subst, Bool, List, ℕ}
use Rattle.std.specs.Prelude.{filter}
use Rattle.std.specs.List.{All}
use Rattle.std.specs.Str.{IsUtf8}
use Rattle.std.specs.Option.{option_map}
use Rattle.std.specs.Vec.{vec_len}
use Rattle.cs_model.specs.Words.{words}
use Rattle.cs_model_excerpts.specs.Runs.{shortest}
use Rattle.cs_more.specs.RunSearch.{seen_run}
use Rattle.cs_model_excerpts.specs.Excerpts.{is_positive, run_text, shown_run, textual}
use Rattle.cs_model_excerpts.specs.OwnWords.{part_marks}
use Rattle.cs_more.proofs.ShownRuns.{none_marked, run_shown}
use Rattle.cs_more.proofs.excerpts.excerpt_of.Goals as goal

pub returns-then-is_empty : goal.returns-then-is_empty
returns-then-is_empty c =
    let ws : List (List ℕ) = c.in_ok-words.words in
    let marks = c.in_ok-marks.ensures.ok ∙ ap (λ v. textual (map (part_marks v) (filter is_positive c.as_slice-2.result.now))) c.as_slice.ensures ∙ ap (λ ps. textual (map (part_marks ws) (filter is_positive ps))) c.as_slice-2.ensures in
    let long : vec_len c.in_ok-marks.marks ≡ length c.in_ok-marks.marks.items = omega (arith, c.in_ok-marks.marks.ok) in
    record { ok = λ doc same. none_marked c.args.query.now doc ws c.in_ok-marks.marks.items c.is_empty.result (c.in_ok-words.ensures.ok ∙ ap words (sym same)) marks (c.is_empty.ensures ∙ ap (λ n. n == 0) long) c.new.result c.new.ensures c.if-is_empty.true }

pub returns-in_default : goal.returns-in_default
returns-in_default c =
    let ws : List (List ℕ) = c.in_ok-words.words in
    let ms : List (List Bool) = c.in_ok-marks.marks.items in
    let marks = c.in_ok-marks.ensures.ok ∙ ap (λ v. textual (map (part_marks v) (filter is_positive c.as_slice-2.result.now))) c.as_slice.ensures ∙ ap (λ ps. textual (map (part_marks ws) (filter is_positive ps))) c.as_slice-2.ensures in
    let long : vec_len c.in_ok-marks.marks ≡ length c.in_ok-marks.marks.items = omega (arith, c.in_ok-marks.marks.ok) in
    record {
      ok = λ doc same. run_shown c.args.query.now doc ws ms c.is_empty.result (c.in_ok-words.ensures.ok ∙ ap words (sym same)) marks (c.is_empty.ensures ∙ ap (λ n. n == 0) long) c.new-in_default.result (option_map seen_run c.in_ok-run.field-0) c.len.result c.if-is_empty.false c.len.ensures
          (c.in_ok-run.ensures.ok ∙ ap (λ p. shortest p c.len.result) c.deref.ensures.value) (c.new-in_default.ensures ∙ ap (λ o. shown_run ws ms (option_map seen_run o)) (sym c.in_default.is));
    }

pub run_text-requires : goal.run_text-requires
run_text-requires c =
    let within = rw c.in-Some.is at c.in_ok-run.ensures.within in
    record { run = (within.0, omega (arith, within.1, c.len.ensures, ap length c.as_slice-3.ensures)); utf8 = subst (All IsUtf8) (sym c.as_slice-3.ensures) c.in_ok-words.ensures.utf8 }

pub returns : goal.returns
returns c =
    let ws : List (List ℕ) = c.in_ok-words.words in
    let ms : List (List Bool) = c.in_ok-marks.marks.items in
    let marks = c.in_ok-marks.ensures.ok ∙ ap (λ v. textual (map (part_marks v) (filter is_positive c.as_slice-2.result.now))) c.as_slice.ensures ∙ ap (λ ps. textual (map (part_marks ws) (filter is_positive ps))) c.as_slice-2.ensures in
    let long : vec_len c.in_ok-marks.marks ≡ length c.in_ok-marks.marks.items = omega (arith, c.in_ok-marks.marks.ok) in
    record {
      ok = λ doc same. run_shown c.args.query.now doc ws ms c.is_empty.result (c.in_ok-words.ensures.ok ∙ ap words (sym same)) marks (c.is_empty.ensures ∙ ap (λ n. n == 0) long) c.in_ok-text.text (option_map seen_run c.in_ok-run.field-0) c.len.result c.if-is_empty.false c.len.ensures
          (c.in_ok-run.ensures.ok ∙ ap (λ p. shortest p c.len.result) c.deref.ensures.value)
          (c.in_ok-text.ensures.ok ∙ ap (λ v. run_text v c.deref-2.result.now (seen_run c.in-Some.run')) c.as_slice-3.ensures ∙ ap (λ m. run_text ws m (seen_run c.in-Some.run')) c.deref-2.ensures.value ∙ ap (λ o. shown_run ws ms (option_map seen_run o)) (sym c.in-Some.is));
    }
