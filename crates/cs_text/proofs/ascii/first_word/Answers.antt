use Rattle.std.proofs.Common.{◌≡◌, ℕ, List, ◌-◌, ◌≤◌, ◌∷◌, length, take, drop, sym, ap, ◌∙◌, arith, length-drop}
use Rattle.std.specs.Str.{chars}
use Rattle.std.proofs.lemmas.List.{take_all, length-take-le}
use Rattle.cs_model.specs.Words.{words_of}
use Rattle.cs_text.proofs.AsciiWordsLemmas.{IsFirstRun, first_run-some, words_of-no_word, words_of-first_word}
use Rattle.cs_text.proofs.ascii.first_word.Goals.{After-run_bytes-end}
use Rattle.cs_text.proofs.ascii.first_word.Goals as goal

pub returns-then-start-key-clause-none : goal.returns-then-start-key-clause-none
returns-then-start-key-clause-none c = words_of-no_word c.args.key.now c.requires (sym c.gap_bytes-start.ensures.gap ∙ c.if-start-key.true)

whole : (n : ℕ) (bs : List ℕ) → take (length bs - n) (drop n bs) ≡ drop n bs
whole n bs = take_all (length bs - n) (drop n bs) (omega (arith, length-drop n bs))

first : (c : After-run_bytes-end) → IsFirstRun c.args.key.now (take (length c.args.key.now - c.gap_bytes-start.result) (drop c.gap_bytes-start.result c.args.key.now)) c.run_bytes-end.result
first c = record {
  some = omega (arith, c.gap_bytes-start.ensures.gap, c.gap_bytes-start.ensures.within, c.if-start-key.false);
  left_is = whole c.gap_bytes-start.result c.args.key.now ∙ ap (λ n. drop n c.args.key.now) c.gap_bytes-start.ensures.gap;
  end_is = c.run_bytes-end.ensures.run;
}

pub returns-clause-some : goal.returns-clause-some
returns-clause-some c =
    let left = take (length c.args.key.now - c.gap_bytes-start.result) (drop c.gap_bytes-start.result c.args.key.now) in
    words_of-first_word c.args.key.now left c.run_bytes-end.result c.requires (first (goal.at.returns-clause-some c).After-run_bytes-end)
    ∙ ap (λ n. take n left ∷ words_of (chars (drop c.run_bytes-end.result left))) (sym c.min.ensures)
    ∙ ap (λ bs. take c.min.result left ∷ words_of (chars bs)) (sym (whole c.run_bytes-end.result left))

pub returns-clause-few : goal.returns-clause-few
returns-clause-few c =
    let left = take (length c.args.key.now - c.gap_bytes-start.result) (drop c.gap_bytes-start.result c.args.key.now) in
    let some : 1 ≤ c.run_bytes-end.result = first_run-some c.args.key.now left c.run_bytes-end.result (first (goal.at.returns-clause-few c).After-run_bytes-end) in
    let run : length (take c.min.result left) ≡ c.min.result = length-take-le c.min.result left (omega (arith, c.min.ensures, c.run_bytes-end.ensures.within)) in
    (omega (arith, run, c.min.ensures, some), omega (arith, run, c.min.ensures))
