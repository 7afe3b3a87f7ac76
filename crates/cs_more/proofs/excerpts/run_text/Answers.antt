use Rattle.std.proofs.Common.{◌≡◌, ◌≤◌, ◌+◌, ◌-◌, ◌∙◌, ◌++◌, ◌∷◌, [], ap, sym, arith, string_bytes, subst}
use Rattle.std.specs.Str.{IsUtf8}
use Rattle.cs_base.specs.content.Bytes.{space}
use Rattle.cs_model_excerpts.specs.Excerpts.{bracketed}
use Rattle.cs_more.proofs.RunWords.{at_any, joined, joined_all, joined_more, joined_one}
use Rattle.cs_more.proofs.excerpts.run_text.Goals as goal

pub push_word-requires : goal.push_word-requires
push_word-requires c = record { utf8 = subst IsUtf8 (sym c.index-words-run.is) (c.requires.utf8 c.args.run.first c.index-words-run.result (omega (arith, c.requires.run.0, c.requires.run.1))) }

pub push_word-requires-in-loop-place : goal.push_word-requires-in-loop-place
push_word-requires-in-loop-place c =
    record { utf8 = subst IsUtf8 (sym c.index-words-place.is) (c.requires.utf8 c.loop-place.place c.index-words-place.result (omega (arith, c.loop-place-test.true, c.min-end.ensures, c.requires.run.1))) }

pub loop-place-init : goal.loop-place-init
loop-place-init c =
    let a = c.args.run.first in
    let word = at_any c.args.words.now a c.index-words-run.result [] (omega (arith, c.requires.run.0, c.requires.run.1)) c.index-words-run.is in
    joined_one c.args.words.now c.args.marks.now a (string_bytes c.push_word.new.text) (c.in_ok-push_word.ensures.ok ∙ ap (λ x. x ++ bracketed c.args.marks.now (a, c.index-words-run.result)) c.new-text.ensures.bytes ∙ ap (λ w. [] ++ bracketed c.args.marks.now (a, w)) word)

pub loop-place-preserved : goal.loop-place-preserved
unfolding lib.Utf8.encode
loop-place-preserved c =
    let p = c.loop-place.place in
    let word = at_any c.args.words.now p c.index-words-place.result [] (omega (arith, c.loop-place-test.true, c.min-end.ensures, c.requires.run.1)) c.index-words-place.is in
    joined_more c.args.words.now c.args.marks.now c.args.run.first p (string_bytes c.loop-place.text) (string_bytes c.push_word-in-loop-place.new.text) (omega (arith, c.loop-place.auto.place)) c.loop-place.invariant
    (c.in_ok-push_word-2.ensures.ok ∙ ap (λ x. x ++ bracketed c.args.marks.now (p, c.index-words-place.result)) c.in_ok-push.ensures.bytes ∙ ap (λ w. (string_bytes c.loop-place.text ++ (space ∷ [])) ++ bracketed c.args.marks.now (p, w)) word)

pub returns : goal.returns
returns c =
    let first : c.args.run.first + 1 ≤ c.min-end.result = omega (arith, c.min-end.ensures, c.requires.run.0) in
    let end : c.loop-place.place ≡ c.min-end.result = omega (arith, c.loop-place-test.false, c.loop-place.auto.place-end first) in
    record {
      ok = c.from_string.ensures ∙ joined_all c.args.words.now c.args.marks.now c.args.run.first c.args.run.last c.min-end.result (string_bytes c.loop-place.text) c.requires.run.0 c.requires.run.1 c.min-end.ensures
          (c.loop-place.invariant ∙ ap (λ n. joined c.args.words.now c.args.marks.now c.args.run.first (n - c.args.run.first)) end);
    }
