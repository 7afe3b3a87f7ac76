use Rattle.std.proofs.Common.{◌≡◌, List, ℕ, Option, Some, [], ◌∷◌, length, refl, sym, ap, subst, ◌∙◌, arith}
use Rattle.cs_base.specs.declared.index.block.Broken.{Broken}
use Rattle.cs_base.specs.outside.Outside.{part}
use Rattle.cs_model.specs.First.{first_reason}
use Rattle.cs_model_index.specs.FileRules.{tried, words_break}
use Rattle.cs_model_index.specs.Sections.{vocabulary_at, vocabulary_in}
use Rattle.cs_file.specs.HeaderView.{seen_header}
use Rattle.cs_file.specs.Opening.{Refuses, vocabulary_stage, words_judged}
use Rattle.cs_file.proofs.BytesLemmas.{bytes_at}
use Rattle.cs_file.proofs.StagesLemmas.{judged_along, judges_by, none_of_all, two_first, two_last}
use Rattle.cs_file.proofs.VocabularyLemmas.{vocabulary_is, words_are, words_count, has_vocabulary}
use Rattle.cs_file.proofs.vocabulary.read_vocabulary.Given as given
use Rattle.cs_file.proofs.vocabulary.read_vocabulary.Goals as goal
use Rattle.cs_file.proofs.vocabulary.read_vocabulary.Goals.{After-deref}

-- the two parts of the stage, over the bytes that were read
abbrev cutting : (g : given.Over) → After-deref g → Option Broken
cutting g c = tried 5 (words_break c.args.header.now.words vocabulary_at c.deref.result.now)

abbrev judging : (g : given.Over) → After-deref g → Option Broken
judging g c = words_judged (vocabulary_in c.args.header.now.words c.deref.result.now)

stage : (g : given.Over) (c : After-deref g) (b : List ℕ) → g.S.Store.bytes c.args.store.now ≡ Some b
    → vocabulary_stage b ≡ first_reason (cutting g c ∷ judging g c ∷ [])
stage g c b t =
    vocabulary_is b (seen_header c.args.header.now) c.deref.result.now (c.requires.told b t)
    (c.deref.ensures.value ∙ c.in_ok-bytes.ensures.ok b t ∙ ap (λ n. part b n c.args.header.now.vocabulary_len) c.from.ensures)

pub returns-in_err-bytes-clause-exact : goal.returns-in_err-bytes-clause-exact
returns-in_err-bytes-clause-exact g c = λ b t. judged_along _ _ c.from_residual.result (c.in_err-bytes.ensures.err _) c.from_residual.ensures.1

pub returns-in_err-words-clause-exact : goal.returns-in_err-words-clause-exact
returns-in_err-words-clause-exact g c = λ b t.
    let read = (goal.at.returns-in_err-words-clause-exact g c).After-deref in
    judges_by _ _ c.from_residual-in_err-words.result (stage g read b t)
    (two_first (cutting g read) (judging g read) _ c.from_residual-in_err-words.result c.in_err-words.ensures.exact c.from_residual-in_err-words.ensures.1)

pub judge_words-requires : goal.judge_words-requires
judge_words-requires g c =
    let count = words_count (seen_header c.args.header.now) c.as_slice.result.now c.deref.result.now c.in_ok-words.ensures.exact
    (c.as_slice.ensures ∙ c.in_ok-words.ensures.words) in
    let few = c.requires.ranges.words in
    record { few = omega (arith, count, few) }

pub returns-in_err-judge_words-clause-exact : goal.returns-in_err-judge_words-clause-exact
returns-in_err-judge_words-clause-exact g c = λ b t.
    let read = (goal.at.returns-in_err-judge_words-clause-exact g c).After-deref in
    let words = c.as_slice.ensures ∙ c.in_ok-words.ensures.words in
    let refused = subst (λ ws. Refuses (words_judged ws) c.in_err-judge_words.field-0.0) words c.in_err-judge_words.ensures.exact in
    judges_by _ _ c.from_residual-in_err-judge_words.result (stage g read b t)
    (two_last (cutting g read) (judging g read) c.from_residual-in_err-judge_words.result c.in_ok-words.ensures.exact
    (judged_along (judging g read) c.in_err-judge_words.field-0.0 c.from_residual-in_err-judge_words.result refused
    c.from_residual-in_err-judge_words.ensures.1))

pub returns-clause-exact : goal.returns-clause-exact
returns-clause-exact g c = λ b t.
    let read = (goal.at.returns-clause-exact g c).After-deref in
    let words = c.as_slice.ensures ∙ c.in_ok-words.ensures.words in
    stage g read b t ∙ none_of_all (cutting g read) (judging g read ∷ []) c.in_ok-words.ensures.exact
    (none_of_all (judging g read) [] (ap words_judged (sym words) ∙ c.in_ok-judge_words.ensures.exact) refl)

pub returns-clause-words : goal.returns-clause-words
returns-clause-words g c = λ b t.
    let at = c.deref.ensures.value ∙ c.in_ok-bytes.ensures.ok b t ∙ ap (λ n. part b n c.args.header.now.vocabulary_len) c.from.ensures in
    c.in_ok-words.ensures.words ∙ words_are b (seen_header c.args.header.now) c.deref.result.now (c.requires.told b t) at

pub returns-clause-ruled : goal.returns-clause-ruled
returns-clause-ruled g c =
    has_vocabulary (seen_header c.args.header.now) c.in_ok-words.words c.deref.result.now (ap length c.deref.ensures.value ∙ c.in_ok-bytes.ensures.long)
    c.in_ok-words.ensures.exact c.in_ok-words.ensures.words
    (ap words_judged (sym c.as_slice.ensures) ∙ c.in_ok-judge_words.ensures.exact)

pub returns-clause-small : goal.returns-clause-small
returns-clause-small g c = λ b t. bytes_at b c.from.result vocabulary_at _ _ c.from.ensures refl (c.in_ok-bytes.ensures.small b t)
