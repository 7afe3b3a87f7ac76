-- Summaries: a trial has one, and its four counts of plans make up its requests.
--
--   plans_length         as many plans as queries
--   all_counted          each plan is one of four
--   plans_are_counted    the counts make up the number of queries
--   summaries_are_one    a trial has one summary
use Rattle.std.proofs.Common.{◌≡◌, ℕ, ◌+◌, List, [], ◌∷◌, length, refl, sym, ap, ◌∙◌, arith}
use Rattle.cs_base.specs.declared.index.plan.Plan.{Plan}
use Rattle.cs_base.specs.declared.index.plan.Plan.TheVariants.{Same, Narrow, Extend, Fresh}
use Rattle.cs_base.specs.declared.content.query.Query.{Query}
use Rattle.cs_base.specs.declared.content.scores.TheConstants.{USUAL_WEIGHTS}
use Rattle.cs_model.specs.Corpus.{Corpus}
use Rattle.cs_model_index.specs.declared.limits.TheConstants.{TARGET}
use Rattle.cs_model_index.proofs.ImageLemmas.{images_are_one}
use Rattle.cs_model_kept.specs.KeptList.{KeptList, plans, after_own, is_same}
use Rattle.cs_model_trial.specs.Summary.{trial_corpus, trial_plans, is_narrow, is_extend, is_fresh, counted, summary, SummariesAreOne, PlansAreCounted}

plans_length : (k : Corpus) (room : ℕ) (held : KeptList) (qs : List Query) → length (plans k room held qs) ≡ length qs
plans_length k room held [] = refl
plans_length k room held (q ∷ qs) = (let rest = plans_length k room (after_own held room q k) qs in omega (arith, rest))

all_counted : (ps : List Plan) → counted is_same ps + counted is_narrow ps + counted is_extend ps + counted is_fresh ps ≡ length ps
all_counted [] = refl
all_counted (Same ∷ ps) = (let rest = all_counted ps in omega (arith, rest))
all_counted (Narrow cut ∷ ps) = (let rest = all_counted ps in omega (arith, rest))
all_counted (Extend ∷ ps) = (let rest = all_counted ps in omega (arith, rest))
all_counted (Fresh ∷ ps) = (let rest = all_counted ps in omega (arith, rest))

pub plans_are_counted : PlansAreCounted
unfolding trial_plans
plans_are_counted k qs = all_counted (trial_plans k qs) ∙ plans_length k _ [] qs

pub summaries_are_one : SummariesAreOne
summaries_are_one n s t h i =
    h.told ∙ ap (λ image. summary n (trial_corpus n) (length image.heads)) (images_are_one (trial_corpus n) TARGET USUAL_WEIGHTS h.image i.image h.indexed i.indexed) ∙ sym i.told
