-- A trial computed: its first line, and its first session.
use Rattle.std.proofs.Common.{◌≡◌, ℕ, [], ◌∷◌, map, refl, codes}
use Rattle.std.specs.Prelude.{length}
use Rattle.std.specs.Fmt.{digits}
use Rattle.cs_model_trial.specs.Generator.{behind, draws, word, line_draws, trial_line}
use Rattle.cs_model_trial.specs.Sessions.{session_draws, session, texts}
use Rattle.cs_model_trial.specs.Summary.{summary_line}

-- word 0 is three times the first syllable
word-first : word 0 ≡ codes "bababa"
unfolding word
word-first = refl

-- the last word is three times the last one
word-last : word 4095 ≡ codes "tototo"
unfolding word
word-last = refl

-- the first line of trial 1, and its last one
lines-ends : map (λ k. trial_line (line_draws 1 k)) (0 ∷ 99 ∷ []) ≡
    codes "dotedi bodeke batata\tkind=di\tkodeki batobo kikeki katodi debike kokoki betoko datobi tedota bobiba takoki babata\n"
    ∷ codes "kibete batibi kekaki\tkind=de\tkitaki bobate tabiti botada kateda kitida tadita dotada bekibo kekido bokodi koketo\n"
    ∷ []
unfolding line_draws behind draws word
lines-ends = refl

-- its first session, and its last one
sessions-ends : map (session 1) (0 ∷ 19 ∷ []) ≡
    (
    codes "t" ∷ codes "ti" ∷ codes "tid" ∷ codes "tida" ∷ codes "tidab" ∷ codes "tidabe"
    ∷ codes "tidabe d" ∷ codes "tidabe de" ∷ codes "tidabe deb" ∷ codes "tidabe deba" ∷ codes "tidabe debab" ∷ codes "tidabe debabi"
    ∷ codes "tidabe" ∷ []
    ) ∷ (
    codes "b" ∷ codes "bo" ∷ codes "bok" ∷ codes "boka" ∷ codes "bokad" ∷ codes "bokade"
    ∷ codes "bokade b" ∷ codes "bokade bo" ∷ codes "bokade bot" ∷ codes "bokade bota" ∷ codes "bokade botat" ∷ codes "bokade botata"
    ∷ codes "bokade" ∷ []
    ) ∷ []
unfolding session session_draws line_draws behind draws word
sessions-ends = refl

-- each trial asks 260 texts
pub texts-count : (n : ℕ) → length (texts n) ≡ 260
unfolding texts session
texts-count n = refl

-- a line of a summary
line-replies : summary_line (codes "replies", 260) ≡ codes "replies 260\n"
unfolding digits
line-replies = refl
