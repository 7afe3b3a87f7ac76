-- Words as they are typed, and sessions of them.
--
--   text_word_is      a text word by its draw
--   letter_more       one more letter of a word
--   texts_more        what stands there then, behind what stood there
--   session_is        the texts of a session, piece by piece
--   session_typed     the texts of a session, as the calls leave them
--   sessions_behind   a session takes two draws
--   session_drawn     a session by its draws
--   sessions_more     one more session
use Rattle.std.proofs.Common.{◌≡◌, ℕ, ◌+◌, ◌*◌, ◌<◌, List, [], ◌∷◌, ◌++◌, length, take, get_or, sym, ap, ◌∙◌, append_assoc, arith}
use Rattle.std.specs.Prelude.{map}
use Rattle.std.specs.List.{flat_map, range_with_len}
use Rattle.std.proofs.lemmas.List.{take_more}
use Rattle.std.proofs.lemmas.List.FromFn.{map-range_with_len_more}
use Rattle.cs_model_trial.specs.Generator.{next_state, behind, drawn, draws, word, line_draws, line_count}
use Rattle.cs_model_trial.specs.Sessions.{session_draws, text_word, typed_texts, session_at, session}
use Rattle.cs_model_trial.specs.declared.sizes.TheConstants.{WORDS}
use Rattle.cs_trial.proofs.DrawsLemmas.{behind_more, behind_sum, drawn_at}
use Rattle.cs_trial.proofs.TrialLineLemmas.{text_draws, flat_map_more}

fourth : (x : ℕ) → behind 4 x ≡ next_state (behind 3 x)
fourth x = behind_more 3 x

pub text_word_is : (n d j : ℕ) → j < 12 → word (drawn WORDS (behind (d * 16 + 4 + j) n)) ≡ text_word n d j
unfolding line_draws
text_word_is n d j h =
    let at = behind (d * 16) n in
    ap (λ x. word (drawn WORDS x)) (behind_sum (d * 16 + 4) j n ∙ ap (behind j) (behind_sum (d * 16) 4 n ∙ fourth at))
    ∙ ap word (sym (drawn_at 12 WORDS (next_state (behind 3 at)) j h)) ∙ ap (λ ds. word (get_or ds j 0)) (sym (text_draws at))

pub letter_more : (before w text : List ℕ) (i c : ℕ) → i < length w → c ≡ get_or w i 0 → text ≡ before ++ take i w → text ++ c ∷ [] ≡ before ++ take (i + 1) w
letter_more before w text i c h is told =
    ap (λ t. t ++ c ∷ []) told ∙ append_assoc before (take i w) (c ∷ []) ∙ ap (λ b. before ++ (take i w ++ b ∷ [])) is ∙ ap (λ t. before ++ t) (sym (take_more w i 0 h))

pub texts_more : (f : ℕ → List ℕ) (old now : List (List ℕ)) (i : ℕ) (text : List ℕ) → now ≡ old ++ map f (range_with_len 1 i) → text ≡ f (i + 1) → now ++ text ∷ [] ≡ old ++ map f (range_with_len 1 (i + 1))
texts_more f old now i text told is =
    let e : 1 + i ≡ i + 1 = omega arith in
    ap (λ ts. ts ++ text ∷ []) told ∙ append_assoc old (map f (range_with_len 1 i)) (text ∷ []) ∙ ap (λ t. old ++ (map f (range_with_len 1 i) ++ t ∷ [])) is
    ∙ ap (λ ts. old ++ ts) (sym (map-range_with_len_more f 1 i (i + 1) e))

pub session_is : (old : List (List ℕ)) (a b : List ℕ) → length a ≡ 6 → length b ≡ 6
    → ((old ++ map (λ c. [] ++ take c a) (range_with_len 1 (length a))) ++ map (λ c. (a ++ 32 ∷ []) ++ take c b) (range_with_len 1 (length b))) ++ a ∷ [] ≡ old ++ typed_texts a b
session_is old a b ha hb = rw (ha, hb) (simp append_assoc)

-- what the calls of a session leave, one after the other
pub record HasTyped (old first second all : List (List ℕ)) (before text behind alone a b : List ℕ) : Type 0 where
  pub begins : before ≡ []
  pub types : text ≡ before ++ a
  pub copies : alone ≡ text
  pub spaces : behind ≡ text ++ 32 ∷ []
  pub adds_first : first ≡ old ++ map (λ c. before ++ take c a) (range_with_len 1 (length a))
  pub adds_second : second ≡ first ++ map (λ c. behind ++ take c b) (range_with_len 1 (length b))
  pub adds_alone : all ≡ second ++ alone ∷ []

pub session_typed : (old first second all : List (List ℕ)) (before text behind alone a b u v : List ℕ) → HasTyped old first second all before text behind alone a b → a ≡ u → b ≡ v → length u ≡ 6 → length v ≡ 6 → all ≡ old ++ typed_texts u v
session_typed old first second all before text behind alone a b u v h ea eb hu hv =
    let word : text ≡ a = h.types ∙ ap (λ s. s ++ a) h.begins in
    let typed_first : first ≡ old ++ map (λ c. [] ++ take c a) (range_with_len 1 (length a)) = h.adds_first ∙ ap (λ s. old ++ map (λ c. s ++ take c a) (range_with_len 1 (length a))) h.begins in
    let spaced : behind ≡ a ++ 32 ∷ [] = h.spaces ∙ ap (λ s. s ++ 32 ∷ []) word in
    let ends : all ≡ (first ++ map (λ c. behind ++ take c b) (range_with_len 1 (length b))) ++ a ∷ [] = h.adds_alone ∙ ap (λ ts. ts ++ alone ∷ []) h.adds_second
    ∙ ap (λ s. (first ++ map (λ c. behind ++ take c b) (range_with_len 1 (length b))) ++ s ∷ []) (h.copies ∙ word) in
    ends
    ∙ ap (λ ts. (ts ++ map (λ c. behind ++ take c b) (range_with_len 1 (length b))) ++ a ∷ []) typed_first
    ∙ ap (λ s. ((old ++ map (λ c. [] ++ take c a) (range_with_len 1 (length a))) ++ map (λ c. s ++ take c b) (range_with_len 1 (length b))) ++ a ∷ []) spaced
    ∙ session_is old a b (ap length ea ∙ hu) (ap length eb ∙ hv)
    ∙ ap (λ w. old ++ typed_texts w b) ea ∙ ap (λ w. old ++ typed_texts u w) eb

pub sessions_behind : (n s x : ℕ) → x ≡ behind (line_count n * 16 + s * 2) n → next_state (next_state x) ≡ behind (line_count n * 16 + (s + 1) * 2) n
unfolding behind
sessions_behind n s x is =
    let e : line_count n * 16 + s * 2 + 2 ≡ line_count n * 16 + (s + 1) * 2 = omega arith in
    ap (behind 2) is ∙ sym (behind_sum (line_count n * 16 + s * 2) 2 n) ∙ ap (λ k. behind k n) e

pub session_drawn : (n s x : ℕ) → x ≡ behind (line_count n * 16 + s * 2) n → session_at n (drawn (line_count n) x) (drawn 12 (next_state x)) ≡ session n s
unfolding session session_draws draws
session_drawn n s x is = ap (λ y. session_at n (drawn (line_count n) y) (drawn 12 (next_state y))) is

pub sessions_more : (n s x : ℕ) (old now : List (List ℕ)) → x ≡ behind (line_count n * 16 + s * 2) n → old ≡ flat_map (session n) (range_with_len 0 s) → now ≡ old ++ session_at n (drawn (line_count n) x) (drawn 12 (next_state x)) → now ≡ flat_map (session n) (range_with_len 0 (s + 1))
sessions_more n s x old now is told more =
    more ∙ ap (λ ts. ts ++ session_at n (drawn (line_count n) x) (drawn 12 (next_state x))) told
    ∙ ap (λ ts. flat_map (session n) (range_with_len 0 s) ++ ts) (session_drawn n s x is) ∙ sym (flat_map_more (session n) s)
