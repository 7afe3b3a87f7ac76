-- The response to a head, from its parts.
--
--   none_of                          a count of one response that isn't counted
--   itself_given                     the response itself, which is no 500
--   params_counts                    that to parameters is none
--   given_searched, given_judged     that to a head: what its parameters give, or a refusal
--   by_head                          that to a head by the answers to what its parameters ask
use Rattle.std.proofs.Common.{◌≡◌, inl, ℕ, ◌+◌, ◌≤◌, ◌==◌, Bool, false, not, ◌&&◌, cond, List, [], ◌∷◌, Option, Some, None, codes, refl, sym, ◌∙◌, ap, subst}
use Rattle.std.proofs.Common.{arith}
use Rattle.std.specs.Str.{bytes_eq}
use Rattle.cs_http.specs.declared.heads.HeadFault.{HeadFault}
use Rattle.cs_http.specs.Judging.{IsHeadCause}
use Rattle.cs_model.specs.Corpus.{Corpus}
use Rattle.cs_model.specs.Faults.{error_text}
use Rattle.cs_model.specs.Parameters.{RequestRefusal, request_refusal}
use Rattle.cs_model_serving.specs.Heads.{Judgement, asks, judge}
use Rattle.cs_model_serving.specs.Responses.{Response, status_by, response_to, to_judgement, to_params}
use Rattle.cs_model_serving.specs.Connections.{says_read, says_changed, reads, changes}
use Rattle.cs_model_serving.proofs.CountLemmas.{answer_counts}
use Rattle.cs_hub.specs.DueReads.{Answered, IsBy, IsResponseBy, closes_behind}
use Rattle.cs_hub.specs.Responding.{IsJudgedSo}
use Rattle.cs_hub.specs.Streams.{RoseBy}
use Rattle.cs_hub.specs.Turns.{IsFor, IsGiven}
use Rattle.cs_hub.proofs.ByLemmas.{by_same}
use Rattle.cs_hub.proofs.SpeakLemmas.{rose_none}
use Rattle.cs_hub.proofs.ServedLemmas.{reads_cons, changes_cons}

pub is_response : (k : Corpus) (bytes : List ℕ) (j : Judgement) → judge bytes ≡ j → response_to k bytes ≡ to_judgement k j
unfolding response_to
is_response k bytes j e = ap (to_judgement k) e

-- the response itself, where it says neither
pub none_of : (n : ℕ) (b : Bool) → n ≡ cond b 1 0 + 0 → b ≡ false → n ≡ 0
none_of n b h e = h ∙ ap (λ x. cond x 1 0 + 0) e

pub itself_given : (right r : Response) (m n : ℕ) → r ≡ right → says_read r ≡ false → says_changed r ≡ false → m ≤ n → IsFor right r m n
itself_given right r m n e read changed later = record {
  replaces = inl e;
  unchanged = none_of (changes (r ∷ [])) (says_changed r) (changes_cons r []) changed;
  rose = subst (λ i. RoseBy i m n) (sym (none_of (reads (r ∷ [])) (says_read r) (reads_cons r []) read)) (rose_none m n later);
}

-- ---- parameters
-- a status that isn't 500
not_fault : (k : Corpus) (p : List ℕ) (r : Option RequestRefusal) → (status_by r == 500) ≡ false
not_fault k p None = refl
not_fault k p (Some r) = refl

pub params_counts : (k : Corpus) (p : List ℕ) (close : Bool) → (says_read (to_params k p close) ≡ false) × (says_changed (to_params k p close) ≡ false)
params_counts k p close =
    let h = not_fault k p (request_refusal p) in
    let r = to_params k p close in
    (ap (λ t. t && bytes_eq r.body (error_text (codes "read"))) h, ap (λ t. t && not (says_read r)) h)

-- ---- heads
pub given_searched : (Over : Corpus → Type 0) (bytes p : List ℕ) (close : Bool) (r : Response) (m n : ℕ) → judge bytes ≡ asks p close
    → IsGiven Over (λ k. to_params k p close) r m n → IsGiven Over (λ k. response_to k bytes) r m n
given_searched Over bytes p close r m n e h = λ k over. subst (λ x. IsFor x r m n) (sym (is_response k bytes (asks p close) e)) (h k over)

pub given_judged : (Over : Corpus → Type 0) (bytes : List ℕ) (fault : HeadFault) (r : Response) (m : ℕ) → IsHeadCause (judge bytes) fault → IsJudgedSo fault r
    → IsGiven Over (λ k. response_to k bytes) r m m
given_judged Over bytes fault r m cause h = λ k over.
    let e : r ≡ response_to k bytes = h k (judge bytes) cause ∙ sym (is_response k bytes (judge bytes) refl) in
    let counts = answer_counts k bytes in
    itself_given (response_to k bytes) r m m e (ap says_read e ∙ counts.0) (ap says_changed e ∙ counts.1) (omega arith)

-- ---- answers
pub by_head : (bytes p : List ℕ) (close : Bool) (xs : List Answered) (r : Response) → judge bytes ≡ asks p close → IsBy (λ k. to_params k p close) close xs r
    → IsResponseBy bytes xs r
by_head bytes p close xs r e h =
    by_same (λ k. to_params k p close) (λ k. response_to k bytes) (closes_behind (judge bytes)) xs r (λ k. sym (is_response k bytes (asks p close) e))
    (subst (λ b. IsBy (λ k. to_params k p close) b xs r) (sym (ap closes_behind e)) h)
