-- The responses that say that the index wasn't read, or that it changed.
--
--   memory_is_constant                       the memory response is that of a 503
--   read_counts, changed_counts              each is counted once, as what it is
--   answer_counts                            a response to a head is neither
--   reads-append, changes-append             responses behind others
use Rattle.std.proofs.Common.{◌≡◌, ℕ, ◌+◌, Bool, true, false, not, cond, ◌&&◌, ◌==◌, List, ◌++◌, Option, Some, None, refl, ap, codes}
use Rattle.std.specs.Str.{bytes_eq}
use Rattle.std.specs.Fmt.{digits}
use Rattle.std.proofs.lemmas.List.Sums.{sum_by-append}
use Rattle.json.specs.Print.{escape_byte}
use Rattle.cs_model.specs.Corpus.{Corpus}
use Rattle.cs_model.specs.Faults.{error_text, changed_text}
use Rattle.cs_model.specs.Parameters.{RequestRefusal, request_refusal}
use Rattle.cs_model_serving.specs.Heads.{HeadRefusal, not_head, with_body, other_path, other_method, Judgement, refused, asks, judge}
use Rattle.cs_model_serving.specs.Responses.{Response, wrapped, response_bytes, status_by, to_refused, to_judgement, response_to, read_failed, index_changed, out_of_memory, memory_bytes}
use Rattle.cs_model_serving.specs.Connections.{says_read, says_changed, reads, changes}

pub memory_is_constant : memory_bytes ≡ response_bytes out_of_memory
unfolding memory_bytes wrapped error_text escape_byte digits
memory_is_constant = refl

pub read_counts : (close : Bool) → (says_read (read_failed close) ≡ true) × (says_changed (read_failed close) ≡ false)
unfolding error_text escape_byte
read_counts close = (refl, refl)

pub changed_counts : (rule at : ℕ) (close : Bool) → (says_read (index_changed rule at close) ≡ false) × (says_changed (index_changed rule at close) ≡ true)
unfolding error_text changed_text escape_byte
changed_counts rule at close = (refl, refl)

-- a status that isn't 500
abbrev IsAnswer : Response → Type 0
IsAnswer r = (r.status == 500) ≡ false

answer_by : (k : Corpus) (p : List ℕ) (close : Bool) (r : Option RequestRefusal) → (status_by r == 500) ≡ false
answer_by k p close None = refl
answer_by k p close (Some r) = refl

answer_refused : (r : HeadRefusal) → IsAnswer (to_refused r)
answer_refused not_head = refl
answer_refused with_body = refl
answer_refused (other_path close) = refl
answer_refused (other_method close) = refl

answer_judged : (k : Corpus) (j : Judgement) → IsAnswer (to_judgement k j)
answer_judged k (refused r) = answer_refused r
answer_judged k (asks p close) = answer_by k p close (request_refusal p)

not_counted : (r : Response) → IsAnswer r → (says_read r ≡ false) × (says_changed r ≡ false)
not_counted r h = (ap (λ t. t && bytes_eq r.body (error_text (codes "read"))) h, ap (λ t. t && not (says_read r)) h)

pub answer_counts : (k : Corpus) (bytes : List ℕ) → (says_read (response_to k bytes) ≡ false) × (says_changed (response_to k bytes) ≡ false)
unfolding response_to
answer_counts k bytes = not_counted (to_judgement k (judge bytes)) (answer_judged k (judge bytes))

pub reads-append : (a b : List Response) → reads (a ++ b) ≡ reads a + reads b
reads-append a b = sum_by-append (λ r. cond (says_read r) 1 0) a b

pub changes-append : (a b : List Response) → changes (a ++ b) ≡ changes a + changes b
changes-append a b = sum_by-append (λ r. cond (says_changed r) 1 0) a b
