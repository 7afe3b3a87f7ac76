-- How the response to a head is made.
--
--   body_text b            the bytes of the body of an answer
--   response a             an answer of the code, as a response
--   IsJudgedSo e r         r is the response to each judgement that the fault e of a head stands for
--   response_for close o   the response by what came of parameters
--   WantsMemory o          memory may run out where this is made into a response
use Rattle.std.specs.Prelude.{◌≡◌, ℕ, Bool, List, Option, Some, None, Ok, Err}
use Rattle.cs_file.specs.declared.fault.FetchFault.TheVariants as fetches
use Rattle.cs_http.specs.declared.heads.HeadFault.{HeadFault}
use Rattle.cs_http.specs.Judging.{IsHeadCause}
use Rattle.cs_json.specs.FaultTexts.{fault_text}
use Rattle.cs_json.specs.declared.fault.Fault.TheVariants as faults
use Rattle.cs_model.specs.Corpus.{Corpus}
use Rattle.cs_model_serving.specs.Heads.{Judgement}
use Rattle.cs_model_serving.specs.Responses.{Response, to_judgement}
use Rattle.cs_hub.specs.DueReads.{response_by}
use Rattle.cs_hub.specs.declared.answer.Answer.{Answer}
use Rattle.cs_hub.specs.declared.answer.Body.{Body}
use Rattle.cs_hub.specs.declared.answer.Body.TheVariants as bodies
use Rattle.cs_hub.specs.declared.outcomes.RequestOutcome.{RequestOutcome}
use Rattle.cs_hub.specs.declared.outcomes.RequestOutcome.TheVariants as outcomes

-- those of a reply, or those that a fault has
abbrev pub body_text : Body → List ℕ
body_text (bodies.Reply text) = text.items
body_text (bodies.Fault fault) = fault_text fault

-- its status, whether it closes the connection, and its body, which may be empty
abbrev pub response : Answer → Response
response a = record { status = a.status; closes = a.close; body = body_text a.body }

-- whatever corpus is asked; of want of memory nothing is said
abbrev pub IsJudgedSo : HeadFault → Response → Type 0
IsJudgedSo e r = (k : Corpus) (j : Judgement) → IsHeadCause j e → r ≡ to_judgement k j

-- by what came of parameters; by want of memory there is none
abbrev pub response_for : Bool → RequestOutcome → Option Response
response_for close (outcomes.Refused e) = Some (record { status = 400; closes = close; body = fault_text (faults.Refused e) })
response_for close (outcomes.Replied q r) = response_by close (Ok r)
response_for close outcomes.Read = response_by close (Err fetches.Read)
response_for close (outcomes.Changed rule at) = response_by close (Err (fetches.Changed rule at))
response_for close outcomes.Memory = None

-- the text of a reply takes memory; of another outcome want of memory is told only where it was met before
abbrev pub WantsMemory : RequestOutcome → Type 0
WantsMemory (outcomes.Refused e) = ⊥
WantsMemory (outcomes.Replied q r) = Unit {0}
WantsMemory outcomes.Read = ⊥
WantsMemory (outcomes.Changed rule at) = ⊥
WantsMemory outcomes.Memory = Unit {0}
