-- What comes of parameters, for whatever is made of it: a response, or the text of a line.
--
-- Source: this engine's own.
--
--   IsRefusal e o            o is the refusal e, or want of memory where e is
--   IsOutcome p o            o may come of the parameters p: their first refusal, or something that their request can come to
--   ComesOf Leaves p s o t   asking what the parameters p ask led from the state s to t, by Leaves, and o came of it
--   IsRightOutcome k p o     over the corpus k a reply is the right one, and no change comes
--   TellsChange i told o     o, if it is a change, tells a rule that bytes of the index i break, and its place
--   fails_read o             a read failed
use Rattle.std.specs.Prelude.{◌≡◌, ◌≢◌, ◌⊎◌, Bool, true, false, List, ℕ, Option, None, Result, Ok, Err}
use Rattle.cs_rows.specs.IndexReading.{BreaksIndex}
use Rattle.cs_file.specs.declared.fault.FetchFault.{FetchFault}
use Rattle.cs_file.specs.declared.fault.FetchFault.TheVariants as fetches
use Rattle.cs_file.specs.Indexes.{IndexView}
use Rattle.cs_http.specs.Refusing.{IsCause}
use Rattle.cs_model.specs.Corpus.{Corpus}
use Rattle.cs_model.specs.Parameters.{request_of, request_refusal}
use Rattle.cs_model.specs.Replies.{Reply}
use Rattle.cs_model.specs.Requests.{Request, reply_of}
use Rattle.cs_query.specs.RequestView.{asked}
use Rattle.cs_query.specs.declared.request.ReqFault.{ReqFault}
use Rattle.cs_query.specs.declared.request.ReqFault.TheVariants as faults
use Rattle.cs_hub.specs.declared.outcomes.RequestOutcome.{RequestOutcome}
use Rattle.cs_hub.specs.declared.outcomes.RequestOutcome.TheVariants.{Refused, Replied, Read, Changed, Memory}

-- want of memory is told as itself, and nothing else comes of a refusal
abbrev pub IsRefusal : ReqFault → RequestOutcome → Type 0
IsRefusal e (Refused f) = (f ≡ e) × (e ≢ faults.Memory)
IsRefusal e (Replied q r) = ⊥
IsRefusal e Read = ⊥
IsRefusal e (Changed rule at) = ⊥
IsRefusal e Memory = e ≡ faults.Memory

-- the request of a reply is that of the parameters; of want of memory nothing is said
abbrev pub IsOutcome : List ℕ → RequestOutcome → Type 0
IsOutcome p (Refused e) = IsCause p e × (e ≢ faults.Memory)
IsOutcome p (Replied q r) = (request_refusal p ≡ None) × (asked q ≡ request_of p)
IsOutcome p Read = request_refusal p ≡ None
IsOutcome p (Changed rule at) = request_refusal p ≡ None
IsOutcome p Memory = Unit {0}

-- a refusal is the first one, and nothing was asked; else exactly the request of the parameters was, once. Want of memory is told of
-- either, or before anything was asked
abbrev pub ComesOf : {K : Type 0} → (K → Request → Result Reply FetchFault → K → Type 0) → List ℕ → K → RequestOutcome → K → Type 0
ComesOf Leaves p s (Refused e) t = IsCause p e × (e ≢ faults.Memory) × (t ≡ s)
ComesOf Leaves p s (Replied q r) t = (request_refusal p ≡ None) × (asked q ≡ request_of p) × Leaves s (asked q) (Ok r) t
ComesOf Leaves p s Read t = (request_refusal p ≡ None) × Leaves s (request_of p) (Err fetches.Read) t
ComesOf Leaves p s (Changed rule at) t = (request_refusal p ≡ None) × Leaves s (request_of p) (Err (fetches.Changed rule at)) t
ComesOf Leaves p s Memory t = (t ≡ s) ⊎ ((request_refusal p ≡ None) × Leaves s (request_of p) (Err fetches.Memory) t)

-- of a refusal, a failed read and want of memory nothing is said
abbrev pub IsRightOutcome : Corpus → List ℕ → RequestOutcome → Type 0
IsRightOutcome k p (Refused e) = Unit {0}
IsRightOutcome k p (Replied q r) = r ≡ reply_of k (request_of p)
IsRightOutcome k p Read = Unit {0}
IsRightOutcome k p (Changed rule at) = ⊥
IsRightOutcome k p Memory = Unit {0}

-- of a store that tells, these are its bytes; of other outcomes nothing is said
abbrev pub TellsChange : IndexView → Option (List ℕ) → RequestOutcome → Type 0
TellsChange i told (Changed rule at) = BreaksIndex i told rule at
TellsChange i told o = Unit {0}

-- no other outcome is one
abbrev pub fails_read : RequestOutcome → Bool
fails_read (Refused e) = false
fails_read (Replied q r) = false
fails_read Read = true
fails_read (Changed rule at) = false
fails_read Memory = false
