-- Stages that follow each other: the first that finds a broken rule counts.
--
--   refuses_first, refuses_rest      the fault of a stage is that of all, where none before it finds one
--   none_of_all                      where no stage finds one, none is broken
--   judged_along, caused_along   an answer that passes a fault on
--   judges_by            a stage by another name
--   tried_none, or_parts     a rule that was tried holds where nothing is found, and two tests find nothing where neither does
--   on_ok                what holds anyhow holds of an Ok
--   if_ok_both           two facts of an Ok together
--   two_first, two_last, three_first, three_second, three_last     of two or three rules, the fault of the first, and the answer of a later one
use Rattle.std.proofs.Common.{◌≡◌, ℕ, false, true≢false, arith, List, [], ◌∷◌, Option, Some, None, Result, Ok, Err, refl, sym, ap, subst, ◌∙◌}
use Rattle.std.specs.Option.{option_or}
use Rattle.std.specs.Result.{IsErrAnd, IfOk, OnOk}
use Rattle.cs_base.specs.declared.index.block.Broken.{Broken}
use Rattle.cs_model.specs.First.{first_reason}
use Rattle.cs_model_index.specs.BlockRules.{broken_at}
use Rattle.cs_model_index.specs.FileRules.{tried}
use Rattle.cs_file.specs.declared.fault.OpenFault.{OpenFault}
use Rattle.cs_file.specs.declared.fault.OpenFault.TheVariants as opens
use Rattle.cs_file.specs.CallAnswers.{is_read_of_open}
use Rattle.cs_file.specs.Indexes.{CausedReads}
use Rattle.cs_file.specs.Opening.{Refuses, Judges}

-- ---- what is known of a rule that was tried
pub tried_none : (n : ℕ) (o : Option ℕ) → tried n o ≡ None → o ≡ None
tried_none n None e = refl
tried_none n (Some at) e = absurd cc

pub or_parts : (o p : Option ℕ) → option_or o p ≡ None → (o ≡ None) × (p ≡ None)
or_parts None p e = (refl, e)
or_parts (Some x) p e = absurd cc

-- ---- stages
pub refuses_at : (o p : Option Broken) (e : OpenFault) → ((b : Broken) → o ≡ Some b → p ≡ Some b) → Refuses o e → Refuses p e
refuses_at o p (opens.Damaged rule at) same h = same (broken_at rule at) h
refuses_at o p opens.Read same h = tt
refuses_at o p opens.Memory same h = tt

first_some : (o : Option Broken) (os : List (Option Broken)) (b : Broken) → o ≡ Some b → first_reason (o ∷ os) ≡ Some b
first_some o os b e = ap (λ (x : Option Broken). first_reason (x ∷ os)) e

pub first_none : (o : Option Broken) (os : List (Option Broken)) → o ≡ None → first_reason (o ∷ os) ≡ first_reason os
first_none o os e = ap (λ (x : Option Broken). first_reason (x ∷ os)) e

pub refuses_first : (o : Option Broken) (os : List (Option Broken)) (e : OpenFault) → Refuses o e → Refuses (first_reason (o ∷ os)) e
refuses_first o os e h = refuses_at o (first_reason (o ∷ os)) e (first_some o os) h

pub refuses_rest : (o : Option Broken) (os : List (Option Broken)) (e : OpenFault) → o ≡ None → Refuses (first_reason os) e → Refuses (first_reason (o ∷ os)) e
refuses_rest o os e none h = refuses_at (first_reason os) (first_reason (o ∷ os)) e (λ b s. first_none o os none ∙ s) h

pub none_of_all : (o : Option Broken) (os : List (Option Broken)) → o ≡ None → first_reason os ≡ None → first_reason (o ∷ os) ≡ None
none_of_all o os none rest = first_none o os none ∙ rest

-- an answer that passes a fault on
pub judged_along : {T : Type 0} (o : Option Broken) (e : OpenFault) (r : Result T OpenFault) → Refuses o e → IsErrAnd r (λ x. x ≡ e) → Judges o r
judged_along o e (Ok x) h is = absurd is
judged_along o e (Err x) h is = subst (Refuses o) (sym is) h

pub judges_by : {T : Type 0} (o p : Option Broken) (r : Result T OpenFault) → o ≡ p → Judges p r → Judges o r
judges_by o p r same h = subst (λ (x : Option Broken). Judges x r) (sym same) h

-- a fault that is no failed read is passed on, where no read failed
pub caused_along : {T : Type 0} (e : OpenFault) (r : Result T OpenFault) (before now : ℕ) → is_read_of_open {T = T} (Err e) ≡ false → IsErrAnd r (λ x. x ≡ e)
    → now ≡ before → CausedReads (is_read_of_open r) before now
caused_along e (Ok x) before now unread is same = absurd is
caused_along {T} e (Err x) before now unread is same =
    let no : is_read_of_open {T = T} (Err x) ≡ false = ap (λ (y : OpenFault). is_read_of_open {T = T} (Err y)) is ∙ unread in
    record { later = omega (arith, same); quiet = λ h. same; failed = λ h. absurd (true≢false (sym h ∙ no)) }

pub if_ok_both : {T E : Type 0} (r : Result T E) (P Q R : T → Type 0) → ((x : T) → P x → Q x → R x) → IfOk r P → IfOk r Q → IfOk r R
if_ok_both (Ok x) P Q R f p q = f x p q
if_ok_both (Err e) P Q R f p q = tt

pub on_ok : {T E : Type 0} (r : Result T E) (P : Type 0) → P → OnOk r P
on_ok (Ok x) P p = p
on_ok (Err e) P p = tt

-- two rules, one tried behind the other
pub two_first : {T : Type 0} (o p : Option Broken) (e : OpenFault) (r : Result T OpenFault) → Refuses o e → IsErrAnd r (λ x. x ≡ e)
    → Judges (first_reason (o ∷ p ∷ [])) r
two_first o p e r h is = judged_along (first_reason (o ∷ p ∷ [])) e r (refuses_first o (p ∷ []) e h) is

only : (o : Option Broken) → first_reason (o ∷ []) ≡ o
only None = refl
only (Some x) = refl

pub two_last : {T : Type 0} (o p : Option Broken) (r : Result T OpenFault) → o ≡ None → Judges p r → Judges (first_reason (o ∷ p ∷ [])) r
two_last o p r none h = judges_by (first_reason (o ∷ p ∷ [])) p r (first_none o (p ∷ []) none ∙ only p) h

-- three rules, one tried behind the other
pub three_first : {T : Type 0} (o p q : Option Broken) (e : OpenFault) (r : Result T OpenFault) → Refuses o e → IsErrAnd r (λ x. x ≡ e)
    → Judges (first_reason (o ∷ p ∷ q ∷ [])) r
three_first o p q e r h is = judged_along (first_reason (o ∷ p ∷ q ∷ [])) e r (refuses_first o (p ∷ q ∷ []) e h) is

pub three_second : {T : Type 0} (o p q : Option Broken) (e : OpenFault) (r : Result T OpenFault) → o ≡ None → Refuses p e → IsErrAnd r (λ x. x ≡ e)
    → Judges (first_reason (o ∷ p ∷ q ∷ [])) r
three_second o p q e r none h is = judged_along (first_reason (o ∷ p ∷ q ∷ [])) e r (refuses_rest o (p ∷ q ∷ []) e none (refuses_first p (q ∷ []) e h)) is

pub three_last : {T : Type 0} (o p q : Option Broken) (r : Result T OpenFault) → o ≡ None → p ≡ None → Judges q r → Judges (first_reason (o ∷ p ∷ q ∷ [])) r
three_last o p q r none fine h = judges_by (first_reason (o ∷ p ∷ q ∷ [])) q r (first_none o (p ∷ q ∷ []) none ∙ first_none p (q ∷ []) fine ∙ only q) h
