-- A fault of the code as the judgement that it stands for.
--
--   IsSearch j        the judgement asks a search
--   IsHeadCause j e   e is the refusal of the judgement j; want of memory comes of a search alone, whose parameters are copied
use Rattle.std.specs.Prelude.{◌≡◌, Bool, List, ℕ}
use Rattle.cs_model_serving.specs.Heads.{Judgement, asks, refused, not_head, with_body, other_path, other_method}
use Rattle.cs_http.specs.declared.heads.HeadFault.{HeadFault}
use Rattle.cs_http.specs.declared.heads.HeadFault.TheVariants as faults

-- of any parameters, also of none
abbrev pub IsSearch : Judgement → Type 0
IsSearch j = (params : List ℕ) × (close : Bool) × (j ≡ asks params close)

-- a refused head is never told as want of memory
abbrev pub IsHeadCause : Judgement → HeadFault → Type 0
IsHeadCause j faults.NotHead = j ≡ refused not_head
IsHeadCause j faults.Body = j ≡ refused with_body
IsHeadCause j (faults.Path close) = j ≡ refused (other_path close)
IsHeadCause j (faults.Method close) = j ≡ refused (other_method close)
IsHeadCause j faults.Memory = IsSearch j
