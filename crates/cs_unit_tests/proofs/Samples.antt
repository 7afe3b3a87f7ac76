-- The sample is sorted.
use Rattle.std.proofs.Common.{ℕ, zero, suc, ◌<◌, ◌≤◌, get_or, refl, arith}
use Rattle.std.specs.List.Sorted.{IsStrictlySortedBy}
use Rattle.cs_base.specs.content.Orders.{AreSorted}
use Rattle.cs_base.specs.declared.content.doc.Scored.{Scored}
use Rattle.cs_base.specs.declared.content.doc.Base.TheVariants.{Listed}
use Rattle.cs_base.specs.declared.content.limits.TheConstants.{MAX_DOCS}
use Rattle.cs_rank.specs.DocScores.{IsBase}
use Rattle.cs_unit_tests.specs.Sample.{sample, sample_base}

pub sample-sorted : AreSorted sample
unfolding IsStrictlySortedBy
sample-sorted = ((refl, (refl, (refl, (refl, tt)))), ((refl, (refl, (refl, tt))), ((refl, (refl, tt)), ((refl, tt), (tt, tt)))))

-- no score of the base is above its limit
few : (k : ℕ) (h : Scored) → k < 2 → (get_or sample_base k h).score ≤ MAX_DOCS
few zero h lt = omega arith
few (suc zero) h lt = omega arith
few (suc (suc k)) h lt = absurd (omega (arith, lt))

pub sample_base-is_base : IsBase (Listed sample_base)
unfolding IsStrictlySortedBy
sample_base-is_base = (((refl, tt), (tt, tt)), few)
