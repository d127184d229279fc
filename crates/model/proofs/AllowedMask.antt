-- Refusal 1 of typed values: what admission comes to with an allowed mask, and with another.
use mathlib.Core.Path.{◌≡◌, ap}
use mathlib.Core.Bool.{Bool, true, false}
use Rattle.model.specs.declared.Job as Typed
use Rattle.model.specs.planning.Job.{job_of}
use Rattle.model.specs.planning.Words.{good_mask}
use Rattle.model.specs.planning.Admission.{typed, Admission, refused_at, Rules, job_admission, admission}

module _ (r : Rules) (t : Typed.Job) where
  by_mask : Bool → Admission
  by_mask b = elim b [ true ↦ job_admission r (job_of t) | false ↦ refused_at 1 0 ]

  pub mask-refused : good_mask t.mask ≡ false → admission r (typed t) ≡ refused_at 1 0
  unfolding by_mask
  mask-refused e = ap by_mask e

  pub mask-passed : good_mask t.mask ≡ true → admission r (typed t) ≡ job_admission r (job_of t)
  unfolding by_mask
  mask-passed e = ap by_mask e
