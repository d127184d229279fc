-- A job (docs/METHOD.md, section 6): its mask, its asked arrival (0: the least) and its axes, each
-- with its number, lowest first; and its windows, where it brings some (docs/METHOD.md, 3.8).
use Rattle.std.specs.Prelude.{ℕ, zero, suc, ◌+◌, ◌/◌, ◌%◌, ◌^◌, Bool, true, false, List, [], ◌∷◌, map, eqb, pos}
use Rattle.model.specs.declared.Axis.{Axis}
use Rattle.std.specs.Prelude.{Option, None}
use Rattle.model.specs.declared.Target.TheVariants.{Fixed}
use Rattle.model.specs.declared.Weight.TheVariants.{Given}
use Rattle.model.specs.declared.Windows.{Windows}
use Rattle.model.specs.declared.Job as Typed
use Rattle.model.specs.planning.Windows.{no_windows}

pub record JobAxis : Type 0 where
  pub number : ℕ
  pub axis : Axis

pub record Job : Type 0 where
  pub mask : ℕ
  pub asked : ℕ
  pub axes : List JobAxis
  pub windows : Option Windows

-- the numbers of the set bits of a mask, lowest first: of n bits, the lowest being number i
abbrev pub set_from : ℕ → ℕ → ℕ → List ℕ
set_from zero i m = []
set_from (suc n) i m =
    elim (eqb (m % 2) 1) [ true ↦ i ∷ set_from n (suc i) (m / 2) | false ↦ set_from n (suc i) (m / 2) ]

abbrev pub set_bits : ℕ → List ℕ
set_bits m = set_from 6 0 m

-- bit i of a mask
abbrev pub bit : ℕ → ℕ → Bool
bit m i = eqb (m / 2 ^ i % 2) 1

-- of six axes, those whose bit is set
abbrev pub set_axes : ℕ → ℕ → List Axis → List JobAxis
set_axes i m [] = []
set_axes i m (x ∷ xs) =
    elim (eqb (m % 2) 1) [
      | true ↦ record { number = i; axis = x } ∷ set_axes (suc i) (m / 2) xs
      | false ↦ set_axes (suc i) (m / 2) xs
    ]

-- the mask of the axes for which a test holds
abbrev pub mask_where : (Axis → Bool) → List JobAxis → ℕ
mask_where f [] = 0
mask_where f (x ∷ xs) = elim (f x.axis) [ true ↦ 2 ^ x.number + mask_where f xs | false ↦ mask_where f xs ]

-- the axes of a job without their numbers
abbrev pub axes_of : Job → List Axis
axes_of j = map (λ x. x.axis) j.axes

-- the job of a mask, an asked arrival, six axes and windows: of the axes, those that the mask names
abbrev pub job_with : ℕ → ℕ → List Axis → Option Windows → Job
job_with m asked six w = record { mask = m; asked = asked; axes = set_axes 0 m six; windows = w }

-- the job of typed values
abbrev pub job_of : Typed.Job → Job
job_of t = job_with t.mask t.asked t.axes t.windows

-- a job without windows
abbrev pub typed_job : ℕ → ℕ → List Axis → Job
typed_job m asked six = job_with m asked six no_windows

-- what stands where the mask names no axis: zero in every field, and no second sway
abbrev pub unset_axis : Axis
unset_axis =
    record {
      start = record { position = pos 0; velocity = pos 0 };
      speed_limit = 0;
      acceleration_limit = 0;
      half_period = 0;
      second_weight = Given 0;
      second_sway = None;
      target = Fixed (record { position = pos 0; velocity = pos 0 });
    }
