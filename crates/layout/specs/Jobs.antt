-- What the structs of include/polgamir.h stand for.
use Rattle.std.specs.Prelude.{ℕ, ◌/◌, ◌%◌, cond, List, [], ◌∷◌, eqb, Float}
use Rattle.model.specs.declared.Answer.{Answer}
use Rattle.model.specs.declared.Axis.{Axis}
use Rattle.model.specs.declared.Damping.TheVariants.{Ratio, Peaks}
use Rattle.model.specs.declared.Job.{Job}
use Rattle.model.specs.declared.RestPoint.{RestPoint}
use Rattle.std.specs.Prelude.{Option, None, Some}
use Rattle.model.specs.declared.State.{State}
use Rattle.model.specs.declared.Target.{Target}
use Rattle.model.specs.declared.Target.TheVariants.{Fixed, Moving}
use Rattle.model.specs.declared.Weight.{Weight}
use Rattle.model.specs.declared.Weight.TheVariants.{Given, Measured}
use Rattle.model.specs.declared.Windows.{Windows}
use Rattle.model.specs.planning.Job.{unset_axis}
use Rattle.layout.specs.declared.PolgamirAnswer.{PolgamirAnswer}
use Rattle.layout.specs.declared.PolgamirAxis.{PolgamirAxis}
use Rattle.layout.specs.declared.PolgamirJob.{PolgamirJob}
use Rattle.layout.specs.declared.PolgamirWindows.{PolgamirWindows}

-- ---- an axis

abbrev pub start_of : PolgamirAxis → RestPoint
start_of a = record { position = a.start_position; velocity = a.start_velocity }

abbrev pub fixed_of : PolgamirAxis → RestPoint
fixed_of a = record { position = a.target_position; velocity = a.target_velocity }

abbrev pub moving_of : PolgamirAxis → State
moving_of a =
    record {
      position = a.target_position;
      velocity = a.target_velocity;
      acceleration = a.target_acceleration;
      tick = a.target_tick;
    }

-- fixed where its kind is 0, moving where it is any other number
abbrev pub target_of : PolgamirAxis → Target
target_of a = cond (eqb a.target_kind 0) (Fixed (fixed_of a)) (Moving (moving_of a))

-- of an axis or of a tour's limits: the number given where the kind is 0, of a ratio where it is 1,
-- of two peaks where it is any other number
abbrev pub weight_from_c : ℕ → ℕ → Float → Float → Float → Weight
weight_from_c kind weight ratio first second =
    cond (eqb kind 0) (Given weight) (cond (eqb kind 1) (Measured (Ratio ratio)) (Measured (Peaks first second)))

-- of an axis or of a tour's limits: none where it is given by 0, and by any
-- other number of the half period
abbrev pub sway_of : ℕ → ℕ → Option ℕ
sway_of given period = cond (eqb given 0) None (Some period)

abbrev pub axis_from_c : PolgamirAxis → Axis
axis_from_c a =
    record {
      start = start_of a;
      speed_limit = a.speed_limit;
      acceleration_limit = a.acceleration_limit;
      half_period = a.half_period;
      second_weight =
          weight_from_c a.damping_kind a.second_weight a.swing_ratio a.first_peak a.second_peak;
      second_sway = sway_of a.second_sway_given a.second_half_period;
      target = target_of a;
    }

-- ---- a job

-- what the entries that a mask names stand for, its lowest bit standing for the first; the
-- others are not looked at, and unset
unfoldable pub named_of : {A B : Type 0} → (A → B) → B → ℕ → List A → List B
named_of f unset m [] = []
named_of f unset m (x ∷ xs) = cond (eqb (m % 2) 1) (f x) unset ∷ named_of f unset (m / 2) xs

abbrev pub axes_from_c : ℕ → List PolgamirAxis → List Axis
axes_from_c m l = named_of axis_from_c unset_axis m l

-- none where they are given by 0: what follows is then not looked at; by any other number as they
-- stand
abbrev pub windows_of : PolgamirWindows → Option Windows
windows_of w = cond (eqb w.given 0) None (Some (record { dwell = w.dwell; count = w.count; list = w.list }))

abbrev pub job_from_c : PolgamirJob → Job
job_from_c j =
    record { mask = j.mask; asked = j.asked; axes = axes_from_c j.mask j.axes; windows = windows_of j.windows }

-- ---- an answer

-- the planner's answer that C's holds
abbrev pub answer_for_c : PolgamirAnswer → Answer
answer_for_c r = record { number = r.number; place = r.place; mask = r.mask; arrival = r.arrival }
