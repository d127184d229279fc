-- The planned motion of an axis at a reachable arrival: from the landing tick T on it
-- is the planned target of rule 3.
use Prim.Native.Nat.{ℕ, suc, ◌+◌, ◌≤◌, ◌<◌}
use mathlib.Core.Path.{◌≡◌, sym, ap, ap₂, ◌∙◌}
use mathlib.Core.List.{List, ◌∷◌}
use native.Mathlib.Omega.{arith}
use lib.ListN.{get_or, length, replicate}
use lib.IntN.{ℤ, pos, ◌+ℤ◌, ◌-ℤ◌}
use Rattle.whole.proofs.Laws.{add-sub}
use Rattle.model.specs.declared.Axis.{Axis}
use Rattle.model.specs.planning.Quantities.{delay}
use Rattle.model.specs.planning.Leg.{Meets, chosen, travelled}
use Rattle.model.specs.planning.Motion.{Tick, run, leg, displacement, required_sum, planned, earlier}
use Rattle.model.specs.planning.Motion.{start_position, start_velocity, landing_tick, landing_position}
use Rattle.model.specs.planning.Motion.{landing_velocity, landing_acceleration}
use Rattle.model.specs.planning.Rows.{planned_axis, tick_at}
use Rattle.model.specs.planning.Refusals.{Plannable}
use Rattle.theorems.proofs.jobs.PlannableAxis as R
use Rattle.theorems.proofs.legs.ChosenMeets.{chosen-meets, chosen-length}
use Rattle.theorems.proofs.motions.PlannedMotion.{run-over, run-steady, steady_tick, distance_is, final-is}
use Rattle.theorems.proofs.motions.PlannedMotion.{distance}
use Rattle.theorems.proofs.motions.PlannedMotion.{final}

-- j ticks after the landing
abbrev pub landed : Axis → ℕ → ℕ → Tick
landed x n j = steady_tick (landing_position x n) (landing_velocity x n) (landing_acceleration x n) j

module _ (x : Axis) (n : ℕ) (r : Plannable x n) where
  some : 0 < landing_tick x n
  some = omega (arith, R.after x n r)

  -- the velocities chosen for ticks 1 to T
  abbrev velocities : List ℤ
  velocities = chosen (leg x n) (required_sum x n)

  pub meets : Meets (leg x n) (displacement x n) (λ k. get_or (start_velocity x ∷ velocities) k (pos 0))
  meets = chosen-meets (leg x n) (displacement x n) some (R.some-acceleration x n r)
      (R.speed-range x n r) (R.moves x n r)

  pub velocities-length : length velocities ≡ landing_tick x n
  velocities-length = chosen-length (leg x n) (required_sum x n) some

  lands-position : start_position x +ℤ distance (start_velocity x) velocities ≡ landing_position x n
  lands-position = ap (λ (z : ℤ). start_position x +ℤ z) went ∙ add-sub (start_position x) (landing_position x n)
    where
      went : distance (start_velocity x) velocities ≡ landing_position x n -ℤ start_position x
      went =
          distance_is (start_velocity x) velocities
          ∙ ap (travelled (λ i. get_or (start_velocity x ∷ velocities) i (pos 0))) velocities-length
          ∙ meets.travels

  lands-velocity : final (start_velocity x) velocities ≡ landing_velocity x n
  lands-velocity =
      final-is (start_velocity x) velocities
      ∙ ap (λ (k : ℕ). get_or (start_velocity x ∷ velocities) k (pos 0)) velocities-length
      ∙ meets.ends

  planned-landed : (j : ℕ) (d : Tick) → j ≤ delay x → get_or (planned x n) (landing_tick x n + j) d ≡ landed x n j
  planned-landed j d h =
      ap (λ (k : ℕ). get_or (planned x n) (k + j) d) (sym velocities-length)
      ∙ run-over (start_position x) (start_velocity x) velocities
      (replicate (suc (delay x)) (landing_acceleration x n)) d j
      ∙ ap₂ (λ (q v : ℤ). get_or (run q v (replicate (suc (delay x)) (landing_acceleration x n))) j d)
      lands-position lands-velocity
      ∙ run-steady (landing_position x n) (landing_velocity x n) (landing_acceleration x n)
      (suc (delay x)) j d (omega arith)

  pub tick-landed : (j : ℕ) → j ≤ delay x → tick_at (planned_axis n x) (landing_tick x n + j) ≡ landed x n j
  tick-landed j h = planned-landed j (earlier x 0) h
