-- The ranges of the planned velocities at every tick, from those of the plan.
use mathlib.Core.Path.{◌≡◌, sym, subst}
use Rattle.whole.proofs.Laws.{nat_abs-*}
use Rattle.whole.specs.Ranges.{Within, Is}
use Rattle.whole.proofs.Tests.{by_bool}
use Prim.Native.Nat.{ℕ, suc, ◌-◌, ◌*◌, ◌^◌, ◌≤◌}
use native.Mathlib.Omega.{arith}
use native.Mathlib.Nat.{mul-le-mul_right}
use lib.Dec.{ltb}
use lib.IntN.{ℤ, pos, nat_abs, ◌*ℤ◌}
use Rattle.std.specs.Prelude.{Option, None, Some}
use Rattle.planned.specs.declared.AxisPlan.{AxisPlan}
use Rattle.planned.specs.Plans.{arrival_of, PlanRanges, planned_at, velocity_back, blends_by, total_weight}
use Rattle.planned.proofs.Velocities.{planned-start}

-- the size of a number times a weight
pub weighed : (w : ℕ) (v : ℤ) → nat_abs (pos w *ℤ v) ≡ w * nat_abs v
weighed w v = nat_abs-* (pos w) v

pub blends-some : (s : Option ℕ) → 1 ≤ blends_by s
blends-some None = omega arith
blends-some (Some d) = omega arith

module _ (p : AxisPlan) (s : PlanRanges p) where
  -- ---- the planned velocities, weighed

  planned-weighed : (k : ℕ) → k ≤ suc (arrival_of p) → total_weight p * nat_abs (planned_at p k) ≤ 2 ^ 45
  planned-weighed k h =
      subst (λ (n : ℕ). n ≤ 2 ^ 45) (weighed (total_weight p) (planned_at p k)) (s.velocities k h).within

  pub start-weighed : total_weight p * nat_abs p.regions.start ≤ 2 ^ 45
  start-weighed =
      subst (λ (v : ℤ). total_weight p * nat_abs v ≤ 2 ^ 45) (sym (planned-start p s.some))
      (planned-weighed 0 (omega arith))

  pub back-weighed : (d k : ℕ) → k ≤ suc (arrival_of p) → total_weight p * nat_abs (velocity_back p d k) ≤ 2 ^ 45
  unfolding velocity_back
  back-weighed d k h =
      by_bool (λ (v : ℤ). total_weight p * nat_abs v ≤ 2 ^ 45) (ltb k d) _ _
      (λ t. start-weighed)
      (λ t. planned-weighed (k - d) (omega arith))

  -- and as they are
  unweighed : (v : ℤ) → total_weight p * nat_abs v ≤ 2 ^ 45 → nat_abs v ≤ 2 ^ 38
  unweighed v h = omega (arith, h, mul-le-mul_right (nat_abs v) s.weighs)

  pub planned-within : (k : ℕ) → k ≤ suc (arrival_of p) → Within (2 ^ 38) (planned_at p k)
  planned-within k h = record { within = unweighed (planned_at p k) (planned-weighed k h) }

  pub back-within : (d k : ℕ) → k ≤ suc (arrival_of p) → Within (2 ^ 38) (velocity_back p d k)
  back-within d k h = record { within = unweighed (velocity_back p d k) (back-weighed d k h) }

  -- ---- of numbers that are known to be these

  pub planned-is : (k : ℕ) (v : ℤ) → k ≤ suc (arrival_of p) → v ≡ planned_at p k → Is (2 ^ 38) v (planned_at p k)
  planned-is k v h e = record { is = e; within = (planned-within k h).within }

  pub behind-is : (d k : ℕ) (v : ℤ) → k ≤ suc (arrival_of p) → v ≡ velocity_back p d k
      → Is (2 ^ 38) v (velocity_back p d k)
  behind-is d k v h e = record { is = e; within = (back-within d k h).within }
