-- An axis that has passed the refusals of one axis and reaches the arrival: it can be planned, and
-- its plan is within the ranges.
use mathlib.Core.Path.{◌≡◌, sym, ap₂, subst, ◌∙◌}
use mathlib.Core.Bool.{true}
use mathlib.Core.List.{[], ◌∷◌}
use Prim.Native.Nat.{ℕ, suc, ◌+◌, ◌-◌, ◌*◌, ◌^◌, ◌<◌, ◌≤◌}
use native.Mathlib.Omega.{arith}
use lib.Dec.{T}
use lib.IntN.{ℤ, pos, nat_abs, ◌+ℤ◌, ◌*ℤ◌}
use native.Mathlib.Decide.{dec_lt}
use native.Mathlib.Nat.{mul-le-mul_left, mul-le-mul_right}
use Rattle.whole.proofs.Laws.{nat_abs-+}
use Rattle.whole.proofs.Ring.{pol, same}
use Rattle.model.specs.declared.Axis.{Axis}
use Rattle.model.specs.planning.Quantities.{half_period, second_weight, delay, finer, speed_steps}
use Rattle.model.specs.planning.Leg.{Leg, feasible, required}
use Rattle.model.specs.planning.Motion.{start_position, landing_velocity, landing_acceleration, arrival_velocity, leg}
use Rattle.model.specs.planning.Motion.{displacement, required_sum}
use Rattle.model.specs.planning.Refusals.{Plannable}
use Rattle.regions.specs.declared.Regions.{Regions}
use Rattle.regions.specs.Regions.{chosen_regions, velocity_in}
use Rattle.regions.proofs.ChosenRegions.{chosen-within, chosen-ranged}
use Rattle.motion.specs.Motions.{destination}
use Rattle.theorems.proofs.motions.Grid.{finer-range}
use Rattle.theorems.proofs.tables.CellLimits.{between}
use Rattle.theorems.proofs.jobs.PlannableAxis.{some-acceleration, speed-range, moves}
use Rattle.motion.proofs.PlannableAxis.{plannable-after, plannable-landed, plannable-arrived, plannable-feasible}
use Rattle.motion.proofs.PlannableAxis.{plannable-ranges}
use Rattle.motion.proofs.PlannableAxis.{start-position-size, landing-acceleration-size, profile-ranged}
use Rattle.planned.specs.declared.AxisPlan.{AxisPlan}
use Rattle.planned.specs.Plans.{scale, plan_of, arrival_of, PlanRanges, planned_at, total_weight}
use Rattle.planned.proofs.Scale.{weight_is, weighed-within}
use Rattle.planned.proofs.Velocities.{planned-before, planned-after}

module _ {x : Axis} {n : ℕ} (r : Plannable x n) where
  abbrev p : AxisPlan
  p = plan_of n x

  abbrev g : Leg
  g = leg x n

  abbrev d : ℤ
  d = displacement x n

  some : 0 < g.ticks
  some = let after = plannable-after r in omega arith

  steep : 0 < g.acceleration_limit
  steep = some-acceleration x n r

  slow : g.speed_limit ≤ 2 ^ 37
  slow = speed-range x n r

  can : T (feasible g d)
  can = moves x n r

  -- ---- the planned velocities, up to one tick after the arrival

  -- L and M together, in fine steps
  abbrev most : ℕ
  most = 2 ^ 28 + 2 ^ 24

  speed-most : speed_steps x ≤ finer x * 2 ^ 28
  speed-most = mul-le-mul_left (finer x) (omega (arith, (plannable-ranges r).speed_limit))

  within-speed : (v : ℤ) → nat_abs v ≤ speed_steps x → nat_abs v ≤ finer x * most
  within-speed v h = omega (arith, h, speed-most)

  -- one tick after the arrival
  after-most : nat_abs (landing_velocity x n +ℤ pos (delay x + 1) *ℤ landing_acceleration x n) ≤ finer x * most
  after-most =
      subst (λ (v : ℤ). nat_abs v ≤ finer x * most)
      (sym (one_more (landing_velocity x n) (pos (delay x)) (landing_acceleration x n)))
      (omega (
        arith,
        nat_abs-+ (arrival_velocity x n) (landing_acceleration x n),
        plannable-arrived r,
        speed-most,
        landing-acceleration-size r,
      ))
    where
      one_more : (v h a : ℤ) → v +ℤ (h +ℤ pos 1) *ℤ a ≡ (v +ℤ h *ℤ a) +ℤ a
      one_more v h a = same (v ∷ h ∷ a ∷ []) (search pol depth 20 fits 9000) tt

  velocity-most : (k : ℕ) → k ≤ suc (arrival_of p) → nat_abs (planned_at p k) ≤ finer x * most
  velocity-most k h = go (dec_lt k g.ticks)
    where
      go : Dec (k < g.ticks) → nat_abs (planned_at p k) ≤ finer x * most
      go (Dec.yes l) =
          subst (λ (v : ℤ). nat_abs v ≤ finer x * most) (planned-before p k l)
          (within-speed (velocity_in p.regions k) (chosen-within g d some steep slow can k l))
      go (Dec.no l) =
          subst (λ (v : ℤ). nat_abs v ≤ finer x * most) (planned-after p k (omega arith))
          (between (landing_velocity x n) (landing_acceleration x n) (k - g.ticks) (delay x + 1)
          (finer x * most) (omega arith)
          (within-speed (landing_velocity x n) (plannable-landed r)) after-most)

  -- ---- the ranges

  light-weight : second_weight x ≤ 256
  light-weight = omega (arith, (plannable-ranges r).second_weight)

  pub plan-ranges : PlanRanges p
  plan-ranges =
      let after = plannable-after r in
      record {
        light = omega (arith, weight_is x n light-weight, mul-le-mul_left (total_weight p) (finer-range x).0);
        weighs = omega (arith, weight_is x n light-weight, mul-le-mul_left (total_weight p) (finer-range x).1);
        origin = record {
          within = weighed-within x n (2 ^ 44) (start_position x) light-weight (start-position-size r);
        };
        regions =
            chosen-ranged g d some steep slow can (profile-ranged r).ticks (profile-ranged r).acceleration_limit;
        some = some;
        velocities = λ k h.
            record {
              within = omega (arith, weighed-within x n most (planned_at p k) light-weight (velocity-most k h));
            };
        acceleration =
            record {
              within = omega (arith, landing-acceleration-size r, mul-le-mul_right (2 ^ 24) (finer-range x).1);
            };
        half_period = (plannable-ranges r).half_period;
        second_sway = (plannable-ranges r).second_half_period;
        last = omega (arith, r.tick);
      }

  pub plan-arrives : n ≤ arrival_of p
  plan-arrives = omega arith

-- ---- the plan of one axis, from its parts

module _ (x : Axis) (n : ℕ) (f : Leg) (d : ℤ) (same : f ≡ leg x n) (way : d ≡ displacement x n) where
  pub plan-feasible : Plannable x n → feasible f d ≡ true
  plan-feasible r = ap₂ feasible same way ∙ plannable-feasible r

  -- a plan with the blend of the axis: its second weight b, and both weights scaled by k
  abbrev plan_with : ℤ → ℤ → Regions → ℤ → ℕ → ℕ → AxisPlan
  plan_with o e c a b k =
      record {
        origin = o;
        destination = e;
        regions = c;
        acceleration = a;
        half_period = half_period x;
        first_weight = k * (256 - b);
        second_weight = k * b;
        second_sway = x.second_sway;
      }

  pub plan-is : (o e : ℤ) (c : Regions) (a : ℤ) (b k : ℕ) → o ≡ start_position x → e ≡ destination x n
      → c ≡ chosen_regions f (required f d) → a ≡ landing_acceleration x n
      → b ≡ second_weight x → k ≡ scale x
      → plan_with o e c a b k ≡ plan_of n x
  plan-is o e c a b k p r q s u t = λ i. plan_with (p i) (r i) (velocities i) (s i) (u i) (t i)
    where
      velocities : c ≡ chosen_regions (leg x n) (required_sum x n)
      velocities = q ∙ ap₂ (λ (g : Leg) (e : ℤ). chosen_regions g (required g e)) same way
