-- An axis that the refusals of one axis let pass has the ranges that the code needs.
use Prim.Native.Nat.{ℕ, ◌^◌, ◌≤◌}
use mathlib.Core.Path.{◌≡◌, sym, subst}
use mathlib.Core.Bool.{Bool, ◌&&◌}
use native.Mathlib.Omega.{arith}
use lib.Dec.{T, leb, leb→le}
use lib.IntN.{ℤ, pos, negsuc, nat_abs}
use lib.Signed.{le_z, le_z_yes, ◌≤ℤ◌}
use Rattle.whole.proofs.Differences.{all₁, whole}
use Rattle.whole.specs.Ranges.{Within}
use Rattle.whole.proofs.Tests.{left, right, not-false-T}
use Rattle.model.specs.declared.Axis.{Axis}
use Rattle.model.specs.declared.RestPoint.{RestPoint}
use Rattle.model.specs.declared.State.{State}
use Rattle.model.specs.declared.Target.{Target}
use Rattle.model.specs.declared.Target.TheVariants.{Fixed, Moving}
use Rattle.model.specs.planning.Quantities.{speed_limit, acceleration_limit, as_moving}
use Rattle.model.specs.planning.Refusals.{last_tick, within, position_allowed, velocity_allowed, rest_allowed}
use Rattle.model.specs.planning.Refusals.{motion_allowed, target_allowed, Passed}
use Rattle.theorems.proofs.jobs.PassedAxis.{speed-limit, half-period, second-weight, second-half-period}
use Rattle.motion.specs.Motions.{StateRanges, Ranges}

position-within : (p : ℤ) → T (position_allowed p) → Within (2 ^ 34) p
position-within p t =
    go p (le_z_yes (left (le_z (negsuc 17179869183) p) (le_z p (pos 17179869183)) t))
    (le_z_yes (right (le_z (negsuc 17179869183) p) (le_z p (pos 17179869183)) t))
  where
    go : (p : ℤ) → negsuc 17179869183 ≤ℤ p → p ≤ℤ pos 17179869183 → Within (2 ^ 34) p
    go = all₁ _ (λ a b. simp whole (omega arith))

size-within : (l m : ℕ) (v : ℤ) → l ≤ m → T (leb (nat_abs v) l) → Within m v
size-within l m v h t = record { within = omega (arith, leb→le (nat_abs v) l t) }

-- the limits: what is within them has a range
record Limited (x : Axis) : Type 0 where
  speed_limit : speed_limit x ≤ 2 ^ 20
  acceleration_limit : acceleration_limit x ≤ 2 ^ 16

limited : {x : Axis} → Passed x → Limited x
limited {x} k =
    let s : Bool = within 1 1048576 (speed_limit x) in
    let a : Bool = within 1 65536 (acceleration_limit x) in
    let t : T a = right s a (not-false-T (s && a) k.limits) in
    record {
      speed_limit = speed-limit x k;
      acceleration_limit =
          leb→le (acceleration_limit x) 65536
          (right (leb 1 (acceleration_limit x)) (leb (acceleration_limit x) 65536) t);
    }

rest-within : (x : Axis) (r : RestPoint) → Limited x → T (rest_allowed x r)
    → Within (2 ^ 34) r.position × Within (2 ^ 20) r.velocity
rest-within x r l t =
    let p : Bool = position_allowed r.position in
    let v : Bool = velocity_allowed x r.velocity in (
      position-within r.position (left p v t),
      size-within (speed_limit x) (2 ^ 20) r.velocity
          l.speed_limit (right p v t),
    )

motion-within : (x : Axis) (m : State) → Limited x → T (motion_allowed x m)
    → Within (2 ^ 16) m.acceleration × Within last_tick m.tick
motion-within x m l t =
    let a : Bool = leb (nat_abs m.acceleration) (acceleration_limit x) in
    let k : Bool = leb (nat_abs m.tick) last_tick in (
      size-within (acceleration_limit x) (2 ^ 16) m.acceleration l.acceleration_limit (left a k t),
      size-within last_tick last_tick m.tick (omega arith) (right a k t),
    )

target-within : (x : Axis) (g : Target) → Limited x → T (target_allowed x g) → (n : ℕ)
    → n ≤ last_tick → StateRanges (as_moving g n)
target-within x (Fixed r) l t n h =
    let rest = rest-within x r l t in
    record {
      position = rest.0;
      velocity = rest.1;
      acceleration = record { within = omega arith };
      tick = record { within = h };
    }
target-within x (Moving m) l t n h =
    let r : RestPoint = record { position = m.position; velocity = m.velocity } in
    let rest = rest-within x r l (left (rest_allowed x r) (motion_allowed x m) t) in
    let motion = motion-within x m l (right (rest_allowed x r) (motion_allowed x m) t) in
    record { position = rest.0; velocity = rest.1; acceleration = motion.0; tick = motion.1 }

pub ranges-of : {x : Axis} → Passed x → Ranges x
ranges-of {x} k =
    let s : Bool = rest_allowed x x.start in
    let g : Bool = target_allowed x x.target in
    let values : T (s && g) = not-false-T (s && g) k.values in
    let start = rest-within x x.start (limited k) (left s g values) in
    record {
      speed_limit = (limited k).speed_limit;
      acceleration_limit = (limited k).acceleration_limit;
      half_period = half-period x k;
      second_weight = second-weight x k;
      second_half_period = second-half-period x k;
      position = start.0;
      velocity = start.1;
      target = target-within x x.target (limited k) (right s g values);
    }

-- its target in motion, for an arrival
pub moving-ranges : {x : Axis} {n : ℕ} {m : State} → Passed x → n ≤ last_tick → m ≡ as_moving x.target n
    → StateRanges m
moving-ranges {x} {n} k h e = subst StateRanges (sym e) ((ranges-of k).target n h)
