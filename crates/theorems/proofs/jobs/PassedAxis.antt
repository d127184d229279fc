-- What an axis has that passed the refusals of one axis: the ranges of its values.
use Prim.Native.Nat.{ℕ, ◌≤◌, ◌<◌}
use mathlib.Core.Path.{◌≡◌, subst}
use mathlib.Core.Bool.{false, ◌&&◌}
use native.Mathlib.Omega.{arith}
use lib.Dec.{T, leb, leb→le}
use lib.IntN.{pos, nat_abs}
use Rattle.whole.proofs.Tests.{both, not-false-T}
use Rattle.model.specs.declared.Axis.{Axis}
use Rattle.std.specs.Prelude.{Option, None, Some}
use Rattle.model.specs.declared.Target.{Target}
use Rattle.model.specs.declared.Target.TheVariants.{Fixed, Moving}
use Rattle.model.specs.planning.Quantities.{speed_limit, acceleration_limit, half_period, second_weight, sway_delay}
use Rattle.model.specs.planning.Quantities.{second_half_period, as_moving}
use Rattle.model.specs.planning.Refusals.{within, last_tick, rest_allowed, motion_allowed, target_allowed}
use Rattle.model.specs.planning.Refusals.{sway_allowed, acceleration_refused_by, Passed}
use Rattle.theorems.proofs.motions.Grid.{no-acceleration}

at_least : (a b n : ℕ) → T (within a b n) → a ≤ n
at_least a b n t = leb→le a n (both (leb a n) (leb n b) t).0

at_most : (a b n : ℕ) → T (within a b n) → n ≤ b
at_most a b n t = leb→le n b (both (leb a n) (leb n b) t).1

-- a target's acceleration and tick, where they are allowed
acceleration-allowed : (x : Axis) (t : Target) (n : ℕ) → T (target_allowed x t)
    → nat_abs (as_moving t n).acceleration ≤ acceleration_limit x
acceleration-allowed x (Fixed r) n h = omega arith
acceleration-allowed x (Moving m) n h =
    leb→le (nat_abs m.acceleration) (acceleration_limit x)
    (both (leb (nat_abs m.acceleration) (acceleration_limit x)) (leb (nat_abs m.tick) last_tick)
    (both (rest_allowed x (record { position = m.position; velocity = m.velocity })) (motion_allowed x m) h).1).0

module _ (x : Axis) (p : Passed x) where
  limits : T (within 1 1048576 (speed_limit x)) × T (within 1 65536 (acceleration_limit x))
  limits =
      both (within 1 1048576 (speed_limit x)) (within 1 65536 (acceleration_limit x))
      (not-false-T (within 1 1048576 (speed_limit x) && within 1 65536 (acceleration_limit x)) p.limits)

  blend : T (within 0 256 (half_period x)) × T (within 1 128 (second_weight x))
  blend =
      both (within 0 256 (half_period x)) (within 1 128 (second_weight x))
      (not-false-T (within 0 256 (half_period x) && within 1 128 (second_weight x)) p.blend)

  pub speed-limit : speed_limit x ≤ 1048576
  speed-limit = at_most 1 1048576 (speed_limit x) limits.0

  pub some-speed : 1 ≤ speed_limit x
  some-speed = at_least 1 1048576 (speed_limit x) limits.0

  pub some-acceleration : 0 < acceleration_limit x
  some-acceleration = at_least 1 65536 (acceleration_limit x) limits.1

  pub acceleration-limit : acceleration_limit x ≤ 65536
  acceleration-limit = at_most 1 65536 (acceleration_limit x) limits.1

  pub half-period : half_period x ≤ 256
  half-period = at_most 0 256 (half_period x) blend.0

  pub second-weight : second_weight x ≤ 128
  second-weight = at_most 1 128 (second_weight x) blend.1

  pub target-acceleration : (n : ℕ) → nat_abs (as_moving x.target n).acceleration ≤ acceleration_limit x
  target-acceleration n =
      acceleration-allowed x x.target n
      (both (rest_allowed x x.start) (target_allowed x x.target)
      (not-false-T (rest_allowed x x.start && target_allowed x x.target) p.values)).1

  pub second-half-period : second_half_period x ≤ 256
  second-half-period = go x.second_sway (not-false-T (sway_allowed x.second_sway) p.sway)
    where
      go : (s : Option ℕ) → T (sway_allowed s) → sway_delay s ≤ 256
      go None t = omega arith
      go (Some d) t = at_most 1 256 d t

  -- where a second half period is given it is 1 to 256, and the target does not accelerate
  pub second_range : (d : ℕ) → x.second_sway ≡ Some d → (1 ≤ d) × (d ≤ 256)
  second_range d e =
      let t : T (within 1 256 d) =
      subst (λ (s : Option ℕ). T (sway_allowed s)) e (not-false-T (sway_allowed x.second_sway) p.sway) in
      (at_least 1 256 d t, at_most 1 256 d t)

  pub second-still : (d : ℕ) → x.second_sway ≡ Some d → (n : ℕ) → (as_moving x.target n).acceleration ≡ pos 0
  second-still d e =
      no-acceleration x.target
      (subst (λ (s : Option ℕ). acceleration_refused_by s x.target ≡ false) e p.acceleration)
