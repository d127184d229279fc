-- The legs to all arrivals of an axis by the leg to one: the landings lie on one uniformly
-- accelerated motion, so that end velocity and displacement are told by the number of arrivals
-- between; and what is reached goes on.
use Prim.Native.Nat.{ℕ, ◌+◌, ◌-◌, ◌≤◌, ◌<◌}
use mathlib.Core.Path.{◌≡◌, sym, ap, subst, ◌∙◌}
use mathlib.Core.Bool.{true, ◌&&◌}
use mathlib.Core.List.{[], ◌∷◌}
use native.Mathlib.Omega.{arith}
use lib.Dec.{T, leb, leb→le, ltb}
use lib.IntN.{ℤ, pos, nat_abs, ◌+ℤ◌, ◌-ℤ◌, ◌*ℤ◌}
use Rattle.whole.proofs.Ring.{pol, same}
use Rattle.whole.proofs.Tests.{and_yes, ltb_yes, left, right, true-T}
use Rattle.model.specs.declared.Axis.{Axis}
use Rattle.model.specs.declared.State.{State}
use Rattle.model.specs.declared.Target.{Target}
use Rattle.model.specs.declared.Target.TheVariants.{Fixed, Moving}
use Rattle.model.specs.planning.Quantities.{half_period, second_weight, delay, as_moving, accelerates, finer}
use Rattle.model.specs.planning.Quantities.{speed_steps}
use Rattle.model.specs.planning.Quantities.{acceleration_steps}
use Rattle.model.specs.planning.Leg.{sum_is_whole, feasible}
use Rattle.model.specs.planning.Motion.{shift, start_position, start_velocity, landing_tick, landing_position}
use Rattle.model.specs.planning.Motion.{landing_velocity, landing_acceleration, arrival_velocity}
use Rattle.model.specs.planning.Motion.{leg, displacement, reachable}
use Rattle.model.specs.planning.Refusals.{last_tick, Passed}
use Rattle.theorems.specs.Threshold.{Slow}
use Rattle.theorems.proofs.motions.Threshold.{landing-later, acceleration-same, slow-ahead, reached-slow, reached-later}
use Rattle.theorems.proofs.legs.WholeSum.{sum-is-whole}
use Rattle.whole.specs.Candidates.{LastingTo}
use Rattle.reach.specs.declared.approach.Approach.{Approach}
use Rattle.reach.specs.Halving.{TicksWithin, LastPassing}
use Rattle.reach.specs.Approaches.{end_later, arrived_later, travel_later, profile_later, reaches_later}
use Rattle.reach.specs.Approaches.{ApproachRanged, Approaches, ApproachIs}

-- ---- a target in motion: f grid steps in a fine step, the shift s, the correction c, and a target
-- at p with velocity v and acceleration a, d ticks after its own

abbrev lands_at : ℤ → ℤ → ℤ → ℤ → ℤ → ℤ → ℤ → ℤ
lands_at f s c p v a d =
    f *ℤ (pos 256 *ℤ (pos 2 *ℤ p +ℤ pos 2 *ℤ (v *ℤ d) +ℤ a *ℤ (d *ℤ d)) +ℤ pos 2 *ℤ (s *ℤ (v +ℤ a *ℤ d))) +ℤ c

abbrev lands_with : ℤ → ℤ → ℤ → ℤ → ℤ → ℤ
lands_with f s v a d = f *ℤ (pos 256 *ℤ (v +ℤ a *ℤ d) +ℤ s *ℤ a)

position-on : (f s c p v a d j : ℤ)
    → lands_at f s c p v a d +ℤ j *ℤ (pos 2 *ℤ lands_with f s v a d +ℤ j *ℤ (f *ℤ (pos 256 *ℤ a)))
    ≡ lands_at f s c p v a (d +ℤ j)
position-on f s c p v a d j = same (f ∷ s ∷ c ∷ p ∷ v ∷ a ∷ d ∷ j ∷ []) (search pol depth 30 fits 9000) tt

tick-on : (n i h : ℕ) (t : ℤ) → h ≤ n → (pos (n - h) -ℤ t) +ℤ pos i ≡ pos (n + i - h) -ℤ t
tick-on n i h t p =
    swap (pos (n - h)) (pos i) t ∙ ap (λ (j : ℕ). pos j -ℤ t) {x = n - h + i} {y = n + i - h} (omega arith)
  where
    swap : (x y t : ℤ) → (x -ℤ t) +ℤ y ≡ (x +ℤ y) -ℤ t
    swap x y t = same (x ∷ y ∷ t ∷ []) (search pol depth 20 fits 9000) tt

module _ (x : Axis) where
  abbrev F : ℤ
  F = pos (finer x)

  abbrev correction_of : ℤ → ℤ
  correction_of a =
      let h : ℤ = pos (half_period x) in
      let b : ℤ = pos (second_weight x) in
      pos 2 *ℤ (b *ℤ (h *ℤ h) *ℤ (b -ℤ pos 128) *ℤ a)

  abbrev position_of : Target → ℕ → ℤ
  position_of t n =
      let m : State = as_moving t n in
      lands_at F (shift x) (correction_of m.acceleration) m.position m.velocity m.acceleration
      (pos (n - delay x) -ℤ m.tick)

  abbrev velocity_of : Target → ℕ → ℤ
  velocity_of t n =
      let m : State = as_moving t n in
      lands_with F (shift x) m.velocity m.acceleration (pos (n - delay x) -ℤ m.tick)

  abbrev acceleration_of : Target → ℕ → ℤ
  acceleration_of t n = F *ℤ (pos 256 *ℤ (as_moving t n).acceleration)

  position_later : (t : Target) → accelerates t ≡ true → (n i : ℕ) → delay x ≤ n
      → position_of t n +ℤ pos i *ℤ (pos 2 *ℤ velocity_of t n +ℤ pos i *ℤ acceleration_of t n) ≡ position_of t (n + i)
  position_later (Fixed r) e n i h = absurd (subst T (sym e) tt)
  position_later (Moving m) e n i h =
      position-on F (shift x) (correction_of m.acceleration) m.position m.velocity m.acceleration
      (pos (n - delay x) -ℤ m.tick) (pos i)
      ∙ ap (lands_at F (shift x) (correction_of m.acceleration) m.position m.velocity m.acceleration)
      (tick-on n i (delay x) m.tick h)

-- ---- the approach of an axis from arrival n on

abbrev pub approach_for : Axis → ℕ → Approach
approach_for x n =
    record {
      speed_limit = speed_steps x;
      acceleration_limit = acceleration_steps x;
      start = start_velocity x;
      end = landing_velocity x n;
      change = landing_acceleration x n;
      travel = displacement x n;
      ticks = landing_tick x n;
      delay = delay x;
    }

module _ (x : Axis) (passed : Passed x) (moving : accelerates x.target ≡ true) (n : ℕ) (after : delay x < n) where
  abbrev A : Approach
  A = approach_for x n

  end_is : (i : ℕ) → end_later A i ≡ landing_velocity x (n + i)
  end_is i = sym (landing-later x passed n i (omega arith))

  arrived-is : (i : ℕ) → arrived_later A i ≡ arrival_velocity x (n + i)
  arrived-is i = λ j. end_is i j +ℤ pos (delay x) *ℤ acceleration-same x passed n (n + i) j

  travel-is : (i : ℕ) → travel_later A i ≡ displacement x (n + i)
  travel-is i =
      swap (landing_position x n) (start_position x)
      (pos i *ℤ (pos 2 *ℤ landing_velocity x n +ℤ pos i *ℤ landing_acceleration x n))
      ∙ ap (λ (z : ℤ). z -ℤ start_position x) (position_later x x.target moving n i (omega arith))
    where
      swap : (p q d : ℤ) → (p -ℤ q) +ℤ d ≡ (p +ℤ d) -ℤ q
      swap p q d = same (p ∷ q ∷ d ∷ []) (search pol depth 20 fits 9000) tt

  leg-is : (i : ℕ) → profile_later A i ≡ leg x (n + i)
  leg-is i =
      let t : n - delay x + i ≡ n + i - delay x = omega arith in
      λ j. record {
        ticks = t j;
        start = start_velocity x;
        end = end_is i j;
        speed_limit = speed_steps x;
        acceleration_limit = acceleration_steps x;
      }

  same-reach : (i : ℕ) → reaches_later A i ≡ reachable x (n + i)
  unfolding reaches_later
  same-reach i =
      and_yes (ltb (delay x) (n + i)) _ (ltb_yes {m = delay x} {n = n + i} (omega arith))
      (λ j. leb (nat_abs (end_is i j)) (speed_steps x)
      && (leb (nat_abs (arrived-is i j)) (speed_steps x) && feasible (leg-is i j) (travel-is i j)))

  whole-sums : (i : ℕ) → sum_is_whole (profile_later A i) (travel_later A i) ≡ true
  whole-sums i = (λ j. sum_is_whole (leg-is i j) (travel-is i j)) ∙ sum-is-whole x (n + i)

  goes_on : (i j : ℕ) → i ≤ j → nat_abs (arrived_later A j) ≤ speed_steps x
      → reaches_later A i ≡ true → reaches_later A j ≡ true
  goes_on i j h s e =
      let r = sym (same-reach i) ∙ e in
      let slow : Slow x (n + j) =
      slow-ahead x passed (n + i) (n + j) (omega arith) (omega arith) (reached-slow x passed (n + i) r).landed
      (subst (λ (z : ℤ). nat_abs z ≤ speed_steps x) (arrived-is j) s) in
      same-reach j ∙ reached-later x passed (n + i) (n + j) (n + j) (omega arith) (omega arith) slow r

  one-run : (i j k : ℕ) → i ≤ j → j ≤ k → reaches_later A i ≡ true → reaches_later A k ≡ true → reaches_later A j ≡ true
  one-run i j k h l d e =
      same-reach j
      ∙ reached-later x passed (n + i) (n + j) (n + k) (omega arith) (omega arith)
      (reached-slow x passed (n + k) (sym (same-reach k) ∙ e)) (sym (same-reach i) ∙ d)

  pub approach-is : (a : Approach) → a ≡ A → n ≤ last_tick → ApproachRanged A → ApproachIs x n a
  approach-is a e last ranged =
      subst (ApproachIs x n) (sym e)
      (record {
        approaches =
            record {
              ranged = ranged;
              few = omega arith;
              whole = λ i h. whole-sums i;
              goes = λ i j h l. goes_on i j h;
              run = λ i j k h l m. one-run i j k h l;
            };
        same = same-reach;
      })

-- ---- of an approach

pub nearer : (a : Approach) (last k : ℕ) → k ≤ last → Approaches a last → Approaches a k
nearer a last k h w =
    record {
      ranged = w.ranged;
      few = omega (arith, w.few);
      whole = λ i l. w.whole i (omega arith);
      goes = λ i j p q. w.goes i j p (omega arith);
      run = λ i j m p q r. w.run i j m p q (omega arith);
    }

arrives-slowly : (a : Approach) (i : ℕ) → reaches_later a i ≡ true → nat_abs (arrived_later a i) ≤ a.speed_limit
unfolding reaches_later
arrives-slowly a i e =
    leb→le _ _
    (left (leb (nat_abs (arrived_later a i)) a.speed_limit) (feasible (profile_later a i) (travel_later a i))
    (right (leb (nat_abs (end_later a i)) a.speed_limit) _ (true-T e)))

-- none is reached, unless the last at which the target is slow enough is
pub last-slow : (a : Approach) (last r : ℕ) → Approaches a last
    → TicksWithin a.speed_limit (arrived_later a 0) a.change last r
    → LastPassing (reaches_later a) 0 last r
last-slow a last r w t = record { low = omega arith; high = t.high; later = later }
  where
    on : (e c d i : ℤ) → ((e +ℤ pos 0 *ℤ c) +ℤ d *ℤ c) +ℤ i *ℤ c ≡ (e +ℤ i *ℤ c) +ℤ d *ℤ c
    on e c d i = same (e ∷ c ∷ d ∷ i ∷ []) (search pol depth 20 fits 9000) tt

    there : (i : ℕ) → arrived_later a 0 +ℤ pos i *ℤ a.change ≡ arrived_later a i
    there i = on a.end a.change (pos a.delay) (pos i)

    later : (k : ℕ) → 0 ≤ k → k ≤ last → reaches_later a k ≡ true → reaches_later a r ≡ true
    later k p q e =
        let s = t.later k q (subst (λ (z : ℤ). nat_abs z ≤ a.speed_limit) (sym (there k)) (arrives-slowly a k e)) in
        w.goes k r s.0 t.high (subst (λ (z : ℤ). nat_abs z ≤ a.speed_limit) (there r) s.1) e

pub lasting-to : (a : Approach) (last high : ℕ) → Approaches a last → high ≤ last → reaches_later a high ≡ true
    → LastingTo (reaches_later a) 0 high
lasting-to a last high w h e j k p q l f = w.run j k high q l h f e
