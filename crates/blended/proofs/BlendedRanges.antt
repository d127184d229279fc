-- The ranges of the blends and of the states at every tick, from those of the plan.
use mathlib.Core.Path.{◌≡◌, ap, sym, subst, ◌∙◌}
use Rattle.whole.proofs.Laws.{nat_abs-+, nat_abs-*}
use Rattle.whole.specs.Ranges.{Within, Is}
use Rattle.whole.proofs.Bounds.{neg-holds}
use Prim.Native.Nat.{ℕ, zero, suc, ◌+◌, ◌*◌, ◌^◌, ◌≤◌}
use native.Mathlib.Omega.{arith}
use native.Mathlib.Nat.{mul-le-mul_left, mul-le-mul_right}
use lib.IntN.{ℤ, pos, neg_ℤ, nat_abs, ◌+ℤ◌, ◌*ℤ◌}
use Rattle.std.specs.Prelude.{Option, None, Some}
use Rattle.planned.specs.declared.AxisPlan.{AxisPlan}
use Rattle.blended.specs.declared.BlendedState.{BlendedState}
use Rattle.planned.specs.Plans.{arrival_of, PlanRanges, velocity_back, blends_by, total_weight}
use Rattle.blended.specs.BlendedStates.{mix, blended_back, added, blended_velocity}
use Rattle.blended.specs.BlendedStates.{lag_of, blended_position, blended_state_at, half_unit, LandsAt}
use Rattle.planned.proofs.PlannedRanges.{weighed, blends-some, start-weighed, back-weighed}

-- the blends added up, of which each is small
added-by : (s : Option ℕ) (g : ℕ → ℤ) (m : ℕ) → ((d : ℕ) → blends_by s * nat_abs (g d) ≤ m) → nat_abs (added s g) ≤ m
added-by None g m h = omega (arith, h 0)
added-by (Some d) g m h = omega (arith, nat_abs-+ (g 0) (g d), h 0, h d)

module _ (p : AxisPlan) (s : PlanRanges p) where
  pub origin-within : Within (2 ^ 52) p.origin
  origin-within =
      let o : total_weight p * nat_abs p.origin ≤ 2 ^ 60 =
      subst (λ (n : ℕ). n ≤ 2 ^ 60) (weighed (total_weight p) p.origin) s.origin.within in
      record { within = omega (arith, o, mul-le-mul_right (nat_abs p.origin) s.weighs) }

  -- ---- the blends

  abbrev A : ℕ
  A = p.first_weight

  abbrev B : ℕ
  B = p.second_weight

  abbrev count : ℕ
  count = blends_by p.second_sway

  some-blends : 1 ≤ count
  some-blends = blends-some p.second_sway

  -- each of them
  pub once_by : (d k : ℕ) → k ≤ suc (arrival_of p) → count * nat_abs (blended_back p d k) ≤ 2 ^ 46
  unfolding blended_back
  once_by d k h =
      let v = velocity_back p d k in
      let w = velocity_back p (d + p.half_period) k in
      let sum : nat_abs (blended_back p d k) ≤ A * nat_abs v + B * nat_abs w =
      omega (arith, nat_abs-+ (pos A *ℤ v) (pos B *ℤ w), weighed A v, weighed B w) in
      omega (arith, mul-le-mul_left count sum, back-weighed p s d k h, back-weighed p s (d + p.half_period) k h)

  velocity-by : (k : ℕ) → k ≤ suc (arrival_of p) → nat_abs (blended_velocity p k) ≤ 2 ^ 46
  unfolding blended_velocity
  velocity-by k h = added-by p.second_sway (λ d. blended_back p d k) (2 ^ 46) (λ d. once_by d k h)

  pub velocity-within : (k : ℕ) → k ≤ suc (arrival_of p) → Within (2 ^ 46) (blended_velocity p k)
  velocity-within k h = record { within = velocity-by k h }

  -- ---- the weights of one blend, and each weight times its delay

  pub weights-small : A + B ≤ 2 ^ 16
  weights-small = omega (arith, s.light, mul-le-mul_right (A + B) some-blends)

  lag-by : lag_of p ≤ 512 * total_weight p
  lag-by =
      omega (
        arith,
        mul-le-mul_left (count * B) s.half_period,
        mul-le-mul_left (A + B) s.second_sway,
        mul-le-mul_right (A + B) some-blends,
      )

  pub lag-small : lag_of p ≤ 2 ^ 25
  lag-small = omega (arith, lag-by, s.light)

  -- times v₀
  pub lagging : nat_abs (pos (lag_of p) *ℤ p.regions.start) ≤ 2 ^ 54
  lagging =
      subst (λ (n : ℕ). n ≤ 2 ^ 54) (sym (weighed (lag_of p) p.regions.start))
      (omega (arith, mul-le-mul_right (nat_abs p.regions.start) lag-by, start-weighed p s))

  abbrev way : ℤ
  way = pos 2 *ℤ (pos (lag_of p) *ℤ p.regions.start)

  way_by : nat_abs way ≤ 2 ^ 55
  way_by =
      subst (λ (n : ℕ). n ≤ 2 ^ 55) (sym (nat_abs-* (pos 2) (pos (lag_of p) *ℤ p.regions.start)))
      (omega (arith, lagging))

  position-by : (k : ℕ) → k ≤ suc (arrival_of p) → nat_abs (blended_position p k) ≤ 2 ^ 60 + 2 ^ 55 + k * 2 ^ 47
  unfolding blended_position
  position-by zero h =
      omega (
        arith,
        nat_abs-+ (pos (total_weight p) *ℤ p.origin) (neg_ℤ way),
        s.origin.within,
        neg-holds way (2 ^ 55) way_by,
      )
  position-by (suc k) h =
      omega (
        arith,
        nat_abs-+ (blended_position p k +ℤ blended_velocity p k) (blended_velocity p (suc k)),
        nat_abs-+ (blended_position p k) (blended_velocity p k),
        position-by k (omega arith),
        velocity-by k (omega arith),
        velocity-by (suc k) h,
      )

  pub position-within : (k : ℕ) → k ≤ suc (arrival_of p) → Within (2 ^ 61) (blended_position p k)
  position-within k h = record { within = omega (arith, position-by k h, s.last) }

  -- where the sums may be taken from the landing end, what they start from
  pub landed-within : (n : ℕ) → n ≤ suc (arrival_of p) → LandsAt n p → Within (2 ^ 37) p.destination
  landed-within n h a =
      record {
        within = omega
            (arith, nat_abs-* (pos half_unit) p.destination, ap nat_abs a.position, (position-within n h).within);
      }

  -- ---- of numbers that are known to be these

  pub position-is : (k : ℕ) (t : BlendedState) → k ≤ suc (arrival_of p) → t ≡ blended_state_at p k
      → Is (2 ^ 61) t.position (blended_position p k)
  position-is k t h e = record { is = ap (λ (u : BlendedState). u.position) e; within = (position-within k h).within }

  pub velocity-is : (k : ℕ) (t : BlendedState) → k ≤ suc (arrival_of p) → t ≡ blended_state_at p k
      → Is (2 ^ 46) t.velocity (blended_velocity p k)
  velocity-is k t h e = record { is = ap (λ (u : BlendedState). u.velocity) e; within = (velocity-within k h).within }

  pub blend_is : (d k : ℕ) (v a b : ℤ) → k ≤ suc (arrival_of p) → v ≡ mix A B a b → a ≡ velocity_back p d k
      → b ≡ velocity_back p (d + p.half_period) k
      → Is (2 ^ 46) v (blended_back p d k)
  unfolding blended_back
  blend_is d k v a b h e f g =
      record {
        is = e ∙ (λ i. mix A B (f i) (g i));
        within = omega (arith, once_by d k h, mul-le-mul_right (nat_abs (blended_back p d k)) some-blends);
      }

  pub blends-are : (k : ℕ) (v : ℤ) → k ≤ suc (arrival_of p) → v ≡ added p.second_sway (λ d. blended_back p d k)
      → Is (2 ^ 46) v (blended_velocity p k)
  unfolding blended_velocity
  blends-are k v h e = record { is = e; within = velocity-by k h }
