-- The blends of the definition, tick by tick: the position and the velocity that are carried on are
-- those of the blends, and so are the cells.
use mathlib.Core.Path.{◌≡◌, refl, sym, ap, ap₂, ◌∙◌}
use Rattle.whole.proofs.Ring.{pol, same}
use Rattle.whole.proofs.Tests.{choice-yes, choice-no}
use mathlib.Core.Bool.{true, false}
use mathlib.Core.List.{[], ◌∷◌}
use Prim.Native.Nat.{ℕ, zero, suc, ◌+◌, ◌-◌, ◌*◌, ◌<◌, ◌≤◌}
use native.Mathlib.Omega.{arith}
use native.Mathlib.Decide.{dec_lt}
use lib.Dec.{ltb}
use borrow.Author.Tests.{lt-ltb, le-ltb}
use lib.IntN.{ℤ, pos, ◌+ℤ◌, ◌-ℤ◌, ◌*ℤ◌}
use Rattle.whole.specs.Integers.{nearest_quotient}
use Rattle.whole.proofs.Rounding.{nearest-times}
use Rattle.model.specs.declared.Axis.{Axis}
use Rattle.std.specs.Prelude.{Option, None, Some}
use Rattle.model.specs.planning.Quantities.{half_period, second_weight, as_moving, twice_position_at}
use Rattle.model.specs.planning.Motion.{Tick, earlier}
use Rattle.model.specs.planning.Rows.{planned_axis, tick_at, tick_back, blend_once, blend_by, blend, divisor, cells}
use Rattle.theorems.specs.Rows.{from_landing}
use Rattle.model.specs.planning.Refusals.{Plannable}
use Rattle.theorems.proofs.tables.FromLanding.{sums-from-landing}
use Rattle.theorems.proofs.tables.TwoBlends.{divisor-some}
use Rattle.motion.proofs.PlannableAxis.{plannable-after}
use Rattle.planned.specs.declared.AxisPlan.{AxisPlan}
use Rattle.planned.specs.Plans.{scale, plan_of, planned_at, velocity_back}
use Rattle.blended.specs.BlendedStates.{mix, blended_back, added, blended_velocity, blended_position, axis_cells}
use Rattle.blended.specs.BlendedStates.{half_unit, LandsAt}
use Rattle.planned.proofs.Scale.{scale-some, scale-divides}
use Rattle.blended.proofs.Blend.{mix-sum, mix-change, mix-start, mix-times, added-sum, added-change, added-times}
use Rattle.blended.proofs.Blend.{added-start}
use Rattle.planned.proofs.Velocities.{back_early, back-late}
use Rattle.planned.proofs.PlannedTicks.{planned_position, tick_is}

-- ---- d ticks before

-- j ticks before tick 0
abbrev early_position : AxisPlan → ℕ → ℤ
early_position p j = p.origin -ℤ pos 2 *ℤ (pos j *ℤ p.regions.start)

back_position : AxisPlan → ℕ → ℕ → ℤ
back_position p d k = elim (ltb k d) [ true ↦ early_position p (d - k) | false ↦ planned_position p (k - d) ]

early-0 : (p : AxisPlan) → early_position p 0 ≡ p.origin
early-0 p = ring p.origin p.regions.start
  where
    ring : (q v : ℤ) → q -ℤ pos 2 *ℤ (pos 0 *ℤ v) ≡ q
    ring q v = same (q ∷ v ∷ []) (search pol depth 20 fits 9000) tt

module _ (p : AxisPlan) (d k : ℕ) where
  late-position : d ≤ k → back_position p d k ≡ planned_position p (k - d)
  unfolding back_position
  late-position h = sym (choice-no _ _ _ (le-ltb k d h))

  early-position : k ≤ d → back_position p d k ≡ early_position p (d - k)
  unfolding back_position planned_position
  early-position h = go (dec_lt k d)
    where
      go : Dec (k < d) → back_position p d k ≡ early_position p (d - k)
      go (Dec.yes l) = sym (choice-yes _ _ _ (lt-ltb k d l))
      go (Dec.no l) =
          late-position (omega arith)
          ∙ ap (planned_position p) {x = k - d} {y = 0} (omega arith)
          ∙ sym (early-0 p)
          ∙ ap (early_position p) {x = 0} {y = d - k} (omega arith)

-- each tick goes on by the velocities at its two ends there too
back-goes-on : (p : AxisPlan) (h k : ℕ) → 0 < p.regions.ticks
    → back_position p h k +ℤ velocity_back p h k +ℤ velocity_back p h (suc k) ≡ back_position p h (suc k)
unfolding planned_position
back-goes-on p h k some = go (dec_lt k h)
  where
    v : ℤ
    v = p.regions.start

    ring : (q v j : ℤ) → q -ℤ pos 2 *ℤ ((j +ℤ pos 1) *ℤ v) +ℤ v +ℤ v ≡ q -ℤ pos 2 *ℤ (j *ℤ v)
    ring q v j = same (q ∷ v ∷ j ∷ []) (search pol depth 20 fits 9000) tt

    sum : (z u w z' u' w' : ℤ) → z ≡ z' → u ≡ u' → w ≡ w' → z +ℤ u +ℤ w ≡ z' +ℤ u' +ℤ w'
    sum z u w z' u' w' e f g = λ i. e i +ℤ f i +ℤ g i

    -- one more tick before tick 0
    earlier-by : k < h → back_position p h k ≡ early_position p (h - suc k + 1)
    earlier-by l =
        early-position p h k (omega arith) ∙ ap (early_position p) {x = h - k} {y = h - suc k + 1} (omega arith)

    -- one tick later
    later-by : h ≤ k → velocity_back p h (suc k) ≡ planned_at p (suc (k - h))
    later-by l = sym (back-late p h (suc k) (omega arith))
        ∙ ap (planned_at p) {x = suc k - h} {y = suc (k - h)} (omega arith)

    go : Dec (k < h) → back_position p h k +ℤ velocity_back p h k +ℤ velocity_back p h (suc k)
        ≡ back_position p h (suc k)
    go (Dec.yes l) =
        sum _ _ _ _ v v (earlier-by l) (sym (back_early p h k some (omega arith)))
        (sym (back_early p h (suc k) some (omega arith)))
        ∙ ring p.origin v (pos (h - suc k))
        ∙ sym (early-position p h (suc k) (omega arith))
    go (Dec.no l) =
        sum _ _ _ _ _ _ (late-position p h k (omega arith))
        (sym (back-late p h k (omega arith))) (later-by (omega arith))
        ∙ ap (planned_position p) {x = suc (k - h)} {y = suc k - h} (omega arith)
        ∙ sym (late-position p h (suc k) (omega arith))

-- ---- the blends

-- of positions, d ticks before
abbrev position_back : AxisPlan → ℕ → ℕ → ℤ
position_back p k d =
    mix p.first_weight p.second_weight (back_position p d k) (back_position p (d + p.half_period) k)

module _ (p : AxisPlan) (some : 0 < p.regions.ticks) where
  abbrev A : ℕ
  A = p.first_weight

  abbrev B : ℕ
  B = p.second_weight

  start_back : (d : ℕ) → pos (A + B) *ℤ p.origin
      -ℤ pos 2 *ℤ (pos (B * p.half_period + (A + B) * d) *ℤ p.regions.start) ≡ position_back p 0 d
  start_back d =
      sym (mix-start A B p.half_period d p.origin p.regions.start)
      ∙ (λ i. mix A B (before d i) (before (d + p.half_period) i))
    where
      before : (j : ℕ) → early_position p j ≡ back_position p j 0
      before j = ap (early_position p) {x = j} {y = j - 0} (omega arith) ∙ sym (early-position p j 0 (omega arith))

  next-back : (k d : ℕ)
      → position_back p k d +ℤ blended_back p d k +ℤ blended_back p d (suc k) ≡ position_back p (suc k) d
  unfolding blended_back
  next-back k d =
      let e = d + p.half_period in
      sym (mix-sum A B (back_position p d k) (velocity_back p d k) (velocity_back p d (suc k))
      (back_position p e k) (velocity_back p e k) (velocity_back p e (suc k)))
      ∙ (λ i. mix A B (back-goes-on p d k some i) (back-goes-on p e k some i))

  -- the position that is carried on is that of the blends
  position-is : (k : ℕ) → blended_position p k ≡ added p.second_sway (position_back p k)
  unfolding blended_position blended_velocity
  position-is zero =
      sym (added-start p.second_sway (A + B) (B * p.half_period) p.origin p.regions.start)
      ∙ ap (added p.second_sway) (λ i d. start_back d i)
  position-is (suc k) =
      ap (λ (z : ℤ). z +ℤ blended_velocity p k +ℤ blended_velocity p (suc k)) (position-is k)
      ∙ sym (added-sum p.second_sway (position_back p k) (λ d. blended_back p d k) (λ d. blended_back p d (suc k)))
      ∙ ap (added p.second_sway) (λ i d. next-back k d i)

-- ---- of an axis and its arrival

back_tick : AxisPlan → ℕ → ℕ → Tick
back_tick p k d =
    record {
      position = back_position p d k;
      velocity = velocity_back p d k;
      acceleration = velocity_back p d (suc k) -ℤ velocity_back p d k;
    }

module _ (x : Axis) (n k : ℕ) (plannable : Plannable x n) (last : k ≤ n) where
  abbrev p : AxisPlan
  p = plan_of n x

  abbrev S : Option ℕ
  S = x.second_sway

  some : 0 < p.regions.ticks
  some = let after = plannable-after plannable in omega arith

  back_is : (h : ℕ) → tick_back (planned_axis n x) k h ≡ back_tick p k h
  unfolding back_tick
  back_is h = go (dec_lt k h)
    where
      none : (v : ℤ) → pos 0 ≡ v -ℤ v
      none v = same (v ∷ []) (search pol depth 20 fits 9000) tt

      at : (q v a q' v' a' : ℤ) → q ≡ q' → v ≡ v' → a ≡ a'
          → ◌≡◌ {A = Tick} (record { position = q; velocity = v; acceleration = a })
          (record { position = q'; velocity = v'; acceleration = a' })
      at q v a q' v' a' e f g = λ i. record { position = e i; velocity = f i; acceleration = g i }

      -- one tick later
      later : h ≤ k → planned_at p (suc (k - h)) ≡ velocity_back p h (suc k)
      later l = ap (planned_at p) {x = suc (k - h)} {y = suc k - h} (omega arith) ∙ back-late p h (suc k) (omega arith)

      go : Dec (k < h) → tick_back (planned_axis n x) k h ≡ back_tick p k h
      go (Dec.yes l) =
          sym (choice-yes (ltb k h) (earlier x (h - k)) (tick_at (planned_axis n x) (k - h)) (lt-ltb k h l))
          ∙ at _ _ _ _ _ _ (sym (early-position p h k (omega arith))) (back_early p h k some (omega arith))
          (none p.regions.start
          ∙ ap₂ ◌-ℤ◌ (back_early p h (suc k) some (omega arith)) (back_early p h k some (omega arith)))
      go (Dec.no l) =
          sym (choice-no (ltb k h) (earlier x (h - k)) (tick_at (planned_axis n x) (k - h)) (le-ltb k h (omega arith)))
          ∙ tick_is x n (k - h) plannable (omega arith)
          ∙ at _ _ _ _ _ _ (sym (late-position p h k (omega arith))) (back-late p h k (omega arith))
          (ap₂ ◌-ℤ◌ (later (omega arith)) (back-late p h k (omega arith)))

  abbrev a : ℕ
  a = 256 - second_weight x

  abbrev b : ℕ
  b = second_weight x

  -- the blends by the weights of the plan are the definition's, times the scale
  abbrev scaled : (Tick → ℤ) → ℕ → ℤ
  scaled f d = mix p.first_weight p.second_weight (f (back_tick p k d)) (f (back_tick p k (d + half_period x)))

  blend_is : (f : Tick → ℤ) → added S (scaled f) ≡ pos (scale x) *ℤ blend (planned_axis n x) k f
  blend_is f =
      ap (added S) (λ i d. once d i)
      ∙ added-times S (pos (scale x)) (λ d. blend_once (planned_axis n x) k d f)
      ∙ ap (λ (z : ℤ). pos (scale x) *ℤ z) (all S)
    where
      once : (d : ℕ) → scaled f d ≡ pos (scale x) *ℤ blend_once (planned_axis n x) k d f
      once d =
          mix-times (scale x) a b (f (back_tick p k d)) (f (back_tick p k (d + half_period x)))
          ∙ (λ i. pos (scale x) *ℤ mix a b (f (sym (back_is d) i)) (f (sym (back_is (d + half_period x)) i)))

      all : (s : Option ℕ) → added s (λ d. blend_once (planned_axis n x) k d f) ≡ blend_by s (planned_axis n x) k f
      all None = refl
      all (Some d) = refl

  -- rounded
  cell : (z y : ℤ) → z ≡ pos (scale x) *ℤ y → nearest_quotient z 65536 ≡ nearest_quotient y (divisor x)
  cell z y e = ap₂ nearest_quotient e (sym (scale-divides x))
      ∙ nearest-times (scale x) y (divisor x) (scale-some x) (divisor-some x)

  position-cell : (z y : ℤ) → z ≡ pos (scale x) *ℤ y → nearest_quotient z 131072 ≡ nearest_quotient y (2 * divisor x)
  position-cell z y e =
      let twice : 131072 ≡ scale x * (2 * divisor x) = omega (arith, scale-divides x) in
      ap₂ nearest_quotient e twice
      ∙ nearest-times (scale x) y (2 * divisor x) (scale-some x) (omega (arith, divisor-some x))

  pub cells_are : axis_cells k p ≡ cells k (planned_axis n x)
  unfolding back_tick blended_velocity blended_back
  cells_are =
      λ i. position-cell (blended_position p k) (blend (planned_axis n x) k (λ s. s.position))
      (position-is p some k ∙ blend_is (λ s. s.position)) i
      ∷ cell (blended_velocity p k) (blend (planned_axis n x) k (λ s. s.velocity)) (blend_is (λ s. s.velocity)) i
      ∷ cell (blended_velocity p (suc k) -ℤ blended_velocity p k) (blend (planned_axis n x) k (λ s. s.acceleration))
      (change ∙ blend_is (λ s. s.acceleration)) i
      ∷ []
    where
      A : ℕ
      A = p.first_weight

      B : ℕ
      B = p.second_weight

      change : blended_velocity p (suc k) -ℤ blended_velocity p k ≡ added S (scaled (λ s. s.acceleration))
      change =
          sym (added-change S (λ d. blended_back p d (suc k)) (λ d. blended_back p d k))
          ∙ ap (added S) (λ i d. sym (once d) i)
        where
          once : (d : ℕ) → scaled (λ s. s.acceleration) d ≡ blended_back p d (suc k) -ℤ blended_back p d k
          once d =
              let e = d + half_period x in
              mix-change A B (velocity_back p d (suc k)) (velocity_back p d k)
              (velocity_back p e (suc k)) (velocity_back p e k)

-- ---- at the arrival: the landing is exact, and the sums from the landing end begin there

pub lands : (x : Axis) (n : ℕ) → Plannable x n → LandsAt n (plan_of n x)
unfolding back_tick
lands x n plannable =
    record {
      position =
          ring (pos (scale x)) (pos (divisor x))
          (twice_position_at (as_moving x.target n) (pos n)) (ap pos (scale-divides x))
          ∙ ap (λ (z : ℤ). pos (scale x) *ℤ z) landed
          ∙ sym (position-is (plan_of n x) (some x n n plannable last) n
          ∙ blend_is x n n plannable last (λ s. s.position));
    }
  where
    last : n ≤ n
    last = omega arith

    landed : from_landing x n 0 ≡ blend (planned_axis n x) n (λ s. s.position)
    landed = sums-from-landing x n plannable 0 (omega arith)
        ∙ ap (λ (k : ℕ). blend (planned_axis n x) k (λ s. s.position)) {x = n - 0} {y = n} (omega arith)

    ring : (s d z : ℤ) → s *ℤ d ≡ pos 65536 → pos half_unit *ℤ z ≡ s *ℤ (pos 2 *ℤ d *ℤ (pos 128 *ℤ z))
    ring s d z e =
        same (z ∷ []) (search pol depth 20 fits 9000) tt
        ∙ ap (λ (w : ℤ). w *ℤ (pos 256 *ℤ z)) (sym e)
        ∙ same (s ∷ d ∷ z ∷ []) (search pol depth 20 fits 9000) tt
