-- Row 0 is on the start exactly: the shift of rule 2 is what the blend with the uniform
-- motion before tick 0 takes back.
use Prim.Native.Nat.{ℕ, ◌+◌, ◌-◌, ◌*◌, ◌≤◌}
use mathlib.Core.Path.{◌≡◌, refl, ap, ap₂, ◌∙◌}
use mathlib.Core.Bool.{Bool, true, false, not}
use mathlib.Core.List.{[], ◌∷◌}
use native.Mathlib.Omega.{arith}
use lib.Dec.{T, ltb, nltb→le}
use lib.IntN.{ℤ, pos, ◌+ℤ◌, ◌-ℤ◌, ◌*ℤ◌}
use Rattle.whole.specs.Integers.{nearest_quotient}
use Rattle.whole.proofs.Ring.{pol, same}
use Rattle.whole.proofs.Rounding.{nearest-whole}
use Rattle.model.specs.declared.Axis.{Axis}
use Rattle.model.specs.planning.Quantities.{half_period, second_weight, second_half_period, finer}
use Rattle.model.specs.planning.Motion.{Tick, earlier, start_position, start_velocity}
use Rattle.model.specs.planning.Rows.{planned_axis, tick_at, tick_back}
use Rattle.model.specs.planning.Refusals.{Plannable}
use Rattle.theorems.proofs.tables.TwoBlends.{both, both_divisor, both_some}
use Rattle.theorems.proofs.jobs.PlannableAxis as R
use Rattle.theorems.proofs.tables.BlendTicks.{tick-start}
use Rattle.theorems.proofs.tables.Landing.{weights}

module _ (x : Axis) (n : ℕ) (r : Plannable x n) where
  abbrev h : ℕ
  h = half_period x

  abbrev s : ℕ
  s = second_half_period x

  abbrev b : ℕ
  b = second_weight x

  -- d ticks before tick 0
  abbrev earlier_position : ℕ → ℤ
  earlier_position d = start_position x -ℤ pos 2 *ℤ (pos d *ℤ start_velocity x)

  before-start : (d : ℕ) → ((tick_back (planned_axis n x) 0 d).position ≡ earlier_position d)
      × ((tick_back (planned_axis n x) 0 d).velocity ≡ start_velocity x)
  before-start d = go (ltb 0 d) (nltb→le 0 d)
    where
      none : (q v : ℤ) → q ≡ q -ℤ pos 2 *ℤ (pos 0 *ℤ v)
      none q v = same (q ∷ v ∷ []) (search pol depth 20 fits 9000) tt

      at_zero : d ≤ 0 → tick_at (planned_axis n x) (0 - d) ≡ tick_at (planned_axis n x) 0
      at_zero z = ap (tick_at (planned_axis n x)) {x = 0 - d} {y = 0} (omega arith)

      go : (t : Bool) → (T (not t) → d ≤ 0)
          → ((elim t as (λ y. Tick) [ true ↦ earlier x (d - 0) | false ↦ tick_at (planned_axis n x) (0 - d) ]).position
          ≡ earlier_position d)
          × ((elim t as (λ y. Tick) [ true ↦ earlier x (d - 0) | false ↦ tick_at (planned_axis n x) (0 - d) ]).velocity
          ≡ start_velocity x)
      go true f = (ap earlier_position {x = d - 0} {y = d} (omega arith), refl)
      go false f =
          let z : d ≤ 0 = f tt in (
            ap (λ (s : Tick). s.position) (at_zero z)
                ∙ (tick-start x n).0
                ∙ none (start_position x) (start_velocity x)
                ∙ ap earlier_position {x = 0} {y = d} (omega arith),
            ap (λ (s : Tick). s.velocity) (at_zero z) ∙ (tick-start x n).1,
          )

  -- the two blends there, with A written 256 − B
  blended : (f : Tick → ℤ) (u : ℕ → ℤ) → ((d : ℕ) → f (tick_back (planned_axis n x) 0 d) ≡ u d)
      → both (planned_axis n x) 0 f
      ≡ (pos 256 -ℤ pos b) *ℤ u 0 +ℤ pos b *ℤ u (0 + h) +ℤ ((pos 256 -ℤ pos b) *ℤ u s +ℤ pos b *ℤ u (s + h))
  blended f u p =
      ap₂ (λ (y z : ℤ). y +ℤ z) (ap₂ (λ (y z : ℤ). pos (256 - b) *ℤ y +ℤ pos b *ℤ z) (p 0) (p (0 + h)))
      (ap₂ (λ (y z : ℤ). pos (256 - b) *ℤ y +ℤ pos b *ℤ z) (p s) (p (s + h)))
      ∙ ap (λ (a : ℤ). a *ℤ u 0 +ℤ pos b *ℤ u (0 + h) +ℤ (a *ℤ u s +ℤ pos b *ℤ u (s + h)))
      (weights b (R.weight-range x n r))

  pub start-position : nearest_quotient (both (planned_axis n x) 0 (λ s. s.position)) (2 * both_divisor x)
      ≡ pos 256 *ℤ x.start.position
  start-position =
      ap (λ (z : ℤ). nearest_quotient z (2 * both_divisor x))
      (blended (λ s. s.position) earlier_position (λ d. (before-start d).0)
      ∙ taken_back (pos (finer x)) (pos b) (pos h) (pos s) x.start.position x.start.velocity)
      ∙ nearest-whole (2 * both_divisor x) (pos 256 *ℤ x.start.position) (omega (arith, both_some x))
    where
      taken_back : (f b h s p v : ℤ)
          → (pos 256 -ℤ b)
          *ℤ (f *ℤ (pos 512 *ℤ p +ℤ pos 2 *ℤ ((b *ℤ h +ℤ pos 128 *ℤ s) *ℤ v))
          -ℤ pos 2 *ℤ (pos 0 *ℤ (f *ℤ (pos 256 *ℤ v))))
          +ℤ b *ℤ (f *ℤ (pos 512 *ℤ p +ℤ pos 2 *ℤ ((b *ℤ h +ℤ pos 128 *ℤ s) *ℤ v))
          -ℤ pos 2 *ℤ ((pos 0 +ℤ h) *ℤ (f *ℤ (pos 256 *ℤ v))))
          +ℤ ((pos 256 -ℤ b)
          *ℤ (f *ℤ (pos 512 *ℤ p +ℤ pos 2 *ℤ ((b *ℤ h +ℤ pos 128 *ℤ s) *ℤ v)) -ℤ pos 2 *ℤ (s *ℤ (f *ℤ (pos 256 *ℤ v))))
          +ℤ b *ℤ (f *ℤ (pos 512 *ℤ p +ℤ pos 2 *ℤ ((b *ℤ h +ℤ pos 128 *ℤ s) *ℤ v))
          -ℤ pos 2 *ℤ ((s +ℤ h) *ℤ (f *ℤ (pos 256 *ℤ v)))))
          ≡ pos 2 *ℤ (pos 512 *ℤ f) *ℤ (pos 256 *ℤ p)
      taken_back f b h s p v = same (f ∷ b ∷ h ∷ s ∷ p ∷ v ∷ []) (search pol depth 30 fits 9000) tt

  pub start-velocity : nearest_quotient (both (planned_axis n x) 0 (λ s. s.velocity)) (both_divisor x)
      ≡ pos 256 *ℤ x.start.velocity
  start-velocity =
      ap (λ (z : ℤ). nearest_quotient z (both_divisor x))
      (blended (λ s. s.velocity) (λ d. start_velocity x) (λ d. (before-start d).1)
      ∙ as_one (pos (finer x)) (pos b) x.start.velocity)
      ∙ nearest-whole (both_divisor x) (pos 256 *ℤ x.start.velocity) (both_some x)
    where
      as_one : (f b v : ℤ)
          → (pos 256 -ℤ b) *ℤ (f *ℤ (pos 256 *ℤ v)) +ℤ b *ℤ (f *ℤ (pos 256 *ℤ v))
          +ℤ ((pos 256 -ℤ b) *ℤ (f *ℤ (pos 256 *ℤ v)) +ℤ b *ℤ (f *ℤ (pos 256 *ℤ v)))
          ≡ pos 512 *ℤ f *ℤ (pos 256 *ℤ v)
      as_one f b v = same (f ∷ b ∷ v ∷ []) (search pol depth 20 fits 9000) tt
