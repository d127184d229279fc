-- The blend with and without a second sway in one form: the sum of the blends at the
-- delays 0 and h₂, over 512. Where there is no second sway h₂ is 0, and this is twice
-- the blend over twice its divisor.
use Prim.Native.Nat.{ℕ, ◌*◌, ◌<◌}
use mathlib.Core.Path.{◌≡◌, sym, ap, ap₂, ◌∙◌}
use mathlib.Core.List.{[], ◌∷◌}
use native.Mathlib.Omega.{arith}
use lib.IntN.{ℤ, pos, ◌+ℤ◌, ◌*ℤ◌}
use Rattle.whole.specs.Integers.{nearest_quotient}
use Rattle.whole.proofs.Differences.{whole, all₂}
use Rattle.whole.proofs.Ring.{pol, same}
use Rattle.whole.proofs.Rounding.{nearest-times}
use Rattle.model.specs.declared.Axis.{Axis}
use Rattle.std.specs.Prelude.{Option, None, Some}
use Rattle.model.specs.planning.Quantities.{sway_delay, second_half_period, finer}
use Rattle.model.specs.planning.Motion.{Tick}
use Rattle.model.specs.planning.Rows.{PlannedAxis, blend_once, blend_by, weights_by, blend, divisor}
use Rattle.theorems.proofs.motions.Grid.{finer-range}

abbrev pub both : PlannedAxis → ℕ → (Tick → ℤ) → ℤ
both t k f = blend_once t k 0 f +ℤ blend_once t k (second_half_period t.axis) f

abbrev pub both_divisor : Axis → ℕ
both_divisor x = 512 * finer x

-- how often the blend is in the two
abbrev pub times_by : Option ℕ → ℕ
times_by None = 2
times_by (Some d) = 1

abbrev pub times : Axis → ℕ
times x = times_by x.second_sway

pub times-some : (x : Axis) → 0 < times x
times-some x = go x.second_sway
  where
    go : (s : Option ℕ) → 0 < times_by s
    go None = omega arith
    go (Some d) = omega arith

pub both_is : (t : PlannedAxis) (k : ℕ) (f : Tick → ℤ) → both t k f ≡ pos (times t.axis) *ℤ blend t k f
both_is t k f = go t.axis.second_sway
  where
    twice : (z : ℤ) → z +ℤ z ≡ pos 2 *ℤ z
    twice z = same (z ∷ []) (search pol depth 20 fits 9000) tt

    once : (z : ℤ) → z ≡ pos 1 *ℤ z
    once z = same (z ∷ []) (search pol depth 20 fits 9000) tt

    go : (s : Option ℕ) → blend_once t k 0 f +ℤ blend_once t k (sway_delay s) f ≡ pos (times_by s) *ℤ blend_by s t k f
    go None = twice (blend_once t k 0 f)
    go (Some d) = once (blend_once t k 0 f +ℤ blend_once t k d f)

pub weights-times : (s : Option ℕ) (f : ℕ) → times_by s * (weights_by s * f) ≡ 512 * f
weights-times None f = omega arith
weights-times (Some d) f = omega arith

pub both_some : (x : Axis) → 0 < both_divisor x
both_some x = omega (arith, (finer-range x).0)

pub divisor-some : (x : Axis) → 0 < divisor x
divisor-some x = go x.second_sway
  where
    go : (s : Option ℕ) → 0 < weights_by s * finer x
    go None = omega (arith, (finer-range x).0)
    go (Some d) = omega (arith, (finer-range x).0)

-- a cell in the one form
module _ (t : PlannedAxis) (k : ℕ) (f : Tick → ℤ) where
  pub cell-both : nearest_quotient (blend t k f) (divisor t.axis)
      ≡ nearest_quotient (both t k f) (both_divisor t.axis)
  cell-both =
      sym (nearest-times (times t.axis) (blend t k f) (divisor t.axis)
      (times-some t.axis) (divisor-some t.axis))
      ∙ ap₂ nearest_quotient (sym (both_is t k f)) (weights-times t.axis.second_sway (finer t.axis))

  pub position-both : nearest_quotient (blend t k f) (2 * divisor t.axis)
      ≡ nearest_quotient (both t k f) (2 * both_divisor t.axis)
  position-both =
      sym (nearest-times (times t.axis) (blend t k f) (2 * divisor t.axis) (times-some t.axis)
      (omega (arith, divisor-some t.axis)))
      ∙ ap₂ nearest_quotient (sym (both_is t k f))
      (doubled (times t.axis) (divisor t.axis)
      ∙ ap (λ (d : ℕ). 2 * d) (weights-times t.axis.second_sway (finer t.axis)))
    where
      doubled : (c d : ℕ) → c * (2 * d) ≡ 2 * (c * d)
      doubled c d = omega arith

-- what both are exactly, the blend is
pub blend-of-both : (t : PlannedAxis) (k : ℕ) (f : Tick → ℤ) (w : ℤ)
    → both t k f ≡ pos (2 * both_divisor t.axis) *ℤ w → blend t k f ≡ pos (2 * divisor t.axis) *ℤ w
blend-of-both t k f w e = go t.axis.second_sway (blend t k f) (finer t.axis) (sym (both_is t k f) ∙ e)
  where
    halves : (z y : ℤ) → pos 2 *ℤ z ≡ pos 2 *ℤ y → z ≡ y
    halves = all₂ _ (λ a b. simp whole (omega arith))

    doubled : (d y : ℤ) → pos 2 *ℤ d *ℤ y ≡ pos 2 *ℤ (d *ℤ y)
    doubled d y = same (d ∷ y ∷ []) (search pol depth 20 fits 9000) tt

    once : (z : ℤ) → z ≡ pos 1 *ℤ z
    once z = same (z ∷ []) (search pol depth 20 fits 9000) tt

    go : (s : Option ℕ) (z : ℤ) (g : ℕ) → pos (times_by s) *ℤ z ≡ pos (2 * (512 * g)) *ℤ w
        → z ≡ pos (2 * (weights_by s * g)) *ℤ w
    go None z g e =
        halves z (pos (2 * (256 * g)) *ℤ w)
        (e ∙ ap (λ (d : ℕ). pos d *ℤ w) {x = 2 * (512 * g)} {y = 2 * (2 * (256 * g))} (omega arith)
        ∙ doubled (pos (2 * (256 * g))) w)
    go (Some d) z g e = once z ∙ e
