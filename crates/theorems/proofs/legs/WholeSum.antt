-- The required sum is whole for every axis: twice the sum is even, term by term. Only the
-- shift's part of the landing velocity, (Bh + 128h₂)a on the fine grid, needs a reason: a or h
-- is 0, B is 128, or the grid is finer.
use Prim.Native.Nat.{ℕ, ◌/◌, ◌%◌}
use mathlib.Core.Path.{◌≡◌, ap, ◌∙◌}
use mathlib.Core.List.{[], ◌∷◌}
use mathlib.Core.Bool.{true}
use lib.Dec.{eqb}
use lib.IntN.{ℤ, pos, nat_abs, ◌+ℤ◌, ◌-ℤ◌, ◌*ℤ◌}
use Rattle.whole.proofs.Ring.{same, pol}
use Rattle.whole.proofs.Rounding.{twice-even}
use Rattle.model.specs.declared.Axis.{Axis}
use Rattle.model.specs.declared.State.{State}
use Rattle.model.specs.planning.Quantities.{half_period, second_weight, second_half_period, as_moving}
use Rattle.model.specs.planning.Quantities.{twice_position_at}
use Rattle.model.specs.planning.Quantities.{velocity_at, sway_steps, finest_steps, finer, on_grid}
use Rattle.model.specs.planning.Leg.{twice_required, sum_is_whole}
use Rattle.model.specs.planning.Motion.{shift, landing_tick, leg, displacement}
use Rattle.theorems.proofs.motions.Grid.{Grid, two_sways, still, unblended, undamped, corrected, grid}

-- z is twice some number
record Even (z : ℤ) : Type 0 where
  half : ℤ
  twice : z ≡ pos 2 *ℤ half

-- ---- the shift's part of the landing velocity: f grid steps in a fine step, B, h, h₂ and a

shift-even : (x : Axis) (n : ℕ) → Even (on_grid x (shift x *ℤ (as_moving x.target n).acceleration))
shift-even x n = go (grid x)
  where
    F : ℤ
    F = pos (finer x)

    b : ℤ
    b = pos (second_weight x)

    h : ℤ
    h = pos (half_period x)

    s : ℤ
    s = pos (second_half_period x)

    a : ℤ
    a = (as_moving x.target n).acceleration

    nothing : (f s : ℤ) → f *ℤ (s *ℤ pos 0) ≡ pos 2 *ℤ pos 0
    nothing f s = same (f ∷ s ∷ []) (search pol depth 20 fits 9000) tt

    no-delay : (f b s a : ℤ) → f *ℤ ((b *ℤ pos 0 +ℤ pos 128 *ℤ s) *ℤ a) ≡ pos 2 *ℤ (f *ℤ (pos 64 *ℤ s *ℤ a))
    no-delay f b s a = same (f ∷ b ∷ s ∷ a ∷ []) (search pol depth 20 fits 9000) tt

    equal : (f h s a : ℤ) → f *ℤ ((pos 128 *ℤ h +ℤ pos 128 *ℤ s) *ℤ a) ≡ pos 2 *ℤ (f *ℤ (pos 64 *ℤ (h +ℤ s) *ℤ a))
    equal f h s a = same (f ∷ h ∷ s ∷ a ∷ []) (search pol depth 20 fits 9000) tt

    -- on a grid whose steps in a fine step are even
    even-grid : (c s a : ℤ) → pos 2 *ℤ c *ℤ (s *ℤ a) ≡ pos 2 *ℤ (c *ℤ (s *ℤ a))
    even-grid c s a = same (c ∷ s ∷ a ∷ []) (search pol depth 20 fits 9000) tt

    go : Grid x → Even (F *ℤ (shift x *ℤ a))
    go (two_sways d e t) =
        let half = pos (sway_steps / 2) in
        record {
          half = half *ℤ (shift x *ℤ a);
          twice = ap (λ (k : ℕ). pos k *ℤ (shift x *ℤ a)) e
              ∙ even-grid half (shift x) a;
        }
    go (still e t z) = record { half = pos 0; twice = ap (λ (y : ℤ). F *ℤ (shift x *ℤ y)) (z n) ∙ nothing F (shift x) }
    go (unblended e t z) =
        record {
          half = F *ℤ (pos 64 *ℤ s *ℤ a);
          twice = ap (λ (k : ℕ). F *ℤ ((b *ℤ pos k +ℤ pos 128 *ℤ s) *ℤ a)) z ∙ no-delay F b s a;
        }
    go (undamped e t z) =
        record {
          half = F *ℤ (pos 64 *ℤ (h +ℤ s) *ℤ a);
          twice = ap (λ (k : ℕ). F *ℤ ((pos k *ℤ h +ℤ pos 128 *ℤ s) *ℤ a)) z ∙ equal F h s a;
        }
    go (corrected e t) =
        let half = pos (finest_steps / 2) in
        record {
          half = half *ℤ (shift x *ℤ a);
          twice = ap (λ (k : ℕ). pos k *ℤ (shift x *ℤ a)) e
              ∙ even-grid half (shift x) a;
        }

-- ---- twice the required sum is even

-- f grid steps in a fine step; y is twice the target's position at the landing tick, v its velocity
-- there, s the shift, w the shift's part, c half the correction, p₀ and v₀ are the start's
abbrev twice_sum : ℤ → ℤ → ℤ → ℤ → ℤ → ℤ → ℤ → ℤ → ℤ
twice_sum f y v s w c p₀ v₀ =
    (f *ℤ (pos 256 *ℤ y +ℤ pos 2 *ℤ (s *ℤ v)) +ℤ pos 2 *ℤ c -ℤ f *ℤ (pos 512 *ℤ p₀ +ℤ pos 2 *ℤ (s *ℤ v₀)))
    -ℤ f *ℤ (pos 256 *ℤ v₀)
    -ℤ f *ℤ (pos 256 *ℤ v +ℤ w)

all-even : (f y v s w c p₀ v₀ : ℤ) → Even (f *ℤ w) → Even (twice_sum f y v s w c p₀ v₀)
all-even f y v s w c p₀ v₀ e =
    record {
      half = half f y v s c p₀ v₀ e.half;
      twice = apart f y v s w c p₀ v₀ ∙ ap (λ (z : ℤ). twice_sum f y v s (pos 0) c p₀ v₀ -ℤ z) e.twice
          ∙ joined f y v s c p₀ v₀ e.half;
    }
  where
    half : ℤ → ℤ → ℤ → ℤ → ℤ → ℤ → ℤ → ℤ → ℤ
    half f y v s c p₀ v₀ e =
        f *ℤ (pos 128 *ℤ y +ℤ s *ℤ v -ℤ pos 256 *ℤ p₀ -ℤ s *ℤ v₀ -ℤ pos 128 *ℤ v₀ -ℤ pos 128 *ℤ v) +ℤ c -ℤ e

    apart : (f y v s w c p₀ v₀ : ℤ) → twice_sum f y v s w c p₀ v₀ ≡ twice_sum f y v s (pos 0) c p₀ v₀ -ℤ f *ℤ w
    apart f y v s w c p₀ v₀ = same (f ∷ y ∷ v ∷ s ∷ w ∷ c ∷ p₀ ∷ v₀ ∷ []) (search pol depth 30 fits 9000) tt

    joined : (f y v s c p₀ v₀ e : ℤ) → twice_sum f y v s (pos 0) c p₀ v₀ -ℤ pos 2 *ℤ e ≡ pos 2 *ℤ half f y v s c p₀ v₀ e
    joined f y v s c p₀ v₀ e = same (f ∷ y ∷ v ∷ s ∷ c ∷ p₀ ∷ v₀ ∷ e ∷ []) (search pol depth 30 fits 9000) tt

whole-half : (z : ℤ) → Even z → eqb (nat_abs z % 2) 0 ≡ true
whole-half z e = ap (λ (n : ℕ). eqb n 0) (ap (λ (y : ℤ). nat_abs y % 2) e.twice ∙ twice-even e.half)

pub sum-is-whole : (x : Axis) (n : ℕ) → sum_is_whole (leg x n) (displacement x n) ≡ true
sum-is-whole x n =
    whole-half (twice_required (leg x n) (displacement x n))
    (all-even (pos (finer x)) (twice_position_at m k) (velocity_at m k) (shift x) (shift x *ℤ m.acceleration)
    (b *ℤ (h *ℤ h) *ℤ (b -ℤ pos 128) *ℤ m.acceleration) x.start.position x.start.velocity (shift-even x n))
  where
    m : State
    m = as_moving x.target n

    k : ℤ
    k = pos (landing_tick x n)

    b : ℤ
    b = pos (second_weight x)

    h : ℤ
    h = pos (half_period x)
