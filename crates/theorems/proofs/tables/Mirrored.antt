-- Negating a planned motion negates every cell: the blend is linear, and halves go away from zero.
use Prim.Native.Nat.{ℕ, zero, suc, ◌+◌, ◌*◌, ◌-◌, ◌<◌}
use mathlib.Core.Path.{◌≡◌, refl, sym, ap, ap₂, ◌∙◌}
use mathlib.Core.Bool.{Bool, true, false, not, ◌&&◌}
use mathlib.Core.List.{List, [], ◌∷◌, map}
use native.Mathlib.Omega.{arith}
use lib.Dec.{ltb, eqb}
use lib.ListN.{get_or}
use lib.IntN.{ℤ, pos, neg_ℤ, ◌+ℤ◌, ◌-ℤ◌, ◌*ℤ◌, neg_ℤ-+ℤ}
use Rattle.whole.specs.Integers.{nearest_quotient}
use Rattle.whole.proofs.Laws.{nat_abs-neg}
use Rattle.whole.proofs.Ring.{pol, same}
use Rattle.whole.proofs.Rounding.{nearest-neg}
use Rattle.model.specs.declared.Axis.{Axis}
use Rattle.std.specs.Prelude.{Option, None, Some}
use Rattle.model.specs.declared.Target.{Target}
use Rattle.model.specs.declared.Target.TheVariants.{Fixed, Moving}
use Rattle.model.specs.planning.Quantities.{half_period, second_weight, accelerates, damped, finer, finer_by}
use Rattle.model.specs.planning.Motion.{Tick, earlier, shift}
use Rattle.model.specs.planning.Rows.{PlannedAxis, tick_at, tick_back, blend_once, blend_by, weights_by, blend}
use Rattle.theorems.specs.Mirror.{negated_tick, negated_target, negated_axis, negated_plan, Mirrored}
use Rattle.theorems.proofs.tables.TwoBlends.{divisor-some}

map-get_or : (l : List Tick) (k : ℕ) (d : Tick)
    → get_or (map negated_tick l) k (negated_tick d) ≡ negated_tick (get_or l k d)
map-get_or [] k d = refl
map-get_or (s ∷ l) zero d = refl
map-get_or (s ∷ l) (suc k) d = map-get_or l k d

accelerates-negated : (t : Target) → accelerates (negated_target t) ≡ accelerates t
accelerates-negated (Fixed r) = refl
accelerates-negated (Moving m) = ap (λ (n : ℕ). not (eqb n 0)) (nat_abs-neg m.acceleration)

-- the grid stays
finer-negated : (x : Axis) → finer (negated_axis x) ≡ finer x
unfolding finer
finer-negated x = ap (λ (b : Bool). finer_by x.second_sway (b && damped x)) (accelerates-negated x.target)

earlier-negated : (x : Axis) (j : ℕ) → earlier (negated_axis x) j ≡ negated_tick (earlier x j)
earlier-negated x j =
    ap (λ (f : ℕ). started (pos f)) (finer-negated x)
    ∙ ap₂ (λ (q v : ℤ). record { position = q; velocity = v; acceleration = pos 0 })
    (place (pos (finer x)) (shift x) x.start.position x.start.velocity (pos j))
    (speed (pos (finer x)) x.start.velocity)
  where
    started : ℤ → Tick
    started f =
        record {
          position = f *ℤ (pos 512 *ℤ neg_ℤ x.start.position +ℤ pos 2 *ℤ (shift x *ℤ neg_ℤ x.start.velocity))
              -ℤ pos 2 *ℤ (pos j *ℤ (f *ℤ (pos 256 *ℤ neg_ℤ x.start.velocity)));
          velocity = f *ℤ (pos 256 *ℤ neg_ℤ x.start.velocity);
          acceleration = pos 0;
        }

    place : (f s p v i : ℤ)
        → f *ℤ (pos 512 *ℤ neg_ℤ p +ℤ pos 2 *ℤ (s *ℤ neg_ℤ v)) -ℤ pos 2 *ℤ (i *ℤ (f *ℤ (pos 256 *ℤ neg_ℤ v)))
        ≡ neg_ℤ (f *ℤ (pos 512 *ℤ p +ℤ pos 2 *ℤ (s *ℤ v)) -ℤ pos 2 *ℤ (i *ℤ (f *ℤ (pos 256 *ℤ v))))
    place f s p v i = same (f ∷ s ∷ p ∷ v ∷ i ∷ []) (search pol depth 20 fits 9000) tt

    speed : (f v : ℤ) → f *ℤ (pos 256 *ℤ neg_ℤ v) ≡ neg_ℤ (f *ℤ (pos 256 *ℤ v))
    speed f v = same (f ∷ v ∷ []) (search pol depth 20 fits 9000) tt

module _ (t : PlannedAxis) where
  now-negated : (k : ℕ) → tick_at (negated_plan t) k ≡ negated_tick (tick_at t k)
  now-negated k =
      ap (λ (d : Tick). get_or (map negated_tick t.ticks) k d) (earlier-negated t.axis 0)
      ∙ map-get_or t.ticks k (earlier t.axis 0)

  back-negated : (k h : ℕ) → tick_back (negated_plan t) k h ≡ negated_tick (tick_back t k h)
  back-negated k h = go (ltb k h)
    where
      go : (b : Bool)
          → (elim b as
          (λ _. Tick) [ true ↦ earlier (negated_axis t.axis) (h - k) | false ↦ tick_at (negated_plan t) (k - h) ])
          ≡ negated_tick (elim b as (λ _. Tick) [ true ↦ earlier t.axis (h - k) | false ↦ tick_at t (k - h) ])
      go true = earlier-negated t.axis (h - k)
      go false = now-negated (k - h)

  module _ (k : ℕ) (f : Tick → ℤ) (odd : (s : Tick) → f (negated_tick s) ≡ neg_ℤ (f s)) where
    once-negated : (d : ℕ) → blend_once (negated_plan t) k d f ≡ neg_ℤ (blend_once t k d f)
    once-negated d =
        ap₂ (λ (y z : ℤ). pos (256 - second_weight t.axis) *ℤ y +ℤ pos (second_weight t.axis) *ℤ z) (at d)
        (at (d + half_period t.axis))
        ∙ turned (pos (256 - second_weight t.axis)) (pos (second_weight t.axis)) (f (tick_back t k d))
        (f (tick_back t k (d + half_period t.axis)))
      where
        at : (d : ℕ) → f (tick_back (negated_plan t) k d) ≡ neg_ℤ (f (tick_back t k d))
        at d = ap f (back-negated k d) ∙ odd (tick_back t k d)

        turned : (a b y z : ℤ) → a *ℤ neg_ℤ y +ℤ b *ℤ neg_ℤ z ≡ neg_ℤ (a *ℤ y +ℤ b *ℤ z)
        turned a b y z = same (a ∷ b ∷ y ∷ z ∷ []) (search pol depth 20 fits 9000) tt

    blend-negated : blend (negated_plan t) k f ≡ neg_ℤ (blend t k f)
    blend-negated = go t.axis.second_sway
      where
        go : (s : Option ℕ) → blend_by s (negated_plan t) k f ≡ neg_ℤ (blend_by s t k f)
        go None = once-negated 0
        go (Some d) = ap₂ (λ (y z : ℤ). y +ℤ z) (once-negated 0) (once-negated d)
            ∙ sym (neg_ℤ-+ℤ (blend_once t k 0 f) (blend_once t k d f))

    cell-negated : (d : ℕ) → 0 < d
        → nearest_quotient (blend (negated_plan t) k f) d ≡ neg_ℤ (nearest_quotient (blend t k f) d)
    cell-negated d h = ap (λ (z : ℤ). nearest_quotient z d) blend-negated ∙ nearest-neg (blend t k f) d h

pub mirrored : Mirrored
mirrored t k =
    λ i. cell t (λ s. s.position) (λ s. refl) (λ f. 2 * (weights_by t.axis.second_sway * f))
    (omega (arith, divisor-some t.axis)) i
    ∷ cell t (λ s. s.velocity) (λ s. refl) (λ f. weights_by t.axis.second_sway * f) (divisor-some t.axis) i
    ∷ cell t (λ s. s.acceleration) (λ s. refl) (λ f. weights_by t.axis.second_sway * f) (divisor-some t.axis) i
    ∷ []
  where
    -- the divisor is one of the grid
    cell : (t : PlannedAxis) (f : Tick → ℤ) → ((s : Tick) → f (negated_tick s) ≡ neg_ℤ (f s))
        → (d : ℕ → ℕ) → 0 < d (finer t.axis)
        → nearest_quotient (blend (negated_plan t) k f) (d (finer (negated_axis t.axis)))
        ≡ neg_ℤ (nearest_quotient (blend t k f) (d (finer t.axis)))
    cell t f odd d h =
        ap (λ (g : ℕ). nearest_quotient (blend (negated_plan t) k f) (d g)) (finer-negated t.axis)
        ∙ cell-negated t k f odd (d (finer t.axis)) h
