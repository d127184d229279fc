-- The state after the blends at tick 0, one tick on, one tick back, and at the arrival.
use mathlib.Core.Path.{◌≡◌, sym, ap, ◌∙◌}
use mathlib.Core.List.{[], ◌∷◌}
use Rattle.whole.proofs.Ring.{pol, same}
use Prim.Native.Nat.{ℕ, suc, ◌+◌, ◌<◌}
use native.Mathlib.Omega.{arith}
use lib.IntN.{ℤ, pos, ◌+ℤ◌, ◌-ℤ◌, ◌*ℤ◌}
use Rattle.planned.specs.declared.AxisPlan.{AxisPlan}
use Rattle.blended.specs.declared.BlendedState.{BlendedState}
use Rattle.planned.specs.Plans.{total_weight}
use Rattle.blended.specs.BlendedStates.{mix, blended_back, added, blended_velocity}
use Rattle.blended.specs.BlendedStates.{lag_of, blended_position, blended_state_at, half_unit, LandsAt}
use Rattle.blended.proofs.Blend.{mix-same, added-same}
use Rattle.planned.proofs.Velocities.{back_early}

-- ---- at tick 0

velocity-0 : (p : AxisPlan) → 0 < p.regions.ticks → pos (total_weight p) *ℤ p.regions.start ≡ blended_velocity p 0
unfolding blended_velocity blended_back
velocity-0 p some =
    sym (added-same p.second_sway (p.first_weight + p.second_weight) p.regions.start)
    ∙ ap (added p.second_sway) (λ i d. back-0 d i)
  where
    back-0 : (d : ℕ) → pos (p.first_weight + p.second_weight) *ℤ p.regions.start ≡ blended_back p d 0
    back-0 d =
        sym (mix-same p.first_weight p.second_weight p.regions.start)
        ∙ (λ i. mix p.first_weight p.second_weight (back_early p d 0 some (omega arith) i)
        (back_early p (d + p.half_period) 0 some (omega arith) i))

pub state-0 : (p : AxisPlan) (q v : ℤ)
    → q ≡ pos (total_weight p) *ℤ p.origin -ℤ pos 2 *ℤ (pos (lag_of p) *ℤ p.regions.start)
    → v ≡ pos (total_weight p) *ℤ p.regions.start → 0 < p.regions.ticks
    → ◌≡◌ {A = BlendedState} (record { position = q; velocity = v }) (blended_state_at p 0)
unfolding blended_position
state-0 p q v e f some = λ i. record { position = e i; velocity = (f ∙ velocity-0 p some) i }

-- ---- one tick on

pub state-next : (p : AxisPlan) (k : ℕ) (q v : ℤ)
    → q ≡ blended_position p k +ℤ blended_velocity p k +ℤ blended_velocity p (suc k) → v ≡ blended_velocity p (suc k)
    → ◌≡◌ {A = BlendedState} (record { position = q; velocity = v }) (blended_state_at p (suc k))
unfolding blended_position
state-next p k q v e f = λ i. record { position = e i; velocity = f i }

-- ---- one tick back, and at the arrival

pub state-before : (p : AxisPlan) (k : ℕ) (q v : ℤ)
    → q ≡ blended_position p (suc k) -ℤ blended_velocity p (suc k) -ℤ blended_velocity p k → v ≡ blended_velocity p k
    → ◌≡◌ {A = BlendedState} (record { position = q; velocity = v }) (blended_state_at p k)
unfolding blended_position
state-before p k q v e f =
    λ i. record {
      position = (e ∙ undone (blended_position p k) (blended_velocity p k) (blended_velocity p (suc k))) i;
      velocity = f i;
    }
  where
    undone : (q v w : ℤ) → q +ℤ v +ℤ w -ℤ w -ℤ v ≡ q
    undone q v w = same (q ∷ v ∷ w ∷ []) (search pol depth 20 fits 9000) tt

pub state-landed : (p : AxisPlan) (n : ℕ) (q v : ℤ) → LandsAt n p
    → q ≡ pos half_unit *ℤ p.destination → v ≡ blended_velocity p n
    → ◌≡◌ {A = BlendedState} (record { position = q; velocity = v }) (blended_state_at p n)
state-landed p n q v a e f = λ i. record { position = (e ∙ a.position) i; velocity = f i }
