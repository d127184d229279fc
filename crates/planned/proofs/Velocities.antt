-- The planned velocity of a tick by the part of the motion that it is in, and some ticks before a
-- tick.
use mathlib.Core.Path.{◌≡◌, sym, ap, ◌∙◌}
use mathlib.Core.List.{[], ◌∷◌}
use Rattle.whole.proofs.Ring.{pol, same}
use Rattle.whole.proofs.Tests.{choice-yes, choice-no, ltb_yes, ltb_no}
use Prim.Native.Nat.{ℕ, suc, ◌+◌, ◌-◌, ◌<◌, ◌≤◌}
use native.Mathlib.Omega.{arith}
use native.Mathlib.Decide.{dec_lt}
use lib.IntN.{ℤ, pos, ◌+ℤ◌, ◌*ℤ◌}
use Rattle.regions.specs.Regions.{velocity_in}
use Rattle.regions.proofs.ChosenRegions.{in-first}
use Rattle.planned.specs.declared.AxisPlan.{AxisPlan}
use Rattle.planned.specs.Plans.{planned_at, velocity_back}

module _ (p : AxisPlan) (k : ℕ) where
  -- before the landing
  pub planned-before : k < p.regions.ticks → velocity_in p.regions k ≡ planned_at p k
  unfolding planned_at
  planned-before h = choice-yes _ _ _ (ltb_yes h)

  -- from it on
  pub planned-after : p.regions.ticks ≤ k
      → p.regions.end +ℤ pos (k - p.regions.ticks) *ℤ p.acceleration ≡ planned_at p k
  unfolding planned_at
  planned-after h = choice-no _ _ _ (ltb_no h)

pub planned-start : (p : AxisPlan) → 0 < p.regions.ticks → p.regions.start ≡ planned_at p 0
planned-start p h = sym (in-first p.regions) ∙ planned-before p 0 h

module _ (p : AxisPlan) (k : ℕ) where
  pub lands : k ≡ p.regions.ticks → p.regions.end ≡ planned_at p k
  lands e =
      none p.regions.end p.acceleration
      ∙ ap (λ (j : ℕ). p.regions.end +ℤ pos j *ℤ p.acceleration) {x = 0} {y = k - p.regions.ticks} (omega arith)
      ∙ planned-after p k (omega arith)
    where
      none : (v a : ℤ) → v ≡ v +ℤ pos 0 *ℤ a
      none v a = same (v ∷ a ∷ []) (search pol depth 20 fits 9000) tt

  pub goes_on : p.regions.ticks ≤ k → planned_at p k +ℤ p.acceleration ≡ planned_at p (suc k)
  goes_on h =
      ap (λ (v : ℤ). v +ℤ p.acceleration) (sym (planned-after p k h))
      ∙ one_more p.regions.end (pos (k - p.regions.ticks)) p.acceleration
      ∙ ap (λ (j : ℕ). p.regions.end +ℤ pos j *ℤ p.acceleration) {x = k - p.regions.ticks + 1}
      {y = suc k - p.regions.ticks} (omega arith)
      ∙ planned-after p (suc k) (omega arith)
    where
      one_more : (v j a : ℤ) → v +ℤ j *ℤ a +ℤ a ≡ v +ℤ (j +ℤ pos 1) *ℤ a
      one_more v j a = same (v ∷ j ∷ a ∷ []) (search pol depth 20 fits 9000) tt

-- ---- d ticks before

module _ (p : AxisPlan) (d k : ℕ) where
  pub back-before : k < d → p.regions.start ≡ velocity_back p d k
  unfolding velocity_back
  back-before h = choice-yes _ _ _ (ltb_yes h)

  pub back-late : d ≤ k → planned_at p (k - d) ≡ velocity_back p d k
  unfolding velocity_back
  back-late h = choice-no _ _ _ (ltb_no h)

  -- up to tick 0 of the planned motion
  pub back_early : 0 < p.regions.ticks → k ≤ d → p.regions.start ≡ velocity_back p d k
  back_early some h = go (dec_lt k d)
    where
      go : Dec (k < d) → p.regions.start ≡ velocity_back p d k
      go (Dec.yes l) = back-before l
      go (Dec.no l) =
          planned-start p some ∙ ap (planned_at p) {x = 0} {y = k - d} (omega arith) ∙ back-late (omega arith)
