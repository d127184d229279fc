use Prim.Native.Nat.{ℕ}
use mathlib.Core.Path.{◌≡◌, sym, ap, ◌∙◌}
use mir.Syntax.{w64}
use mir.Val.{to_z, of_z}
use Rattle.whole.specs.Integers.{sum_to}
use Rattle.whole.proofs.Bounds.{exact, exactly}
use Rattle.std.specs.Prelude.{Option}
use Rattle.planned.specs.declared.AxisPlan.{AxisPlan}
use Rattle.blended.specs.BlendedStates.{blended_back, added}
use Rattle.blended.proofs.BlendedSums.{blends-sum-is}
use Rattle.blended.proofs.blended_sum.Goals as goal

-- the blends of a second sway
all : (p : AxisPlan) (k : ℕ) {s : Option ℕ} → p.second_sway ≡ s
    → added p.second_sway (λ d. sum_to (blended_back p d) k) ≡ added s (λ d. sum_to (blended_back p d) k)
all p k e = ap (λ (s : Option ℕ). added s (λ d. sum_to (blended_back p d) k)) e

pub returns-in-None : goal.returns-in-None
returns-in-None c =
    let p = c.args.p in
    let k = c.args.k in
    let once : to_z w64 (of_z w64 c.blended_sum_back-once.result) ≡ sum_to (blended_back p 0) k =
    exactly (search exact depth 9) tt in
    blends-sum-is p c.requires.plan_ranges k c.requires.k_bound _ (once ∙ sym (all p k c.in-None.is))

pub returns-in-Some : goal.returns-in-Some
returns-in-Some c =
    let p = c.args.p in
    let k = c.args.k in
    blends-sum-is p c.requires.plan_ranges k c.requires.k_bound _
    (exactly (search exact depth 20) tt ∙ sym (all p k c.in-Some.is))
