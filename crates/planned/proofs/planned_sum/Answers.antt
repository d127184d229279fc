use Prim.Native.Nat.{◌-◌}
use mathlib.Core.Path.{◌≡◌, ap, ◌∙◌}
use native.Mathlib.Omega.{arith}
use lib.IntN.{◌+ℤ◌}
use mir.Syntax.{w64}
use mir.Val.{to_z, of_z}
use Rattle.whole.specs.Integers.{sum_to}
use Rattle.whole.proofs.Bounds.{exact, exactly}
use Rattle.regions.specs.Regions.{velocity_in}
use Rattle.areas.specs.Areas.{ramp_area}
use Rattle.planned.proofs.PlannedSums.{planned-sum-is, sum-before, sum-after}
use Rattle.planned.proofs.planned_sum.Goals as goal

pub returns-then-tick-regions : goal.returns-then-tick-regions
returns-then-tick-regions c =
    let p = c.args.p in
    let k = c.args.k in
    let e : to_z w64 (of_z w64 c.sum_to.result) ≡ sum_to (velocity_in p.regions) k =
    exactly (search exact depth 9) tt ∙ ap (sum_to (velocity_in p.regions)) c.from-tick.ensures in
    planned-sum-is p c.requires.plan_ranges k c.requires.k_bound _
    (e ∙ sum-before p k (omega (arith, c.from-tick.ensures)))

pub returns : goal.returns
returns c =
    let p = c.args.p in
    let k = c.args.k in
    let r = p.regions in
    let v : to_z w64 (of_z w64 r.end) ≡ r.end = exactly (search exact depth 9) tt in
    let u : to_z w64 (of_z w64 p.acceleration) ≡ p.acceleration = exactly (search exact depth 9) tt in
    planned-sum-is p c.requires.plan_ranges k c.requires.k_bound _
    (exactly (search exact depth 20) tt
    ∙ (λ i. sum_to (velocity_in r) (r.ticks - 1) +ℤ r.end +ℤ ramp_area (v i) (u i) (c.from-tick.ensures i - r.ticks))
    ∙ sum-after p k c.requires.plan_ranges.some (omega (arith, c.from-tick.ensures)))
