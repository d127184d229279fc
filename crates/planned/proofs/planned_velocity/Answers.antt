use Prim.Native.Nat.{ℕ, ◌-◌}
use mathlib.Core.Path.{◌≡◌, ap, ◌∙◌}
use native.Mathlib.Omega.{arith}
use lib.IntN.{pos, ◌+ℤ◌, ◌*ℤ◌}
use mir.Syntax.{w64}
use mir.Val.{to_z, of_z}
use Rattle.whole.proofs.Bounds.{exact, sfits, exactly, cast-small}
use Rattle.regions.specs.Regions.{velocity_in}
use Rattle.planned.proofs.PlannedRanges.{planned-is}
use Rattle.planned.proofs.Velocities.{planned-before, planned-after}
use Rattle.planned.proofs.planned_velocity.Goals as goal

pub returns-then-tick-regions : goal.returns-then-tick-regions
returns-then-tick-regions c =
    let a = c.args in
    let e : to_z w64 (of_z w64 c.velocity_in.result) ≡ velocity_in a.p.regions a.k =
    exactly (search exact depth 9) tt ∙ ap (velocity_in a.p.regions) c.from-tick.ensures in
    planned-is a.p c.requires.plan_ranges a.k _ (omega arith)
    (e ∙ planned-before a.p a.k (omega (arith, c.from-tick.ensures)))

-- the ticks since the landing are at most 513
pub overflow_mul-result : goal.overflow_mul-result
overflow_mul-result c =
    let s = cast-small 513 (c.from-tick.result - c.args.p.regions.ticks) (omega (arith, c.from-tick.ensures)) tt in
    sfits (search exact depth 9) tt

pub overflow_add-result : goal.overflow_add-result
overflow_add-result c =
    let s = cast-small 513 (c.from-tick.result - c.args.p.regions.ticks) (omega (arith, c.from-tick.ensures)) tt in
    sfits (search exact depth 20) tt

pub returns : goal.returns
returns c =
    let a = c.args in
    let s = cast-small 513 (c.from-tick.result - a.p.regions.ticks) (omega (arith, c.from-tick.ensures)) tt in
    planned-is a.p c.requires.plan_ranges a.k _ (omega arith)
    (exactly (search exact depth 20) tt
    ∙ ap (λ (k : ℕ). a.p.regions.end +ℤ pos (k - a.p.regions.ticks) *ℤ a.p.acceleration) c.from-tick.ensures
    ∙ planned-after a.p a.k (omega (arith, c.from-tick.ensures)))
