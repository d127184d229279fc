use mathlib.Core.Path.{sym, subst}
use Prim.Native.Nat.{ℕ, ◌+◌, ◌≤◌}
use native.Mathlib.Omega.{arith}
use lib.IntN.{pos, ◌-ℤ◌}
use Rattle.whole.proofs.Bounds.{exact, exactly, within}
use Rattle.planned.specs.Plans.{planned_at}
use Rattle.segments.specs.Segments.{SegmentOf}
use Rattle.segments.proofs.PlannedSegments.{over, segment-at, segment-falling, fall-first}
use Rattle.segments.proofs.later_segment.Goals as goal

pub returns-then-regions-from : goal.returns-then-regions-from
returns-then-regions-from c =
    let p = c.args.p in
    let g = c.requires.plan_ranges.regions in
    let is = c.fall_begins.ensures in
    let falls : p.regions.ticks ≤ c.args.k + p.regions.fall = omega (arith, c.from.ensures) in
    segment-at
    (subst (λ (b : ℕ). SegmentOf (planned_at p) (over (pos 0 -ℤ p.regions.down) b p.regions.ticks))
    (sym is) (segment-falling p))
    (exactly (search exact depth 9) tt)
    (omega (arith, is, fall-first p.regions c.args.k (omega arith) falls)) (omega arith)
    (omega (arith, g.ticks)) (within (search exact depth 9) tt)
