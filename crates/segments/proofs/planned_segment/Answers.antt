use native.Mathlib.Omega.{arith}
use Rattle.whole.proofs.Bounds.{exact, exactly, within}
use Rattle.segments.proofs.PlannedSegments.{segment-at, segment-landed, segment-rising}
use Rattle.segments.proofs.planned_segment.Goals as goal

pub returns-then-ticks-tick : goal.returns-then-ticks-tick
returns-then-ticks-tick c =
    let r = c.requires.plan_ranges in
    segment-at (segment-landed c.args.p 4097) (exactly (search exact depth 9) tt) (omega arith)
    (omega (arith, r.last)) (omega arith)
    (within (search exact depth 9) tt)

pub returns-then-rise-ticks : goal.returns-then-rise-ticks
returns-then-rise-ticks c =
    let g = c.requires.plan_ranges.regions in
    segment-at (segment-rising c.args.p (omega arith)) (exactly (search exact depth 9) tt) (omega arith)
    (omega arith) (omega (arith, g.ticks))
    (within (search exact depth 9) tt)
