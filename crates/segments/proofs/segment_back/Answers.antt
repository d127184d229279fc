use mathlib.Core.Path.{sym, subst}
use Prim.Native.Nat.{ℕ, ◌+◌}
use native.Mathlib.Omega.{arith}
use lib.IntN.{pos}
use Rattle.whole.proofs.Bounds.{exact, exactly}
use Rattle.planned.specs.Plans.{velocity_back}
use Rattle.segments.specs.Segments.{SegmentOf}
use Rattle.segments.proofs.PlannedSegments.{over, segment-at, segment-early, segment-back}
use Rattle.segments.proofs.segment_back.Goals as goal

pub returns-then-k-d : goal.returns-then-k-d
returns-then-k-d c =
    let p = c.args.p in
    let d = c.args.d in
    let delay = c.from-delay.ensures in
    record {
      segment =
          subst (λ (u : ℕ). SegmentOf (velocity_back p d) (over (pos 0) 0 u)) (sym delay)
          (segment-early p d c.requires.plan_ranges.some);
      from = omega arith;
      until = omega (arith, delay);
      short = omega (arith, delay);
      small = record { within = omega arith };
    }

pub returns : goal.returns
returns c =
    let p = c.args.p in
    let d = c.args.d in
    let q = c.planned_segment-segment.result in
    let s = c.planned_segment-segment.ensures in
    let delay = c.from-delay.ensures in
    segment-at
    (subst (λ (u : ℕ). SegmentOf (velocity_back p d) (over q.change (q.from + u) (q.until + u))) (sym delay)
    (segment-back p d s.segment))
    (exactly (search exact depth 9) tt) (omega (arith, delay, s.from)) (omega (arith, delay, s.until))
    (omega (arith, delay, s.short)) s.small
