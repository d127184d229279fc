use mathlib.Core.Path.{sym, subst}
use Prim.Native.Nat.{◌^◌}
use native.Mathlib.Omega.{arith}
use Rattle.whole.proofs.Bounds.{exact, exactly, within}
use Rattle.blended.specs.BlendedStates.{blended_velocity}
use Rattle.segments.specs.Segments.{SegmentAt}
use Rattle.segments.proofs.PlannedSegments.{shared_at, segment-sum, segment-added}
use Rattle.segments.proofs.segment_at.Goals as goal

pub returns-in-None : goal.returns-in-None
returns-in-None c =
    let s = c.blended_segment-once.ensures in
    record {
      segment = segment-added c.args.p c.in-None.is s.segment;
      from = s.from;
      until = s.until;
      short = s.short;
      small = record { within = omega (arith, s.small.within) };
    }

pub returns-in-Some : goal.returns-in-Some
returns-in-Some c =
    let p = c.args.p in
    let s = c.blended_segment-once.ensures in
    let t = c.blended_segment-again.ensures in
    let w = s.small in
    let z = t.small in
    subst (SegmentAt (2 ^ 14) (2 ^ 57) (blended_velocity p) c.args.k) (sym c.common.ensures)
    (shared_at s t (segment-added p c.in-Some.is (segment-sum s.segment t.segment))
    (exactly (search exact depth 20) tt) (within (search exact depth 9) tt))
