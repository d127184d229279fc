use mathlib.Core.Path.{sym, subst}
use Prim.Native.Nat.{ℕ, ◌+◌, ◌≤◌}
use native.Mathlib.Omega.{arith}
use lib.IntN.{pos}
use Rattle.planned.specs.Plans.{planned_at}
use Rattle.segments.specs.Segments.{SegmentOf}
use Rattle.segments.proofs.PlannedSegments.{over, segment-raised, segment-level, raised-last}
use Rattle.segments.proofs.level_segment.Goals as goal

pub returns-then-tick-end : goal.returns-then-tick-end
returns-then-tick-end c =
    let p = c.args.p in
    let is = c.raised_until-end.ensures in
    -- the raised ticks end in the level part
    let l : c.raised_until-end.result ≤ c.args.last =
    omega (arith, is, raised-last p.regions c.args.last (omega arith)) in
    record {
      segment =
          subst (λ (b : ℕ). SegmentOf (planned_at p) (over (pos 0) (p.regions.rise + 1) b)) (sym is)
          (segment-raised p c.args.last (omega arith) c.requires.fall_value);
      from = omega arith;
      until = omega arith;
      short = omega (arith, c.requires.plan_ranges.regions.ticks);
      small = record { within = omega arith };
    }

pub returns-then-tick-last : goal.returns-then-tick-last
returns-then-tick-last c =
    let p = c.args.p in
    record {
      segment =
          subst (λ (b : ℕ). SegmentOf (planned_at p) (over (pos 0) (b + 1) c.args.last))
          (sym c.raised_until-end.ensures)
          (segment-level p c.args.last (omega arith) c.requires.fall_value);
      from = omega arith;
      until = omega arith;
      short = omega (arith, c.requires.plan_ranges.regions.ticks);
      small = record { within = omega arith };
    }
