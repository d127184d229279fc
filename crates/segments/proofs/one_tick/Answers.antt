use mathlib.Core.Path.{sym, subst}
use Prim.Native.Nat.{ℕ, suc, ◌+◌, ◌^◌}
use native.Mathlib.Omega.{arith}
use native.Mathlib.Numerals.{add-one}
use Rattle.whole.specs.Ranges.{Within, Is}
use Rattle.whole.proofs.Bounds.{exact, exactly, within}
use lib.IntN.{◌-ℤ◌}
use Rattle.planned.specs.Plans.{planned_at}
use Rattle.segments.specs.Segments.{SegmentOf}
use Rattle.segments.proofs.PlannedSegments.{over, segment-at, segment-once}
use Rattle.segments.proofs.one_tick.Goals as goal

pub returns : goal.returns
returns c =
    let p = c.args.p in
    let k = c.args.k in
    let v = c.planned_velocity-now.ensures in
    -- the planned velocity one tick on
    let w : Is (2 ^ 38) c.planned_velocity-next.result (planned_at p (suc k)) =
    subst (λ (k : ℕ). Is (2 ^ 38) c.planned_velocity-next.result (planned_at p k)) (add-one k)
    c.planned_velocity-next.ensures in
    let now : Within (2 ^ 38) (planned_at p k) = record { within = v.within } in
    let later : Within (2 ^ 38) (planned_at p (suc k)) = record { within = w.within } in
    let tick = c.from-tick.ensures in
    segment-at
    (subst (λ (t : ℕ). SegmentOf (planned_at p) (over (planned_at p (suc k) -ℤ planned_at p k) t (t + 1)))
    (sym tick) (segment-once (planned_at p) k))
    (exactly (search exact depth 20) tt) (omega (arith, tick)) (omega (arith, tick))
    (omega (arith, tick, c.requires.plan_ranges.last)) (within (search exact depth 9) tt)
