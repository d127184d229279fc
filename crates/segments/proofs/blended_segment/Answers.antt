use mathlib.Core.Path.{◌≡◌, sym, ap₂, subst}
use Prim.Native.Nat.{◌^◌}
use mir.Syntax.{w64}
use mir.Val.{to_z, of_z}
use Rattle.whole.proofs.Bounds.{exact, exactly, then_is}
use Rattle.blended.specs.BlendedStates.{mix, blended_back}
use Rattle.segments.specs.Segments.{SegmentAt}
use Rattle.segments.proofs.PlannedSegments.{shared_at, segment-blend}
use Rattle.segments.proofs.blended_segment.Goals as goal

pub returns : goal.returns
returns c =
    let p = c.args.p in
    let q = c.segment_back-ahead in
    let r = c.segment_back-behind in
    let s = q.ensures.small in
    let t = r.ensures.small in
    let one : to_z w64 (of_z w64 q.result.change) ≡ q.result.change = exactly (search exact depth 9) tt in
    let other : to_z w64 (of_z w64 r.result.change) ≡ r.result.change = exactly (search exact depth 9) tt in
    -- the change of the blend
    let w = then_is c.mix-change.ensures (ap₂ (mix p.first_weight p.second_weight) one other) in
    subst (SegmentAt (2 ^ 14) (2 ^ 56) (blended_back p c.args.d) c.args.k) (sym c.common.ensures)
    (shared_at q.ensures r.ensures (segment-blend p c.args.d q.ensures.segment r.ensures.segment)
    (exactly (search exact depth 9) tt) (record { within = w.within }))
