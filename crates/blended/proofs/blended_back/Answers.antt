use Prim.Native.Nat.{◌+◌}
use mathlib.Core.Path.{◌≡◌}
use mir.Syntax.{w64}
use mir.Val.{to_z, of_z}
use Rattle.whole.proofs.Bounds.{exact, exactly}
use Rattle.planned.specs.Plans.{velocity_back}
use Rattle.blended.proofs.BlendedRanges.{blend_is}
use Rattle.blended.proofs.blended_back.Goals as goal

pub returns : goal.returns
returns c =
    let p = c.args.p in
    let d = c.args.d in
    let k = c.args.k in
    let one : to_z w64 (of_z w64 c.velocity_back-ahead.result) ≡ velocity_back p d k =
    exactly (search exact depth 9) tt in
    let other : to_z w64 (of_z w64 c.velocity_back-behind.result) ≡ velocity_back p (d + p.half_period) k =
    exactly (search exact depth 9) tt in
    blend_is p c.requires.plan_ranges d k _ _ _ c.requires.k_bound (exactly (search exact depth 9) tt) one other
