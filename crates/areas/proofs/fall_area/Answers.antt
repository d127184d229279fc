use Prim.Native.Nat.{◌-◌}
use mathlib.Core.Path.{◌≡◌}
use native.Mathlib.Omega.{arith}
use lib.IntN.{pos, ◌+ℤ◌, ◌*ℤ◌}
use mir.Syntax.{w64}
use mir.Val.{to_z, of_z}
use Rattle.whole.proofs.Bounds.{within, exactly, exact, is-of, then_is, cast-small}
use Rattle.areas.specs.Areas.{ramp_area, fall_area}
use Rattle.areas.proofs.fall_area.Goals as goal

pub ramp_area-requires-clause-within : goal.ramp_area-requires-clause-within
ramp_area-requires-clause-within c =
    let n = cast-small 4096 (c.args.r.ticks - 1 - c.args.k) (omega arith) tt in
    within (search exact depth 20) tt

pub returns : goal.returns
unfolding fall_area
returns c =
    let r = c.args.r in
    let n = cast-small 4096 (r.ticks - 1 - c.args.k) (omega arith) tt in
    let v : to_z w64 (of_z w64
    (to_z w64 (of_z w64 r.end)
    +ℤ to_z w64 (of_z w64 (to_z w64 (r.ticks - 1 - c.args.k) *ℤ to_z w64 (of_z w64 r.down)))))
    ≡ r.end +ℤ pos (r.ticks - 1 - c.args.k) *ℤ r.down = exactly (search exact depth 20) tt in
    let d : to_z w64 (of_z w64 r.down) ≡ r.down = exactly (search exact depth 9) tt in
    then_is (is-of (search exact depth 9) tt) (λ i. ramp_area (v i) (d i) c.args.n)
