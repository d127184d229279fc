use Prim.Native.Nat.{◌-◌, ◌^◌}
use mathlib.Core.Path.{◌≡◌}
use native.Mathlib.Omega.{arith}
use lib.IntN.{pos, ◌+ℤ◌, ◌*ℤ◌}
use mir.Syntax.{w64}
use mir.Val.{to_z, of_z}
use Rattle.whole.specs.Ranges.{Is}
use Rattle.whole.proofs.Bounds.{sfits, exactly, exact, is-of, then_is, cast-small}
use Rattle.areas.specs.Areas.{ramp_area, split_area}
use Rattle.envelopes.proofs.skips.split_area.Goals as goal

pub overflow_add-result-2 : goal.overflow_add-result-2
overflow_add-result-2 c =
    let a = c.args in
    let p = c.p.inside in
    let r = c.p.invariant in
    let n = p.ticks - 1 - a.rising - a.falling in
    let l : Is 4096 (to_z w64 n) (pos n) = cast-small 4096 n (omega (arith, r.ticks)) tt in
    let h : Is (2 ^ 37) c.signed-limit.result (pos p.speed_limit) =
    record { is = c.signed-limit.ensures.is; within = r.speed_limit } in
    let first = c.ramp_area-first.ensures in
    let last = c.ramp_area-last.ensures in
    sfits (search exact depth 20) tt

pub returns : goal.returns
unfolding split_area
returns c =
    let a = c.args in
    let p = c.p.inside in
    let r = c.p.invariant in
    let n = p.ticks - 1 - a.rising - a.falling in
    let l : Is 4096 (to_z w64 n) (pos n) = cast-small 4096 n (omega (arith, r.ticks)) tt in
    let h : Is (2 ^ 37) c.signed-limit.result (pos p.speed_limit) =
    record { is = c.signed-limit.ensures.is; within = r.speed_limit } in
    let steep : Is (2 ^ 33) c.signed-steep.result (pos p.acceleration_limit) =
    record { is = c.signed-steep.ensures.is; within = r.acceleration_limit } in
    let first = c.ramp_area-first.ensures in
    let last = c.ramp_area-last.ensures in
    let s : to_z w64 (of_z w64 p.start) ≡ p.start = exactly (search exact depth 9) tt in
    let e : to_z w64 (of_z w64 p.end) ≡ p.end = exactly (search exact depth 9) tt in
    let u : to_z w64 (of_z w64 c.signed-steep.result) ≡ pos p.acceleration_limit =
    exactly (search exact depth 9) tt in
    rw (← c.p.view_is) (then_is (is-of (search exact depth 30 fits 9000) tt)
    (λ i. ramp_area (s i) (u i) a.rising +ℤ pos n *ℤ pos p.speed_limit +ℤ ramp_area (e i) (u i) a.falling))
