use Prim.Native.Nat.{ℕ, ◌-◌, ◌≤◌, ◌<◌}
use mathlib.Core.Path.{◌≡◌, ap, ap₂, ◌∙◌}
use native.Mathlib.Omega.{arith}
use mir.Syntax.{w64}
use mir.Val.{to_z, of_z}
use Rattle.whole.proofs.Bounds.{exactly, computed}
use Rattle.model.specs.planning.Leg.{Leg}
use Rattle.regions.specs.Regions.{ramp_ticks, meeting_tick, both_ramps, with_ramps}
use Rattle.profile.proofs.FeasibleParts.{ends-joined}
use Rattle.regions.proofs.ThreeRegions.{rise-meets, fall-meets, rise-alone, fall-alone}
use Rattle.regions.proofs.regions_of.Goals as goal

pub returns-then-p-rise : goal.returns-then-p-rise
returns-then-p-rise c =
    let g = c.args.p in
    let p = c.p.inside in
    let v = c.args.cruise.velocity in
    let joined = ends-joined g c.requires.p_value in
    let some = c.requires.acceleration_limit_nonzero in
    let s_is : to_z w64 (of_z w64 p.start) ≡ p.start = exactly (search computed depth 9) tt in
    let e_is : to_z w64 (of_z w64 p.end) ≡ p.end = exactly (search computed depth 9) tt in
    let v_is : to_z w64 (of_z w64 v) ≡ v = exactly (search computed depth 9) tt in
    let rise-is = c.ramp_ticks-rise.ensures.0 ∙ ap₂ (ramp_ticks p.acceleration_limit) s_is v_is
    ∙ ap (λ (l : Leg). ramp_ticks l.acceleration_limit l.start v) c.p.view_is in
    let fall-is = c.ramp_ticks-fall.ensures.0 ∙ ap₂ (ramp_ticks p.acceleration_limit) e_is v_is
    ∙ ap (λ (l : Leg). ramp_ticks l.acceleration_limit l.end v) c.p.view_is in
    let meeting : c.meeting_tick-meeting.result ≡ meeting_tick g v = c.meeting_tick-meeting.ensures.0
    ∙ ap (meeting_tick g) v_is in
    let t = ap (λ (l : Leg). l.ticks) c.p.view_is in
    let close : g.ticks ≤ both_ramps g v = omega (arith, c.if-p-rise.true) in
    let rises = meeting ∙ rise-meets g joined some v close in
    let falls =
    ap₂ (λ (l : Leg) (n : ℕ). l.ticks - n) c.p-then-p-rise.view_is meeting ∙ fall-meets g joined some v close in
    c.with_ramps.ensures ∙ ap₂ (with_ramps g v c.args.cruise.raised) rises falls

pub returns-else-p-rise : goal.returns-else-p-rise
returns-else-p-rise c =
    let g = c.args.p in
    let p = c.p.inside in
    let v = c.args.cruise.velocity in
    let joined = ends-joined g c.requires.p_value in
    let some = c.requires.acceleration_limit_nonzero in
    let s_is : to_z w64 (of_z w64 p.start) ≡ p.start = exactly (search computed depth 9) tt in
    let e_is : to_z w64 (of_z w64 p.end) ≡ p.end = exactly (search computed depth 9) tt in
    let v_is : to_z w64 (of_z w64 v) ≡ v = exactly (search computed depth 9) tt in
    let rise-is = c.ramp_ticks-rise.ensures.0 ∙ ap₂ (ramp_ticks p.acceleration_limit) s_is v_is
    ∙ ap (λ (l : Leg). ramp_ticks l.acceleration_limit l.start v) c.p.view_is in
    let fall-is = c.ramp_ticks-fall.ensures.0 ∙ ap₂ (ramp_ticks p.acceleration_limit) e_is v_is
    ∙ ap (λ (l : Leg). ramp_ticks l.acceleration_limit l.end v) c.p.view_is in
    let t = ap (λ (l : Leg). l.ticks) c.p.view_is in
    let apart : both_ramps g v < g.ticks = omega (arith, c.if-p-rise.false) in
    let rises = rise-is ∙ rise-alone g joined some v apart in
    let falls = fall-is ∙ fall-alone g joined some v apart in
    c.with_ramps-else-p-rise.ensures ∙ ap₂ (with_ramps g v c.args.cruise.raised) rises falls
