use native.Mathlib.Omega.{arith}
use mathlib.Core.Path.{sym, ap, ◌∙◌}
use Rattle.std.proofs.lemmas.Result.{err_from_is_err_and}
use Rattle.std.specs.declared.result.Result.TheVariants.{Ok}
use Rattle.model.specs.declared.Target.TheVariants.{Fixed, Moving}
use Rattle.model.specs.declared.State.{State}
use Rattle.model.specs.declared.RestPoint.{RestPoint}
use Rattle.model.specs.declared.Axis.{Axis}
use Rattle.words.specs.ByIndex.{axis_at}
use Rattle.words.proofs.Reader.{skip-within}
use Rattle.words.proofs.AxisWords.{axis-short, axis-half, axis-fixed, axis-unfinished, axis-moving, start-there}
use Rattle.words.proofs.AxisWords.{target-near, target-there, fixed-near, motion-there}
use Rattle.words.proofs.axis.read_axis.Goals as goal

pub run_end-requires : goal.run_end-requires
run_end-requires c =
    let a = c.args in
    let s = c.skip_optional-start in
    (omega (arith, skip-within a.words.now a.at 14, s.ensures), omega arith, omega arith)

pub returns-in_err-sway_at : goal.returns-in_err-sway_at
returns-in_err-sway_at c =
    let a = c.args in
    let s = c.skip_optional-start in
    let p = err_from_is_err_and c.from_residual.result c.from_residual.ensures.1 in
    rw (p.1, p.2)
    (axis-short a.words.now a.at s.result s.ensures _ c.in_err-sway_at.ensures)

pub run_end-requires-2 : goal.run_end-requires-2
run_end-requires-2 c =
    let a = c.args in
    let s = c.skip_optional-start in
    let e = c.in_ok-sway_at in
    let g = c.skip_optional-target_at in
    let t = c.skip_optional-target in
    let near = target-near a.words.now a.at s.result s.ensures e.sway_at e.ensures g.result g.ensures
    t.result t.ensures in
    (omega arith, omega arith, omega arith)

pub returns-in_err-fixed_end : goal.returns-in_err-fixed_end
returns-in_err-fixed_end c =
    let a = c.args in
    let s = c.skip_optional-start in
    let e = c.in_ok-sway_at in
    let g = c.skip_optional-target_at in
    let t = c.skip_optional-target in
    let p = err_from_is_err_and c.from_residual-in_err-fixed_end.result c.from_residual-in_err-fixed_end.ensures.1 in
    rw (p.1, p.2)
    (axis-half a.words.now a.at s.result s.ensures e.sway_at e.ensures g.result g.ensures
    t.result t.ensures _ c.in_err-fixed_end.ensures)

pub rest_point-point-requires : goal.rest_point-point-requires
rest_point-point-requires c =
    let a = c.args in
    let s = c.skip_optional-start in
    let e = c.in_ok-sway_at in
    let g = c.skip_optional-target_at in
    let t = c.skip_optional-target in
    let f = c.in_ok-fixed_end in
    target-there a.words.now a.at s.result s.ensures e.sway_at e.ensures g.result g.ensures
    t.result t.ensures f.fixed_end f.ensures

pub axis_to-requires : goal.axis_to-requires
axis_to-requires c =
    let a = c.args in
    let s = c.skip_optional-start in
    let e = c.in_ok-sway_at in
    start-there a.words.now a.at s.result s.ensures e.sway_at e.ensures

pub returns-then-not-is_kind : goal.returns-then-not-is_kind
returns-then-not-is_kind c =
    let a = c.args in
    let s = c.skip_optional-start in
    let e = c.in_ok-sway_at in
    let g = c.skip_optional-target_at in
    let t = c.skip_optional-target in
    let f = c.in_ok-fixed_end in
    let fixed = sym c.is_kind.ensures ∙ c.if-not-is_kind.true in
    let target = ap (λ (p : RestPoint). axis_at a.words.now a.at (Fixed p)) c.rest_point-point.ensures in
    ap (λ (x : Axis). Ok (x, f.fixed_end)) (c.axis_to.ensures ∙ target)
    ∙ axis-fixed a.words.now a.at s.result s.ensures e.sway_at e.ensures g.result g.ensures
    t.result t.ensures f.fixed_end f.ensures fixed

pub run_end-requires-3 : goal.run_end-requires-3
run_end-requires-3 c =
    let a = c.args in
    let s = c.skip_optional-start in
    let e = c.in_ok-sway_at in
    let g = c.skip_optional-target_at in
    let t = c.skip_optional-target in
    let f = c.in_ok-fixed_end in
    let near = fixed-near a.words.now a.at s.result s.ensures e.sway_at e.ensures g.result g.ensures
    t.result t.ensures f.fixed_end f.ensures in
    (omega arith, omega arith, omega arith)

pub returns-in_err-moving_end : goal.returns-in_err-moving_end
returns-in_err-moving_end c =
    let a = c.args in
    let s = c.skip_optional-start in
    let e = c.in_ok-sway_at in
    let g = c.skip_optional-target_at in
    let t = c.skip_optional-target in
    let f = c.in_ok-fixed_end in
    let moving = sym c.is_kind.ensures ∙ c.if-not-is_kind.false in
    let p = err_from_is_err_and c.from_residual-in_err-moving_end.result c.from_residual-in_err-moving_end.ensures.1 in
    rw (p.1, p.2)
    (axis-unfinished a.words.now a.at s.result s.ensures e.sway_at e.ensures g.result g.ensures
    t.result t.ensures f.fixed_end f.ensures moving _ c.in_err-moving_end.ensures)

pub state_at-state-requires : goal.state_at-state-requires
state_at-state-requires c =
    let a = c.args in
    let s = c.skip_optional-start in
    let e = c.in_ok-sway_at in
    let g = c.skip_optional-target_at in
    let t = c.skip_optional-target in
    let f = c.in_ok-fixed_end in
    let moving = sym c.is_kind.ensures ∙ c.if-not-is_kind.false in
    let l = c.in_ok-moving_end in
    motion-there a.words.now a.at s.result s.ensures e.sway_at e.ensures g.result g.ensures
    t.result t.ensures f.fixed_end f.ensures moving l.moving_end l.ensures

pub axis_to-requires-2 : goal.axis_to-requires-2
axis_to-requires-2 c =
    let a = c.args in
    let s = c.skip_optional-start in
    let e = c.in_ok-sway_at in
    start-there a.words.now a.at s.result s.ensures e.sway_at e.ensures

pub returns : goal.returns
returns c =
    let a = c.args in
    let s = c.skip_optional-start in
    let e = c.in_ok-sway_at in
    let g = c.skip_optional-target_at in
    let t = c.skip_optional-target in
    let f = c.in_ok-fixed_end in
    let moving = sym c.is_kind.ensures ∙ c.if-not-is_kind.false in
    let l = c.in_ok-moving_end in
    let target = ap (λ (q : State). axis_at a.words.now a.at (Moving q)) c.state_at-state.ensures in
    ap (λ (x : Axis). Ok (x, l.moving_end)) (c.axis_to-2.ensures ∙ target)
    ∙ axis-moving a.words.now a.at s.result s.ensures e.sway_at e.ensures g.result g.ensures
    t.result t.ensures f.fixed_end f.ensures moving l.moving_end l.ensures
