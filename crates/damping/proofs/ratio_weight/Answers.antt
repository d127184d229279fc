use native.Mathlib.Omega.{arith}
use mathlib.Core.Path.{◌≡◌, sym, ap, ◌∙◌}
use Rattle.model.specs.planning.Damping.{largest_to}
use Rattle.theorems.proofs.jobs.MeasuredWeight.{largest-none, largest-here, largest-lower}
use Rattle.damping.proofs.ratio_weight.Goals as goal

pub returns-then-meets : goal.returns-then-meets
returns-then-meets c =
    let l = c.loop-weight in
    let met = sym c.meets.ensures ∙ c.if-meets.true in
    sym (largest-here _ l.weight c.loop-weight-test.true met) ∙ l.invariant

pub loop-weight-preserved : goal.loop-weight-preserved
loop-weight-preserved c =
    let l = c.loop-weight in
    let missed = sym c.meets.ensures ∙ c.if-meets.false in
    sym (largest-lower _ l.weight c.loop-weight-test.true missed) ∙ l.invariant

pub returns : goal.returns
returns c =
    let l = c.loop-weight in
    let done : l.weight ≡ 0 = omega arith in
    sym (ap (largest_to c.args.ratio) done ∙ largest-none c.args.ratio) ∙ l.invariant
