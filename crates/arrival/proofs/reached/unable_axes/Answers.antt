use Prim.Native.Nat.{ℕ, ◌+◌, ◌*◌, ◌^◌}
use Rattle.whole.proofs.Counting.{twice_power}
use native.Mathlib.Omega.{arith}
use mathlib.Core.Path.{◌≡◌, refl, sym, ap, ◌∙◌}
use mathlib.Core.Bool.{true, false}
use Rattle.arrival.proofs.Unable.{bit_of, bit-named, bit-unnamed, one_more, none_more, all, bit-at-most}
use Rattle.model.proofs.SetAxes.{axis_at, passed-from}
use Rattle.arrival.proofs.reached.unable_axes.Goals as goal
use Rattle.arrival.proofs.reached.unable_axes.Goals.{then-bits-eq1+then-cannot_arrive, else-bits-eq1}
use Rattle.arrival.proofs.reached.unable_axes.Goals.{else-bits-eq1-via-then-bits-eq1+else-cannot_arrive}
use Rattle.arrival.proofs.reached.unable_axes.Goals.{else-bits-eq1-via-else-bits-eq1}

pub loop-axis-init : goal.loop-axis-init
loop-axis-init c =
    let a = c.args in
    record {
      passed = c.requires.all_passed;
      power = refl;
      small = omega arith;
      sum = omega (arith, all a.asked a.mask a.axes);
    }

pub loop-axis-preserved : goal.loop-axis-preserved
loop-axis-preserved c =
    let l = c.loop-axis in
    let a = c.args in
    let x = axis_at a.axes l.axis-index in
    let bit = bit_of l.bits x a.asked in
    let more : c.if-bits-eq1.unable ≡ l.unable + bit l.bit =
    elim c.if-bits-eq1.branch [
      | then-bits-eq1+then-cannot_arrive w ↦
          omega (
            arith,
            w.unable-is,
            bit-named l.bits x a.asked l.bit true w.if-bits-eq1.true
                (sym w.cannot_arrive.ensures ∙ w.if-cannot_arrive.true),
          )
      | else-bits-eq1 w ↦ elim w.else-bits-eq1.branch [
        | else-bits-eq1-via-then-bits-eq1+else-cannot_arrive v ↦
            omega (
              arith,
              w.unable-is,
              bit-named l.bits x a.asked l.bit false v.if-bits-eq1.true
                  (sym v.cannot_arrive.ensures ∙ v.if-cannot_arrive.false),
            )
        | else-bits-eq1-via-else-bits-eq1 v ↦
            omega (arith, w.unable-is, bit-unnamed l.bits x a.asked l.bit v.if-bits-eq1.false)
      ]
    ] in
    let most = bit-at-most l.bits x a.asked l.bit in
    let here : bit l.bit ≡ bit (2 ^ l.axis-index) = ap bit l.invariant.power in
    record {
      passed = (passed-from l.axis-index l.bits a.axes (omega arith) l.invariant.passed).later;
      power = ap (λ (k : ℕ). k * 2) l.invariant.power ∙ twice_power l.axis-index;
      small = omega (arith, more, l.invariant.small);
      sum = omega (arith, more, one_more a.asked l.axis-index l.bits a.axes (omega arith), l.invariant.sum);
    }

pub returns : goal.returns
returns c =
    let l = c.loop-axis in
    let a = c.args in
    omega (arith, none_more a.asked l.axis-index l.bits a.axes (omega arith), l.invariant.sum)
