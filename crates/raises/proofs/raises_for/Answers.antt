use Prim.Native.Nat.{ℕ, ◌+◌, ◌/◌}
use native.Mathlib.Omega.{arith}
use mathlib.Core.Path.{◌≡◌, sym, ap, ◌∙◌}
use mathlib.Core.List.{List}
use lib.ListN.{length, set, length-set}
use Rattle.model.specs.declared.Axis.{Axis}
use Rattle.model.specs.declared.AxisRaises.{AxisRaises}
use Rattle.model.specs.calls.Raises.{raises_of, raises_from}
use Rattle.model.proofs.SetAxes.{from, axis_at, passed-from}
use Rattle.raises.proofs.AllAxes.{missed-is, missed, not-missed}
use Rattle.raises.proofs.raises_for.Goals as goal
use Rattle.raises.proofs.raises_for.Goals.{then-misses, else-misses}

pub raises_of-requires-clause-passed : goal.raises_of-requires-clause-passed
raises_of-requires-clause-passed c =
    let l = c.loop-number in
    let a = c.args in
    let m = missed-is l.bits (axis_at a.axes l.number) a.asked (sym c.misses.ensures ∙ c.if-misses.true) in
    (passed-from l.number l.bits a.axes (omega arith) l.invariant.passed).here m.0

-- what a turn leaves, whether the axis misses the arrival or not
pub record Turned (asked bits number : ℕ) (axes : List Axis) (before after : List AxisRaises) : Type 0 where
  pub long : length after ≡ length before
  pub is : raises_from asked (from number bits axes) before
      ≡ raises_from asked (from (number + 1) (bits / 2) axes) after

pub loop-number-preserved : goal.loop-number-preserved
loop-number-preserved c =
    let l = c.loop-number in
    let a = c.args in
    let x = axis_at a.axes l.number in
    let more : List AxisRaises → List AxisRaises = raises_from a.asked (from (l.number + 1) (l.bits / 2) a.axes) in
    let t : Turned a.asked l.bits l.number a.axes l.raises c.if-misses.raises =
    elim c.if-misses.branch [
      | then-misses w ↦
          let e = w.raises-is ∙ ap (set l.raises l.number) w.raises_of.ensures in
          record {
            long = ap (λ (r : List AxisRaises). length r) e ∙ length-set l.raises l.number (raises_of x a.asked);
            is =
                missed a.asked l.number l.bits a.axes l.raises (omega (arith, l.invariant.six))
                (sym c.misses.ensures ∙ w.if-misses.true)
                ∙ sym (ap more e);
          }
      | else-misses w ↦
          record {
            long = ap (λ (r : List AxisRaises). length r) w.raises-is;
            is =
                not-missed a.asked l.number l.bits a.axes l.raises (omega (arith, l.invariant.six))
                (sym c.misses.ensures ∙ w.if-misses.false)
                ∙ sym (ap more w.raises-is);
          }
    ] in
    record {
      six = l.invariant.six;
      long = t.long ∙ l.invariant.long;
      passed = (passed-from l.number l.bits a.axes (omega arith) l.invariant.passed).later;
      is = sym t.is ∙ l.invariant.is;
    }
