use Prim.Native.Nat.{ℕ}
use mathlib.Core.Path.{ap}
use native.Mathlib.Omega.{arith}
use lib.IntN.{pos, ◌+ℤ◌, ◌*ℤ◌}
use Rattle.whole.proofs.Bounds.{sfits, exact, is-of, then_is, cast-small}
use Rattle.envelopes.proofs.sought.Sought.at.Goals as goal

pub overflow_add-result : goal.overflow_add-result
overflow_add-result c =
    let s = c.args.self.sum_within in
    let d = c.args.self.change_within in
    let l = cast-small 4096 c.saturating_sub.result (omega (arith, c.saturating_sub.ensures, c.requires)) tt in
    sfits (search exact depth 20) tt

pub returns : goal.returns
returns c =
    let s = c.args.self in
    let v = s.sum_within in
    let d = s.change_within in
    let l = cast-small 4096 c.saturating_sub.result (omega (arith, c.saturating_sub.ensures, c.requires)) tt in
    then_is (is-of (search exact depth 20) tt) (ap (λ (n : ℕ). s.sum +ℤ pos n *ℤ s.change) c.saturating_sub.ensures)
