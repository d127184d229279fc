use native.Mathlib.Omega.{arith}
use Rattle.least_limit.proofs.FallsShort.{allowed-higher}
use Rattle.least_limit.proofs.least_from.Goals as goal

pub lead-next-requires-clause-allowed : goal.lead-next-requires-clause-allowed
lead-next-requires-clause-allowed c =
    let a = c.args in
    let q = c.requires in
    let i = c.loop-low.invariant in
    let v = c.next_tested-value.ensures in
    let first = q.allowed (omega (arith, i.least, i.most, v.0, v.1)) in
    allowed-higher a.t a.limit a.first c.next_tested-value.result first (omega (arith, i.least, v.0))
    (omega (arith, q.after_bound, i.most, v.1))
