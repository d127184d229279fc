use Prim.Native.Nat.{ℕ, suc, ◌-◌}
use mathlib.Core.Path.{ap, subst, ◌∙◌}
use Rattle.std.specs.Prelude.{Some}
use native.Mathlib.Omega.{arith}
use Rattle.whole.specs.Candidates.{Next}
use Rattle.least_limit.specs.Limits.{limit_in, enough_with}
use Rattle.least_limit.proofs.FallsShort.{limit-range}
use Rattle.raises.proofs.LeastRaises.{found, not_found}
use Rattle.raises.proofs.least_raise.Goals as goal

pub returns-then-most-found : goal.returns-then-most-found
returns-then-most-found c =
    let a = c.args in
    -- what the search gave, to the highest of the range
    let least = subst (λ (m : ℕ). Next (enough_with a.limit a.t)
    (suc (limit_in a.limit a.t)) m c.least_limit-found.result)
    c.highest-most.ensures c.least_limit-found.ensures in
    not_found a.limit a.t c.least_limit-found.result least (limit-range a.t a.limit c.requires)
    (omega (arith, c.highest-most.ensures, c.if-most-found.true))

pub returns : goal.returns
returns c =
    let a = c.args in
    let least = subst (λ (m : ℕ). Next (enough_with a.limit a.t)
    (suc (limit_in a.limit a.t)) m c.least_limit-found.result)
    c.highest-most.ensures c.least_limit-found.ensures in
    ap (λ (n : ℕ). Some (c.least_limit-found.result - n)) c.limit_in-current.ensures
    ∙ found a.limit a.t c.least_limit-found.result least (omega (arith, c.highest-most.ensures, c.if-most-found.false))
