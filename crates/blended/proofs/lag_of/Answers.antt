use Prim.Native.Nat.{ℕ, ◌+◌, ◌*◌, ◌^◌, ◌≤◌}
use mathlib.Core.Path.{sym, subst}
use native.Mathlib.Omega.{arith}
use Rattle.planned.specs.Plans.{blends_by}
use Rattle.blended.proofs.BlendedRanges.{lag-small}
use Rattle.blended.proofs.lag_of.Goals as goal

-- the sum as it is computed
pub overflow_add-result-2 : goal.overflow_add-result-2
overflow_add-result-2 c =
    let p = c.args.p in
    let first = p.second_weight * p.half_period in
    let both = p.first_weight + p.second_weight in
    let small : c.blends.result * first + both * c.sway_delay.result ≤ 2 ^ 25 =
    subst (λ (n : ℕ). n * first + both * c.sway_delay.result ≤ 2 ^ 25) (sym c.blends.ensures)
    (subst (λ (d : ℕ). blends_by p.second_sway * first + both * d ≤ 2 ^ 25)
    (sym c.sway_delay.ensures)
    (lag-small p c.requires)) in
    omega arith
