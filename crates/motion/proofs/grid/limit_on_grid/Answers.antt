use Prim.Native.Nat.{ℕ, ◌*◌, ◌≤◌}
use mathlib.Core.Path.{sym, subst, ◌∙◌}
use native.Mathlib.Omega.{arith}
use native.Mathlib.Nat.{mul-le-mul}
use Rattle.model.specs.planning.Quantities.{fine_steps}
use Rattle.theorems.proofs.motions.Grid.{finer-range}
use Rattle.motion.proofs.grid.limit_on_grid.Goals as goal

pub overflow_mul-result-2 : goal.overflow_mul-result-2
overflow_mul-result-2 c =
    let l : fine_steps * c.from.result ≤ 1099511627776 = omega (arith, c.from.ensures) in
    let f : c.from-steps.result ≤ 256 = subst (λ (n : ℕ). n ≤ 256) (sym (c.from-steps.ensures ∙ c.finer.ensures))
    (finer-range c.args.x).1 in
    omega (arith, mul-le-mul f l)
