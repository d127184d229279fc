use Prim.Native.Nat.{ℕ, ◌+◌, ◌-◌, ◌*◌, ◌/◌, ◌≤◌, ◌<◌}
use mathlib.Core.Path.{sym, subst}
use native.Mathlib.Omega.{arith}
use native.Mathlib.Nat.{mul_comm, mul-add, mul-le-mul_left, le-div_iff_mul-le}
use Rattle.least_limit.specs.Limits.{Led}
use Rattle.least_limit.proofs.Cases.{by-min}
use Rattle.least_limit.proofs.next_lower_bound.Goals as goal

-- m is what is missing but one
short : (v k m g : ℕ) → 0 < g → k ≤ v + m / g → k * g ≤ v * g + m
short v k m g h l =
    let most = mul-le-mul_left g l in
    let part : m / g ≤ m / g = omega arith in
    let back = (le-div_iff_mul-le {k = g} {x = m / g} {y = m} h).0 part in
    omega (arith, most, back, mul_comm g k, mul_comm g v, mul_comm g (m / g), mul-add g v (m / g))

pub returns : goal.returns
returns c =
    let a = c.args in
    let next = a.value + (a.missing - 1) / a.gain + 1 in
    let led : (r : ℕ) → a.value < r → r ≤ a.after → r ≤ next → Led a.value a.missing a.gain a.after r =
    λ r h l m. record {
      higher = h;
      most = l;
      short =
          λ k i.
          omega (
            arith,
            short a.value k (a.missing - 1) a.gain (omega (arith, c.if-gain-eq0.false)) (omega (arith, i, m)),
            c.requires.missing_nonzero,
          );
    } in
    subst (Led a.value a.missing a.gain a.after) (sym c.min.ensures)
    (by-min (Led a.value a.missing a.gain a.after) next a.after
    (λ l. led next (omega arith) l (omega arith))
    (λ l. led a.after c.requires.value_lt_after (omega arith) l))
