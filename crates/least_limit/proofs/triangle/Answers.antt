use Prim.Native.Nat.{◌+◌, ◌*◌, ◌≤◌}
use mathlib.Core.Path.{refl}
use native.Mathlib.Omega.{arith}
use native.Mathlib.Nat.{mul-le-mul}
use Rattle.areas.specs.Areas as areas
use Rattle.least_limit.proofs.triangle.Goals as goal

pub returns : goal.returns
unfolding areas.triangle
returns c =
    let n = c.args.n in
    let more : n + 1 ≤ 4097 = omega arith in
    let few : n * (n + 1) ≤ 4096 * 4097 = mul-le-mul c.requires more in
    (refl, omega (arith, few))
