use Prim.Native.Nat.{ℕ, ◌+◌, ◌*◌, ◌/◌, ◌^◌, ◌≤◌}
use native.Mathlib.Nat.{mul-le-mul}
use native.Mathlib.Omega.{arith}
use lib.IntN.{pos}
use mir.Syntax.{w64}
use mir.Val.{to_z}
use Rattle.whole.specs.Ranges.{Is}
use Rattle.whole.proofs.Bounds.{sfits, exact, is-of, cast-small}
use Rattle.areas.specs.Areas.{triangle, ramp_area}
use Rattle.areas.proofs.ramp_area.Goals as goal

-- the ticks of a ramp are few
few : (n : ℕ) → n ≤ 4096 → n * (n + 1) ≤ 4096 * 4097
few n h = let more : n + 1 ≤ 4097 = omega arith in mul-le-mul h more

-- as a signed number
steps-are : (n : ℕ) → n ≤ 4096 → Is (2 ^ 24) (to_z w64 (n * (n + 1) / 2)) (pos (n * (n + 1) / 2))
steps-are n h = cast-small (2 ^ 24) (n * (n + 1) / 2) (omega (arith, few n h)) tt

pub overflow_add-result : goal.overflow_add-result
overflow_add-result c =
    let k = cast-small 4096 c.args.n c.requires.n_bound tt in
    let j = steps-are c.args.n c.requires.n_bound in
    sfits (search exact depth 20) tt

pub returns : goal.returns
unfolding ramp_area triangle
returns c =
    let k = cast-small 4096 c.args.n c.requires.n_bound tt in
    let j = steps-are c.args.n c.requires.n_bound in
    is-of (search exact depth 20) tt
