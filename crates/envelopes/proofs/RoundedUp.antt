-- A quotient rounded up: w / a is the least number of which a each make up w.
use Prim.Native.Nat.{ℕ, suc, ◌+◌, ◌-◌, ◌*◌, ◌/◌, ◌≤◌, ◌<◌}
use native.Mathlib.Nat.{mul_comm, mul-suc, le-div_iff_mul-le, div-lt_iff_lt-mul}
use native.Mathlib.Omega.{arith}

pub enough : (w a t : ℕ) → 0 < a → (w + (a - 1)) / a ≤ t → w ≤ a * t
enough w a t h l =
    let less : (w + (a - 1)) / a < suc t = omega arith in
    omega (arith, (div-lt_iff_lt-mul {k = a} {x = w + (a - 1)} {y = suc t} h).0 less, mul_comm (suc t) a, mul-suc a t)

pub too_few : (w a k : ℕ) → 0 < a → k < (w + (a - 1)) / a → a * k < w
too_few w a k h l =
    omega (arith, (le-div_iff_mul-le {k = a} {x = suc k} {y = w + (a - 1)} h).0 l, mul_comm (suc k) a, mul-suc a k)
