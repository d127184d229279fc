-- Numbers that a loop counts.
use Prim.Native.Nat.{ℕ, zero, suc, ◌+◌, ◌-◌, ◌*◌, ◌^◌, ◌<◌, ◌≤◌}
use mathlib.Core.Path.{◌≡◌, sym, ap, ◌∙◌}
use native.Mathlib.Omega.{arith}
use native.Mathlib.Nat.{pow-suc}

pub next_one : (n : ℕ) → suc n ≡ n + 1
next_one n = omega arith

-- what is left of n where j counts up to it
pub one_less : (n j : ℕ) → j < n → n - j ≡ suc (n - (j + 1))
one_less n j h = omega arith

pub none_left : (n j : ℕ) → n ≤ j → n - j ≡ zero
none_left n j h = omega arith

-- a power of two that is doubled
pub twice_power : (i : ℕ) → 2 ^ i * 2 ≡ 2 ^ (i + 1)
twice_power i = sym (ap (λ (k : ℕ). 2 ^ k) (sym (next_one i)) ∙ pow-suc 2 i)
