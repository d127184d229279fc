-- The library's `min` and `max` of `i64` are the lesser and the greater of two.
use mathlib.Core.Path.{◌≡◌, ap}
use mathlib.Core.Bool.{Bool, cond}
use lib.IntN.{ℤ}
use lib.Signed.{lt_z, le_z, le_z_yes, lt_z_yes, clash_ℤ}
use Rattle.std.specs.Int.{int_min, int_max}
use Rattle.whole.specs.Integers.{least, greatest}
use Rattle.whole.proofs.Tests.{T_true, T_false}
use Rattle.whole.proofs.Differences.{cond_ind, le-fails}

pub min-is-least : (x y : ℤ) → int_min x y ≡ least x y
min-is-least x y =
    cond_ind (le_z x y) x y (λ (z : ℤ). int_min x y ≡ z)
    (λ t. ap (λ (b : Bool). cond b y x) (T_false (lt_z y x) (λ u. clash_ℤ {a = y} {b = x} (lt_z_yes u) (le_z_yes t))))
    (λ t. ap (λ (b : Bool). cond b y x) (T_true (lt_z y x) (le-fails {x = x} {y = y} t).lt))

pub max-is-greatest : (x y : ℤ) → int_max x y ≡ greatest x y
max-is-greatest x y =
    cond_ind (le_z x y) y x (λ (z : ℤ). int_max x y ≡ z)
    (λ t. ap (λ (b : Bool). cond b x y) (T_false (lt_z y x) (λ u. clash_ℤ {a = y} {b = x} (lt_z_yes u) (le_z_yes t))))
    (λ t. ap (λ (b : Bool). cond b x y) (T_true (lt_z y x) (le-fails {x = x} {y = y} t).lt))
