-- The grid of an axis: how many grid steps are in a fine step, in each case with what else holds of
-- the axis, and the ranges on it.
use Prim.Native.Nat.{ℕ, ◌*◌, ◌^◌, ◌≤◌, ◌<◌}
use mathlib.Core.Path.{◌≡◌, refl}
use mathlib.Core.Bool.{Bool, true, false, not, ◌&&◌}
use native.Mathlib.Omega.{arith}
use native.Mathlib.Nat.{mul-le-mul, le_trans}
use lib.Dec.{T, eqb, eqb→eq}
use lib.IntN.{pos, nat_abs}
use Rattle.whole.proofs.Tests.{not-false-T}
use Rattle.whole.proofs.Laws.{nat_abs-zero}
use Rattle.model.specs.declared.Axis.{Axis}
use Rattle.std.specs.Prelude.{Option, None, Some}
use Rattle.model.specs.declared.Target.{Target}
use Rattle.model.specs.declared.Target.TheVariants.{Fixed, Moving}
use Rattle.model.specs.planning.Quantities.{fine_steps, speed_limit, acceleration_limit, half_period, second_weight}
use Rattle.model.specs.planning.Quantities.{as_moving, accelerates, sway_steps, finest_steps, finer, finer_by}
use Rattle.model.specs.planning.Quantities.{speed_steps}
use Rattle.model.specs.planning.Quantities.{acceleration_steps}

pub data Grid (x : Axis) : Type 0 where
  two_sways : (d : ℕ) → finer x ≡ sway_steps → x.second_sway ≡ Some d → Grid x
  -- one sway: the fine grid has one of three reasons
  still : finer x ≡ 1 → x.second_sway ≡ None → ((n : ℕ) → (as_moving x.target n).acceleration ≡ pos 0) → Grid x
  unblended : finer x ≡ 1 → x.second_sway ≡ None → half_period x ≡ 0 → Grid x
  undamped : finer x ≡ 1 → x.second_sway ≡ None → second_weight x ≡ 128 → Grid x
  corrected : finer x ≡ finest_steps → x.second_sway ≡ None → Grid x

pub no-acceleration : (t : Target) → accelerates t ≡ false → (n : ℕ) → (as_moving t n).acceleration ≡ pos 0
no-acceleration (Fixed r) e n = refl
no-acceleration (Moving m) e n = nat_abs-zero m.acceleration
    (eqb→eq (nat_abs m.acceleration) 0 (not-false-T (eqb (nat_abs m.acceleration) 0) e))

module _ (x : Axis) where
  pub grid : Grid x
  unfolding finer
  grid =
      go x.second_sway (accelerates x.target) (eqb (half_period x) 0)
      (eqb (second_weight x) 128) (no-acceleration x.target)
      (eqb→eq (half_period x) 0) (eqb→eq (second_weight x) 128) refl refl refl
    where
      go : (s : Option ℕ) (moves h0 b128 : Bool)
          → (accelerates x.target ≡ false → (n : ℕ) → (as_moving x.target n).acceleration ≡ pos 0)
          → (T h0 → half_period x ≡ 0) → (T b128 → second_weight x ≡ 128) → x.second_sway ≡ s
          → accelerates x.target ≡ moves
          → finer x ≡ finer_by s (moves && (not h0 && not b128)) → Grid x
      go (Some d) moves h0 b128 f g h s e r = two_sways d r s
      go None false h0 b128 f g h s e r = still r s (f e)
      go None true true b128 f g h s e r = unblended r s (g tt)
      go None true false true f g h s e r = undamped r s (h tt)
      go None true false false f g h s e r = corrected r s

  -- ---- ranges

  pub finer-range : (1 ≤ finer x) × (finer x ≤ 256)
  finer-range = go grid
    where
      go : Grid x → (1 ≤ finer x) × (finer x ≤ 256)
      go (two_sways d e s) = (omega arith, omega arith)
      go (still e s a) = (omega arith, omega arith)
      go (unblended e s a) = (omega arith, omega arith)
      go (undamped e s a) = (omega arith, omega arith)
      go (corrected e s) = (omega arith, omega arith)

  -- 36 bits
  pub speed-range : speed_limit x ≤ 1048576 → speed_steps x ≤ 2 ^ 37
  speed-range h =
      let l : fine_steps * speed_limit x ≤ 268435456 = omega arith in
      le_trans (mul-le-mul finer-range.1 l) (omega arith)

  -- 32 bits
  pub acceleration-range : acceleration_limit x ≤ 65536 → acceleration_steps x ≤ 2 ^ 33
  acceleration-range h =
      let l : fine_steps * acceleration_limit x ≤ 16777216 = omega arith in
      le_trans (mul-le-mul finer-range.1 l) (omega arith)

  pub acceleration-some : 0 < acceleration_limit x → 0 < acceleration_steps x
  acceleration-some h = let l : 1 ≤ fine_steps * acceleration_limit x = omega arith in
      le_trans (omega arith) (mul-le-mul finer-range.0 l)
