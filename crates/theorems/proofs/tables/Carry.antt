-- A row carried on one tick misses the next row by at most 3/2 in position and in velocity: the
-- exact blends follow rule 1, and each cell is off by a half at most, whichever way halves go.
use Prim.Native.Nat.{ℕ, suc, ◌+◌, ◌-◌, ◌*◌, ◌≤◌, ◌<◌}
use mathlib.Core.Path.{◌≡◌, refl, sym, ap, ap₂, ◌∙◌, subst, subst₂}
use mathlib.Core.Logic.{⊎_elim}
use mathlib.Core.List.{List, [], ◌∷◌}
use native.Mathlib.Omega.{arith}
use native.Mathlib.Nat.{le_of_mul-le-mul_left}
use lib.ListN.{length, replicate, length-append, length-replicate}
use lib.IntN.{ℤ, pos, nat_abs, ◌+ℤ◌, ◌-ℤ◌, ◌*ℤ◌, +ℤ_idr}
use Rattle.whole.specs.Integers.{nearest_quotient}
use Rattle.whole.proofs.Tests.{lt-or-le}
use Rattle.whole.proofs.Differences.{whole, all₅, all₇}
use Rattle.whole.proofs.Laws.{nat_abs-*}
use Rattle.whole.proofs.Ring.{pol, same}
use Rattle.whole.proofs.Rounding.{WithinHalf, half-iff, nearest-half}
use Rattle.model.specs.declared.Axis.{Axis}
use Rattle.model.specs.planning.Quantities.{half_period, second_weight, second_half_period, delay}
use Rattle.model.specs.planning.Leg.{chosen}
use Rattle.model.specs.planning.Motion.{Tick, leg, required_sum, earlier, changes_from, accelerations}
use Rattle.model.specs.planning.Motion.{start_position, start_velocity, landing_tick, landing_acceleration}
use Rattle.model.specs.planning.Rows.{planned_axis, tick_at, tick_back, blend_once}
use Rattle.model.specs.planning.Refusals.{Plannable}
use Rattle.theorems.proofs.tables.TwoBlends.{both, both_divisor, both_some}
use Rattle.theorems.proofs.jobs.PlannableAxis as R
use Rattle.theorems.proofs.tables.BlendTicks.{tick-start, tick-before, tick-after}
use Rattle.theorems.proofs.motions.PlannedMotion.{Follows, run-follows}
use Rattle.theorems.proofs.motions.PlannedTarget.{velocities-length}

-- ---- the miss of rounded values, doubled: the roundings add up to 7/2, and the
-- doubled miss is a whole number

-- 2 z d is at most (2 n + 1) d in size, so z is at most n
small : (d n : ℕ) (z : ℤ) → 0 < d → nat_abs (pos (2 * d) *ℤ z) ≤ d * (2 * n + 1) → nat_abs z ≤ n
small d n z h q =
    let l : d * (2 * nat_abs z) ≤ d * (2 * n + 1) =
    subst (λ (m : ℕ). m ≤ d * (2 * n + 1)) (nat_abs-* (pos (2 * d)) z ∙ across d (nat_abs z)) q in
    let k : 2 * nat_abs z ≤ 2 * n + 1 = le_of_mul-le-mul_left l h in
    omega arith
  where
    across : (d m : ℕ) → 2 * d * m ≡ d * (2 * m)
    across d m = omega arith

half-miss : (d : ℕ) (q v a p w b r : ℤ) → WithinHalf q (2 * d) p → WithinHalf v d w → WithinHalf a d b
    → WithinHalf (q +ℤ pos 2 *ℤ v +ℤ a) (2 * d) r
    → nat_abs (pos (2 * d) *ℤ (pos 2 *ℤ p +ℤ pos 2 *ℤ w +ℤ b -ℤ pos 2 *ℤ r)) ≤ d * 7
half-miss d = all₇ _ (λ a b c e f g h i j k l m n o. simp (whole, half-iff) (omega arith))

pub miss : (d : ℕ) → 0 < d → (q v a : ℤ)
    → nat_abs (pos 2 *ℤ nearest_quotient q (2 * d) +ℤ pos 2 *ℤ nearest_quotient v d +ℤ nearest_quotient a d
    -ℤ pos 2 *ℤ nearest_quotient (q +ℤ pos 2 *ℤ v +ℤ a) (2 * d)) ≤ 3
miss d h q v a =
    small d 3 (pos 2 *ℤ nearest_quotient q (2 * d) +ℤ pos 2 *ℤ nearest_quotient v d +ℤ nearest_quotient a d
    -ℤ pos 2 *ℤ nearest_quotient (q +ℤ pos 2 *ℤ v +ℤ a) (2 * d)) h
    (half-miss d q v a (nearest_quotient q (2 * d)) (nearest_quotient v d) (nearest_quotient a d)
    (nearest_quotient (q +ℤ pos 2 *ℤ v +ℤ a) (2 * d))
    (nearest-half q (2 * d) (omega arith)) (nearest-half v d h) (nearest-half a d h)
    (nearest-half (q +ℤ pos 2 *ℤ v +ℤ a) (2 * d) (omega arith)))

-- here the roundings add up to 3/2, and the miss is a whole number
half-miss-velocity : (d : ℕ) (v a w b r : ℤ) → WithinHalf v d w → WithinHalf a d b → WithinHalf (v +ℤ a) d r
    → nat_abs (pos (2 * d) *ℤ (w +ℤ b -ℤ r)) ≤ d * 3
half-miss-velocity d = all₅ _ (λ a b c e f g h i j k. simp (whole, half-iff) (omega arith))

pub miss-velocity : (d : ℕ) → 0 < d → (v a : ℤ)
    → nat_abs (pos 2 *ℤ (nearest_quotient v d +ℤ nearest_quotient a d -ℤ nearest_quotient (v +ℤ a) d)) ≤ 3
miss-velocity d h v a =
    twice (nearest_quotient v d +ℤ nearest_quotient a d -ℤ nearest_quotient (v +ℤ a) d)
    (small d 1 (nearest_quotient v d +ℤ nearest_quotient a d -ℤ nearest_quotient (v +ℤ a) d) h
    (half-miss-velocity d v a (nearest_quotient v d) (nearest_quotient a d) (nearest_quotient (v +ℤ a) d)
    (nearest-half v d h) (nearest-half a d h) (nearest-half (v +ℤ a) d h)))
  where
    twice : (z : ℤ) → nat_abs z ≤ 1 → nat_abs (pos 2 *ℤ z) ≤ 3
    twice z q = omega (arith, nat_abs-* (pos 2) z)

-- ---- before tick 0 the motion is uniform

earlier-follows : (x : Axis) (j : ℕ) → Follows (earlier x (suc j)) (earlier x j)
earlier-follows x j =
    record {
      position = one_less (start_position x) (start_velocity x) (pos j)
          ∙ ap (λ (i : ℤ). start_position x -ℤ pos 2 *ℤ (i *ℤ start_velocity x) +ℤ pos 2 *ℤ start_velocity x +ℤ pos 0)
          (ap pos plain);
      velocity = sym (+ℤ_idr (start_velocity x));
    }
  where
    plain : j + 1 ≡ suc j
    plain = omega arith

    one_less : (q v i : ℤ) → q -ℤ pos 2 *ℤ (i *ℤ v) ≡ q -ℤ pos 2 *ℤ ((i +ℤ pos 1) *ℤ v) +ℤ pos 2 *ℤ v +ℤ pos 0
    one_less q v i = same (q ∷ v ∷ i ∷ []) (search pol depth 20 fits 9000) tt

changes-length : (v : ℤ) (ws : List ℤ) → length (changes_from v ws) ≡ length ws
changes-length v [] = refl
changes-length v (w ∷ ws) = ap suc (changes-length w ws)

module _ (x : Axis) (n : ℕ) (r : Plannable x n) where
  -- ---- the planned ticks of row k + 1 follow those of row k

  accelerations-length : length (accelerations x n) ≡ suc n
  accelerations-length =
      length-append (changes_from (start_velocity x) list) (replicate (suc (delay x)) (landing_acceleration x n))
      ∙ ap₂ ◌+◌ (changes-length (start_velocity x) list ∙ velocities-length x n r)
      (length-replicate (suc (delay x)) (landing_acceleration x n))
      ∙ plain (landing_tick x n) (delay x) n (omega (arith, R.after x n r))
    where
      list : List ℤ
      list = chosen (leg x n) (required_sum x n)

      plain : (a b c : ℕ) → a + b ≡ c → a + suc b ≡ suc c
      plain a b c e = omega arith

  now-follows : (k : ℕ) → k < n → Follows (tick_at (planned_axis n x) k) (tick_at (planned_axis n x) (suc k))
  now-follows k q =
      run-follows (start_position x) (start_velocity x) (accelerations x n) (earlier x 0) k
      (subst (λ (l : ℕ). suc k < l) (sym accelerations-length) (omega arith))

  back_follows : (h k : ℕ) → k < n → Follows (tick_back (planned_axis n x) k h) (tick_back (planned_axis n x) (suc k) h)
  back_follows h k q =
      ⊎_elim (λ a. ⊎_elim (λ b. before a b) (λ b. across a b) (lt-or-le (suc k) h)) within (lt-or-le k h)
    where
      before : k < h → suc k < h → Follows (tick_back (planned_axis n x) k h) (tick_back (planned_axis n x) (suc k) h)
      before a b =
          subst₂ Follows (sym (tick-before (planned_axis n x) k h a ∙ ap (earlier x) one_more))
          (sym (tick-before (planned_axis n x) (suc k) h b))
          (earlier-follows x (h - suc k))
        where
          one_more : h - k ≡ suc (h - suc k)
          one_more = omega arith

      -- tick 0 follows the uniform motion before it
      across : k < h → h ≤ suc k → Follows (tick_back (planned_axis n x) k h) (tick_back (planned_axis n x) (suc k) h)
      across a b =
          subst₂ Follows (sym (tick-before (planned_axis n x) k h a ∙ ap (earlier x) one))
          (sym (tick-after (planned_axis n x) (suc k) h 0 (omega arith)))
          (record {
            position = (tick-start x n).0 ∙ uniform (start_position x) (start_velocity x);
            velocity = (tick-start x n).1 ∙ sym (+ℤ_idr (start_velocity x));
          })
        where
          one : h - k ≡ 1
          one = omega arith

          uniform : (q v : ℤ) → q ≡ q -ℤ pos 2 *ℤ (pos 1 *ℤ v) +ℤ pos 2 *ℤ v +ℤ pos 0
          uniform q v = same (q ∷ v ∷ []) (search pol depth 20 fits 9000) tt

      within : h ≤ k → Follows (tick_back (planned_axis n x) k h) (tick_back (planned_axis n x) (suc k) h)
      within a =
          subst₂ Follows (sym (tick-after (planned_axis n x) k h (k - h) (omega arith)))
          (sym (tick-after (planned_axis n x) (suc k) h (suc (k - h)) (omega arith)))
          (now-follows (k - h) (omega arith))

  -- ---- so do their blends

  abbrev A : ℤ
  A = pos (256 - second_weight x)

  abbrev B : ℤ
  B = pos (second_weight x)

  -- one blend, d ticks back
  abbrev once : (Tick → ℤ) → ℕ → ℕ → ℤ
  once f d k = blend_once (planned_axis n x) k d f

  pub once-position : (d k : ℕ) → k < n
      → once (λ s. s.position) d (suc k)
      ≡ once (λ s. s.position) d k +ℤ pos 2 *ℤ once (λ s. s.velocity) d k +ℤ once (λ s. s.acceleration) d k
  once-position d k q =
      ap₂ (λ (y z : ℤ). A *ℤ y +ℤ B *ℤ z) (back_follows d k q).position (back_follows (d + half_period x) k q).position
      ∙ mixed A B s.position s.velocity s.acceleration u.position u.velocity u.acceleration
    where
      s : Tick
      s = tick_back (planned_axis n x) k d

      u : Tick
      u = tick_back (planned_axis n x) k (d + half_period x)

      mixed : (A B q v a r w b : ℤ) → A *ℤ (q +ℤ pos 2 *ℤ v +ℤ a) +ℤ B *ℤ (r +ℤ pos 2 *ℤ w +ℤ b)
          ≡ A *ℤ q +ℤ B *ℤ r +ℤ pos 2 *ℤ (A *ℤ v +ℤ B *ℤ w) +ℤ (A *ℤ a +ℤ B *ℤ b)
      mixed A B q v a r w b = same (A ∷ B ∷ q ∷ v ∷ a ∷ r ∷ w ∷ b ∷ []) (search pol depth 30 fits 9000) tt

  pub once-velocity : (d k : ℕ) → k < n
      → once (λ s. s.velocity) d (suc k) ≡ once (λ s. s.velocity) d k +ℤ once (λ s. s.acceleration) d k
  once-velocity d k q =
      ap₂ (λ (y z : ℤ). A *ℤ y +ℤ B *ℤ z) (back_follows d k q).velocity (back_follows (d + half_period x) k q).velocity
      ∙ mixed A B s.velocity s.acceleration u.velocity u.acceleration
    where
      s : Tick
      s = tick_back (planned_axis n x) k d

      u : Tick
      u = tick_back (planned_axis n x) k (d + half_period x)

      mixed : (A B v a w b : ℤ) → A *ℤ (v +ℤ a) +ℤ B *ℤ (w +ℤ b) ≡ A *ℤ v +ℤ B *ℤ w +ℤ (A *ℤ a +ℤ B *ℤ b)
      mixed A B v a w b = same (A ∷ B ∷ v ∷ a ∷ w ∷ b ∷ []) (search pol depth 20 fits 9000) tt

  -- the two together
  abbrev position : ℕ → ℤ
  position k = both (planned_axis n x) k (λ s. s.position)

  abbrev velocity : ℕ → ℤ
  velocity k = both (planned_axis n x) k (λ s. s.velocity)

  abbrev acceleration : ℕ → ℤ
  acceleration k = both (planned_axis n x) k (λ s. s.acceleration)

  position-follows : (k : ℕ) → k < n → position (suc k) ≡ position k +ℤ pos 2 *ℤ velocity k +ℤ acceleration k
  position-follows k q =
      ap₂ (λ (y z : ℤ). y +ℤ z) (once-position 0 k q) (once-position (second_half_period x) k q)
      ∙ sorted (now (λ s. s.position)) (now (λ s. s.velocity)) (now (λ s. s.acceleration))
      (late (λ s. s.position)) (late (λ s. s.velocity))
      (late (λ s. s.acceleration))
    where
      now : (Tick → ℤ) → ℤ
      now f = once f 0 k

      late : (Tick → ℤ) → ℤ
      late f = once f (second_half_period x) k

      sorted : (q v a r w b : ℤ)
          → q +ℤ pos 2 *ℤ v +ℤ a +ℤ (r +ℤ pos 2 *ℤ w +ℤ b) ≡ q +ℤ r +ℤ pos 2 *ℤ (v +ℤ w) +ℤ (a +ℤ b)
      sorted q v a r w b = same (q ∷ v ∷ a ∷ r ∷ w ∷ b ∷ []) (search pol depth 20 fits 9000) tt

  velocity-follows : (k : ℕ) → k < n → velocity (suc k) ≡ velocity k +ℤ acceleration k
  velocity-follows k q =
      ap₂ (λ (y z : ℤ). y +ℤ z) (once-velocity 0 k q) (once-velocity (second_half_period x) k q)
      ∙ sorted (now (λ s. s.velocity)) (now (λ s. s.acceleration))
      (late (λ s. s.velocity)) (late (λ s. s.acceleration))
    where
      now : (Tick → ℤ) → ℤ
      now f = once f 0 k

      late : (Tick → ℤ) → ℤ
      late f = once f (second_half_period x) k

      sorted : (v a w b : ℤ) → v +ℤ a +ℤ (w +ℤ b) ≡ v +ℤ w +ℤ (a +ℤ b)
      sorted v a w b = same (v ∷ a ∷ w ∷ b ∷ []) (search pol depth 20 fits 9000) tt

  -- ---- and so their cells miss by little

  -- twice the position to which row k is carried on
  abbrev carried : ℕ → ℤ
  carried k = pos 2 *ℤ nearest_quotient (position k) (2 * both_divisor x)
      +ℤ pos 2 *ℤ nearest_quotient (velocity k) (both_divisor x) +ℤ nearest_quotient (acceleration k) (both_divisor x)

  pub carries-position : (k : ℕ) → k < n
      → nat_abs (carried k -ℤ pos 2 *ℤ nearest_quotient (position (suc k)) (2 * both_divisor x)) ≤ 3
  carries-position k q =
      subst (λ (z : ℤ). nat_abs (carried k -ℤ pos 2 *ℤ nearest_quotient z (2 * both_divisor x)) ≤ 3)
      (sym (position-follows k q)) (miss (both_divisor x) (both_some x) (position k) (velocity k) (acceleration k))

  pub carries-velocity : (k : ℕ) → k < n
      → nat_abs
      (pos 2 *ℤ (nearest_quotient (velocity k) (both_divisor x) +ℤ nearest_quotient (acceleration k) (both_divisor x)
      -ℤ nearest_quotient (velocity (suc k)) (both_divisor x))) ≤ 3
  carries-velocity k q =
      subst (λ (z : ℤ). nat_abs
      (pos 2 *ℤ (nearest_quotient (velocity k) (both_divisor x) +ℤ nearest_quotient (acceleration k) (both_divisor x)
      -ℤ nearest_quotient z (both_divisor x))) ≤ 3)
      (sym (velocity-follows k q)) (miss-velocity (both_divisor x) (both_some x) (velocity k) (acceleration k))
