-- No velocity cell of an accepted job exceeds 256L in size and no acceleration cell 256M.
use Prim.Native.Nat.{ℕ, zero, suc, ◌+◌, ◌-◌, ◌*◌, ◌≤◌, ◌<◌}
use mathlib.Core.Path.{◌≡◌, refl, sym, ap, ◌∙◌, subst}
use mathlib.Core.Bool.{Bool, true, false, not}
use mathlib.Core.List.{List, [], ◌∷◌, ◌++◌}
use native.Mathlib.Omega.{arith}
use native.Mathlib.Nat as N
use lib.Dec.{T, ltb, ltb→lt, nltb→le}
use lib.ListN.{get_or, length, replicate}
use lib.IntN.{ℤ, pos, negsuc, neg_ℤ, nat_abs, ◌+ℤ◌, ◌-ℤ◌, ◌*ℤ◌}
use Rattle.whole.specs.Integers.{nearest_quotient}
use Rattle.whole.proofs.Differences.{whole, all₁}
use Rattle.whole.proofs.Laws.{add-sub}
use Rattle.whole.proofs.Bounds.{add_holds, mul_holds}
use Rattle.whole.proofs.Rounding.{nearest-half, half-size}
use Rattle.model.specs.declared.Axis.{Axis}
use Rattle.model.specs.planning.Quantities.{fine_steps, speed_limit, acceleration_limit, half_period, second_weight}
use Rattle.model.specs.planning.Quantities.{second_half_period, delay, as_moving, finer, speed_steps}
use Rattle.model.specs.planning.Quantities.{acceleration_steps}
use Rattle.model.specs.planning.Leg.{Meets, chosen}
use Rattle.model.specs.planning.Motion.{Tick, run, changes_from, leg, displacement, required_sum, earlier, landing_tick}
use Rattle.model.specs.planning.Motion.{start_position, start_velocity, landing_velocity, landing_acceleration}
use Rattle.model.specs.planning.Rows.{planned_axis, tick_at, tick_back, blend_once}
use Rattle.model.specs.planning.Refusals.{Plannable}
use Rattle.theorems.proofs.tables.TwoBlends.{both, both_divisor, both_some}
use Rattle.theorems.proofs.jobs.PassedAxis.{target-acceleration}
use Rattle.theorems.proofs.jobs.PlannableAxis as R
use Rattle.theorems.proofs.motions.Reaches.{reach-lands, reach-arrives}
use Rattle.theorems.proofs.motions.PlannedTarget.{landed, tick-landed, velocities-length}
use Rattle.theorems.proofs.motions.PlannedTarget as P

-- ---- a run over the changes of a list of velocities has these velocities and changes

run-velocity : (q v : ℤ) (ws : List ℤ) (α : ℤ) (αs : List ℤ) (d : Tick) (k : ℕ) → k ≤ length ws
    → (get_or (run q v (changes_from v ws ++ (α ∷ αs))) k d).velocity ≡ get_or (v ∷ ws) k (pos 0)
run-velocity q v [] α αs d zero h = refl
run-velocity q v [] α αs d (suc k) h = absurd (omega arith)
run-velocity q v (w ∷ ws) α αs d zero h = refl
run-velocity q v (w ∷ ws) α αs d (suc k) h =
    ap (λ (u : ℤ). (get_or (run (q +ℤ pos 2 *ℤ v +ℤ (w -ℤ v)) u (changes_from w ws ++ (α ∷ αs))) k d).velocity)
    (add-sub v w)
    ∙ run-velocity (q +ℤ pos 2 *ℤ v +ℤ (w -ℤ v)) w ws α αs d k (omega arith)

run-change : (q v : ℤ) (ws αs : List ℤ) (d : Tick) (k : ℕ) → k < length ws
    → (get_or (run q v (changes_from v ws ++ αs)) k d).acceleration
    ≡ get_or (v ∷ ws) (suc k) (pos 0) -ℤ get_or (v ∷ ws) k (pos 0)
run-change q v [] αs d k h = absurd (omega arith)
run-change q v (w ∷ ws) αs d zero h = refl
run-change q v (w ∷ ws) αs d (suc k) h =
    ap (λ (u : ℤ). (get_or (run (q +ℤ pos 2 *ℤ v +ℤ (w -ℤ v)) u (changes_from w ws ++ αs)) k d).acceleration)
    (add-sub v w)
    ∙ run-change (q +ℤ pos 2 *ℤ v +ℤ (w -ℤ v)) w ws αs d k (omega arith)

-- ---- sizes

-- a velocity that changes steadily lies between its ends
pub between : (v a : ℤ) (j h c : ℕ) → j ≤ h → nat_abs v ≤ c → nat_abs (v +ℤ pos h *ℤ a) ≤ c
    → nat_abs (v +ℤ pos j *ℤ a) ≤ c
between v (pos b) j h c q = up v (j * b) (h * b) c (N.mul-le-mul_right b q)
  where
    up : (v : ℤ) (x y c : ℕ) → x ≤ y → nat_abs v ≤ c → nat_abs (v +ℤ pos y) ≤ c → nat_abs (v +ℤ pos x) ≤ c
    up v x y c l = sizes v
      where
        sizes : (v : ℤ) → nat_abs v ≤ c → nat_abs (v +ℤ pos y) ≤ c → nat_abs (v +ℤ pos x) ≤ c
        sizes = all₁ _ (λ a b. simp whole (omega arith))
between v (negsuc b) j h c q = down v (j * suc b) (h * suc b) c (N.mul-le-mul_right (suc b) q)
  where
    down : (v : ℤ) (x y c : ℕ) → x ≤ y → nat_abs v ≤ c → nat_abs (v +ℤ neg_ℤ (pos y)) ≤ c
        → nat_abs (v +ℤ neg_ℤ (pos x)) ≤ c
    down v x y c l = sizes v
      where
        sizes : (v : ℤ) → nat_abs v ≤ c → nat_abs (v +ℤ neg_ℤ (pos y)) ≤ c → nat_abs (v +ℤ neg_ℤ (pos x)) ≤ c
        sizes = all₁ _ (λ a b. simp whole (omega arith))

blend-within : (b : ℕ) (u w : ℤ) (c : ℕ) → b ≤ 256 → nat_abs u ≤ c → nat_abs w ≤ c
    → nat_abs (pos (256 - b) *ℤ u +ℤ pos b *ℤ w) ≤ 256 * c
blend-within b u w c l h k =
    subst (λ (m : ℕ). nat_abs (pos (256 - b) *ℤ u +ℤ pos b *ℤ w) ≤ m) weights
    (add_holds (pos (256 - b) *ℤ u) (pos b *ℤ w) ((256 - b) * c) (b * c)
    (mul_holds (pos (256 - b)) u (256 - b) c (omega arith) h) (mul_holds (pos b) w b c (omega arith) k))
  where
    weights : (256 - b) * c + b * c ≡ 256 * c
    weights = sym (N.add-mul (256 - b) b c) ∙ ap (λ (m : ℕ). m * c) {x = 256 - b + b} {y = 256} (omega arith)

-- ---- the ticks of an axis that can be planned

-- a tick is below T or it is T + j
by-landing : (Q : ℕ → Type 0) (T k : ℕ) → (k < T → Q k) → ((j : ℕ) → k ≡ T + j → Q (T + j)) → Q k
by-landing Q T k f g = go (ltb k T) (ltb→lt k T) (nltb→le k T)
  where
    go : (b : Bool) → (lib.Dec.T b → k < T) → (lib.Dec.T (not b) → T ≤ k) → Q k
    go true a c = f (a tt)
    go false a c = let h : T ≤ k = c tt in subst Q {x = T + (k - T)} {y = k} (omega arith) (g (k - T) (omega arith))

module _ (x : Axis) (n : ℕ) (r : Plannable x n) where
  W : ℕ → ℤ
  W k = get_or (start_velocity x ∷ chosen (leg x n) (required_sum x n)) k (pos 0)

  meets : Meets (leg x n) (displacement x n) W
  unfolding W
  meets = P.meets x n r

  long : length (chosen (leg x n) (required_sum x n)) ≡ landing_tick x n
  long = velocities-length x n r

  late : (j : ℕ) → j ≤ delay x → tick_at (planned_axis n x) (landing_tick x n + j) ≡ landed x n j
  late j h = tick-landed x n r j h

  landing-acceleration : nat_abs (landing_acceleration x n) ≤ acceleration_steps x
  landing-acceleration =
      mul_holds (pos (finer x)) (pos fine_steps *ℤ (as_moving x.target n).acceleration) (finer x)
      (fine_steps * acceleration_limit x) (omega arith)
      (mul_holds (pos fine_steps) (as_moving x.target n).acceleration fine_steps (acceleration_limit x) (omega arith)
      (target-acceleration x r.passed n))

  now-velocity : (k : ℕ) → k ≤ n → nat_abs (tick_at (planned_axis n x) k).velocity ≤ speed_steps x
  unfolding W
  now-velocity k h =
      by-landing (λ k. k ≤ n → nat_abs (tick_at (planned_axis n x) k).velocity ≤ speed_steps x) (landing_tick x n) k
      (λ q l.
      subst (λ (v : ℤ). nat_abs v ≤ speed_steps x)
      (sym
      (run-velocity (start_position x) (start_velocity x) (chosen (leg x n) (required_sum x n))
      (landing_acceleration x n)
      (replicate (delay x) (landing_acceleration x n)) (earlier x 0) k (omega (arith, long))))
      (meets.speeds k (omega arith)))
      (λ j e l.
      subst (λ (t : Tick). nat_abs t.velocity ≤ speed_steps x) (sym (late j (omega arith)))
      (between (landing_velocity x n) (landing_acceleration x n) j (delay x) (speed_steps x) (omega arith)
      (reach-lands x n (R.reached x n r)) (reach-arrives x n (R.reached x n r))))
      h

  -- before the landing
  pub planned-change : (k : ℕ) → k < landing_tick x n
      → (tick_at (planned_axis n x) k).acceleration
      ≡ get_or (start_velocity x ∷ chosen (leg x n) (required_sum x n)) (suc k) (pos 0)
      -ℤ get_or (start_velocity x ∷ chosen (leg x n) (required_sum x n)) k (pos 0)
  planned-change k h =
      run-change (start_position x) (start_velocity x) (chosen (leg x n) (required_sum x n))
      (replicate (suc (delay x)) (landing_acceleration x n)) (earlier x 0)
      k (omega (arith, long))

  pub now-acceleration : (k : ℕ) → k ≤ n → nat_abs (tick_at (planned_axis n x) k).acceleration ≤ acceleration_steps x
  unfolding W
  now-acceleration k h =
      by-landing (λ k. k ≤ n → nat_abs (tick_at (planned_axis n x) k).acceleration ≤ acceleration_steps x)
      (landing_tick x n) k
      (λ q l.
      subst (λ (v : ℤ). nat_abs v ≤ acceleration_steps x) (sym (planned-change k q)) (meets.changes k q))
      (λ j e l. subst (λ (t : Tick). nat_abs t.acceleration ≤ acceleration_steps x)
      (sym (late j (omega arith))) landing-acceleration)
      h

  -- a cell of what is at most c fine steps in size before tick 0 and at every tick
  cell : (f : Tick → ℤ) (c : ℕ) → ((j : ℕ) → nat_abs (f (earlier x j)) ≤ finer x * c)
      → ((k : ℕ) → k ≤ n → nat_abs (f (tick_at (planned_axis n x) k)) ≤ finer x * c)
      → (k : ℕ) → k ≤ n → nat_abs (nearest_quotient (both (planned_axis n x) k f) (both_divisor x)) ≤ c
  cell f c a b k h =
      half-size c (both_some x) total (nearest-half (both (planned_axis n x) k f) (both_divisor x) (both_some x))
    where
      back : (d : ℕ) → nat_abs (f (tick_back (planned_axis n x) k d)) ≤ finer x * c
      back d = go (ltb k d)
        where
          go : (t : Bool)
              → nat_abs
              (f (elim t as (λ y. Tick) [ true ↦ earlier x (d - k) | false ↦ tick_at (planned_axis n x) (k - d) ]))
              ≤ finer x * c
          go true = a (d - k)
          go false = b (k - d) (omega arith)

      once : (d : ℕ) → nat_abs (blend_once (planned_axis n x) k d f) ≤ 256 * (finer x * c)
      once d =
          blend-within (second_weight x) (f (tick_back (planned_axis n x) k d))
          (f (tick_back (planned_axis n x) k (d + half_period x))) (finer x * c)
          (R.weight-range x n r) (back d) (back (d + half_period x))

      sized : (f c : ℕ) → 256 * (f * c) + 256 * (f * c) ≡ 512 * f * c
      sized f c = omega arith

      total : nat_abs (both (planned_axis n x) k f) ≤ both_divisor x * c
      total =
          subst (λ (m : ℕ). nat_abs (both (planned_axis n x) k f) ≤ m) (sized (finer x) c)
          (add_holds (blend_once (planned_axis n x) k 0 f) (blend_once (planned_axis n x) k (second_half_period x) f)
          (256 * (finer x * c)) (256 * (finer x * c)) (once 0)
          (once (second_half_period x)))

  start-speed : nat_abs (start_velocity x) ≤ speed_steps x
  unfolding W
  start-speed = meets.speeds 0 (omega arith)

  pub velocity-cell : (k : ℕ) → k ≤ n
      → nat_abs (nearest_quotient (both (planned_axis n x) k (λ s. s.velocity)) (both_divisor x)) ≤ 256 * speed_limit x
  velocity-cell = cell (λ s. s.velocity) (256 * speed_limit x) (λ j. start-speed) now-velocity

  pub acceleration-cell : (k : ℕ) → k ≤ n → nat_abs
      (nearest_quotient (both (planned_axis n x) k (λ s. s.acceleration)) (both_divisor x)) ≤ 256 * acceleration_limit x
  acceleration-cell = cell (λ s. s.acceleration) (256 * acceleration_limit x) (λ j. omega arith) now-acceleration
