-- Row N is on the target: the cells of an axis there are 256 times the target's
-- position, velocity and acceleration.
use Prim.Native.Nat.{ℕ, ◌+◌, ◌-◌, ◌*◌, ◌≤◌}
use mathlib.Core.Path.{◌≡◌, ap, ap₂, ◌∙◌}
use mathlib.Core.List.{[], ◌∷◌}
use native.Mathlib.Omega.{arith}
use lib.IntN.{ℤ, pos, ◌+ℤ◌, ◌-ℤ◌, ◌*ℤ◌, +ℤ_idr}
use Rattle.whole.specs.Integers.{nearest_quotient}
use Rattle.whole.proofs.Differences.{whole}
use Rattle.whole.proofs.Ring.{pol, same}
use Rattle.whole.proofs.Rounding.{nearest-whole}
use Rattle.model.specs.declared.Axis.{Axis}
use Rattle.model.specs.declared.State.{State}
use Rattle.model.specs.planning.Quantities.{half_period, second_weight, sway_delay, second_half_period, as_moving}
use Rattle.model.specs.planning.Quantities.{twice_position_at, velocity_at, finest_steps, finer}
use Rattle.model.specs.planning.Motion.{Tick, landing_tick}
use Rattle.model.specs.planning.Rows.{planned_axis, tick_back, blend, divisor}
use Rattle.model.specs.planning.Refusals.{Passed, Plannable}
use Rattle.theorems.proofs.motions.Grid.{Grid, two_sways, still, unblended, undamped, corrected, grid}
use Rattle.theorems.proofs.tables.TwoBlends.{both, both_divisor, both_some, blend-of-both}
use Rattle.theorems.proofs.jobs.PassedAxis.{second-still}
use Rattle.theorems.proofs.jobs.PlannableAxis as R
use Rattle.theorems.proofs.tables.BlendTicks.{tick-after}
use Rattle.theorems.proofs.motions.PlannedTarget.{landed, tick-landed}

pub weights : (b : ℕ) → b ≤ 256 → pos (256 - b) ≡ pos 256 -ℤ pos b
weights b h = simp whole (omega arith)

-- ---- the two blends of the target l + j ticks on, for j = h + s, s, h and 0, where h + s
-- = N − T: f is the grid steps in a fine step, b the second weight, s the second half
-- period, p, v, a and t the target

-- of the value u j at j ticks after the landing
abbrev fourfold : ℤ → (ℤ → ℤ) → ℤ → ℤ → ℤ
fourfold b u h s = (pos 256 -ℤ b) *ℤ u (h +ℤ s) +ℤ b *ℤ u s +ℤ ((pos 256 -ℤ b) *ℤ u h +ℤ b *ℤ u (pos 0))

blended-acceleration : (f b a : ℤ)
    → (pos 256 -ℤ b) *ℤ (f *ℤ (pos 256 *ℤ a)) +ℤ b *ℤ (f *ℤ (pos 256 *ℤ a))
    +ℤ ((pos 256 -ℤ b) *ℤ (f *ℤ (pos 256 *ℤ a)) +ℤ b *ℤ (f *ℤ (pos 256 *ℤ a)))
    ≡ pos 512 *ℤ f *ℤ (pos 256 *ℤ a)
blended-acceleration f b a = same (f ∷ b ∷ a ∷ []) (search pol depth 20 fits 9000) tt

-- what is left over vanishes where a is 0; and where s is 0 it is 4 (256 − f) b h² (b − 128) a
abbrev leftover : ℤ → ℤ → ℤ → ℤ → ℤ → ℤ
leftover f b h s a =
    a
    *ℤ (pos 1024 *ℤ (b *ℤ (h *ℤ h) *ℤ (b -ℤ pos 128))
    +ℤ f
    *ℤ (pos 2 *ℤ ((b *ℤ h +ℤ pos 128 *ℤ s) *ℤ ((pos 512 -ℤ pos 2 *ℤ b) *ℤ h +ℤ pos 256 *ℤ s))
    +ℤ pos 256 *ℤ ((pos 512 -ℤ pos 2 *ℤ b) *ℤ (h *ℤ h +ℤ h *ℤ s) +ℤ pos 256 *ℤ (s *ℤ s))
    -ℤ pos 131072 *ℤ ((h +ℤ s) *ℤ (h +ℤ s))))

module _ (f b h s p v a l t : ℤ) where
  -- the target's velocity and twice its position at k, the planned velocity and position at
  -- the landing and j ticks after it
  abbrev speed : ℤ → ℤ
  speed k = v +ℤ a *ℤ (k -ℤ t)

  abbrev place : ℤ → ℤ
  place k = pos 2 *ℤ p +ℤ pos 2 *ℤ (v *ℤ (k -ℤ t)) +ℤ a *ℤ ((k -ℤ t) *ℤ (k -ℤ t))

  abbrev landing_speed : ℤ
  landing_speed = f *ℤ (pos 256 *ℤ speed l +ℤ (b *ℤ h +ℤ pos 128 *ℤ s) *ℤ a)

  abbrev landing_place : ℤ
  landing_place =
      f *ℤ (pos 256 *ℤ place l +ℤ pos 2 *ℤ ((b *ℤ h +ℤ pos 128 *ℤ s) *ℤ speed l))
      +ℤ pos 2 *ℤ (b *ℤ (h *ℤ h) *ℤ (b -ℤ pos 128) *ℤ a)

  abbrev steady : ℤ
  steady = f *ℤ (pos 256 *ℤ a)

  blended-velocity : fourfold b (λ j. landing_speed +ℤ j *ℤ steady) h s
      ≡ pos 512 *ℤ f *ℤ (pos 256 *ℤ speed (l +ℤ (h +ℤ s)))
  blended-velocity = same (f ∷ b ∷ h ∷ s ∷ v ∷ a ∷ l ∷ t ∷ []) (search pol depth 30 fits 9000) tt

  blended-position : fourfold b (λ j. landing_place +ℤ pos 2 *ℤ (j *ℤ landing_speed) +ℤ steady *ℤ (j *ℤ j)) h s
      ≡ pos 2 *ℤ (pos 512 *ℤ f) *ℤ (pos 128 *ℤ place (l +ℤ (h +ℤ s))) +ℤ leftover f b h s a
  blended-position = same (f ∷ b ∷ h ∷ s ∷ p ∷ v ∷ a ∷ l ∷ t ∷ []) (search pol depth 40 fits 9000) tt

no-leftover : (x : Axis) (n : ℕ) → Passed x
    → leftover (pos (finer x)) (pos (second_weight x)) (pos (half_period x)) (pos (second_half_period x))
    (as_moving x.target n).acceleration ≡ pos 0
no-leftover x n p = go (grid x)
  where
    F : ℤ
    F = pos (finer x)

    b : ℤ
    b = pos (second_weight x)

    h : ℤ
    h = pos (half_period x)

    s : ℤ
    s = pos (second_half_period x)

    a : ℤ
    a = (as_moving x.target n).acceleration

    no-acceleration : (f b h s : ℤ) → leftover f b h s (pos 0) ≡ pos 0
    no-acceleration f b h s = same (f ∷ b ∷ h ∷ s ∷ []) (search pol depth 30 fits 9000) tt

    no-delay : (f b a : ℤ) → leftover f b (pos 0) (pos 0) a ≡ pos 0
    no-delay f b a = same (f ∷ b ∷ a ∷ []) (search pol depth 30 fits 9000) tt

    equal : (f h a : ℤ) → leftover f (pos 128) h (pos 0) a ≡ pos 0
    equal f h a = same (f ∷ h ∷ a ∷ []) (search pol depth 30 fits 9000) tt

    finer-grid : (b h a : ℤ) → leftover (pos finest_steps) b h (pos 0) a ≡ pos 0
    finer-grid b h a = same (b ∷ h ∷ a ∷ []) (search pol depth 30 fits 9000) tt

    go : Grid x → leftover F b h s a ≡ pos 0
    go (two_sways d e z) = ap (λ (y : ℤ). leftover F b h s y) (second-still x p d z n) ∙ no-acceleration F b h s
    go (still e y z) = ap (λ (y : ℤ). leftover F b h s y) (z n) ∙ no-acceleration F b h s
    go (unblended e y z) = ap₂ (λ (j k : ℕ). leftover F b (pos j) (pos k) a) z (ap sway_delay y) ∙ no-delay F b a
    go (undamped e y z) = ap₂ (λ (j k : ℕ). leftover F (pos j) h (pos k) a) z (ap sway_delay y) ∙ equal F h a
    go (corrected e y) = ap₂ (λ (j k : ℕ). leftover (pos j) b h (pos k) a) e (ap sway_delay y) ∙ finer-grid b h a

module _ (x : Axis) (n : ℕ) (r : Plannable x n) where
  abbrev h : ℕ
  h = half_period x

  abbrev s : ℕ
  s = second_half_period x

  abbrev B : ℤ
  B = pos (second_weight x)

  abbrev F : ℤ
  F = pos (finer x)

  abbrev m : State
  m = as_moving x.target n

  arrival : landing_tick x n + (h + s) ≡ n
  arrival = omega (arith, R.after x n r)

  abbrev at : ℕ → Tick
  at j = landed x n j

  -- the planned tick d before N
  back-N : (d j : ℕ) → d + j ≡ h + s → tick_back (planned_axis n x) n d ≡ at j
  back-N d j e = tick-after (planned_axis n x) n d (landing_tick x n + j) (omega (arith, arrival))
      ∙ tick-landed x n r j (omega arith)

  -- the planned ticks of row N
  row-N : (f : Tick → ℤ)
      → both (planned_axis n x) n f
      ≡ (pos 256 -ℤ B) *ℤ f (at (h + s)) +ℤ B *ℤ f (at s) +ℤ ((pos 256 -ℤ B) *ℤ f (at h) +ℤ B *ℤ f (at 0))
  row-N f =
      ap (λ (a : ℤ). a *ℤ f (back 0) +ℤ B *ℤ f (back (0 + h)) +ℤ (a *ℤ f (back s) +ℤ B *ℤ f (back (s + h))))
      (weights (second_weight x) (R.weight-range x n r))
      ∙ ap₂ (λ (a b : Tick). (pos 256 -ℤ B) *ℤ f a +ℤ B *ℤ f b
      +ℤ ((pos 256 -ℤ B) *ℤ f (back s) +ℤ B *ℤ f (back (s + h))))
      (back-N 0 (h + s) (omega arith)) (back-N (0 + h) s (omega arith))
      ∙ ap₂ (λ (a b : Tick). (pos 256 -ℤ B) *ℤ f (at (h + s)) +ℤ B *ℤ f (at s) +ℤ ((pos 256 -ℤ B) *ℤ f a +ℤ B *ℤ f b))
      (back-N s h (omega arith)) (back-N (s + h) 0 (omega arith))
    where
      back : ℕ → Tick
      back d = tick_back (planned_axis n x) n d

  pub exact-acceleration : both (planned_axis n x) n (λ s. s.acceleration)
      ≡ pos (both_divisor x) *ℤ (pos 256 *ℤ m.acceleration)
  exact-acceleration = row-N (λ s. s.acceleration) ∙ blended-acceleration F B m.acceleration

  pub lands-acceleration : nearest_quotient (both (planned_axis n x) n (λ s. s.acceleration)) (both_divisor x)
      ≡ pos 256 *ℤ m.acceleration
  lands-acceleration =
      ap (λ (z : ℤ). nearest_quotient z (both_divisor x)) exact-acceleration
      ∙ nearest-whole (both_divisor x) (pos 256 *ℤ m.acceleration) (both_some x)

  pos-N : pos (landing_tick x n) +ℤ (pos h +ℤ pos s) ≡ pos n
  pos-N = ap pos arrival

  pub lands-velocity : nearest_quotient (both (planned_axis n x) n (λ s. s.velocity)) (both_divisor x)
      ≡ pos 256 *ℤ velocity_at m (pos n)
  lands-velocity = ap (λ (z : ℤ). nearest_quotient z (both_divisor x)) exact
      ∙ nearest-whole (both_divisor x) (pos 256 *ℤ velocity_at m (pos n)) (both_some x)
    where
      exact : both (planned_axis n x) n (λ s. s.velocity) ≡ pos (both_divisor x) *ℤ (pos 256 *ℤ velocity_at m (pos n))
      exact =
          row-N (λ s. s.velocity)
          ∙ blended-velocity F B (pos h) (pos s) m.position m.velocity m.acceleration
          (pos (landing_tick x n)) m.tick
          ∙ ap (λ (z : ℤ). pos (both_divisor x) *ℤ (pos 256 *ℤ velocity_at m z)) pos-N

  exact-position : both (planned_axis n x) n (λ s. s.position)
      ≡ pos (2 * both_divisor x) *ℤ (pos 128 *ℤ twice_position_at m (pos n))
  exact-position =
      row-N (λ s. s.position)
      ∙ blended-position F B (pos h) (pos s) m.position m.velocity m.acceleration
      (pos (landing_tick x n)) m.tick
      ∙ ap₂ (λ (k z : ℤ). pos (2 * both_divisor x) *ℤ (pos 128 *ℤ twice_position_at m k) +ℤ z) pos-N
      (no-leftover x n r.passed)
      ∙ +ℤ_idr (pos (2 * both_divisor x) *ℤ (pos 128 *ℤ twice_position_at m (pos n)))

  pub exact-blend : blend (planned_axis n x) n (λ s. s.position)
      ≡ pos (2 * divisor x) *ℤ (pos 128 *ℤ twice_position_at m (pos n))
  exact-blend =
      blend-of-both (planned_axis n x) n (λ s. s.position) (pos 128 *ℤ twice_position_at m (pos n)) exact-position

  pub lands-position : nearest_quotient (both (planned_axis n x) n (λ s. s.position)) (2 * both_divisor x)
      ≡ pos 128 *ℤ twice_position_at m (pos n)
  lands-position =
      ap (λ (z : ℤ). nearest_quotient z (2 * both_divisor x)) exact-position
      ∙ nearest-whole (2 * both_divisor x) (pos 128 *ℤ twice_position_at m (pos n)) (omega (arith, both_some x))
