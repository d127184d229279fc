-- The position sums taken from the landing end are those taken from the start: `sums-from-landing`,
-- by which the rows may begin at either end.
use Prim.Native.Nat.{ℕ, zero, suc, ◌-◌, ◌≤◌, ◌<◌}
use mathlib.Core.Path.{◌≡◌, sym, ap, ap₂, ◌∙◌}
use mathlib.Core.List.{[], ◌∷◌}
use native.Mathlib.Omega.{arith}
use lib.IntN.{ℤ, pos, ◌+ℤ◌, ◌-ℤ◌, ◌*ℤ◌}
use Rattle.whole.proofs.Ring.{pol, same}
use Rattle.model.specs.declared.Axis.{Axis}
use Rattle.std.specs.Prelude.{Option, None, Some}
use Rattle.model.specs.planning.Motion.{Tick}
use Rattle.model.specs.planning.Rows.{planned_axis, blend_once, blend_by, blend}
use Rattle.theorems.specs.Rows.{from_landing, SumsFromLanding}
use Rattle.model.specs.planning.Refusals.{Plannable}
use Rattle.theorems.proofs.tables.Landing.{exact-blend}
use Rattle.theorems.proofs.tables.Carry.{once-position, once-velocity}

module _ (x : Axis) (n : ℕ) (r : Plannable x n) where
  abbrev position : ℕ → ℤ
  position k = blend (planned_axis n x) k (λ s. s.position)

  abbrev velocity : ℕ → ℤ
  velocity k = blend (planned_axis n x) k (λ s. s.velocity)

  -- one tick goes on by the velocities at its two ends
  once-ends : (d k : ℕ) → k < n
      → blend_once (planned_axis n x) (suc k) d (λ s. s.position)
      ≡ blend_once (planned_axis n x) k d (λ s. s.position) +ℤ blend_once (planned_axis n x) k d (λ s. s.velocity)
      +ℤ blend_once (planned_axis n x) (suc k) d (λ s. s.velocity)
  once-ends d k q =
      once-position x n r d k q
      ∙ parted (once (λ s. s.position)) (once (λ s. s.velocity)) (once (λ s. s.acceleration))
      ∙ ap (λ (z : ℤ). once (λ s. s.position) +ℤ once (λ s. s.velocity) +ℤ z) (sym (once-velocity x n r d k q))
    where
      once : (Tick → ℤ) → ℤ
      once f = blend_once (planned_axis n x) k d f

      parted : (q v a : ℤ) → q +ℤ pos 2 *ℤ v +ℤ a ≡ q +ℤ v +ℤ (v +ℤ a)
      parted q v a = same (q ∷ v ∷ a ∷ []) (search pol depth 20 fits 9000) tt

  ends : (k : ℕ) → k < n → position (suc k) ≡ position k +ℤ velocity k +ℤ velocity (suc k)
  ends k q = go x.second_sway
    where
      sorted : (q v w r y z : ℤ) → q +ℤ v +ℤ w +ℤ (r +ℤ y +ℤ z) ≡ q +ℤ r +ℤ (v +ℤ y) +ℤ (w +ℤ z)
      sorted q v w r y z = same (q ∷ v ∷ w ∷ r ∷ y ∷ z ∷ []) (search pol depth 20 fits 9000) tt

      at : ℕ → ℕ → (Tick → ℤ) → ℤ
      at j d f = blend_once (planned_axis n x) j d f

      go : (s : Option ℕ) → blend_by s (planned_axis n x) (suc k) (λ t. t.position)
          ≡ blend_by s (planned_axis n x) k (λ t. t.position) +ℤ blend_by s (planned_axis n x) k (λ t. t.velocity)
          +ℤ blend_by s (planned_axis n x) (suc k) (λ t. t.velocity)
      go None = once-ends 0 k q
      go (Some d) =
          ap₂ (λ (y z : ℤ). y +ℤ z) (once-ends 0 k q) (once-ends d k q)
          ∙ sorted (at k 0 (λ t. t.position)) (at k 0 (λ t. t.velocity))
          (at (suc k) 0 (λ t. t.velocity)) (at k d (λ t. t.position))
          (at k d (λ t. t.velocity)) (at (suc k) d (λ t. t.velocity))

  back : (i : ℕ) → i ≤ n → from_landing x n i ≡ position (n - i)
  back zero h = sym (exact-blend x n r) ∙ ap position (let e : n ≡ n - 0 = omega arith in e)
  back (suc i) h =
      let e : n - i ≡ suc (n - suc i) = omega (arith, h) in
      let k = n - suc i in
      ap (λ (z : ℤ). z -ℤ velocity (n - i) -ℤ velocity k)
      (back i (omega (arith, h)) ∙ ap position e ∙ ends k (omega (arith, h)))
      ∙ ap (λ (j : ℕ). position k +ℤ velocity k +ℤ velocity (suc k) -ℤ velocity j -ℤ velocity k) e
      ∙ cancels (position k) (velocity k) (velocity (suc k))
    where
      cancels : (q v w : ℤ) → q +ℤ v +ℤ w -ℤ w -ℤ v ≡ q
      cancels q v w = same (q ∷ v ∷ w ∷ []) (search pol depth 20 fits 9000) tt

pub sums-from-landing : SumsFromLanding
sums-from-landing x n r i h = back x n r i h
