-- Rule 5: the cruise found is the largest c from −256L to 256L whose sum does not exceed the
-- required sum.
use Prim.Native.Nat.{ℕ, zero, suc, ◌-◌, ◌*◌, ◌^◌, ◌≤◌}
use mathlib.Core.Path.{◌≡◌, sym, subst}
use mathlib.Core.Logic.{⊎_elim}
use native.Mathlib.Omega.{arith}
use native.Mathlib.Nat.{pow-succ'}
use lib.IntN.{ℤ, pos, neg_ℤ, ◌+ℤ◌}
use lib.Signed.{le_z, ◌≤ℤ◌, ◌<ℤ◌, le_z_yes, ≤ℤ_refl, clash_ℤ}
use Rattle.whole.specs.Integers.{sum_to}
use Rattle.whole.proofs.Tests.{by_bool}
use Rattle.whole.proofs.Differences.{whole, all₁, all₂, all₃, le-fails}
use Rattle.whole.proofs.Laws.{≤ℤ-trans, ≤ℤ-total, <ℤ-next}
use Rattle.whole.proofs.Order.{clamp-mono}
use Rattle.whole.proofs.Sums.{sum_mono}
use Rattle.model.specs.planning.Leg.{Leg, upper, lower, clamped, sum_at, fits_at, climb_by_bits, climb_steps, cruise}
use Rattle.model.specs.planning.Leg.{IsCruise}
use Rattle.theorems.proofs.legs.Envelopes.{lowest-sum}

pub sum_at-mono : (g : Leg) (c d : ℤ) → c ≤ℤ d → sum_at g c ≤ℤ sum_at g d
sum_at-mono g c d h =
    sum_mono (clamped g c) (clamped g d) (g.ticks - 1) (λ k q. clamp-mono (lower g k) (upper g k) c d h)

module _ (g : Leg) (s : ℤ) where
  abbrev L : ℤ
  L = pos g.speed_limit

  -- c fits, and a cruise that fits is below c + 2ⁿ
  record Climbed (n : ℕ) (c : ℤ) : Type 0 where
    above : neg_ℤ L ≤ℤ c
    below : c ≤ℤ L
    fits : sum_at g c ≤ℤ s
    next : (d : ℤ) → d ≤ℤ L → sum_at g d ≤ℤ s → d <ℤ (c +ℤ pos (2 ^ n))

  climb-is : (n : ℕ) (c : ℤ) → Climbed n c → IsCruise g s (climb_by_bits g s n c)
  climb-is zero c h =
      record { above = h.above; below = h.below; fits = h.fits; largest = λ d p q. <ℤ-next d c (h.next d p q) }
  climb-is (suc n) c h =
      by_bool (IsCruise g s) (le_z d L) _ _
      (λ t.
      by_bool (IsCruise g s) (fits_at g s d) _ _
      (λ u. climb-is n d (higher (le_z_yes t) (le_z_yes u)))
      (λ u. climb-is n c (same (λ e p q. exceeds e q (le-fails u)))))
      (λ t. climb-is n c (same (λ e p q. beyond e d L p (le-fails t))))
    where
      d : ℤ
      d = c +ℤ pos (2 ^ n)

      higher : d ≤ℤ L → sum_at g d ≤ℤ s → Climbed n d
      higher b f =
          record {
            above = ≤ℤ-trans h.above (up c (2 ^ n));
            below = b;
            fits = f;
            next = λ e p q. twice e c (2 ^ n) (2 ^ suc n) (pow-succ' 2 n) (h.next e p q);
          }
        where
          up : (c : ℤ) (m : ℕ) → c ≤ℤ (c +ℤ pos m)
          up = all₁ _ (λ a b m. simp whole (omega arith))

          twice : (e c : ℤ) (m k : ℕ) → k ≡ 2 * m → e <ℤ (c +ℤ pos k) → e <ℤ (c +ℤ pos m +ℤ pos m)
          twice = all₂ _ (λ a b c d m k. simp whole (omega arith))

      same : ((e : ℤ) → e ≤ℤ L → sum_at g e ≤ℤ s → e <ℤ d) → Climbed n c
      same f = record { above = h.above; below = h.below; fits = h.fits; next = f }

      -- e fits and d does not, so e is below d
      exceeds : (e : ℤ) → sum_at g e ≤ℤ s → s <ℤ sum_at g d → e <ℤ d
      exceeds e q f = ⊎_elim (λ (p : d ≤ℤ e). clash_ℤ f (≤ℤ-trans (sum_at-mono g d e p) q)) (λ p. p) (≤ℤ-total d e)

      beyond : (e d l : ℤ) → e ≤ℤ l → l <ℤ d → e <ℤ d
      beyond = all₃ _ (λ a b c d e f. simp whole (omega arith))

  pub cruise-is : g.speed_limit ≤ 2 ^ 37 → sum_to (lower g) (g.ticks - 1) ≤ℤ s → IsCruise g s (cruise g s)
  unfolding cruise
  cruise-is small fits =
      climb-is climb_steps (neg_ℤ L)
      (record {
        above = ≤ℤ_refl (neg_ℤ L);
        below = across g.speed_limit;
        fits = subst (λ (z : ℤ). z ≤ℤ s) (sym (lowest-sum g)) fits;
        next = λ d p q. reach g.speed_limit d small p;
      })
    where
      across : (l : ℕ) → neg_ℤ (pos l) ≤ℤ pos l
      across l = simp whole (omega arith)

      reach : (l : ℕ) (d : ℤ) → l ≤ 2 ^ 37 → d ≤ℤ pos l → d <ℤ (neg_ℤ (pos l) +ℤ pos (2 ^ climb_steps))
      reach l = all₁ _ (λ a b. simp whole (omega arith))
