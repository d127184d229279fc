-- A number of ticks that falls short is missed, by either envelope, and so is every one before it.
use Prim.Native.Nat.{ℕ, suc, ◌-◌, ◌≤◌, ◌<◌}
use mathlib.Core.Path.{◌≡◌, refl, sym, ap, subst, ◌∙◌}
use mathlib.Core.Bool.{Bool, true, false, ◌&&◌}
use mathlib.Core.List.{[], ◌∷◌}
use native.Mathlib.Omega.{arith}
use lib.Dec.{T}
use lib.IntN.{ℤ, pos, neg_ℤ, ◌+ℤ◌, ◌*ℤ◌}
use lib.Signed.{le_z, ◌≤ℤ◌, ◌<ℤ◌}
use Rattle.whole.specs.Integers.{sum_to}
use Rattle.whole.proofs.Differences.{whole, all₂}
use Rattle.whole.proofs.Ring.{pol, same}
use Rattle.whole.proofs.Tests.{T_true, T_false}
use Rattle.model.specs.planning.Leg.{Leg, upper, lower}
use Rattle.profile.specs.Profiles.{ends_allowed}
use Rattle.whole.specs.Candidates.{Lasting}
use Rattle.envelopes.specs.declared.sought.Sought.{Sought}
use Rattle.envelopes.specs.Sums.{with_ticks, sought_at, Turned, between}
use Rattle.envelopes.specs.Skips.{Skips, ShortAt}
use Rattle.envelopes.proofs.EnvelopeSums.{mirrored, lower-mirror}

-- ---- one number of ticks

above : (u s : ℤ) → u <ℤ s → le_z s u ≡ false
above u s h = T_false (le_z s u) (λ t. clash u s h (record { le = t }))
  where
    clash : (u s : ℤ) → u <ℤ s → s ≤ℤ u → ⊥
    clash = all₂ _ (λ a b c d. simp whole (omega arith))

upper-fails : (a b c : Bool) → c ≡ false → (a && (b && c)) ≡ false
upper-fails true true c e = e
upper-fails true false c e = refl
upper-fails false b c e = refl

lower-fails : (a b c : Bool) → b ≡ false → (a && (b && c)) ≡ false
lower-fails true b c e = ap (λ (x : Bool). x && c) e
lower-fails false b c e = refl

module _ (s : Sought) (g : Leg) (t : ℕ) where
  abbrev wanted : ℤ
  wanted = sought_at s t

  pub short-missed : ShortAt g s t → between s g t ≡ false
  short-missed h =
      upper-fails (ends_allowed (with_ticks g t)) (le_z (sum_to (lower (with_ticks g t)) (t - 1)) wanted)
      (le_z wanted (sum_to (upper (with_ticks g t)) (t - 1)))
      (above (sum_to (upper (with_ticks g t)) (t - 1)) wanted h)

  pub mirrored-missed : (r : Sought) → Turned s r → ShortAt (mirrored g) r t → between s g t ≡ false
  mirrored-missed r q h =
      lower-fails (ends_allowed (with_ticks g t)) (le_z (sum_to (lower (with_ticks g t)) (t - 1)) wanted)
      (le_z wanted (sum_to (upper (with_ticks g t)) (t - 1)))
      (above wanted (sum_to (lower (with_ticks g t)) (t - 1))
      (subst (λ (z : ℤ). wanted <ℤ z) (sym (lower-mirror (with_ticks g t) (t - 1)))
      (about (sum_to (upper (mirrored (with_ticks g t))) (t - 1)) wanted
      (subst (λ (z : ℤ). sum_to (upper (mirrored (with_ticks g t))) (t - 1) <ℤ z)
      ((λ i. q.sum i +ℤ pos (t - q.ticks i) *ℤ q.change i) ∙ signs s.sum s.change (pos (t - s.ticks))) h))))
    where
      signs : (s c n : ℤ) → neg_ℤ s +ℤ n *ℤ neg_ℤ c ≡ neg_ℤ (s +ℤ n *ℤ c)
      signs s c n = same (s ∷ c ∷ n ∷ []) (search pol depth 20 fits 9000) tt

      about : (u w : ℤ) → u <ℤ neg_ℤ w → w <ℤ neg_ℤ u
      about = all₂ _ (λ a b c d. simp whole (omega arith))

-- ---- all before it

pub skips-to : (test : ℕ → Bool) (first last r : ℕ) → Lasting test first → first ≤ r → r ≤ suc last
    → (first < r → test (r - 1) ≡ false) → Skips test first last r
skips-to test first last r on low high e = record { low = low; high = high; missed = missed }
  where
    missed : (k : ℕ) → first ≤ k → k < r → test k ≡ false
    missed k p q =
        T_false (test k) (λ t. subst T (sym (on k (r - 1) p (omega arith) (T_true (test k) t)) ∙ e (omega arith)) tt)
