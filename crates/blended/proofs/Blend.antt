-- The blend of two motions: it adds as they do, and where they are one it is that times both
-- weights together. So do the blends of all delays.
use mathlib.Core.Path.{◌≡◌, refl, sym}
use Rattle.whole.proofs.Laws.{+ℤ-*ℤ}
use Rattle.whole.proofs.Ring.{pol, same}
use mathlib.Core.List.{[], ◌∷◌}
use Prim.Native.Nat.{ℕ, ◌+◌, ◌*◌}
use lib.IntN.{ℤ, pos, ◌+ℤ◌, ◌-ℤ◌, ◌*ℤ◌}
use Rattle.std.specs.Prelude.{Option, None, Some}
use Rattle.model.specs.planning.Quantities.{sway_delay}
use Rattle.blended.specs.BlendedStates.{mix, added}
use Rattle.planned.specs.Plans.{blends_by}

pub mix-same : (a b : ℕ) (x : ℤ) → mix a b x x ≡ pos (a + b) *ℤ x
mix-same a b x = sym (+ℤ-*ℤ (pos a) (pos b) x)

pub mix-sum : (a b : ℕ) (x y z x' y' z' : ℤ)
    → mix a b (x +ℤ y +ℤ z) (x' +ℤ y' +ℤ z') ≡ mix a b x x' +ℤ mix a b y y' +ℤ mix a b z z'
mix-sum a b = ring (pos a) (pos b)
  where
    ring : (a b x y z x' y' z' : ℤ) → a *ℤ (x +ℤ y +ℤ z) +ℤ b *ℤ (x' +ℤ y' +ℤ z')
        ≡ (a *ℤ x +ℤ b *ℤ x') +ℤ (a *ℤ y +ℤ b *ℤ y') +ℤ (a *ℤ z +ℤ b *ℤ z')
    ring a b x y z x' y' z' = same (a ∷ b ∷ x ∷ y ∷ z ∷ x' ∷ y' ∷ z' ∷ []) (search pol depth 20 fits 9000) tt

pub mix-change : (a b : ℕ) (x y x' y' : ℤ) → mix a b (x -ℤ y) (x' -ℤ y') ≡ mix a b x x' -ℤ mix a b y y'
mix-change a b = ring (pos a) (pos b)
  where
    ring : (a b x y x' y' : ℤ) → a *ℤ (x -ℤ y) +ℤ b *ℤ (x' -ℤ y') ≡ (a *ℤ x +ℤ b *ℤ x') -ℤ (a *ℤ y +ℤ b *ℤ y')
    ring a b x y x' y' = same (a ∷ b ∷ x ∷ y ∷ x' ∷ y' ∷ []) (search pol depth 20 fits 9000) tt

-- at tick 0, d ticks back: the blend of a position less the way 2dv before it, and
-- of that less the way 2(d + h)v
pub mix-start : (a b h d : ℕ) (q v : ℤ)
    → mix a b (q -ℤ pos 2 *ℤ (pos d *ℤ v)) (q -ℤ pos 2 *ℤ (pos (d + h) *ℤ v))
    ≡ pos (a + b) *ℤ q -ℤ pos 2 *ℤ (pos (b * h + (a + b) * d) *ℤ v)
mix-start a b h d = ring (pos a) (pos b) (pos h) (pos d)
  where
    ring : (a b h d q v : ℤ)
        → a *ℤ (q -ℤ pos 2 *ℤ (d *ℤ v)) +ℤ b *ℤ (q -ℤ pos 2 *ℤ ((d +ℤ h) *ℤ v))
        ≡ (a +ℤ b) *ℤ q -ℤ pos 2 *ℤ ((b *ℤ h +ℤ (a +ℤ b) *ℤ d) *ℤ v)
    ring a b h d q v = same (a ∷ b ∷ h ∷ d ∷ q ∷ v ∷ []) (search pol depth 30 fits 9000) tt

-- both weights times s
pub mix-times : (s a b : ℕ) (x y : ℤ) → mix (s * a) (s * b) x y ≡ pos s *ℤ mix a b x y
mix-times s a b = ring (pos s) (pos a) (pos b)
  where
    ring : (s a b x y : ℤ) → (s *ℤ a) *ℤ x +ℤ (s *ℤ b) *ℤ y ≡ s *ℤ (a *ℤ x +ℤ b *ℤ y)
    ring s a b x y = same (s ∷ a ∷ b ∷ x ∷ y ∷ []) (search pol depth 20 fits 9000) tt

-- ---- the blends added up

pub added-same : (s : Option ℕ) (w : ℕ) (v : ℤ) → added s (λ d. pos w *ℤ v) ≡ pos (blends_by s * w) *ℤ v
added-same None w = ring (pos w)
  where
    ring : (w v : ℤ) → w *ℤ v ≡ (pos 1 *ℤ w) *ℤ v
    ring w v = same (w ∷ v ∷ []) (search pol depth 20 fits 9000) tt
added-same (Some d) w = ring (pos w)
  where
    ring : (w v : ℤ) → w *ℤ v +ℤ w *ℤ v ≡ (pos 2 *ℤ w) *ℤ v
    ring w v = same (w ∷ v ∷ []) (search pol depth 20 fits 9000) tt

pub added-sum : (s : Option ℕ) (f g h : ℕ → ℤ)
    → added s (λ d. f d +ℤ g d +ℤ h d) ≡ added s f +ℤ added s g +ℤ added s h
added-sum None f g h = refl
added-sum (Some d) f g h = ring (f 0) (g 0) (h 0) (f d) (g d) (h d)
  where
    ring : (x y z x' y' z' : ℤ) → (x +ℤ y +ℤ z) +ℤ (x' +ℤ y' +ℤ z') ≡ (x +ℤ x') +ℤ (y +ℤ y') +ℤ (z +ℤ z')
    ring x y z x' y' z' = same (x ∷ y ∷ z ∷ x' ∷ y' ∷ z' ∷ []) (search pol depth 20 fits 9000) tt

pub added-change : (s : Option ℕ) (f g : ℕ → ℤ) → added s (λ d. f d -ℤ g d) ≡ added s f -ℤ added s g
added-change None f g = refl
added-change (Some d) f g = ring (f 0) (g 0) (f d) (g d)
  where
    ring : (x y x' y' : ℤ) → (x -ℤ y) +ℤ (x' -ℤ y') ≡ (x +ℤ x') -ℤ (y +ℤ y')
    ring x y x' y' = same (x ∷ y ∷ x' ∷ y' ∷ []) (search pol depth 20 fits 9000) tt

pub added-times : (s : Option ℕ) (c : ℤ) (f : ℕ → ℤ) → added s (λ d. c *ℤ f d) ≡ c *ℤ added s f
added-times None c f = refl
added-times (Some d) c f = ring c (f 0) (f d)
  where
    ring : (c x y : ℤ) → c *ℤ x +ℤ c *ℤ y ≡ c *ℤ (x +ℤ y)
    ring c x y = same (c ∷ x ∷ y ∷ []) (search pol depth 20 fits 9000) tt

-- at tick 0: w is both weights together, l the second times h
pub added-start : (s : Option ℕ) (w l : ℕ) (q v : ℤ)
    → added s (λ d. pos w *ℤ q -ℤ pos 2 *ℤ (pos (l + w * d) *ℤ v))
    ≡ pos (blends_by s * w) *ℤ q -ℤ pos 2 *ℤ (pos (blends_by s * l + w * sway_delay s) *ℤ v)
added-start None w l = ring (pos w) (pos l)
  where
    ring : (w l q v : ℤ)
        → w *ℤ q -ℤ pos 2 *ℤ ((l +ℤ w *ℤ pos 0) *ℤ v) ≡ (pos 1 *ℤ w) *ℤ q -ℤ pos 2 *ℤ ((pos 1 *ℤ l +ℤ w *ℤ pos 0) *ℤ v)
    ring w l q v = same (w ∷ l ∷ q ∷ v ∷ []) (search pol depth 20 fits 9000) tt
added-start (Some d) w l = ring (pos w) (pos l) (pos d)
  where
    ring : (w l d q v : ℤ)
        → (w *ℤ q -ℤ pos 2 *ℤ ((l +ℤ w *ℤ pos 0) *ℤ v)) +ℤ (w *ℤ q -ℤ pos 2 *ℤ ((l +ℤ w *ℤ d) *ℤ v))
        ≡ (pos 2 *ℤ w) *ℤ q -ℤ pos 2 *ℤ ((pos 2 *ℤ l +ℤ w *ℤ d) *ℤ v)
    ring w l d q v = same (w ∷ l ∷ d ∷ q ∷ v ∷ []) (search pol depth 20 fits 9000) tt
