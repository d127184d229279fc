-- The sway of filtered accelerations in a list is that of the accelerations in the filtered list:
-- each row blends the accelerations with those h ticks back, and from tick t on they do not change.
-- So a sum over rows 0 to t + h becomes one over ticks 0 to t, which is at most what the
-- accelerations change in all times the largest entry of the filtered list.
use Prim.Native.Nat.{ℕ, zero, suc, ◌+◌, ◌-◌, ◌*◌, ◌≤◌, ◌<◌}
use mathlib.Core.Path.{◌≡◌, refl, sym, ap, ap₂, ◌∙◌, subst}
use mathlib.Core.Bool.{Bool, true, false}
use mathlib.Core.Logic.{⊎_elim}
use mathlib.Core.List.{[], ◌∷◌}
use native.Mathlib.Omega.{arith}
use native.Mathlib.Nat.{add-mul}
use lib.Dec.{ltb}
use lib.IntN.{ℤ, pos, nat_abs, ◌+ℤ◌, ◌-ℤ◌, ◌*ℤ◌}
use Rattle.whole.proofs.Tests.{lt-choice, le-choice, lt-or-le}
use Rattle.whole.proofs.Bounds.{add_holds, mul_holds}
use Rattle.whole.proofs.Ring.{pol, same}
use Rattle.model.specs.planning.Demand.{acceleration_change, sway}
use Rattle.theorems.specs.Misfit.{variation}

-- the sway looks at rows 0 to k alone
pub sway-same : (c d w : ℕ → ℤ) (m k : ℕ) → ((q : ℕ) → q ≤ k → c q ≡ d q) → sway c w m k ≡ sway d w m k
sway-same c d w m zero f = ap (λ (z : ℤ). z *ℤ w m) (f 0 (omega arith))
sway-same c d w m (suc k) f =
    ap₂ (λ (y z : ℤ). y +ℤ z *ℤ w (m - suc k)) (sway-same c d w m k (λ q h. f q (omega arith)))
    (ap₂ (λ (y z : ℤ). y -ℤ z) (f (suc k) (omega arith)) (f k (omega arith)))

-- the sway is linear in the accelerations
pub sway-times : (a : ℤ) (c w : ℕ → ℤ) (m k : ℕ) → sway (λ i. a *ℤ c i) w m k ≡ a *ℤ sway c w m k
sway-times a c w m zero = same (a ∷ c 0 ∷ w m ∷ []) (search pol depth 20 fits 9000) tt
sway-times a c w m (suc k) =
    ap (λ (z : ℤ). z +ℤ (a *ℤ c (suc k) -ℤ a *ℤ c k) *ℤ w (m - suc k)) (sway-times a c w m k)
    ∙ same (a ∷ sway c w m k ∷ c (suc k) ∷ c k ∷ w (m - suc k) ∷ []) (search pol depth 20 fits 9000) tt

-- and in the list
pub sway-weighted : (a : ℤ) (c w : ℕ → ℤ) (m k : ℕ) → sway c (λ i. a *ℤ w i) m k ≡ a *ℤ sway c w m k
sway-weighted a c w m zero = same (a ∷ c 0 ∷ w m ∷ []) (search pol depth 20 fits 9000) tt
sway-weighted a c w m (suc k) =
    ap (λ (z : ℤ). z +ℤ (c (suc k) -ℤ c k) *ℤ (a *ℤ w (m - suc k))) (sway-weighted a c w m k)
    ∙ same (a ∷ sway c w m k ∷ c (suc k) ∷ c k ∷ w (m - suc k) ∷ []) (search pol depth 20 fits 9000) tt

-- f h ticks back, 0 before tick 0
abbrev pub back : (ℕ → ℤ) → ℕ → ℕ → ℤ
back f h k = elim (ltb k h) [ true ↦ pos 0 | false ↦ f (k - h) ]

back-before : (f : ℕ → ℤ) (h k : ℕ) → k < h → back f h k ≡ pos 0
back-before f h k q = lt-choice k h (pos 0) (f (k - h)) q

back-after : (f : ℕ → ℤ) (h k j : ℕ) → k ≡ h + j → back f h k ≡ f j
back-after f h k j e = le-choice k h (pos 0) (f (k - h)) (omega arith) ∙ ap f (omega arith)

-- a weighted sum of f now and h ticks back
abbrev pub filtered : ℤ → ℤ → (ℕ → ℤ) → ℕ → ℕ → ℤ
filtered a b f h k = a *ℤ f k +ℤ b *ℤ back f h k

-- a weighted sum of entry i of a list and the entry h before it
abbrev pub smoothed : ℤ → ℤ → (ℕ → ℤ) → ℕ → ℕ → ℤ
smoothed a b w h i = a *ℤ w i +ℤ b *ℤ w (i - h)

module _ (A B : ℤ) (α w : ℕ → ℤ) (h m : ℕ) where
  abbrev exact : ℕ → ℤ
  exact k = filtered A B α h k

  -- the sums of the two halves of the blend
  abbrev now : ℕ → ℤ
  now n = A *ℤ sway α w m n

  abbrev late : ℕ → ℤ
  late n = B *ℤ sway α w (m - h) n

  -- ---- a change of the blend: the change now, and the change h ticks back

  change-before : (k : ℕ) → k < h → acceleration_change exact k ≡ A *ℤ acceleration_change α k
  change-before zero q =
      ap (λ (z : ℤ). A *ℤ α 0 +ℤ B *ℤ z) (back-before α h 0 q)
      ∙ same (A ∷ B ∷ α 0 ∷ []) (search pol depth 20 fits 9000) tt
  change-before (suc k) q =
      ap₂ (λ (y z : ℤ). A *ℤ α (suc k) +ℤ B *ℤ y -ℤ (A *ℤ α k +ℤ B *ℤ z)) (back-before α h (suc k) q)
      (back-before α h k (omega arith))
      ∙ same (A ∷ B ∷ α (suc k) ∷ α k ∷ []) (search pol depth 20 fits 9000) tt

  change-after : (k j : ℕ) → k ≡ h + j
      → acceleration_change exact k ≡ A *ℤ acceleration_change α k +ℤ B *ℤ acceleration_change α j
  change-after zero zero e = ap (λ (z : ℤ). A *ℤ α 0 +ℤ B *ℤ z) (back-after α h 0 0 e)
  change-after zero (suc j) e = absurd (omega arith)
  change-after (suc k) zero e =
      ap₂ (λ (y z : ℤ). A *ℤ α (suc k) +ℤ B *ℤ y -ℤ (A *ℤ α k +ℤ B *ℤ z)) (back-after α h (suc k) 0 e)
      (back-before α h k (omega arith))
      ∙ same (A ∷ B ∷ α (suc k) ∷ α k ∷ α 0 ∷ []) (search pol depth 20 fits 9000) tt
  change-after (suc k) (suc j) e =
      ap₂ (λ (y z : ℤ). A *ℤ α (suc k) +ℤ B *ℤ y -ℤ (A *ℤ α k +ℤ B *ℤ z)) (back-after α h (suc k) (suc j) e)
      (back-after α h k j (omega arith))
      ∙ same (A ∷ B ∷ α (suc k) ∷ α k ∷ α (suc j) ∷ α j ∷ []) (search pol depth 20 fits 9000) tt

  -- ---- the sway of the blend in its two halves

  before : (n : ℕ) → n < h → sway exact w m n ≡ now n
  before zero q = ap (λ (z : ℤ). z *ℤ w m) (change-before 0 q)
      ∙ same (A ∷ α 0 ∷ w m ∷ []) (search pol depth 20 fits 9000) tt
  before (suc n) q =
      ap₂ (λ (y z : ℤ). y +ℤ z *ℤ w (m - suc n)) (before n (omega arith)) (change-before (suc n) q)
      ∙ factored (sway α w m n) (acceleration_change α (suc n)) (w (m - suc n))
    where
      factored : (s a x : ℤ) → A *ℤ s +ℤ A *ℤ a *ℤ x ≡ A *ℤ (s +ℤ a *ℤ x)
      factored s a x = same (A ∷ s ∷ a ∷ x ∷ []) (search pol depth 20 fits 9000) tt

  after : (n j : ℕ) → n ≡ h + j → sway exact w m n ≡ now n +ℤ late j
  after zero zero e =
      ap (λ (z : ℤ). z *ℤ w m) (change-after 0 0 e)
      ∙ factored (α 0) (w m)
      ∙ ap (λ (i : ℕ). now 0 +ℤ B *ℤ (α 0 *ℤ w i)) (omega arith)
    where
      factored : (a x : ℤ) → (A *ℤ a +ℤ B *ℤ a) *ℤ x ≡ A *ℤ (a *ℤ x) +ℤ B *ℤ (a *ℤ x)
      factored a x = same (A ∷ B ∷ a ∷ x ∷ []) (search pol depth 20 fits 9000) tt
  after zero (suc j) e = absurd (omega arith)
  after (suc n) zero e =
      ap₂ (λ (y z : ℤ). y +ℤ z *ℤ w (m - suc n)) (before n (omega arith)) (change-after (suc n) 0 e)
      ∙ factored (sway α w m n) (acceleration_change α (suc n)) (α 0) (w (m - suc n))
      ∙ ap (λ (i : ℕ). now (suc n) +ℤ B *ℤ (α 0 *ℤ w i)) (omega arith)
    where
      factored : (s a b x : ℤ) → A *ℤ s +ℤ (A *ℤ a +ℤ B *ℤ b) *ℤ x ≡ A *ℤ (s +ℤ a *ℤ x) +ℤ B *ℤ (b *ℤ x)
      factored s a b x = same (A ∷ B ∷ s ∷ a ∷ b ∷ x ∷ []) (search pol depth 20 fits 9000) tt
  after (suc n) (suc j) e =
      ap₂ (λ (y z : ℤ). y +ℤ z *ℤ w (m - suc n)) (after n j (omega arith)) (change-after (suc n) (suc j) e)
      ∙ factored (sway α w m n) (sway α w (m - h) j) (acceleration_change α (suc n))
      (acceleration_change α (suc j)) (w (m - suc n))
      ∙ ap (λ (i : ℕ). now (suc n) +ℤ B *ℤ (sway α w (m - h) j +ℤ acceleration_change α (suc j) *ℤ w i)) (omega arith)
    where
      factored : (s u a b x : ℤ)
          → A *ℤ s +ℤ B *ℤ u +ℤ (A *ℤ a +ℤ B *ℤ b) *ℤ x ≡ A *ℤ (s +ℤ a *ℤ x) +ℤ B *ℤ (u +ℤ b *ℤ x)
      factored s u a b x = same (A ∷ B ∷ s ∷ u ∷ a ∷ b ∷ x ∷ []) (search pol depth 20 fits 9000) tt

  -- ---- the two halves together, row by row

  together : (j : ℕ) → now j +ℤ late j ≡ sway α (smoothed A B w h) m j
  together zero = same (A ∷ B ∷ α 0 ∷ w m ∷ w (m - h) ∷ []) (search pol depth 20 fits 9000) tt
  together (suc j) =
      grouped (sway α w m j) (sway α w (m - h) j) (acceleration_change α (suc j)) (w (m - suc j)) (w (m - h - suc j))
      ∙ ap₂ (λ (y : ℤ) (i : ℕ). y +ℤ acceleration_change α (suc j) *ℤ (A *ℤ w (m - suc j) +ℤ B *ℤ w i))
      (together j) (omega arith)
    where
      grouped : (s u a x y : ℤ) → A *ℤ (s +ℤ a *ℤ x) +ℤ B *ℤ (u +ℤ a *ℤ y) ≡ A *ℤ s +ℤ B *ℤ u +ℤ a *ℤ (A *ℤ x +ℤ B *ℤ y)
      grouped s u a x y = same (A ∷ B ∷ s ∷ u ∷ a ∷ x ∷ y ∷ []) (search pol depth 20 fits 9000) tt

  -- ---- from tick t on nothing changes

  module _ (t : ℕ) (steady : (k : ℕ) → t ≤ k → k < t + h → α (suc k) ≡ α k) where
    unchanged : (k : ℕ) → t ≤ k → k < t + h → now (suc k) ≡ now k
    unchanged k a b =
        ap (λ (z : ℤ). A *ℤ (sway α w m k +ℤ (z -ℤ α k) *ℤ w (m - suc k))) (steady k a b)
        ∙ none (sway α w m k) (α k) (w (m - suc k))
      where
        none : (s a x : ℤ) → A *ℤ (s +ℤ (a -ℤ a) *ℤ x) ≡ A *ℤ s
        none s a x = same (A ∷ s ∷ a ∷ x ∷ []) (search pol depth 20 fits 9000) tt

    flat : (i : ℕ) → i ≤ h → now (t + i) ≡ now t
    flat zero q = ap now none
      where
        none : t + 0 ≡ t
        none = omega arith
    flat (suc i) q = ap now next ∙ unchanged (t + i) (omega arith) (omega arith) ∙ flat i (omega arith)
      where
        next : t + suc i ≡ suc (t + i)
        next = omega arith

    pub sway-exact : sway exact w m (t + h) ≡ sway α (smoothed A B w h) m t
    sway-exact = after (t + h) t (omega arith) ∙ ap (λ (z : ℤ). z +ℤ late t) (flat h (omega arith)) ∙ together t

-- ---- how large a sway is: no entry m − n to m above E in size
pub sway-small : (a w : ℕ → ℤ) (m n E : ℕ) → ((i : ℕ) → m ≤ i + n → i ≤ m → nat_abs (w i) ≤ E)
    → nat_abs (sway a w m n) ≤ variation a n * E
sway-small a w m zero E small =
    mul_holds (acceleration_change a 0) (w m) (variation a 0) E (omega arith) (small m (omega arith) (omega arith))
sway-small a w m (suc n) E small =
    subst (λ (b : ℕ). nat_abs (sway a w m (suc n)) ≤ b)
    (sym (add-mul (variation a n) (nat_abs (acceleration_change a (suc n))) E))
    (add_holds (sway a w m n) (acceleration_change a (suc n) *ℤ w (m - suc n)) _ _
    (sway-small a w m n E (λ i p q. small i (omega arith) q))
    (mul_holds (acceleration_change a (suc n)) (w (m - suc n)) (nat_abs (acceleration_change a (suc n))) E (omega arith)
    (small (m - suc n) (omega arith) (omega arith))))

-- ---- two delays, one after the other

pub back_none : (f : ℕ → ℤ) (k : ℕ) → back f 0 k ≡ f k
back_none f k = back-after f 0 k k (omega arith)

back-back : (f : ℕ → ℤ) (g h k : ℕ) → back (back f g) h k ≡ back f (g + h) k
back-back f g h k = ⊎_elim before (λ q. ⊎_elim (between q) (within q) (lt-or-le (k - h) g)) (lt-or-le k h)
  where
    before : k < h → back (back f g) h k ≡ back f (g + h) k
    before q = back-before (back f g) h k q ∙ sym (back-before f (g + h) k (omega arith))

    between : h ≤ k → k - h < g → back (back f g) h k ≡ back f (g + h) k
    between q p = back-after (back f g) h k (k - h) (omega arith) ∙ back-before f g (k - h) p
        ∙ sym (back-before f (g + h) k (omega arith))

    within : h ≤ k → g ≤ k - h → back (back f g) h k ≡ back f (g + h) k
    within q p =
        back-after (back f g) h k (k - h) (omega arith)
        ∙ back-after f g (k - h) (k - h - g) (omega arith)
        ∙ sym (back-after f (g + h) k (k - h - g) (omega arith))

back_sum : (a b : ℤ) (f g : ℕ → ℤ) (h k : ℕ) → back (λ i. a *ℤ f i +ℤ b *ℤ g i) h k ≡ a *ℤ back f h k +ℤ b *ℤ back g h k
back_sum a b f g h k = go (ltb k h)
  where
    none : (a b : ℤ) → pos 0 ≡ a *ℤ pos 0 +ℤ b *ℤ pos 0
    none a b = same (a ∷ b ∷ []) (search pol depth 20 fits 9000) tt

    go : (t : Bool) → (elim t as (λ _. ℤ) [ true ↦ pos 0 | false ↦ a *ℤ f (k - h) +ℤ b *ℤ g (k - h) ])
        ≡ a *ℤ (elim t as (λ _. ℤ) [ true ↦ pos 0 | false ↦ f (k - h) ])
        +ℤ b *ℤ (elim t as (λ _. ℤ) [ true ↦ pos 0 | false ↦ g (k - h) ])
    go true = none a b
    go false = refl

-- one filter after another, written out
pub filtered-twice : (a b c e : ℤ) (f : ℕ → ℤ) (g h k : ℕ)
    → filtered a b (filtered c e f g) h k
    ≡ a *ℤ (c *ℤ f k +ℤ e *ℤ back f g k) +ℤ b *ℤ (c *ℤ back f h k +ℤ e *ℤ back f (g + h) k)
filtered-twice a b c e f g h k =
    ap (λ (z : ℤ). a *ℤ filtered c e f g k +ℤ b *ℤ z)
    (back_sum c e f (back f g) h k ∙ ap (λ (z : ℤ). c *ℤ back f h k +ℤ e *ℤ z) (back-back f g h k))

-- two weighted sums with the same weights
pub paired : (A B y z u v : ℤ)
    → A *ℤ y +ℤ B *ℤ z +ℤ (A *ℤ u +ℤ B *ℤ v) ≡ A *ℤ (pos 1 *ℤ y +ℤ pos 1 *ℤ u) +ℤ B *ℤ (pos 1 *ℤ z +ℤ pos 1 *ℤ v)
paired A B y z u v = same (A ∷ B ∷ y ∷ z ∷ u ∷ v ∷ []) (search pol depth 20 fits 9000) tt

-- where f does not change from tick t on, its filter does not change from tick t + h on
pub filtered-steady : (a b : ℤ) (f : ℕ → ℤ) (h t l : ℕ) → ((k : ℕ) → t ≤ k → k < l → f (suc k) ≡ f k)
    → (k : ℕ) → t + h ≤ k → k < l → filtered a b f h (suc k) ≡ filtered a b f h k
filtered-steady a b f h t l steady k p q =
    ap₂ (λ (y z : ℤ). a *ℤ y +ℤ b *ℤ z) (steady k (omega arith) q)
    (back-after f h (suc k) (suc (k - h)) (omega arith) ∙ steady (k - h) (omega arith) (omega arith)
    ∙ sym (back-after f h k (k - h) (omega arith)))
