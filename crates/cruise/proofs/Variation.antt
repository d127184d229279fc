-- How much the changes of a list change in all that rises, is level and falls: at most 3μ +
-- 2, μ being the limit of a change. On the first ramp they are μ in size, on the level part
-- 0, on the last ramp μ again, with one step on the way before and after the level part;
-- where the raise ends, one tick has −1.
use Prim.Native.Nat.{ℕ, zero, suc, ◌+◌, ◌*◌, ◌≤◌, ◌<◌}
use mathlib.Core.Path.{◌≡◌, sym, ap, subst}
use mathlib.Core.Logic.{◌⊎◌, inl, inr, ⊎_elim}
use native.Mathlib.Omega.{arith}
use lib.IntN.{ℤ, pos, neg_ℤ, nat_abs, ◌+ℤ◌, ◌-ℤ◌}
use Rattle.whole.specs.Ranges.{Within}
use Rattle.whole.proofs.Differences.{whole, all₁, all₂}
use Rattle.whole.proofs.Laws.{nat_abs-negpos, nat_abs-+}
use Rattle.whole.proofs.Tests.{lt-or-le}
use Rattle.theorems.specs.Misfit.{variation}

-- u is μ or −μ
abbrev pub Steep : ℕ → ℤ → Type 0
Steep μ u = (u ≡ pos μ) ⊎ (u ≡ neg_ℤ (pos μ))

-- `rise` ticks of the change u, a level part of which the first r ticks are raised, and `fall`
-- ticks of the change −d, T in all
pub record Changes (μ T rise fall r : ℕ) (u d : ℤ) (a : ℕ → ℤ) : Type 0 where
  pub limit : (k : ℕ) → k < T → nat_abs (a k) ≤ μ
  pub steep : Steep μ u
  pub rising : (k : ℕ) → k < T → k < rise → a k ≡ u
  -- the tick after the first ramp: to the last one, or on the way from u to 0
  pub crossing : rise < T → T ≤ suc rise + fall → nat_abs (d +ℤ a rise) ≤ nat_abs (u +ℤ a rise)
  pub leaving : suc rise + fall < T → μ + nat_abs (a rise) ≤ nat_abs (u +ℤ a rise)
  pub level : (k : ℕ) → rise < k → suc k + fall < T → nat_abs (a k) ≤ 1
  pub flat : (k : ℕ) → rise < k → suc k + fall < T → (k < rise + r) ⊎ (rise + r < k) → nat_abs (a k) ≤ 0
  -- the last level tick: on the way from 0 to −d
  pub arriving : (k : ℕ) → rise < k → k + fall < T → T ≤ suc k + fall → nat_abs (d +ℤ a k) + nat_abs (a k) ≤ μ
  pub falling : (k : ℕ) → k < T → rise < k → T ≤ k + fall → a k ≡ neg_ℤ d

pub apart : (x y : ℤ) → nat_abs (y -ℤ x) ≤ nat_abs x + nat_abs y
apart = all₂ _ (λ a b c d. simp whole (omega arith))

module _ (μ T rise fall r : ℕ) (u d : ℤ) (a : ℕ → ℤ) (c : Changes μ T rise fall r u d a) where
  -- what is left of 3μ + 2 at a tick of the first ramp, of the level part, and from the last tick
  -- of that on
  record Left (k : ℕ) : Type 0 where
    first : k ≤ rise → variation a k + nat_abs (u +ℤ a k) ≤ 3 * μ
    raised : rise < k → suc k + fall < T → k ≤ rise + r → variation a k ≤ 2 * μ + nat_abs (a k)
    middle : rise < k → suc k + fall < T → variation a k + nat_abs (a k) ≤ 2 * μ + 2
    last : rise < k → T ≤ suc k + fall → variation a k + nat_abs (d +ℤ a k) ≤ 3 * μ + 2

  -- ---- laws of plain numbers

  size : nat_abs u ≤ μ
  size = go c.steep
    where
      go : Steep μ u → nat_abs u ≤ μ
      go (inl e) = omega (arith, ap nat_abs e)
      go (inr e) = omega (arith, ap nat_abs e, nat_abs-negpos μ)

  -- on from u
  turn : (y : ℤ) → Within μ y → nat_abs (y -ℤ u) + nat_abs (u +ℤ y) ≤ nat_abs (u +ℤ u)
  turn y w = go c.steep
    where
      Law : ℤ → Type 0
      Law u = nat_abs (y -ℤ u) + nat_abs (u +ℤ y) ≤ nat_abs (u +ℤ u)

      up : (y : ℤ) → Within μ y → nat_abs (y -ℤ pos μ) + nat_abs (pos μ +ℤ y) ≤ nat_abs (pos μ +ℤ pos μ)
      up = all₁ _ (λ a b. simp whole (omega arith))

      down : (y : ℤ) → Within μ y
          → nat_abs (y -ℤ neg_ℤ (pos μ)) + nat_abs (neg_ℤ (pos μ) +ℤ y) ≤ nat_abs (neg_ℤ (pos μ) +ℤ neg_ℤ (pos μ))
      down = all₁ _ (λ a b. simp whole (omega arith))

      go : Steep μ u → Law u
      go (inl e) = subst Law (sym e) (up y w)
      go (inr e) = subst Law (sym e) (down y w)

  -- on to −d
  meet : (d x : ℤ) → nat_abs (neg_ℤ d -ℤ x) + nat_abs (d +ℤ neg_ℤ d) ≤ nat_abs (d +ℤ x)
  meet = all₂ _ (λ a b c d. simp whole (omega arith))

  -- ---- tick by tick

  module _ (k : ℕ) (below : suc k < T) (l : Left k) where
    abbrev x : ℤ
    x = a k

    abbrev y : ℤ
    y = a (suc k)

    -- before a level tick
    settled : k ≡ rise → suc k + fall < T → variation a k + nat_abs x ≤ 2 * μ
    settled e h =
        let f = l.first (omega arith) in
        let g = subst (λ (i : ℕ). suc i + fall < T → μ + nat_abs (a i) ≤ nat_abs (u +ℤ a i)) (sym e) c.leaving h in
        omega arith

    on-raised : rise < suc k → suc (suc k) + fall < T → suc k ≤ rise + r → variation a (suc k) ≤ 2 * μ + nat_abs y
    on-raised p q s = ⊎_elim inside entered (lt-or-le rise k)
      where
        inside : rise < k → variation a (suc k) ≤ 2 * μ + nat_abs y
        inside h =
            let f = l.raised h (omega arith) (omega arith) in
            let z = c.flat k h (omega arith) (inl (omega arith)) in
            omega (arith, apart x y)

        entered : k ≤ rise → variation a (suc k) ≤ 2 * μ + nat_abs y
        entered h = omega (arith, settled (omega arith) (omega arith), apart x y)

    calm : rise < suc k → suc k + fall < T → variation a k + nat_abs x ≤ 2 * μ + 2
    calm p q = ⊎_elim (λ (h : rise < k). l.middle h q) (λ (h : k ≤ rise). let f = settled (omega arith) q in
        omega arith) (lt-or-le rise k)

    on-middle : rise < suc k → suc (suc k) + fall < T → variation a (suc k) + nat_abs y ≤ 2 * μ + 2
    on-middle p q = ⊎_elim
        (λ (h : rise + r < suc k). let z = c.flat (suc k) p q (inr h) in
        omega (arith, calm p (omega arith), apart x y))
        (λ (h : suc k ≤ rise + r). let z = c.level (suc k) p q in omega (arith, on-raised p q h))
        (lt-or-le (rise + r) (suc k))

    on-last : rise < suc k → T ≤ suc (suc k) + fall → variation a (suc k) + nat_abs (d +ℤ y) ≤ 3 * μ + 2
    on-last p q = ⊎_elim arrives falls (lt-or-le (suc k + fall) T)
      where
        arrives : suc k + fall < T → variation a (suc k) + nat_abs (d +ℤ y) ≤ 3 * μ + 2
        arrives h = let z = c.arriving (suc k) p h q in omega (arith, calm p h, apart x y)

        before : T ≤ suc k + fall → variation a k + nat_abs (d +ℤ x) ≤ 3 * μ + 2
        before h = ⊎_elim (λ (g : rise < k). l.last g h) crosses (lt-or-le rise k)
          where
            crosses : k ≤ rise → variation a k + nat_abs (d +ℤ x) ≤ 3 * μ + 2
            crosses g =
                let e : rise ≡ k = omega arith in
                let f = l.first (omega arith) in
                let z = subst (λ (i : ℕ). nat_abs (d +ℤ a i) ≤ nat_abs (u +ℤ a i)) e
                (c.crossing (omega arith) (omega arith)) in
                omega arith

        falls : T ≤ suc k + fall → variation a (suc k) + nat_abs (d +ℤ y) ≤ 3 * μ + 2
        falls h =
            subst (λ (z : ℤ). variation a k + nat_abs (z -ℤ x) + nat_abs (d +ℤ z) ≤ 3 * μ + 2)
            (sym (c.falling (suc k) below p h))
            (omega (arith, before h, meet d x))

    on-first : suc k ≤ rise → variation a (suc k) + nat_abs (u +ℤ y) ≤ 3 * μ
    on-first h =
        let e : x ≡ u = c.rising k (omega arith) (omega arith) in
        let f = subst (λ (z : ℤ). variation a k + nat_abs (u +ℤ z) ≤ 3 * μ) e (l.first (omega arith)) in
        subst (λ (z : ℤ). variation a k + nat_abs (y -ℤ z) + nat_abs (u +ℤ y) ≤ 3 * μ) (sym e)
        (omega (arith, turn y (record { within = c.limit (suc k) below })))

    next : Left (suc k)
    next = record { first = on-first; raised = on-raised; middle = on-middle; last = on-last }

  left : (k : ℕ) → k < T → Left k
  left zero h =
      record {
        first = λ p. omega (arith, nat_abs-+ u (a 0), size, c.limit 0 h);
        raised = λ p q s. absurd (omega arith);
        middle = λ p q. absurd (omega arith);
        last = λ p q. absurd (omega arith);
      }
  left (suc k) h = next k h (left k (omega arith))

  pub variation-most : (k : ℕ) → k < T → variation a k ≤ 3 * μ + 2
  variation-most k h = ⊎_elim
      (λ (p : rise < k). ⊎_elim
      (λ (q : suc k + fall < T). let f = (left k h).middle p q in omega arith)
      (λ (q : T ≤ suc k + fall). let f = (left k h).last p q in omega arith)
      (lt-or-le (suc k + fall) T))
      (λ (p : k ≤ rise). let f = (left k h).first p in omega arith)
      (lt-or-le rise k)
