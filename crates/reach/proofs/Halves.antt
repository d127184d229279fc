-- The next arrival of an axis by halving: until when a velocity that changes by the same number
-- each tick is within a limit, the last arrival at which the target is not too fast, and what a
-- search from a candidate on says of one from an earlier candidate on.
use Prim.Native.Nat.{ℕ, suc, ◌+◌, ◌-◌, ◌*◌, ◌/◌, ◌≤◌, ◌<◌, max}
use mathlib.Core.Path.{◌≡◌, refl, sym, ap, subst, ◌∙◌}
use mathlib.Core.Bool.{Bool, true, false, cond}
use mathlib.Core.Logic.{◌⊎◌, inl, inr}
use native.Mathlib.Omega.{arith}
use native.Mathlib.Nat.{mul-le-mul, le-div_iff_mul-le}
use lib.Dec.{T, eqb, eqb→eq}
use lib.IntN.{ℤ, pos, negsuc, nat_abs, ◌+ℤ◌, ◌-ℤ◌, ◌*ℤ◌}
use lib.Signed.{◌≤ℤ◌, ◌<ℤ◌}
use borrow.Author.Tests.{eq-eqb}
use Rattle.whole.proofs.Differences.{whole, all₁}
use Rattle.whole.proofs.Laws.{nat_abs-zero}
use Rattle.whole.proofs.Tests.{T_true, T_false, true-T, lt-or-le, ltb_no}
use Rattle.model.specs.declared.Axis.{Axis}
use Rattle.model.specs.planning.Quantities.{delay, accelerates, speed_steps}
use Rattle.model.specs.planning.Motion.{landing_acceleration, arrival_velocity, reachable}
use Rattle.model.specs.planning.Refusals.{Passed}
use Rattle.theorems.specs.Threshold.{Slow}
use Rattle.theorems.proofs.motions.Threshold.{arrival-later, slow-ahead, reached-slow, reached-later}
use Rattle.whole.specs.Candidates.{Next}
use Rattle.reach.specs.Halving.{room_toward, TicksWithin, LastPassing, ReachesSome}
use Rattle.reach.proofs.Steady.{reach-after, always-slow}

-- ---- a velocity that changes by the same number each tick

room-up : (l a : ℕ) (v : ℤ) → room_toward l v (pos a) ≡ pos l -ℤ v
room-up l a v = ap (λ (b : Bool). cond b (pos l +ℤ v) (pos l -ℤ v)) (ltb_no {m = a} {n = 0} (omega arith))

up_room : (l k : ℕ) (v : ℤ) → nat_abs (v +ℤ pos k) ≤ l → pos k ≤ℤ (pos l -ℤ v)
up_room l k = all₁ _ (λ a b. simp whole (omega arith))

down-room : (l k : ℕ) (v : ℤ) → nat_abs (v -ℤ pos k) ≤ l → pos k ≤ℤ (pos l +ℤ v)
down-room l k = all₁ _ (λ a b. simp whole (omega arith))

up-back : (l j k : ℕ) (v : ℤ) → j ≤ k → nat_abs (v +ℤ pos j) ≤ l → pos k ≤ℤ (pos l -ℤ v) → nat_abs (v +ℤ pos k) ≤ l
up-back l j k = all₁ _ (λ a b. simp whole (omega arith))

down-back : (l j k : ℕ) (v : ℤ) → j ≤ k → nat_abs (v -ℤ pos j) ≤ l → pos k ≤ℤ (pos l +ℤ v) → nat_abs (v -ℤ pos k) ≤ l
down-back l j k = all₁ _ (λ a b. simp whole (omega arith))

-- within the limit at k there is room for k changes
room_for : (l k : ℕ) (v α : ℤ) → nat_abs (v +ℤ pos k *ℤ α) ≤ l → pos (k * nat_abs α) ≤ℤ room_toward l v α
room_for l k v (pos a) h = subst (λ (z : ℤ). pos (k * a) ≤ℤ z) (sym (room-up l a v)) (up_room l (k * a) v h)
room_for l k v (negsuc a) h = down-room l (k * suc a) v h

-- and where there is, and it was within the limit before, it is at k
room_back : (l j k : ℕ) (v α : ℤ) → j ≤ k → nat_abs (v +ℤ pos j *ℤ α) ≤ l → pos (k * nat_abs α) ≤ℤ room_toward l v α
    → nat_abs (v +ℤ pos k *ℤ α) ≤ l
room_back l j k v (pos a) h p q =
    up-back l (j * a) (k * a) v (mul-le-mul h (omega arith)) p (subst (λ (z : ℤ). pos (k * a) ≤ℤ z) (room-up l a v) q)
room_back l j k v (negsuc a) h p q = down-back l (j * suc a) (k * suc a) v (mul-le-mul h (omega arith)) p q

less-clash : (k : ℕ) (z : ℤ) → pos k ≤ℤ z → z <ℤ pos 0 → ⊥
less-clash k = all₁ _ (λ a b. simp whole (omega arith))

module _ (l : ℕ) (v α : ℤ) (most : ℕ) where
  pub ticks-all : nat_abs α ≡ 0 → TicksWithin l v α most most
  ticks-all e =
      record {
        high = omega arith;
        later = λ k h p. (h, subst (λ (z : ℤ). nat_abs (v +ℤ z) ≤ l) (none k ∙ sym (none most)) p);
      }
    where
      zeros : (n : ℕ) → pos n *ℤ pos 0 ≡ pos 0
      zeros n = ap pos {x = n * 0} {y = 0} (omega arith)

      none : (n : ℕ) → pos n *ℤ α ≡ pos 0
      none n = ap (λ (z : ℤ). pos n *ℤ z) (nat_abs-zero α e) ∙ zeros n

  pub ticks-none : room_toward l v α <ℤ pos 0 → TicksWithin l v α most 0
  ticks-none e =
      record {
        high = omega arith;
        later = λ k h p. absurd (less-clash (k * nat_abs α) (room_toward l v α) (room_for l k v α p) e);
      }

  module _ (some : 0 < nat_abs α) (room : ℕ) (e : room_toward l v α ≡ pos room) where
    counted : (k : ℕ) → nat_abs (v +ℤ pos k *ℤ α) ≤ l → k ≤ room / nat_abs α
    counted k p =
        (le-div_iff_mul-le {k = nat_abs α} {x = k} {y = room} some).1
        (nat (k * nat_abs α) room (subst (λ (z : ℤ). pos (k * nat_abs α) ≤ℤ z) e (room_for l k v α p)))
      where
        nat : (m n : ℕ) → pos m ≤ℤ pos n → m ≤ n
        nat m n = simp whole (omega arith)

    pub ticks-room : (r : ℕ) → r ≤ most → r ≤ room / nat_abs α
        → ((k : ℕ) → k ≤ most → k ≤ room / nat_abs α → k ≤ r) → TicksWithin l v α most r
    ticks-room r h q f =
        record {
          high = h;
          later =
              λ k m p.
              let s : k ≤ r = f k m (counted k p) in (
                s,
                room_back l k r v α s p
                    (subst (λ (z : ℤ). pos (r * nat_abs α) ≤ℤ z) (sym e)
                    (whole_le (r * nat_abs α) room ((le-div_iff_mul-le {k = nat_abs α} {x = r} {y = room} some).0 q))),
              );
        }
      where
        whole_le : (m n : ℕ) → m ≤ n → pos m ≤ℤ pos n
        whole_le m n = simp whole (omega arith)

  -- the same of the numbers that the code has
  pub ticks-divided : (steps : ℕ) (z : ℤ) → steps ≡ nat_abs α → 0 < steps → z ≡ room_toward l v α → pos 0 ≤ℤ z → (r : ℕ)
      → r ≤ most → r ≤ nat_abs z / steps
      → ((k : ℕ) → k ≤ most → k ≤ nat_abs z / steps → k ≤ r) → TicksWithin l v α most r
  ticks-divided steps z e some is up r h q f =
      ticks-room (subst (λ (s : ℕ). 0 < s) e some) (nat_abs z) (sym is ∙ own-size z up) r h
      (subst (λ (s : ℕ). r ≤ nat_abs z / s) e q)
      (λ k a b. f k a (subst (λ (s : ℕ). k ≤ nat_abs z / s) (sym e) b))
    where
      own-size : (z : ℤ) → pos 0 ≤ℤ z → z ≡ pos (nat_abs z)
      own-size (pos n) h = refl
      own-size (negsuc n) h = absurd h.le

-- ---- the last arrival at which the target is not too fast

module _ (x : Axis) (passed : Passed x) where
  pub last-passing : (n last t : ℕ) → delay x < n → n ≤ last
      → TicksWithin (speed_steps x) (arrival_velocity x n) (landing_acceleration x n) (last - n) t
      → LastPassing (reachable x) n last (n + t)
  last-passing n last t h l w = record { low = omega arith; high = omega (arith, w.high); later = later }
    where
      at : (i : ℕ) → arrival_velocity x (n + i) ≡ arrival_velocity x n +ℤ pos i *ℤ landing_acceleration x n
      at i = arrival-later x passed n i (omega arith)

      later : (k : ℕ) → n ≤ k → k ≤ last → reachable x k ≡ true → reachable x (n + t) ≡ true
      later k p q e =
          let s : Slow x k = reached-slow x passed k e in
          let k-is : k ≡ n + (k - n) = omega arith in
          let r = w.later (k - n) (omega arith)
          (subst (λ (z : ℤ). nat_abs z ≤ speed_steps x) (ap (arrival_velocity x) k-is ∙ at (k - n)) s.arrived) in
          let far : k ≤ n + t = omega (arith, r.0) in
          let slow : Slow x (n + t) =
          slow-ahead x passed k (n + t) (omega arith) far s.landed
          (subst (λ (z : ℤ). nat_abs z ≤ speed_steps x) (sym (at t)) r.1) in
          reached-later x passed k (n + t) (n + t) far (omega arith) slow e

  -- the same of the numbers that the code has
  pub last-passing-of : (l : ℕ) (v α : ℤ) (n last t : ℕ) → l ≡ speed_steps x → v ≡ arrival_velocity x n
      → α ≡ landing_acceleration x n → delay x < n → n ≤ last
      → TicksWithin l v α (last - n) t → LastPassing (reachable x) n last (n + t)
  last-passing-of l v α n last t e f g h m w =
      last-passing n last t h m
      (subst (λ (l : ℕ). TicksWithin l (arrival_velocity x n) (landing_acceleration x n) (last - n) t) e
      (subst (λ (v : ℤ). TicksWithin l v (landing_acceleration x n) (last - n) t) f
      (subst (λ (α : ℤ). TicksWithin l v α (last - n) t) g w)))

-- ---- a search that starts later

-- none before the first that is after the delay; from there on, candidates by their number
pub next-from : (x : Axis) (n last f : ℕ) (test : ℕ → Bool) (r : ℕ) → f ≡ max n (suc (delay x)) → f ≤ last
    → ((i : ℕ) → test i ≡ reachable x (f + i))
    → Next test 0 (last - f) r → Next (reachable x) n last (f + r)
next-from x n last f test r e h same w =
    record {
      low = omega arith;
      high = omega (arith, w.high);
      missed = missed;
      passed = λ l. sym (same r)
          ∙ w.passed (omega arith);
    }
  where
    missed : (k : ℕ) → n ≤ k → k < f + r → reachable x k ≡ false
    missed k p q = go (lt-or-le k f)
      where
        go : (k < f) ⊎ (f ≤ k) → reachable x k ≡ false
        go (inl l) = reach-after x k (omega arith)
        go (inr l) = ap (reachable x) {x = k} {y = f + (k - f)} (omega arith) ∙ sym (same (k - f))
            ∙ w.missed (k - f) (omega arith) (omega arith)

-- ---- whether one is reached

module _ (test : ℕ → Bool) where
  clash : (k : ℕ) → test k ≡ true → test k ≡ false → ⊥
  clash k y e = subst T (sym y ∙ e) tt

  -- the last that can pass says it of all, where none before the first does
  pub some-passes : (first last r : ℕ) (b : Bool) → 1 ≤ first → ((k : ℕ) → k < first → test k ≡ false)
      → LastPassing test first last r → b ≡ test r
      → ReachesSome test last b
  some-passes first last r b one before w e =
      record { none = none; some = λ h. (r, (omega (arith, w.low), (w.high, sym e ∙ h))) }
    where
      none : b ≡ false → (k : ℕ) → k ≤ last → test k ≡ false
      none h k q = go (lt-or-le k first)
        where
          go : (k < first) ⊎ (first ≤ k) → test k ≡ false
          go (inl l) = before k l
          go (inr l) = T_false (test k) (λ t. clash r (w.later k l q (T_true (test k) t)) (sym e ∙ h))

  pub none_passes : (last : ℕ) → ((k : ℕ) → k ≤ last → test k ≡ false) → ReachesSome test last false
  none_passes last m = record { none = λ _. m; some = λ h. absurd (subst T (sym h) tt) }

  -- none passes, unless the last that can does
  pub next-none : (n last r : ℕ) → n ≤ last → LastPassing test n last r → test r ≡ false → Next test n last (last + 1)
  next-none n last r h w e =
      record {
        low = omega arith;
        high = omega arith;
        missed = λ k p q. T_false (test k) (λ t. clash r (w.later k p (omega arith) (T_true (test k) t)) e);
        passed = λ q. absurd (omega arith);
      }

  pub next-within : (n last high r : ℕ) → LastPassing test n last high → test high ≡ true
      → Next test n high r → Next test n last r
  next-within n last high r l e w = go (lt-or-le high r)
    where
      go : (high < r) ⊎ (r ≤ high) → Next test n last r
      go (inl p) = absurd (clash high e (w.missed high l.low p))
      go (inr p) = record { low = w.low; high = omega (arith, l.high); missed = w.missed; passed = λ _. w.passed p }

-- where the target does not accelerate, the last tick says it of all
pub last-decides : (x : Axis) → Passed x → accelerates x.target ≡ false → (last r : ℕ) → 1 ≤ last
    → Next (reachable x) last last r
    → ReachesSome (reachable x) last (eqb r last)
last-decides x passed steady last r one w = record { none = none; some = some }
  where
    none : eqb r last ≡ false → (k : ℕ) → k ≤ last → reachable x k ≡ false
    none h k q =
        let past : (r ≡ last → ⊥) = (λ e. subst T (sym (eq-eqb r last e) ∙ h) tt) in
        let missed = w.missed last (omega arith) (omega (arith, w.low, past)) in
        T_false (reachable x k)
        (λ t. clash (reachable x) last
        (reached-later x passed k last last q (omega arith) (always-slow x passed steady last)
        (T_true (reachable x k) t)) missed)

    some : eqb r last ≡ true → (k : ℕ) × ((1 ≤ k) × ((k ≤ last) × (reachable x k ≡ true)))
    some h =
        let e = eqb→eq r last (true-T h) in
        (last, (one, (omega arith, subst (λ (k : ℕ). reachable x k ≡ true) e (w.passed (omega arith)))))
