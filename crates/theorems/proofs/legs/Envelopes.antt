-- The envelopes of rule 5: a velocity brought between them changes by no more than the
-- acceleration limit from tick to tick, they meet at both ends of the leg, and every list that
-- meets rule 4 lies between them.
use Prim.Native.Nat.{ℕ, zero, suc, ◌+◌, ◌-◌, ◌*◌, ◌≤◌, ◌<◌}
use mathlib.Core.Path.{◌≡◌, sym, ap, ap₂, ◌∙◌, subst}
use mathlib.Core.Logic.{◌↔◌}
use native.Mathlib.Omega.{arith}
use native.Mathlib.Nat.{add_comm, mul-suc, mul-add, mul-zero, sub_self, sub-zero}
use lib.IntN.{ℤ, pos, neg_ℤ, nat_abs, ◌+ℤ◌, ◌-ℤ◌}
use lib.Signed.{◌≤ℤ◌}
use Rattle.whole.specs.Integers.{least, greatest, clamp, sum_to}
use Rattle.whole.specs.Ranges.{Within}
use Rattle.whole.proofs.Differences.{whole, all₁, all₂, all₃, all₄}
use Rattle.whole.proofs.Sums.{sum_same}
use Rattle.model.specs.planning.Leg.{Leg, Meets, upper, lower, clamped, sum_at}

-- ---- two velocities at most A apart

pub record Near (A : ℕ) (x y : ℤ) : Type 0 where
  pub apart : Within A (y -ℤ x)

-- for `simp` on differences
near-iff : (A : ℕ) (x y : ℤ) → Near A x y ↔ Within A (y -ℤ x)
near-iff A x y = (λ n. n.apart, λ h. record { apart = h })

pub near-refl : (A : ℕ) (x : ℤ) → Near A x x
near-refl A = all₁ _ (λ a b. simp (whole, near-iff) (omega arith))

pub near_next : (A : ℕ) (x : ℤ) → 0 < A → Near A x (x +ℤ pos 1)
near_next A = all₁ _ (λ a b. simp (whole, near-iff) (omega arith))

pub near-sym : {A : ℕ} {x y : ℤ} → Near A x y → Near A y x
near-sym {A} {x} {y} = go x y
  where
    go : (x y : ℤ) → Near A x y → Near A y x
    go = all₂ _ (λ a b c d. simp (whole, near-iff) (omega arith))

near-trans : {a b : ℕ} {x y z : ℤ} → Near a x y → Near b y z → Near (a + b) x z
near-trans {a} {b} {x} {y} {z} = go x y z
  where
    go : (x y z : ℤ) → Near a x y → Near b y z → Near (a + b) x z
    go = all₃ _ (λ c d e f g h. simp (whole, near-iff) (omega arith))

near-least : {A : ℕ} {x y z w : ℤ} → Near A x y → Near A z w → Near A (least x z) (least y w)
near-least {A} {x} {y} {z} {w} = go x y z w
  where
    go : (x y z w : ℤ) → Near A x y → Near A z w → Near A (least x z) (least y w)
    go = all₄ _ (λ a b c d e f g h. simp (whole, near-iff) (omega arith))

near-greatest : {A : ℕ} {x y z w : ℤ} → Near A x y → Near A z w → Near A (greatest x z) (greatest y w)
near-greatest {A} {x} {y} {z} {w} = go x y z w
  where
    go : (x y z w : ℤ) → Near A x y → Near A z w → Near A (greatest x z) (greatest y w)
    go = all₄ _ (λ a b c d e f g h. simp (whole, near-iff) (omega arith))

near-plus : (A a b : ℕ) (x : ℤ) → a ≤ b + A → b ≤ a + A → Near A (x +ℤ pos a) (x +ℤ pos b)
near-plus A a b = all₁ _ (λ c d. simp (whole, near-iff) (omega arith))

near-minus : (A a b : ℕ) (x : ℤ) → a ≤ b + A → b ≤ a + A → Near A (x -ℤ pos a) (x -ℤ pos b)
near-minus A a b = all₁ _ (λ c d. simp (whole, near-iff) (omega arith))

module _ (g : Leg) where
  abbrev L : ℕ
  L = g.speed_limit

  abbrev A : ℕ
  A = g.acceleration_limit

  -- what the start and the end allow at tick k: A k and A (T − k)
  abbrev pub since : ℕ → ℕ
  since k = A * k

  abbrev pub until : ℕ → ℕ
  until k = A * (g.ticks - k)

  since-next : (k : ℕ) → since (suc k) ≡ since k + A
  since-next k = mul-suc A k

  until-next : (k : ℕ) → k < g.ticks → until k ≡ until (suc k) + A
  until-next k h = ap (λ (n : ℕ). A * n) e ∙ mul-suc A (g.ticks - suc k)
    where
      e : g.ticks - k ≡ suc (g.ticks - suc k)
      e = omega arith

  pub since-until : (k : ℕ) → k ≤ g.ticks → since k + until k ≡ A * g.ticks
  since-until k h = sym (mul-add A k (g.ticks - k)) ∙ ap (λ (n : ℕ). A * n) e
    where
      e : k + (g.ticks - k) ≡ g.ticks
      e = omega arith

  -- ---- from tick to tick

  upper-near : (k : ℕ) → k < g.ticks → Near A (upper g k) (upper g (suc k))
  upper-near k h =
      near-least (near-refl A (pos L))
      (near-least
      (near-plus A (since k) (since (suc k)) g.start (omega (arith, since-next k)) (omega (arith, since-next k)))
      (near-plus A (until k) (until (suc k)) g.end (omega (arith, until-next k h)) (omega (arith, until-next k h))))

  lower-near : (k : ℕ) → k < g.ticks → Near A (lower g k) (lower g (suc k))
  lower-near k h =
      near-greatest (near-refl A (neg_ℤ (pos L)))
      (near-greatest
      (near-minus A (since k) (since (suc k)) g.start (omega (arith, since-next k)) (omega (arith, since-next k)))
      (near-minus A (until k) (until (suc k)) g.end (omega (arith, until-next k h)) (omega (arith, until-next k h))))

  -- also where the cruise changes from c to d
  pub clamped-near : (c d : ℤ) (k : ℕ) → k < g.ticks → Near A c d → Near A (clamped g c k) (clamped g d (suc k))
  clamped-near c d k h n = near-greatest (lower-near k h) (near-least (upper-near k h) n)

-- ---- the ends can be joined: so the envelopes do not cross, and meet at both ends

pub record Joined (g : Leg) : Type 0 where
  pub start : nat_abs g.start ≤ g.speed_limit
  pub end : nat_abs g.end ≤ g.speed_limit
  pub apart : nat_abs (g.end -ℤ g.start) ≤ g.acceleration_limit * g.ticks

-- the envelopes of one tick: the speed limit l, the ends s and e, and what is allowed
-- since the start and until the end
abbrev pub highest : ℕ → ℕ → ℕ → ℤ → ℤ → ℤ
highest l a b s e = least (pos l) (least (s +ℤ pos a) (e +ℤ pos b))

abbrev pub lowest : ℕ → ℕ → ℕ → ℤ → ℤ → ℤ
lowest l a b s e = greatest (neg_ℤ (pos l)) (greatest (s -ℤ pos a) (e -ℤ pos b))

ordered : (l a b : ℕ) (s e : ℤ) → Within l s → Within l e → Within (a + b) (e -ℤ s)
    → lowest l a b s e ≤ℤ highest l a b s e
ordered l a b = all₂ _ (λ c d e f. simp whole (omega arith))

highest-start : (l a b : ℕ) (s e : ℤ) → a ≡ 0 → Within l s → Within (a + b) (e -ℤ s) → highest l a b s e ≡ s
highest-start l a b = all₂ _ (λ c d e f. simp whole (omega arith))

lowest_start : (l a b : ℕ) (s e : ℤ) → a ≡ 0 → Within l s → Within (a + b) (e -ℤ s) → lowest l a b s e ≡ s
lowest_start l a b = all₂ _ (λ c d e f. simp whole (omega arith))

highest-end : (l a b : ℕ) (s e : ℤ) → b ≡ 0 → Within l e → Within (a + b) (e -ℤ s) → highest l a b s e ≡ e
highest-end l a b = all₂ _ (λ c d e f. simp whole (omega arith))

lowest-end : (l a b : ℕ) (s e : ℤ) → b ≡ 0 → Within l e → Within (a + b) (e -ℤ s) → lowest l a b s e ≡ e
lowest-end l a b = all₂ _ (λ c d e f. simp whole (omega arith))

pinched : (x c : ℤ) → clamp x x c ≡ x
pinched = all₂ _ (λ a b c d. simp whole (omega arith))

clamp-lowest : (l : ℕ) (x u : ℤ) → clamp (greatest (neg_ℤ (pos l)) x) u (neg_ℤ (pos l)) ≡ greatest (neg_ℤ (pos l)) x
clamp-lowest l = all₂ _ (λ a b c d. simp whole (omega arith))

clamp-highest : (l : ℕ) (x y : ℤ) → x ≤ℤ least (pos l) y → clamp x (least (pos l) y) (pos l) ≡ least (pos l) y
clamp-highest l = all₂ _ (λ a b c d. simp whole (omega arith))

within-limit : (l a b : ℕ) (s e : ℤ) → Within l s → Within l e → Within l (lowest l a b s e)
within-limit l a b = all₂ _ (λ c d e f. simp whole (omega arith))

clamp-within : (l : ℕ) (x y c : ℤ) → Within l x → Within l (clamp x (least (pos l) y) c)
clamp-within l = all₃ _ (λ a b c d e f. simp whole (omega arith))

module _ (g : Leg) (hs : nat_abs g.start ≤ g.speed_limit) (he : nat_abs g.end ≤ g.speed_limit) where
  -- no velocity exceeds the speed limit
  pub clamped-within : (c : ℤ) (k : ℕ) → Within g.speed_limit (clamped g c k)
  clamped-within c k =
      clamp-within g.speed_limit (lower g k) (least (g.start +ℤ pos (since g k)) (g.end +ℤ pos (until g k))) c
      (within-limit g.speed_limit (since g k) (until g k) g.start g.end
      (record { within = hs }) (record { within = he }))

-- at the lowest cruise the velocities are the lower envelope
pub clamped-lowest : (g : Leg) (k : ℕ) → clamped g (neg_ℤ (pos g.speed_limit)) k ≡ lower g k
clamped-lowest g k =
    clamp-lowest g.speed_limit (greatest (g.start -ℤ pos (since g k)) (g.end -ℤ pos (until g k))) (upper g k)

pub lowest-sum : (g : Leg) → sum_at g (neg_ℤ (pos g.speed_limit)) ≡ sum_to (lower g) (g.ticks - 1)
lowest-sum g = sum_same (clamped g (neg_ℤ (pos g.speed_limit))) (lower g) (g.ticks - 1) (λ k h. clamped-lowest g k)

module _ (g : Leg) (j : Joined g) where
  pub apart-at : (k : ℕ) → k ≤ g.ticks → Within (since g k + until g k) (g.end -ℤ g.start)
  apart-at k h =
      record { within = subst (λ (n : ℕ). nat_abs (g.end -ℤ g.start) ≤ n) (sym (since-until g k h)) j.apart }

  start-within : Within g.speed_limit g.start
  start-within = record { within = j.start }

  end-within : Within g.speed_limit g.end
  end-within = record { within = j.end }

  lower-upper : (k : ℕ) → k ≤ g.ticks → lower g k ≤ℤ upper g k
  lower-upper k h =
      ordered g.speed_limit (since g k) (until g k) g.start g.end start-within end-within (apart-at k h)

  -- at the highest cruise they are the upper envelope
  pub clamped-highest : (k : ℕ) → k ≤ g.ticks → clamped g (pos g.speed_limit) k ≡ upper g k
  clamped-highest k h =
      clamp-highest g.speed_limit (lower g k)
      (least (g.start +ℤ pos (since g k)) (g.end +ℤ pos (until g k))) (lower-upper k h)

  pub highest-sum : sum_at g (pos g.speed_limit) ≡ sum_to (upper g) (g.ticks - 1)
  highest-sum =
      sum_same (clamped g (pos g.speed_limit)) (upper g) (g.ticks - 1) (λ k h. clamped-highest k (omega arith))

  -- at ticks 0 and T they are the ends, whatever the cruise
  pub clamped-start : (c : ℤ) → clamped g c 0 ≡ g.start
  clamped-start c = ap₂ (λ (x y : ℤ). clamp x y c) low high ∙ pinched g.start c
    where
      low : lower g 0 ≡ g.start
      low = lowest_start g.speed_limit (since g 0) (until g 0) g.start g.end
          (mul-zero (A g)) start-within (apart-at 0 (omega arith))

      high : upper g 0 ≡ g.start
      high = highest-start g.speed_limit (since g 0) (until g 0) g.start g.end
          (mul-zero (A g)) start-within (apart-at 0 (omega arith))

  pub clamped-end : (c : ℤ) → clamped g c g.ticks ≡ g.end
  clamped-end c = ap₂ (λ (x y : ℤ). clamp x y c) low high ∙ pinched g.end c
    where
      none : until g g.ticks ≡ 0
      none = ap (λ (n : ℕ). A g * n) (sub_self g.ticks) ∙ mul-zero (A g)

      low : lower g g.ticks ≡ g.end
      low =
          lowest-end g.speed_limit (since g g.ticks) (until g g.ticks) g.start g.end none end-within
          (apart-at g.ticks (omega arith))

      high : upper g g.ticks ≡ g.end
      high =
          highest-end g.speed_limit (since g g.ticks) (until g g.ticks) g.start g.end none end-within
          (apart-at g.ticks (omega arith))

-- ---- a list that meets rule 4 lies between the envelopes

lowest-below : (l a b : ℕ) (s e x : ℤ) → Within l x → Near a s x → Near b x e → lowest l a b s e ≤ℤ x
lowest-below l a b = all₃ _ (λ c d e f g h. simp (whole, near-iff) (omega arith))

highest-above : (l a b : ℕ) (s e x : ℤ) → Within l x → Near a s x → Near b x e → x ≤ℤ highest l a b s e
highest-above l a b = all₃ _ (λ c d e f g h. simp (whole, near-iff) (omega arith))

module _ (g : Leg) (δ : ℤ) (w : ℕ → ℤ) (m : Meets g δ w) where
  step : (k : ℕ) → k < g.ticks → Near (A g) (w k) (w (suc k))
  step k h = record { apart = record { within = m.changes k h } }

  from_start : (k : ℕ) → k ≤ g.ticks → Near (since g k) g.start (w k)
  from_start zero h = rw m.starts (near-refl (since g 0) g.start)
  from_start (suc k) h = rw since-next (near-trans (from_start k (omega arith)) (step k h))

  from_end : (j : ℕ) → j ≤ g.ticks → Near (A g * j) (w (g.ticks - j)) g.end
  from_end zero h = rw (sub-zero, m.ends) (near-refl (A g * 0) g.end)
  from_end (suc j) h = go (g.ticks - suc j) (omega arith) (from_end j (omega arith))
    where
      go : (i : ℕ) → suc i ≡ g.ticks - j → Near (A g * j) (w (g.ticks - j)) g.end
          → Near (A g * suc j) (w i) g.end
      go i e n = let s : Near (A g) (w i) (w (g.ticks - j)) = rw e at (step i (omega arith)) in
          rw (mul-suc, add_comm) (near-trans s n)

  to_end : (k : ℕ) → k ≤ g.ticks → Near (until g k) (w k) g.end
  to_end k h = let n : Near (until g k) (w (g.ticks - (g.ticks - k))) g.end = from_end
      (g.ticks - k) (omega arith) in rw e at n
    where
      e : g.ticks - (g.ticks - k) ≡ k
      e = omega arith

  entry-within : (k : ℕ) → k ≤ g.ticks → Within g.speed_limit (w k)
  entry-within k h = record { within = m.speeds k h }

  pub above_lower : (k : ℕ) → k ≤ g.ticks → lower g k ≤ℤ w k
  above_lower k h =
      lowest-below g.speed_limit (since g k) (until g k) g.start g.end (w k)
      (entry-within k h) (from_start k h) (to_end k h)

  pub below-upper : (k : ℕ) → k ≤ g.ticks → w k ≤ℤ upper g k
  below-upper k h =
      highest-above g.speed_limit (since g k) (until g k) g.start g.end (w k)
      (entry-within k h) (from_start k h) (to_end k h)

  -- so its ends can be joined
  pub meets-joined : Joined g
  meets-joined =
      record {
        start = subst (λ (z : ℤ). nat_abs z ≤ g.speed_limit) m.starts (m.speeds 0 (omega arith));
        end = subst (λ (z : ℤ). nat_abs z ≤ g.speed_limit) m.ends (m.speeds g.ticks (omega arith));
        apart = subst (λ (z : ℤ). nat_abs (z -ℤ g.start) ≤ A g * g.ticks) m.ends
            (from_start g.ticks (omega arith)).apart.within;
      }
