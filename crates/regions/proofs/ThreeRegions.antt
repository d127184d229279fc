-- The velocities of rule 5 lie in three regions: up to tick `rise`, and from `fall` ticks before
-- the end on, a velocity is on a ramp, and neither the cruise c nor c + 1 changes it; between, it
-- is the cruise. A ramp that falls towards c is, with every sign turned, one that rises towards −c
-- − 1, so that most laws are of rising ramps.
use Prim.Native.Nat.{ℕ, suc, ◌+◌, ◌-◌, ◌*◌, ◌/◌, ◌≤◌, ◌<◌}
use mathlib.Core.Path.{◌≡◌, refl, sym, ap, ap₂, subst, ◌∙◌}
use mathlib.Core.List.{[], ◌∷◌}
use mathlib.Core.Logic.{◌⊎◌, inl, inr, ⊎_elim}
use native.Mathlib.Omega.{arith}
use native.Mathlib.Nat.{add_comm, mul_comm, mul_assoc, mul-suc, le-div_iff_mul-le, div-lt_iff_lt-mul}
use lib.Dec.{leb}
use lib.IntN.{ℤ, pos, neg_ℤ, nat_abs, ◌+ℤ◌, ◌-ℤ◌, ◌*ℤ◌}
use lib.Signed.{le_z, le_z_yes, ◌≤ℤ◌, ◌<ℤ◌, yes_non_neg, pos-nat_abs}
use Rattle.whole.specs.Integers.{clamp}
use Rattle.whole.specs.Ranges.{Within}
use Rattle.whole.proofs.Differences.{whole, all₁, all₂, all₃, all₄, le-fails}
use Rattle.whole.proofs.Laws.{≤ℤ-trans, sub-nonneg, nat_abs-negpos}
use Rattle.whole.proofs.Ring.{pol, same}
use Rattle.whole.proofs.Order.{le_yes, le-no}
use Rattle.whole.proofs.Tests.{by_bool, choice-yes, choice-no, leb_yes, leb_no, lt-or-le}
use Rattle.model.specs.planning.Leg.{Leg, clamped}
use Rattle.theorems.proofs.legs.Envelopes.{Joined, since, until, since-until, highest, lowest, apart-at}
use Rattle.regions.specs.Regions.{ramp_ticks, ramp_change, meeting_tick, both_ramps, rise, fall}

-- c with every sign turned: x < y exactly where −y ≤ turned x
abbrev turned : ℤ → ℤ
turned c = neg_ℤ c -ℤ pos 1

turn : (x y : ℤ) → x <ℤ y → neg_ℤ y ≤ℤ turned x
turn = all₂ _ (λ a b c d. simp whole (omega arith))

turn-back : (x y : ℤ) → neg_ℤ y ≤ℤ turned x → x <ℤ y
turn-back = all₂ _ (λ a b c d. simp whole (omega arith))

-- ---- one tick: the speed limit l, the ends s and e, and how far a velocity may be from the
-- one (a) and from the other (b)

highest-swap : (l a b : ℕ) (s e : ℤ) → highest l b a e s ≡ highest l a b s e
highest-swap l a b = all₂ _ (λ c d e f. simp whole (omega arith))

lowest-swap : (l a b : ℕ) (s e : ℤ) → lowest l b a e s ≡ lowest l a b s e
lowest-swap l a b = all₂ _ (λ c d e f. simp whole (omega arith))

-- on a ramp from s towards c that is nearer to s than the ramp to e
rising : (l a b : ℕ) (s e c d : ℤ) → Within l s → Within l c → Within (a + b) (e -ℤ s) → (s +ℤ pos a) ≤ℤ c
    → (s +ℤ pos a) ≤ℤ (e +ℤ pos b)
    → c ≤ℤ d → clamp (lowest l a b s e) (highest l a b s e) d ≡ s +ℤ pos a
rising l a b = all₄ _ (λ c d e f g h i j. simp whole (omega arith))

falling : (l a b : ℕ) (s e c d : ℤ) → Within l c → (neg_ℤ s +ℤ pos a) ≤ℤ turned c
    → (neg_ℤ s +ℤ pos a) ≤ℤ (neg_ℤ e +ℤ pos b) → d ≤ℤ (c +ℤ pos 1)
    → clamp (lowest l a b s e) (highest l a b s e) d ≡ s -ℤ pos a
falling l a b = all₄ _ (λ c d e f g h i j. simp whole (omega arith))

-- past both ramps
level : (l a b : ℕ) (s e c : ℤ) → Within l c → c ≤ℤ (s +ℤ pos a) → (s -ℤ pos a) ≤ℤ c
    → c ≤ℤ (e +ℤ pos b) → (e -ℤ pos b) ≤ℤ c
    → clamp (lowest l a b s e) (highest l a b s e) c ≡ c
level l a b = all₃ _ (λ c d e f g h. simp whole (omega arith))

-- ---- the definitions by the side of c on which a ramp begins

pub ticks-up : (a : ℕ) (v c : ℤ) → v ≤ℤ c → nat_abs (c -ℤ v) / a ≡ ramp_ticks a v c
unfolding ramp_ticks
ticks-up a v c h = choice-yes (le_z v c) _ _ (le_yes v c h)

pub ticks-down : (a : ℕ) (v c : ℤ) → c <ℤ v → nat_abs (v -ℤ c -ℤ pos 1) / a ≡ ramp_ticks a v c
unfolding ramp_ticks
ticks-down a v c h = choice-no (le_z v c) _ _ (le-no v c h)

pub change-up : (a : ℕ) (v c : ℤ) → v ≤ℤ c → pos a ≡ ramp_change a v c
unfolding ramp_change
change-up a v c h = choice-yes (le_z v c) _ _ (le_yes v c h)

pub change-down : (a : ℕ) (v c : ℤ) → c <ℤ v → neg_ℤ (pos a) ≡ ramp_change a v c
unfolding ramp_change
change-down a v c h = choice-no (le_z v c) _ _ (le-no v c h)

pub change-within : (a : ℕ) (v c : ℤ) → nat_abs (ramp_change a v c) ≤ a
unfolding ramp_change
change-within a v c =
    by_bool (λ (z : ℤ). nat_abs z ≤ a) (le_z v c) _ _ (λ t. omega arith) (λ t. omega (arith, nat_abs-negpos a))

-- ---- a ramp alone, at a tick at which it has changed by m

-- it rises towards c and has not passed it
record Under (m : ℕ) (v c : ℤ) : Type 0 where
  towards : v ≤ℤ c
  under : (v +ℤ pos m) ≤ℤ c

abbrev Short : ℕ → ℤ → ℤ → Type 0
Short m v c = Under m v c ⊎ Under m (neg_ℤ v) (turned c)

-- it is past c, on whichever side it began
record Past (m : ℕ) (v c : ℤ) : Type 0 where
  above : (c +ℤ pos 1) ≤ℤ (v +ℤ pos m)
  below : (turned c +ℤ pos 1) ≤ℤ (neg_ℤ v +ℤ pos m)

size_is : (z : ℤ) → pos 0 ≤ℤ z → pos (nat_abs z) ≡ z
size_is z h = pos-nat_abs z (yes_non_neg h)

-- how far it is to c
way_up : (v c : ℤ) → v ≤ℤ c → pos (nat_abs (c -ℤ v)) ≡ c -ℤ v
way_up v c h = size_is (c -ℤ v) (sub-nonneg v c h)

pub some-way : (v c : ℤ) → c <ℤ v → pos 0 ≤ℤ (v -ℤ c -ℤ pos 1)
some-way = all₂ _ (λ a b c d. simp whole (omega arith))

way_down : (v c : ℤ) → c <ℤ v → pos (nat_abs (v -ℤ c -ℤ pos 1)) ≡ turned c -ℤ neg_ℤ v
way_down v c h = size_is (v -ℤ c -ℤ pos 1) (some-way v c h) ∙ same (v ∷ c ∷ []) (search pol depth 20 fits 9000) tt

short-of : (x m : ℕ) (v c : ℤ) → pos x ≡ c -ℤ v → m ≤ x → (v +ℤ pos m) ≤ℤ c
short-of x m = all₂ _ (λ a b c d. simp whole (omega arith))

past-it : (x m : ℕ) (v c : ℤ) → pos x ≡ c -ℤ v → x < m → (c +ℤ pos 1) ≤ℤ (v +ℤ pos m)
past-it x m = all₂ _ (λ a b c d. simp whole (omega arith))

-- on the other side it was from the start
other-below : (m : ℕ) (v c : ℤ) → v ≤ℤ c → (turned c +ℤ pos 1) ≤ℤ (neg_ℤ v +ℤ pos m)
other-below m = all₂ _ (λ a b c d. simp whole (omega arith))

other-above : (m : ℕ) (v c : ℤ) → c <ℤ v → (c +ℤ pos 1) ≤ℤ (v +ℤ pos m)
other-above m = all₂ _ (λ a b c d. simp whole (omega arith))

-- at tick j
module _ (a : ℕ) (some : 0 < a) where
  changed : {j x : ℕ} → j ≤ x / a → a * j ≤ x
  changed {j} {x} h = omega (arith, (le-div_iff_mul-le {k = a} {x = j} {y = x} some).0 h, mul_comm a j)

  passed : {j x : ℕ} → x / a < j → x < a * j
  passed {j} {x} h = omega (arith, (div-lt_iff_lt-mul {k = a} {x = x} {y = j} some).0 h, mul_comm a j)

  rises : (j x : ℕ) (v c : ℤ) → v ≤ℤ c → pos x ≡ c -ℤ v → j ≤ x / a → Under (a * j) v c
  rises j x v c t e h = record { towards = t; under = short-of x (a * j) v c e (changed h) }

  short : (j : ℕ) (v c : ℤ) → j ≤ ramp_ticks a v c → Short (a * j) v c
  unfolding ramp_ticks
  short j v c =
      by_bool (λ (n : ℕ). j ≤ n → Short (a * j) v c) (le_z v c) _ _
      (λ t h. inl (rises j (nat_abs (c -ℤ v)) v c (le_z_yes t) (way_up v c (le_z_yes t)) h))
      (λ t h. inr
      (rises j (nat_abs (v -ℤ c -ℤ pos 1)) (neg_ℤ v) (turned c) (turn c v (le-fails t)) (way_down v c (le-fails t)) h))

  past : (j : ℕ) (v c : ℤ) → ramp_ticks a v c < j → Past (a * j) v c
  unfolding ramp_ticks
  past j v c =
      by_bool (λ (n : ℕ). n < j → Past (a * j) v c) (le_z v c) _ _
      (λ t h.
      record {
        above = past-it (nat_abs (c -ℤ v)) (a * j) v c (way_up v c (le_z_yes t)) (passed h);
        below = other-below (a * j) v c (le_z_yes t);
      })
      (λ t h.
      record {
        above = other-above (a * j) v c (le-fails t);
        below = past-it (nat_abs (v -ℤ c -ℤ pos 1)) (a * j) (neg_ℤ v) (turned c) (way_down v c (le-fails t)) (passed h);
      })

-- ---- on a ramp from s, beside one to e: a and b are their changes at a tick

record Rises (a b : ℕ) (s e c : ℤ) : Type 0 where
  short : Under a s c
  nearer : (s +ℤ pos a) ≤ℤ (e +ℤ pos b)

abbrev OnRamp : ℕ → ℕ → ℤ → ℤ → ℤ → Type 0
OnRamp a b s e c = Rises a b s e c ⊎ Rises a b (neg_ℤ s) (neg_ℤ e) (turned c)

across : (x c y : ℤ) → x ≤ℤ c → (c +ℤ pos 1) ≤ℤ y → x ≤ℤ y
across = all₃ _ (λ a b c d e f. simp whole (omega arith))

-- where the other ramp has passed c
alone : (a b : ℕ) (s e c : ℤ) → Short a s c → Past b e c → OnRamp a b s e c
alone a b s e c (inl u) p = inl (record { short = u; nearer = across _ c _ u.under p.above })
alone a b s e c (inr u) p = inr (record { short = u; nearer = across _ (turned c) _ u.under p.below })

-- the velocity of tick k on it, the change being n a tick
up-value : (a n k : ℕ) (s c : ℤ) → a ≡ n * k → s ≤ℤ c → s +ℤ pos a ≡ s +ℤ pos k *ℤ ramp_change n s c
up-value a n k s c w t =
    ap (λ (m : ℕ). s +ℤ pos m) (w ∙ mul_comm n k) ∙ ap (λ (z : ℤ). s +ℤ pos k *ℤ z) (change-up n s c t)

down-value : (a n k : ℕ) (s c : ℤ) → a ≡ n * k → neg_ℤ s ≤ℤ turned c → s -ℤ pos a ≡ s +ℤ pos k *ℤ ramp_change n s c
down-value a n k s c w t =
    ap (λ (m : ℕ). s -ℤ pos m) (w ∙ mul_comm n k)
    ∙ ap (λ (z : ℤ). s +ℤ z) (minus (pos k) (pos n))
    ∙ ap (λ (z : ℤ). s +ℤ pos k *ℤ z) (change-down n s c (turn-back c s t))
  where
    minus : (x y : ℤ) → neg_ℤ (x *ℤ y) ≡ x *ℤ neg_ℤ y
    minus x y = same (x ∷ y ∷ []) (search pol depth 20 fits 9000) tt

ramp-value : (l a b : ℕ) (s e c d : ℤ) (n k : ℕ) → a ≡ n * k → Within l s → Within l c
    → Within (a + b) (e -ℤ s) → c ≤ℤ d → d ≤ℤ (c +ℤ pos 1)
    → OnRamp a b s e c → clamp (lowest l a b s e) (highest l a b s e) d ≡ s +ℤ pos k *ℤ ramp_change n s c
ramp-value l a b s e c d n k w hs hc near h q (inl r) =
    rising l a b s e c d hs hc near r.short.under r.nearer h ∙ up-value a n k s c w r.short.towards
ramp-value l a b s e c d n k w hs hc near h q (inr r) =
    falling l a b s e c d hc r.short.under r.nearer q ∙ down-value a n k s c w r.short.towards

-- a velocity v on a ramp of change u, which is n or −n, is short of c: not above it where the ramp
-- rises, and above it where it falls
abbrev pub Towards : ℕ → ℤ → ℤ → ℤ → Type 0
Towards n u v c = ((u ≡ pos n) × (v ≤ℤ c)) ⊎ ((u ≡ neg_ℤ (pos n)) × (c <ℤ v))

ramp-towards : (a b : ℕ) (s e c : ℤ) (n k : ℕ) → a ≡ n * k → OnRamp a b s e c
    → Towards n (ramp_change n s c) (s +ℤ pos k *ℤ ramp_change n s c) c
ramp-towards a b s e c n k w (inl r) =
    inl (
      sym (change-up n s c r.short.towards),
      subst (λ (z : ℤ). z ≤ℤ c)
          (up-value a n k s c w r.short.towards) r.short.under,
    )
ramp-towards a b s e c n k w (inr r) =
    inr (
      sym (change-down n s c (turn-back c s r.short.towards)),
      subst (λ (z : ℤ). c <ℤ z) (down-value a n k s c w r.short.towards) (above a s c r.short.under),
    )
  where
    above : (a : ℕ) (s c : ℤ) → (neg_ℤ s +ℤ pos a) ≤ℤ turned c → c <ℤ (s -ℤ pos a)
    above a = all₂ _ (λ b c d e. simp whole (omega arith))

-- ---- two ramps with no tick between them: they begin on one side of c

clash : (v c : ℤ) → v ≤ℤ c → neg_ℤ v ≤ℤ turned c → ⊥
clash = all₂ _ (λ a b c d. simp whole (omega arith))

apart-up : (m n : ℕ) (s e c : ℤ) → Within (m + n) (e -ℤ s) → (s +ℤ pos m) ≤ℤ c → (neg_ℤ e +ℤ pos n) ≤ℤ turned c → ⊥
apart-up m n = all₃ _ (λ a b c d e f. simp whole (omega arith))

apart-down : (m n : ℕ) (s e c : ℤ) → Within (m + n) (e -ℤ s) → (neg_ℤ s +ℤ pos m) ≤ℤ turned c → (e +ℤ pos n) ≤ℤ c → ⊥
apart-down m n = all₃ _ (λ a b c d e f. simp whole (omega arith))

abbrev OneSide : ℤ → ℤ → ℤ → Type 0
OneSide s e c = ((s ≤ℤ c) × (e ≤ℤ c)) ⊎ ((neg_ℤ s ≤ℤ turned c) × (neg_ℤ e ≤ℤ turned c))

one_side : (m n : ℕ) (s e c : ℤ) → Within (m + n) (e -ℤ s) → Short m s c → Short n e c → OneSide s e c
one_side m n s e c near (inl u) (inl v) = inl (u.towards, v.towards)
one_side m n s e c near (inl u) (inr v) = absurd (apart-up m n s e c near u.under v.under)
one_side m n s e c near (inr u) (inl v) = absurd (apart-down m n s e c near u.under v.under)
one_side m n s e c near (inr u) (inr v) = inr (u.towards, v.towards)

-- a ramp of a known side
short-up : (m : ℕ) (v c : ℤ) → v ≤ℤ c → Short m v c → Under m v c
short-up m v c h (inl u) = u
short-up m v c h (inr u) = absurd (clash v c h u.towards)

short-down : (m : ℕ) (v c : ℤ) → neg_ℤ v ≤ℤ turned c → Short m v c → Under m (neg_ℤ v) (turned c)
short-down m v c h (inl u) = absurd (clash v c u.towards h)
short-down m v c h (inr u) = u

-- ---- where they meet: half way, by the number x

pub before-half : (x m n : ℕ) (s e : ℤ) → pos x ≡ e -ℤ s +ℤ pos (m + n) → m + m ≤ x → (s +ℤ pos m) ≤ℤ (e +ℤ pos n)
before-half x m n = all₂ _ (λ a b c d. simp whole (omega arith))

pub after-half : (x m n : ℕ) (s e : ℤ) → pos x ≡ e -ℤ s +ℤ pos (m + n) → x < m + m → (e +ℤ pos n) ≤ℤ (s +ℤ pos m)
after-half x m n = all₂ _ (λ a b c d. simp whole (omega arith))

some-half : (m : ℕ) (s e : ℤ) → Within m (e -ℤ s) → pos 0 ≤ℤ (e -ℤ s +ℤ pos m)
some-half m = all₂ _ (λ a b c d. simp whole (omega arith))

far-half : (x m : ℕ) (s e : ℤ) → pos x ≡ e -ℤ s +ℤ pos m → Within m (e -ℤ s) → x ≤ m + m
far-half x m = all₂ _ (λ a b c d. simp whole (omega arith))

pub swapped : (m : ℕ) (x y : ℤ) → Within m (y -ℤ x) → Within m (x -ℤ y)
swapped m = all₂ _ (λ a b c d. simp whole (omega arith))

-- two ramps towards c, of which one is under it at each tick
meet-before : (m n : ℕ) (s e c : ℤ) → s ≤ℤ c → (s +ℤ pos m) ≤ℤ (e +ℤ pos n)
    → Under m s c ⊎ Under n e c → Rises m n s e c
meet-before m n s e c t near (inl u) = record { short = u; nearer = near }
meet-before m n s e c t near (inr u) =
    record { short = record { towards = t; under = ≤ℤ-trans near u.under }; nearer = near }

meet-after : (m n : ℕ) (s e c : ℤ) → e ≤ℤ c → (e +ℤ pos n) ≤ℤ (s +ℤ pos m) → Under m s c ⊎ Under n e c → Rises n m e s c
meet-after m n s e c t near u = meet-before n m e s c t near (⊎_elim (λ v. inr v) (λ v. inl v) u)

module _ (g : Leg) (joined : Joined g) (some : 0 < g.acceleration_limit) (c : ℤ) where
  abbrev a : ℕ
  a = g.acceleration_limit

  abbrev s : ℤ
  s = g.start

  abbrev e : ℤ
  e = g.end

  -- how far the ends may be from one another
  abbrev apart : ℕ
  apart = a * g.ticks

  whole-way : Within apart (e -ℤ s)
  whole-way = record { within = joined.apart }

  -- ---- halves

  twice : (k : ℕ) → k * (2 * a) ≡ since g k + since g k
  twice k = omega (arith, mul_comm k (2 * a), mul_assoc 2 a k)

  pub before : {k x : ℕ} → k ≤ x / (2 * a) → since g k + since g k ≤ x
  before {k} {x} h = omega (arith, (le-div_iff_mul-le {k = 2 * a} {x = k} {y = x} (omega arith)).0 h, twice k)

  pub after : {k x : ℕ} → x / (2 * a) < k → x < since g k + since g k
  after {k} {x} h = omega (arith, (div-lt_iff_lt-mul {k = 2 * a} {x = x} {y = k} (omega arith)).0 h, twice k)

  halved : (x : ℕ) → x ≤ apart + apart → x / (2 * a) ≤ g.ticks
  halved x h = ⊎_elim late (λ q. q) (lt-or-le g.ticks (x / (2 * a)))
    where
      late : g.ticks < x / (2 * a) → x / (2 * a) ≤ g.ticks
      late q = absurd (omega (arith, before {k = suc g.ticks} {x = x} q, mul-suc a g.ticks))

  -- the number that is halved, where the ramps rise and where they fall
  abbrev up_x : ℕ
  up_x = nat_abs (e -ℤ s +ℤ pos apart)

  abbrev down_x : ℕ
  down_x = nat_abs (s -ℤ e +ℤ pos apart)

  pub up-some : pos 0 ≤ℤ (e -ℤ s +ℤ pos apart)
  up-some = some-half apart s e whole-way

  pub down-some : pos 0 ≤ℤ (s -ℤ e +ℤ pos apart)
  down-some = some-half apart e s (swapped apart s e whole-way)

  pub up-late : up_x / (2 * a) ≤ g.ticks
  up-late = halved up_x (far-half up_x apart s e (size_is _ up-some) whole-way)

  pub down-late : down_x / (2 * a) ≤ g.ticks
  down-late = halved down_x (far-half down_x apart e s (size_is _ down-some) (swapped apart s e whole-way))

  pub up_is : (k : ℕ) → k ≤ g.ticks → pos up_x ≡ e -ℤ s +ℤ pos (since g k + until g k)
  up_is k h = size_is _ up-some ∙ ap (λ (n : ℕ). e -ℤ s +ℤ pos n) (sym (since-until g k h))

  down_is : (k : ℕ) → k ≤ g.ticks → pos down_x ≡ neg_ℤ e -ℤ neg_ℤ s +ℤ pos (since g k + until g k)
  down_is k h = size_is _ down-some ∙ turns s e (pos apart)
      ∙ ap (λ (n : ℕ). neg_ℤ e -ℤ neg_ℤ s +ℤ pos n) (sym (since-until g k h))
    where
      turns : (s e z : ℤ) → s -ℤ e +ℤ z ≡ neg_ℤ e -ℤ neg_ℤ s +ℤ z
      turns s e z = same (s ∷ e ∷ z ∷ []) (search pol depth 20 fits 9000) tt

  pub meets-up : s ≤ℤ c → up_x / (2 * a) ≡ meeting_tick g c
  unfolding meeting_tick
  meets-up h = choice-yes (le_z s c) _ _ (le_yes s c h)

  pub meets-down : c <ℤ s → down_x / (2 * a) ≡ meeting_tick g c
  unfolding meeting_tick
  meets-down h = choice-no (le_z s c) _ _ (le-no s c h)

  -- ---- where the ramps have no tick between them
  module _ (meet : g.ticks ≤ both_ramps g c) where
    side : OneSide s e c
    side =
        let k = g.ticks - ramp_ticks a e c in
        one_side (since g k) (until g k) s e c (apart-at g joined k (omega arith))
        (short a some k s c (omega arith)) (short a some (g.ticks - k) e c (omega arith))

    -- at each tick one of them is short of c
    one-short : (k : ℕ) → Short (since g k) s c ⊎ Short (until g k) e c
    one-short k = ⊎_elim (λ (p : ramp_ticks a s c < k). inr (short a some (g.ticks - k) e c (omega arith)))
        (λ (p : k ≤ ramp_ticks a s c). inl (short a some k s c p)) (lt-or-le (ramp_ticks a s c) k)

    one_up : (k : ℕ) → s ≤ℤ c → e ≤ℤ c → Under (since g k) s c ⊎ Under (until g k) e c
    one_up k hs he =
        ⊎_elim (λ u. inl (short-up (since g k) s c hs u)) (λ u. inr (short-up (until g k) e c he u)) (one-short k)

    one_down : (k : ℕ) → neg_ℤ s ≤ℤ turned c → neg_ℤ e ≤ℤ turned c
        → Under (since g k) (neg_ℤ s) (turned c) ⊎ Under (until g k) (neg_ℤ e) (turned c)
    one_down k hs he =
        ⊎_elim (λ u. inl (short-down (since g k) s c hs u)) (λ u. inr (short-down (until g k) e c he u)) (one-short k)

    module _ (k : ℕ) (h : k ≤ g.ticks) where
      meet-start : k ≤ meeting_tick g c → OnRamp (since g k) (until g k) s e c
      meet-start l = go side
        where
          go : OneSide s e c → OnRamp (since g k) (until g k) s e c
          go (inl p) =
              let half = before (subst (λ (n : ℕ). k ≤ n) (sym (meets-up p.0)) l) in
              inl (meet-before (since g k) (until g k) s e c p.0
              (before-half up_x _ _ s e (up_is k h) half) (one_up k p.0 p.1))
          go (inr p) =
              let half = before (subst (λ (n : ℕ). k ≤ n) (sym (meets-down (turn-back c s p.0))) l) in
              inr
              (meet-before (since g k) (until g k) (neg_ℤ s) (neg_ℤ e) (turned c) p.0
              (before-half down_x _ _ (neg_ℤ s) (neg_ℤ e) (down_is k h) half)
              (one_down k p.0 p.1))

      meet-end : meeting_tick g c < k → OnRamp (until g k) (since g k) e s c
      meet-end l = go side
        where
          go : OneSide s e c → OnRamp (until g k) (since g k) e s c
          go (inl p) =
              let half = after (subst (λ (n : ℕ). n < k) (sym (meets-up p.0)) l) in
              inl (meet-after (since g k) (until g k) s e c p.1
              (after-half up_x _ _ s e (up_is k h) half) (one_up k p.0 p.1))
          go (inr p) =
              let half = after (subst (λ (n : ℕ). n < k) (sym (meets-down (turn-back c s p.0))) l) in
              inr
              (meet-after (since g k) (until g k) (neg_ℤ s) (neg_ℤ e) (turned c) p.1
              (after-half down_x _ _ (neg_ℤ s) (neg_ℤ e) (down_is k h) half)
              (one_down k p.0 p.1))

    pub rise-meets : meeting_tick g c ≡ rise g c
    unfolding rise
    rise-meets = choice-yes (leb g.ticks (both_ramps g c)) _ _ (leb_yes meet)

    pub fall-meets : g.ticks - meeting_tick g c ≡ fall g c
    unfolding fall
    fall-meets = choice-yes (leb g.ticks (both_ramps g c)) _ _ (leb_yes meet)

  -- ---- where they have
  module _ (apart : both_ramps g c < g.ticks) where
    pub rise-alone : ramp_ticks a s c ≡ rise g c
    unfolding rise
    rise-alone = choice-no (leb g.ticks (both_ramps g c)) _ _ (leb_no apart)

    pub fall-alone : ramp_ticks a e c ≡ fall g c
    unfolding fall
    fall-alone = choice-no (leb g.ticks (both_ramps g c)) _ _ (leb_no apart)

  pub fall-late : fall g c ≤ g.ticks
  fall-late = go (lt-or-le (both_ramps g c) g.ticks)
    where
      go : (both_ramps g c < g.ticks) ⊎ (g.ticks ≤ both_ramps g c) → fall g c ≤ g.ticks
      go (inl p) = let f = fall-alone p in omega arith
      go (inr p) = let f = fall-meets p in omega arith

  -- ---- the region of a tick

  start-region : (k : ℕ) → k ≤ g.ticks → k ≤ rise g c → OnRamp (since g k) (until g k) s e c
  start-region k h l = go (lt-or-le (both_ramps g c) g.ticks)
    where
      go : (both_ramps g c < g.ticks) ⊎ (g.ticks ≤ both_ramps g c) → OnRamp (since g k) (until g k) s e c
      go (inl p) =
          let r = rise-alone p in
          alone (since g k) (until g k) s e c (short a some k s c (omega arith))
          (past a some (g.ticks - k) e c (omega arith))
      go (inr p) = let r = rise-meets p in meet-start p k h (omega arith)

  end-region : (k : ℕ) → k ≤ g.ticks → rise g c < k → g.ticks ≤ k + fall g c → OnRamp (until g k) (since g k) e s c
  end-region k h l q = go (lt-or-le (both_ramps g c) g.ticks)
    where
      go : (both_ramps g c < g.ticks) ⊎ (g.ticks ≤ both_ramps g c) → OnRamp (until g k) (since g k) e s c
      go (inl p) =
          let r = rise-alone p in
          let f = fall-alone p in
          alone (until g k) (since g k) e s c (short a some (g.ticks - k) e c (omega arith))
          (past a some k s c (omega arith))
      go (inr p) = let r = rise-meets p in meet-end p k h (omega arith)

  level-region : (k : ℕ) → k ≤ g.ticks → rise g c < k → k + fall g c < g.ticks
      → Past (since g k) s c × Past (until g k) e c
  level-region k h l q = go (lt-or-le (both_ramps g c) g.ticks)
    where
      go : (both_ramps g c < g.ticks) ⊎ (g.ticks ≤ both_ramps g c) → Past (since g k) s c × Past (until g k) e c
      go (inl p) =
          let r = rise-alone p in
          let f = fall-alone p in
          (past a some k s c (omega arith), past a some (g.ticks - k) e c (omega arith))
      go (inr p) = let r = rise-meets p in let f = fall-meets p in absurd (omega arith)

  pub start-towards : (k : ℕ) → k ≤ g.ticks → k ≤ rise g c
      → Towards a (ramp_change a s c) (s +ℤ pos k *ℤ ramp_change a s c) c
  start-towards k h l = ramp-towards (since g k) (until g k) s e c a k refl (start-region k h l)

  pub end-towards : (k : ℕ) → k ≤ g.ticks → rise g c < k → g.ticks ≤ k + fall g c
      → Towards a (ramp_change a e c) (e +ℤ pos (g.ticks - k) *ℤ ramp_change a e c) c
  end-towards k h l q = ramp-towards (until g k) (since g k) e s c a (g.ticks - k) refl (end-region k h l q)

  -- ---- its velocity at cruise c and at c + 1
  module _ (inside : Within g.speed_limit c) (k : ℕ) (h : k ≤ g.ticks) where
    abbrev L : ℕ
    L = g.speed_limit

    pub on-start : (d : ℤ) → c ≤ℤ d → d ≤ℤ (c +ℤ pos 1) → k ≤ rise g c → clamped g d k ≡ s +ℤ pos k *ℤ ramp_change a s c
    on-start d p q l =
        ramp-value L (since g k) (until g k) s e c d a k refl (record { within = joined.start }) inside
        (apart-at g joined k h) p q (start-region k h l)

    pub on-end : (d : ℤ) → c ≤ℤ d → d ≤ℤ (c +ℤ pos 1) → rise g c < k → g.ticks ≤ k + fall g c
        → clamped g d k ≡ e +ℤ pos (g.ticks - k) *ℤ ramp_change a e c
    on-end d p q l m =
        ap₂ (λ (x y : ℤ). clamp x y d) (lowest-swap L (until g k) (since g k) e s)
        (highest-swap L (until g k) (since g k) e s)
        ∙ ramp-value L (until g k) (since g k) e s c d a (g.ticks - k) refl
        (record { within = joined.end }) inside far p q (end-region k h l m)
      where
        far : Within (until g k + since g k) (s -ℤ e)
        far = subst (λ (n : ℕ). Within n (s -ℤ e)) (add_comm (since g k) (until g k))
            (swapped (since g k + until g k) s e (apart-at g joined k h))

    -- a ramp from above is past c
    back : (m : ℕ) (v c : ℤ) → (turned c +ℤ pos 1) ≤ℤ (neg_ℤ v +ℤ pos m) → (v -ℤ pos m) ≤ℤ c
    back m = all₂ _ (λ a b c d. simp whole (omega arith))

    pub on-level : rise g c < k → k + fall g c < g.ticks → clamped g c k ≡ c
    on-level l q =
        let r = level-region k h l q in
        level L (since g k) (until g k) s e c inside (lower_by c _ r.0.above) (back (since g k) s c r.0.below)
        (lower_by c _ r.1.above) (back (until g k) e c r.1.below)
      where
        lower_by : (x y : ℤ) → (x +ℤ pos 1) ≤ℤ y → x ≤ℤ y
        lower_by = all₂ _ (λ a b c d. simp whole (omega arith))

    pub on-level-raised : rise g c < k → k + fall g c < g.ticks → c <ℤ pos L → clamped g (c +ℤ pos 1) k ≡ c +ℤ pos 1
    on-level-raised l q m =
        let r = level-region k h l q in
        level L (since g k) (until g k) s e (c +ℤ pos 1) (more L c inside m)
        r.0.above (higher _ c (back (since g k) s c r.0.below)) r.1.above
        (higher _ c (back (until g k) e c r.1.below))
      where
        higher : (x y : ℤ) → x ≤ℤ y → x ≤ℤ (y +ℤ pos 1)
        higher = all₂ _ (λ a b c d. simp whole (omega arith))

        more : (l : ℕ) (x : ℤ) → Within l x → x <ℤ pos l → Within l (x +ℤ pos 1)
        more l = all₁ _ (λ a b. simp whole (omega arith))
