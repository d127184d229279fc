-- How much the planned accelerations of an axis change in all: at most 3μ + 2 before the landing,
-- and 4μ + |α| + 2 with it, μ being the acceleration limit and α the target's acceleration. So much
-- is the most that a misfit of 1 leaves of a sway: `sway-most`; and with the misfits of a pole that
-- was measured with an error: `measured-most`.
use Prim.Native.Nat.{ℕ, zero, suc, ◌+◌, ◌-◌, ◌*◌, ◌^◌, ◌≤◌, ◌<◌}
use mathlib.Core.Path.{◌≡◌, refl, sym, ap, ap₂, subst, ◌∙◌}
use mathlib.Core.List.{[], ◌∷◌}
use mathlib.Core.Logic.{◌⊎◌, inl, inr, ⊎_elim}
use native.Mathlib.Omega.{arith}
use native.Mathlib.Nat.{le_trans, mul-le-mul_right}
use native.Mathlib.Numerals.{add-one}
use lib.Dec.{T}
use lib.ListN.{get_or}
use lib.IntN.{ℤ, pos, neg_ℤ, nat_abs, ◌+ℤ◌, ◌-ℤ◌, ◌*ℤ◌}
use lib.Signed.{◌≤ℤ◌, ◌<ℤ◌, ≤ℤ_refl}
use Rattle.whole.specs.Ranges.{Within}
use Rattle.whole.proofs.Differences.{whole, all₃, all₄, all₅}
use Rattle.whole.proofs.Laws.{≤ℤ-next}
use Rattle.whole.proofs.Ring.{pol, same}
use Rattle.whole.proofs.Tests.{lt-or-le}
use Rattle.model.specs.declared.Axis.{Axis}
use Rattle.model.specs.planning.Quantities.{acceleration_steps}
use Rattle.model.specs.planning.Leg.{Leg, Meets, clamped, required, cruise, chosen, feasible}
use Rattle.model.specs.planning.Motion.{Tick, leg, displacement, landing_tick, landing_acceleration}
use Rattle.model.specs.planning.Rows.{planned_axis, tick_at}
use Rattle.model.specs.planning.Refusals.{Plannable}
use Rattle.model.specs.planning.Demand.{CellTable}
use Rattle.theorems.specs.Misfit.{variation, planned_variation, SwayLeft}
use Rattle.theorems.proofs.legs.Envelopes.{Joined, clamped-end}
use Rattle.theorems.proofs.legs.ChosenMeets.{chosen-meets}
use Rattle.theorems.proofs.legs.FeasibleTests.{feasible-joined}
use Rattle.theorems.proofs.motions.PlannedTarget.{tick-landed}
use Rattle.theorems.proofs.tables.MeasuredMisfit.{measured-left}
use Rattle.theorems.proofs.jobs.PlannableAxis.{after, weight-range, some-acceleration, speed-range, moves}
use Rattle.theorems.proofs.tables.CellLimits.{planned-change, now-acceleration}
use Rattle.theorems.proofs.tables.Demand.{plannable-axes, sway-left}
use Rattle.regions.specs.declared.Regions.{Regions}
use Rattle.cruise.specs.Variation.{most_variation, MostSwayHolds, MostMeasuredHolds}
use Rattle.regions.specs.Regions.{rise, fall, chosen_regions, velocity_in}
use Rattle.regions.proofs.ThreeRegions.{Towards, start-towards, end-towards, on-start, on-end}
use Rattle.regions.proofs.ChosenRegions.{in_start, in_end, in-raised, in-level, cruise-within, chosen-entry}
use Rattle.cruise.proofs.Variation.{Changes, apart, variation-most}

-- ---- from one velocity to the next, x to y: each on a ramp or level

-- neither below c nor above c + 1
abbrev Level : ℤ → ℤ → Type 0
Level c v = (c ≤ℤ v) × (v ≤ℤ (c +ℤ pos 1))

module _ (n : ℕ) where
  -- from ramp to ramp
  crossed : (u d x y c : ℤ) → Towards n u x c → Towards n d y c → nat_abs (d +ℤ (y -ℤ x)) ≤ nat_abs (u +ℤ (y -ℤ x))
  crossed u d x y c (inl (p, q)) (inl (s, t)) = omega (arith, ap (λ (z : ℤ). nat_abs (z +ℤ (y -ℤ x))) (p ∙ sym s))
  crossed u d x y c (inr (p, q)) (inr (s, t)) = omega (arith, ap (λ (z : ℤ). nat_abs (z +ℤ (y -ℤ x))) (p ∙ sym s))
  crossed u d x y c (inl (p, q)) (inr (s, t)) = up u d x y c p q s t
    where
      up : (u d x y c : ℤ) → u ≡ pos n → x ≤ℤ c → d ≡ neg_ℤ (pos n) → c <ℤ y
          → nat_abs (d +ℤ (y -ℤ x)) ≤ nat_abs (u +ℤ (y -ℤ x))
      up = all₅ _ (λ a b c d e f g h i j. simp whole (omega arith))
  crossed u d x y c (inr (p, q)) (inl (s, t)) = down u d x y c p q s t
    where
      down : (u d x y c : ℤ) → u ≡ neg_ℤ (pos n) → c <ℤ x → d ≡ pos n → y ≤ℤ c
          → nat_abs (d +ℤ (y -ℤ x)) ≤ nat_abs (u +ℤ (y -ℤ x))
      down = all₅ _ (λ a b c d e f g h i j. simp whole (omega arith))

  -- from the first ramp to the level part
  left-ramp : (u x y c : ℤ) → Towards n u x c → Level c y → n + nat_abs (y -ℤ x) ≤ nat_abs (u +ℤ (y -ℤ x))
  left-ramp u x y c (inl (p, q)) (v, w) = up u x y c p q v
    where
      up : (u x y c : ℤ) → u ≡ pos n → x ≤ℤ c → c ≤ℤ y → n + nat_abs (y -ℤ x) ≤ nat_abs (u +ℤ (y -ℤ x))
      up = all₄ _ (λ a b c d e f g h. simp whole (omega arith))
  left-ramp u x y c (inr (p, q)) (v, w) = down u x y c p q w
    where
      down : (u x y c : ℤ) → u ≡ neg_ℤ (pos n) → c <ℤ x → y ≤ℤ (c +ℤ pos 1)
          → n + nat_abs (y -ℤ x) ≤ nat_abs (u +ℤ (y -ℤ x))
      down = all₄ _ (λ a b c d e f g h. simp whole (omega arith))

  -- from the level part to the last ramp
  to-ramp : (d x y c : ℤ) → Level c x → Towards n d y c → Within n (y -ℤ x)
      → nat_abs (d +ℤ (y -ℤ x)) + nat_abs (y -ℤ x) ≤ n
  to-ramp d x y c (v, w) (inl (p, q)) = down d x y c v p q
    where
      down : (d x y c : ℤ) → c ≤ℤ x → d ≡ pos n → y ≤ℤ c → Within n (y -ℤ x)
          → nat_abs (d +ℤ (y -ℤ x)) + nat_abs (y -ℤ x) ≤ n
      down = all₄ _ (λ a b c d e f g h. simp whole (omega arith))
  to-ramp d x y c (v, w) (inr (p, q)) = up d x y c w p q
    where
      up : (d x y c : ℤ) → x ≤ℤ (c +ℤ pos 1) → d ≡ neg_ℤ (pos n) → c <ℤ y → Within n (y -ℤ x)
          → nat_abs (d +ℤ (y -ℤ x)) + nat_abs (y -ℤ x) ≤ n
      up = all₄ _ (λ a b c d e f g h. simp whole (omega arith))

level-step : (x y c : ℤ) → Level c x → Level c y → nat_abs (y -ℤ x) ≤ 1
level-step x y c (p, q) (s, t) = go x y c p q s t
  where
    go : (x y c : ℤ) → c ≤ℤ x → x ≤ℤ (c +ℤ pos 1) → c ≤ℤ y → y ≤ℤ (c +ℤ pos 1) → nat_abs (y -ℤ x) ≤ 1
    go = all₃ _ (λ a b c d e f. simp whole (omega arith))

no_step : (x y c : ℤ) → x ≡ c → y ≡ c → nat_abs (y -ℤ x) ≤ 0
no_step = all₃ _ (λ a b c d e f. simp whole (omega arith))

-- ---- of the list chosen

module _ (g : Leg) (δ : ℤ) (some : 0 < g.ticks) (acceleration : 0 < g.acceleration_limit)
    (range : g.speed_limit ≤ 2 ^ 37)
    (t : T (feasible g δ)) where
  abbrev s : ℤ
  s = required g δ

  abbrev c : ℤ
  c = cruise g s

  abbrev μ : ℕ
  μ = g.acceleration_limit

  abbrev R : Regions
  R = chosen_regions g s

  joined : Joined g
  joined = feasible-joined g δ t

  inside : Within g.speed_limit c
  inside = cruise-within g δ some acceleration range t

  -- the velocities of ticks 0 to T
  W : ℕ → ℤ
  W k = get_or (g.start ∷ chosen g s) k (pos 0)

  meets : Meets g δ W
  unfolding W
  meets = chosen-meets g δ some acceleration range t

  before : (k : ℕ) → k < g.ticks → W k ≡ velocity_in R k
  unfolding W
  before k h = chosen-entry g δ some acceleration range t k h

  at_last : (k : ℕ) → k ≤ g.ticks → g.ticks ≤ k → W k ≡ clamped g c k
  at_last k h l =
      let e : k ≡ g.ticks = omega arith in
      ap W e ∙ meets.ends ∙ sym (clamped-end g joined c) ∙ ap (clamped g c) (sym e)

  at-start : (k : ℕ) → k ≤ g.ticks → k ≤ rise g c → W k ≡ g.start +ℤ pos k *ℤ R.up
  at-start k h l = ⊎_elim
      (λ (p : k < g.ticks). before k p ∙ in_start R k l)
      (λ (p : g.ticks ≤ k). at_last k h p ∙ on-start g joined acceleration c inside k h c (≤ℤ_refl c) (≤ℤ-next c) l)
      (lt-or-le k g.ticks)

  at-end : (k : ℕ) → k ≤ g.ticks → rise g c < k → g.ticks ≤ k + fall g c
      → W k ≡ g.end +ℤ pos (g.ticks - k) *ℤ R.down
  at-end k h l q = ⊎_elim
      (λ (p : k < g.ticks). before k p ∙ in_end R k l q)
      (λ (p : g.ticks ≤ k). at_last k h p ∙ on-end g joined acceleration c inside k h c (≤ℤ_refl c) (≤ℤ-next c) l q)
      (lt-or-le k g.ticks)

  start-short : (k : ℕ) → k ≤ g.ticks → k ≤ rise g c → Towards μ R.up (W k) c
  start-short k h l =
      subst (λ (z : ℤ). Towards μ R.up z c) (sym (at-start k h l)) (start-towards g joined acceleration c k h l)

  end_short : (k : ℕ) → k ≤ g.ticks → rise g c < k → g.ticks ≤ k + fall g c → Towards μ R.down (W k) c
  end_short k h l q =
      subst (λ (z : ℤ). Towards μ R.down z c) (sym (at-end k h l q)) (end-towards g joined acceleration c k h l q)

  at_level : (k : ℕ) → rise g c < k → k + fall g c < g.ticks → Level c (W k)
  at_level k l q = ⊎_elim
      (λ (p : R.raised < k - rise g c).
      subst (Level c) (sym (before k (omega arith) ∙ in-level R k l q p)) (≤ℤ_refl c, ≤ℤ-next c))
      (λ (p : k - rise g c ≤ R.raised).
      subst (Level c) (sym (before k (omega arith) ∙ in-raised R k l q p)) (≤ℤ-next c, ≤ℤ_refl (c +ℤ pos 1)))
      (lt-or-le R.raised (k - rise g c))

  abbrev change : ℕ → ℤ
  change k = W (suc k) -ℤ W k

  limit : (k : ℕ) → k < g.ticks → nat_abs (change k) ≤ μ
  limit k h = meets.changes k h

  one_more : (k : ℕ) → pos k +ℤ pos 1 ≡ pos (suc k)
  one_more k = ap pos (add-one k)

  rising : (k : ℕ) → k < g.ticks → k < rise g c → change k ≡ R.up
  rising k h l =
      ap₂ (λ (y z : ℤ). y -ℤ z) (at-start (suc k) h l) (at-start k (omega arith) (omega arith))
      ∙ ap (λ (i : ℤ). g.start +ℤ i *ℤ R.up -ℤ (g.start +ℤ pos k *ℤ R.up)) (sym (one_more k))
      ∙ one g.start (pos k) R.up
    where
      one : (v i u : ℤ) → v +ℤ (i +ℤ pos 1) *ℤ u -ℤ (v +ℤ i *ℤ u) ≡ u
      one v i u = same (v ∷ i ∷ u ∷ []) (search pol depth 20 fits 9000) tt

  falling : (k : ℕ) → k < g.ticks → rise g c < k → g.ticks ≤ k + fall g c → change k ≡ neg_ℤ R.down
  falling k h l q =
      let e : g.ticks - k ≡ suc (g.ticks - suc k) = omega arith in
      ap₂ (λ (y z : ℤ). y -ℤ z) (at-end (suc k) h (omega arith) (omega arith)) (at-end k (omega arith) l q)
      ∙ ap (λ (i : ℤ). g.end +ℤ pos (g.ticks - suc k) *ℤ R.down -ℤ (g.end +ℤ i *ℤ R.down))
      (ap pos e ∙ sym (one_more (g.ticks - suc k)))
      ∙ one g.end (pos (g.ticks - suc k)) R.down
    where
      one : (v i u : ℤ) → v +ℤ i *ℤ u -ℤ (v +ℤ (i +ℤ pos 1) *ℤ u) ≡ neg_ℤ u
      one v i u = same (v ∷ i ∷ u ∷ []) (search pol depth 20 fits 9000) tt

  flat : (k : ℕ) → rise g c < k → suc k + fall g c < g.ticks
      → (k < rise g c + R.raised) ⊎ (rise g c + R.raised < k) → nat_abs (change k) ≤ 0
  flat k l q (inl p) =
      no_step (W k) (W (suc k)) (c +ℤ pos 1) (before k (omega arith) ∙ in-raised R k l (omega arith) (omega arith))
      (before (suc k) (omega arith) ∙ in-raised R (suc k) (omega arith) q (omega arith))
  flat k l q (inr p) =
      no_step (W k) (W (suc k)) c (before k (omega arith) ∙ in-level R k l (omega arith) (omega arith))
      (before (suc k) (omega arith) ∙ in-level R (suc k) (omega arith) q (omega arith))

  changes : Changes μ g.ticks (rise g c) (fall g c) R.raised R.up R.down change
  changes =
      record {
        limit = limit;
        steep = ⊎_elim (λ p. inl p.0) (λ p. inr p.0) (start-short 0 (omega arith) (omega arith));
        rising = rising;
        crossing = λ h q.
            crossed μ R.up R.down (W (rise g c)) (W (suc (rise g c))) c
            (start-short (rise g c) (omega arith) (omega arith))
            (end_short (suc (rise g c)) h (omega arith) q);
        leaving = λ q.
            left-ramp μ R.up (W (rise g c)) (W (suc (rise g c))) c
            (start-short (rise g c) (omega arith) (omega arith))
            (at_level (suc (rise g c)) (omega arith) q);
        level = λ k l q. level-step (W k) (W (suc k)) c (at_level k l (omega arith)) (at_level (suc k) (omega arith) q);
        flat = flat;
        arriving = λ k l q h.
            to-ramp μ R.down (W k) (W (suc k)) c (at_level k l q) (end_short (suc k) (omega arith) (omega arith) h)
            (record { within = limit k (omega arith) });
        falling = falling;
      }

  pub chosen-variation : (k : ℕ) → k < g.ticks
      → variation (λ i. get_or (g.start ∷ chosen g s) (suc i) (pos 0) -ℤ get_or (g.start ∷ chosen g s) i (pos 0)) k
      ≤ 3 * μ + 2
  unfolding W
  chosen-variation k h =
      variation-most μ g.ticks (rise g c) (fall g c) R.raised R.up R.down change changes k h

-- ---- of an axis that can be planned: to the landing there is one change more

variation-same : (a b : ℕ → ℤ) (k : ℕ) → ((i : ℕ) → i ≤ k → a i ≡ b i) → variation a k ≡ variation b k
variation-same a b zero f = ap nat_abs (f 0 (omega arith))
variation-same a b (suc k) f =
    ap₂ (λ (m : ℕ) (z : ℤ). m + nat_abs z) (variation-same a b k (λ i h. f i (omega arith)))
    (ap₂ (λ (y z : ℤ). y -ℤ z) (f (suc k) (omega arith)) (f k (omega arith)))

module _ (x : Axis) (n : ℕ) (plannable : Plannable x n) where
  abbrev α : ℕ → ℤ
  α k = (tick_at (planned_axis n x) k).acceleration

  some-ticks : 0 < landing_tick x n
  some-ticks = omega (arith, after x n plannable)

  before-landing : (k : ℕ) → k < landing_tick x n → variation α k ≤ 3 * acceleration_steps x + 2
  before-landing k h =
      subst (λ (m : ℕ). m ≤ 3 * acceleration_steps x + 2)
      (sym (variation-same α _ k (λ i l. planned-change x n plannable i (omega arith))))
      (chosen-variation (leg x n) (displacement x n) some-ticks (some-acceleration x n plannable)
      (speed-range x n plannable) (moves x n plannable) k h)

  pub planned-variation : planned_variation x n ≤ most_variation x n
  planned-variation = go (landing_tick x n) refl
    where
      landed : α (landing_tick x n) ≡ landing_acceleration x n
      landed =
          ap α {x = landing_tick x n} {y = landing_tick x n + 0} (omega arith)
          ∙ ap (λ (t : Tick). t.acceleration) (tick-landed x n plannable 0 (omega arith))

      go : (k : ℕ) → k ≡ landing_tick x n → variation α k ≤ most_variation x n
      go zero e = absurd (omega (arith, some-ticks))
      go (suc k) e =
          omega (
            arith,
            before-landing k (omega arith),
            now-acceleration x n plannable k (omega (arith, after x n plannable)),
            apart (α k) (α (suc k)),
            ap nat_abs (ap α e ∙ landed),
          )

-- ---- what is left of a sway

wider : (p q : Axis → ℕ → ℕ) (x : Axis) (i n : ℕ) (g : CellTable) → p x n ≤ q x n
    → SwayLeft p x i n g → SwayLeft q x i n g
wider p q x i n g h l =
    record {
      exact = λ m E w a f. le_trans (l.exact m E w a f) (mul-le-mul_right E h);
      rounded = λ m E G w a f b. let t = l.rounded m E G w a f b in let u = mul-le-mul_right E h in omega arith;
    }

pub sway-most : MostSwayHolds
sway-most o q lent z i x e =
    wider planned_variation most_variation x i _ _ (planned-variation x _ (plannable-axes o q lent z i x e))
    (sway-left o q lent z i x e)

pub measured-most : MostMeasuredHolds
measured-most o q lent z i x e =
    measured-left most_variation x (weight-range x _ (plannable-axes o q lent z i x e)) i _ _
    (sway-most o q lent z i x e)
