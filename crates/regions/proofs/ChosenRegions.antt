-- Rule 5's list is the list of the velocities in its regions: the ticks that would
-- rise at c + 1 are the level ones.
use Prim.Native.Nat.{ℕ, zero, suc, ◌+◌, ◌-◌, ◌^◌, ◌≤◌, ◌<◌}
use mathlib.Core.Path.{◌≡◌, refl, sym, ap, subst, ◌∙◌}
use mathlib.Core.Bool.{Bool, true, false, not, ◌&&◌}
use mathlib.Core.List.{List, [], ◌∷◌, ◌++◌}
use mathlib.Core.Logic.{◌⊎◌, inl, inr, ⊎_elim}
use native.Mathlib.Omega.{arith}
use lib.Dec.{T, leb, ltb, lt→ltb, ltb→lt}
use lib.ListN.{get_or}
use lib.IntN.{ℤ, pos, nat_abs, ◌+ℤ◌, ◌-ℤ◌, ◌*ℤ◌}
use lib.Signed.{lt_z, lt_z_yes, ◌≤ℤ◌, ◌<ℤ◌, clash_ℤ, ≤ℤ_refl}
use Rattle.whole.specs.Ranges.{Within}
use Rattle.whole.proofs.Differences.{whole, all₁}
use Rattle.whole.proofs.Laws.{≤ℤ-antisym, ≤ℤ-total, ≤ℤ-next, nat_abs-iff}
use Rattle.whole.proofs.Ring.{pol, same}
use Rattle.whole.proofs.Tests.{left as fst, right, and, by_bool, choice-yes, choice-no, leb_yes, leb_no, lt-or-le}
use Rattle.model.specs.planning.Leg.{Leg, clamped, sum_at, raised, required, cruise, remainder, chosen, feasible}
use Rattle.model.specs.planning.Rows.{tabulate}
use Rattle.theorems.proofs.legs.Envelopes.{Joined, highest-sum}
use Rattle.theorems.proofs.legs.ChosenMeets.{chosen-meets}
use Rattle.theorems.proofs.legs.FeasibleTests.{feasible-joined, feasible-below, feasible-cruise}
use Rattle.regions.specs.declared.Regions.{Regions}
use Rattle.regions.specs.Regions.{rise, fall, regions_of, chosen_regions, velocity_in, RegionsRanged}
use Rattle.regions.proofs.ThreeRegions.{on-start, on-end, on-level, on-level-raised, fall-late, change-within}

-- ---- the velocity in a region

module _ (r : Regions) (k : ℕ) where
  pub in_start : k ≤ r.rise → velocity_in r k ≡ r.start +ℤ pos k *ℤ r.up
  unfolding velocity_in
  in_start h = sym (choice-yes (leb k r.rise) _ _ (leb_yes h))

  pub in_end : r.rise < k → r.ticks ≤ k + r.fall → velocity_in r k ≡ r.end +ℤ pos (r.ticks - k) *ℤ r.down
  unfolding velocity_in
  in_end h l =
      sym (choice-yes (leb r.ticks (k + r.fall)) _ _ (leb_yes l) ∙ choice-no (leb k r.rise) _ _ (leb_no h))

  pub in-raised : r.rise < k → k + r.fall < r.ticks → k - r.rise ≤ r.raised → velocity_in r k ≡ r.cruise +ℤ pos 1
  unfolding velocity_in
  in-raised h l q =
      sym (
      choice-yes (leb (k - r.rise) r.raised) _ _ (leb_yes q)
      ∙ choice-no (leb r.ticks (k + r.fall)) _ _ (leb_no l)
      ∙ choice-no (leb k r.rise) _ _ (leb_no h)
      )

  pub in-level : r.rise < k → k + r.fall < r.ticks → r.raised < k - r.rise → velocity_in r k ≡ r.cruise
  unfolding velocity_in
  in-level h l q =
      sym (
      choice-no (leb (k - r.rise) r.raised) _ _ (leb_no q)
      ∙ choice-no (leb r.ticks (k + r.fall)) _ _ (leb_no l)
      ∙ choice-no (leb k r.rise) _ _ (leb_no h)
      )

pub in-first : (r : Regions) → velocity_in r 0 ≡ r.start
in-first r = in_start r 0 (omega arith) ∙ none r.start r.up
  where
    none : (v u : ℤ) → v +ℤ pos 0 *ℤ u ≡ v
    none v u = same (v ∷ u ∷ []) (search pol depth 20 fits 9000) tt

-- ---- one tick of rule 5's list, by what the velocity is at c and at c + 1

refuted : (b : Bool) → T b → T (not b) → ⊥
refuted true t u = u
refuted false t u = t

module _ (g : Leg) (c : ℤ) (k n left : ℕ) where
  abbrev later : ℕ → List ℤ
  later m = raised g c n (suc k) m

  keeps : (v : ℤ) → clamped g c k ≡ v → clamped g (c +ℤ pos 1) k ≡ v → raised g c (suc n) k left ≡ v ∷ later left
  keeps v p q =
      by_bool (λ (l : List ℤ). l ≡ v ∷ later left) (ltb 0 left && lt_z (clamped g c k) (clamped g (c +ℤ pos 1) k)) _ _
      (λ t.
      let rises : clamped g c k <ℤ clamped g (c +ℤ pos 1) k = lt_z_yes (right (ltb 0 left) _ t) in
      absurd (clash_ℤ (subst (λ (z : ℤ). z <ℤ clamped g (c +ℤ pos 1) k) p rises)
      (subst (λ (z : ℤ). z ≤ℤ v) (sym q) (≤ℤ_refl v))))
      (λ t. ap (λ (z : ℤ). z ∷ later left) p)

  rises : 0 < left → clamped g c k ≡ c → clamped g (c +ℤ pos 1) k ≡ c +ℤ pos 1
      → raised g c (suc n) k left ≡ (c +ℤ pos 1) ∷ later (left - 1)
  rises h p q =
      by_bool (λ (l : List ℤ). l ≡ (c +ℤ pos 1) ∷ later (left - 1)) test _ _
      (λ t. ap (λ (z : ℤ). (z +ℤ pos 1) ∷ later (left - 1)) p)
      (λ t. absurd (refuted test (and (ltb 0 left) _ (lt→ltb 0 left h) less) t))
    where
      test : Bool
      test = ltb 0 left && lt_z (clamped g c k) (clamped g (c +ℤ pos 1) k)

      next : (x : ℤ) → x <ℤ (x +ℤ pos 1)
      next = all₁ _ (λ a b. simp whole (omega arith))

      less : T (lt_z (clamped g c k) (clamped g (c +ℤ pos 1) k))
      less = subst (λ (z : ℤ). T (lt_z z (clamped g (c +ℤ pos 1) k))) (sym p)
          (subst (λ (z : ℤ). T (lt_z c z)) (sym q) (next c).lt)

  none_left : left ≤ 0 → clamped g c k ≡ c → raised g c (suc n) k left ≡ c ∷ later left
  none_left h p =
      by_bool (λ (l : List ℤ). l ≡ c ∷ later left) (ltb 0 left && lt_z (clamped g c k) (clamped g (c +ℤ pos 1) k)) _ _
      (λ t. let some : 0 < left = ltb→lt 0 left (fst (ltb 0 left) _ t) in absurd (omega arith))
      (λ t. ap (λ (z : ℤ). z ∷ later left) p)

-- ---- the list

module _ (g : Leg) (joined : Joined g) (some : 0 < g.acceleration_limit) (c : ℤ) (inside : Within g.speed_limit c)
    (r : ℕ) (room : 0 < r → c <ℤ pos g.speed_limit) where
  abbrev R : Regions
  R = regions_of g c r

  -- after tick i, while the next tick is level
  abbrev Left : ℕ → ℕ → Type 0
  Left i left = suc i + fall g c < g.ticks → left ≡ r - (i - rise g c)

  -- tick k = i + 1, before the list from the next tick on
  one_more : (n i left : ℕ) → i + suc n < g.ticks → Left i left
      → ((m : ℕ) → Left (suc i) m → raised g c n (suc (suc i)) m ≡ tabulate (velocity_in R) (suc (suc i)) n)
      → raised g c (suc n) (suc i) left ≡ tabulate (velocity_in R) (suc i) (suc n)
  one_more n i left h l rest = go (lt-or-le (rise g c) k) (lt-or-le (k + fall g c) g.ticks)
    where
      k : ℕ
      k = suc i

      Goal : Type 0
      Goal = raised g c (suc n) k left ≡ tabulate (velocity_in R) k (suc n)

      tick : (m : ℕ) (v : ℤ) → raised g c (suc n) k left ≡ v ∷ raised g c n (suc k) m
          → velocity_in R k ≡ v → Left k m → Goal
      tick m v p q d =
          p ∙ ap (λ (ws : List ℤ). v ∷ ws) (rest m d) ∙ ap (λ (z : ℤ). z ∷ tabulate (velocity_in R) (suc k) n) (sym q)

      below : k ≤ g.ticks
      below = omega arith

      -- on a ramp
      kept : (z : ℤ) → ((d : ℤ) → c ≤ℤ d → d ≤ℤ (c +ℤ pos 1) → clamped g d k ≡ z)
          → raised g c (suc n) k left ≡ z ∷ raised g c n (suc k) left
      kept z f = keeps g c k n left z (f c (≤ℤ_refl c) (≤ℤ-next c)) (f (c +ℤ pos 1) (≤ℤ-next c) (≤ℤ_refl (c +ℤ pos 1)))

      level : rise g c < k → k + fall g c < g.ticks → (0 < left) ⊎ (left ≤ 0) → Goal
      level p q (inl u) =
          let d = l q in
          tick (left - 1) (c +ℤ pos 1)
          (rises g c k n left u (on-level g joined some c inside k below p q)
          (on-level-raised g joined some c inside k below p q (room (omega arith))))
          (in-raised R k p q (omega arith)) (λ w. omega arith)
      level p q (inr u) =
          let d = l q in
          tick left c (none_left g c k n left u (on-level g joined some c inside k below p q))
          (in-level R k p q (omega arith)) (λ w. omega arith)

      go : (rise g c < k) ⊎ (k ≤ rise g c) → (k + fall g c < g.ticks) ⊎ (g.ticks ≤ k + fall g c) → Goal
      go (inr p) q =
          tick left _ (kept _ (λ d x y. on-start g joined some c inside k below d x y p)) (in_start R k p)
          (λ u. let w = l (omega arith) in omega arith)
      go (inl p) (inr q) =
          tick left _ (kept _ (λ d x y. on-end g joined some c inside k below d x y p q))
          (in_end R k p q) (λ u. absurd (omega arith))
      go (inl p) (inl q) = level p q (lt-or-le 0 left)

  raised-in-regions : (n i left : ℕ) → i + n < g.ticks → Left i left
      → raised g c n (suc i) left ≡ tabulate (velocity_in R) (suc i) n
  raised-in-regions zero i left h l = refl
  raised-in-regions (suc n) i left h l = one_more n i left h l (λ m. raised-in-regions n (suc i) m (omega arith))

-- ---- the ranges of its regions

pub regions-ranged : (g : Leg) → Joined g → 0 < g.acceleration_limit → g.speed_limit ≤ 2 ^ 37
    → g.acceleration_limit ≤ 2 ^ 33 → g.ticks ≤ 4096
    → (c : ℤ) (r : ℕ) → Within (2 ^ 37) c → RegionsRanged (regions_of g c r)
regions-ranged g joined some speed steep ticks c r w =
    record {
      start = record { within = omega (arith, joined.start) };
      up = record { within = omega (arith, change-within g.acceleration_limit g.start c) };
      cruise = w;
      end = record { within = omega (arith, joined.end) };
      fall = omega (arith, fall-late g joined some c);
      down = record { within = omega (arith, change-within g.acceleration_limit g.end c) };
      ticks = ticks;
    }

-- ---- the list chosen

module _ (g : Leg) (δ : ℤ) (some : 0 < g.ticks) (acceleration : 0 < g.acceleration_limit)
    (range : g.speed_limit ≤ 2 ^ 37)
    (t : T (feasible g δ)) where
  abbrev s : ℤ
  s = required g δ

  joined : Joined g
  joined = feasible-joined g δ t

  -- at the speed limit nothing is left of the required sum
  below-limit : 0 < remainder g s → cruise g s <ℤ pos g.speed_limit
  below-limit h = ⊎_elim (λ (p : pos g.speed_limit ≤ℤ cruise g s). absurd (none p)) (λ p. p)
      (≤ℤ-total (pos g.speed_limit) (cruise g s))
    where
      less-itself : (x : ℤ) → x -ℤ x ≡ pos 0
      less-itself x = same (x ∷ []) (search pol depth 20 fits 9000) tt

      none : pos g.speed_limit ≤ℤ cruise g s → ⊥
      none p =
          let C = feasible-cruise g δ t range in
          let c-is : cruise g s ≡ pos g.speed_limit = ≤ℤ-antisym C.below p in
          let enough : s ≤ℤ sum_at g (cruise g s) =
          subst (λ (z : ℤ). s ≤ℤ z) (sym (ap (sum_at g) c-is ∙ highest-sum g joined)) (feasible-below g δ t) in
          let all : sum_at g (cruise g s) ≡ s = ≤ℤ-antisym C.fits enough in
          let zero_left : remainder g s ≡ 0 = ap (λ (z : ℤ). nat_abs (s -ℤ z)) all ∙ ap nat_abs (less-itself s) in
          omega arith

  pub cruise-within : Within g.speed_limit (cruise g s)
  cruise-within = let C = feasible-cruise g δ t range in
      record { within = (nat_abs-iff g.speed_limit (cruise g s)).1 (C.above, C.below) }

  pub chosen-in-regions : chosen g s ≡ tabulate (velocity_in (chosen_regions g s)) 1 (g.ticks - 1) ++ (g.end ∷ [])
  chosen-in-regions =
      ap (λ (ws : List ℤ). ws ++ (g.end ∷ []))
      (raised-in-regions g joined acceleration (cruise g s) cruise-within (remainder g s) below-limit
      (g.ticks - 1) 0 (remainder g s) (omega arith) (λ u. omega arith))

  -- ---- its ranges

  abbrev velocity : ℕ → ℤ
  velocity = velocity_in (chosen_regions g s)

  entry : (f : ℕ → ℤ) (ws : List ℤ) (n k j : ℕ) → j < n → get_or (tabulate f k n ++ ws) j (pos 0) ≡ f (k + j)
  entry f ws zero k j h = absurd (omega arith)
  entry f ws (suc n) k zero h = ap f {x = k} {y = k + zero} (omega arith)
  entry f ws (suc n) k (suc j) h =
      entry f ws n (suc k) j (omega arith) ∙ ap f {x = suc k + j} {y = k + suc j} (omega arith)

  pub chosen-entry : (k : ℕ) → k < g.ticks → get_or (g.start ∷ chosen g s) k (pos 0) ≡ velocity k
  chosen-entry zero h = sym (in-first (chosen_regions g s))
  chosen-entry (suc k) h =
      ap (λ (ws : List ℤ). get_or ws k (pos 0)) chosen-in-regions
      ∙ entry velocity (g.end ∷ []) (g.ticks - 1) 1 k (omega arith)
      ∙ ap velocity {x = 1 + k} {y = suc k} (omega arith)

  pub chosen-within : (k : ℕ) → k < g.ticks → nat_abs (velocity k) ≤ g.speed_limit
  chosen-within k h =
      subst (λ (z : ℤ). nat_abs z ≤ g.speed_limit) (chosen-entry k h)
      ((chosen-meets g δ some acceleration range t).speeds k (omega arith))

  pub chosen-ranged : g.ticks ≤ 4096 → g.acceleration_limit ≤ 2 ^ 33 → RegionsRanged (chosen_regions g s)
  chosen-ranged ticks steep =
      let C = feasible-cruise g δ t range in
      regions-ranged g joined acceleration range steep ticks (cruise g s) (remainder g s)
      (record { within = omega (arith, (nat_abs-iff g.speed_limit (cruise g s)).1 (C.above, C.below)) })
