-- An axis whose target does not accelerate: its planned end velocity is the same for every
-- arrival, its leg has a tick more for each tick that the arrival is later, and the
-- required sum changes by the same number each time. So whether it reaches an arrival can
-- be told from an earlier one's leg.
use Prim.Native.Nat.{ℕ, suc, ◌+◌, ◌-◌, ◌*◌, ◌%◌, ◌≤◌, ◌<◌, max}
use mathlib.Core.Path.{◌≡◌, refl, sym, ap, subst, ◌∙◌}
use mathlib.Core.Bool.{Bool, true, false, ◌&&◌}
use mathlib.Core.List.{[], ◌∷◌}
use mathlib.Core.Logic.{◌⊎◌, inl, inr}
use native.Mathlib.Omega.{arith}
use native.Mathlib.Nat.{mul-le-mul}
use lib.Dec.{T, leb, ltb, eqb, eqb→eq, leb→le}
use lib.IntN.{ℤ, pos, neg_ℤ, nat_abs, ◌+ℤ◌, ◌-ℤ◌, ◌*ℤ◌}
use lib.Signed.{shr_z}
use Rattle.whole.proofs.Differences.{whole}
use Rattle.whole.proofs.Laws.{nat_abs-zero, nat_abs-*}
use Rattle.whole.proofs.Ring.{pol, same}
use Rattle.whole.proofs.Rounding.{half_twice, twice_half}
use Rattle.whole.proofs.Tests.{left, right, not-false-T, true-T, and_yes, and_no, leb_yes, ltb_yes, ltb_no, lt-or-le}
use Rattle.model.specs.declared.Axis.{Axis}
use Rattle.model.specs.declared.RestPoint.{RestPoint}
use Rattle.model.specs.declared.State.{State}
use Rattle.model.specs.declared.Target.{Target}
use Rattle.model.specs.declared.Target.TheVariants.{Fixed, Moving}
use Rattle.model.specs.planning.Quantities.{fine_steps, speed_limit, half_period, second_weight, delay, as_moving}
use Rattle.model.specs.planning.Quantities.{velocity_at, accelerates, finer, on_grid, speed_steps}
use Rattle.model.specs.planning.Leg.{twice_required, sum_is_whole, feasible}
use Rattle.model.specs.planning.Motion.{shift, start_position, start_velocity, landing_velocity, landing_tick}
use Rattle.model.specs.planning.Motion.{arrival_velocity, leg, displacement, required_sum, reachable}
use Rattle.model.specs.planning.Refusals.{position_allowed, velocity_allowed, rest_allowed, motion_allowed}
use Rattle.model.specs.planning.Refusals.{target_allowed}
use Rattle.model.specs.planning.Refusals.{Passed}
use Rattle.theorems.specs.Threshold.{Slow}
use Rattle.theorems.proofs.motions.Threshold.{reached-later}
use Rattle.theorems.proofs.legs.WholeSum.{sum-is-whole}
use Rattle.profile.specs.Profiles.{ends_allowed, sum_between}
use Rattle.whole.specs.Candidates.{Next}
use Rattle.envelopes.specs.Sums.{with_ticks, between_at}
use Rattle.whole.specs.Candidates.{Lasting}
use Rattle.profile.proofs.FeasibleParts.{feasible-parts}
use Rattle.reach.specs.Drift.{speed_of, drift_of, drift}

-- ---- the target

speed-is : (t : Target) (n : ℕ) → (as_moving t n).velocity ≡ speed_of t
speed-is (Fixed r) n = refl
speed-is (Moving m) n = refl

still : (t : Target) (n : ℕ) → accelerates t ≡ false → (as_moving t n).acceleration ≡ pos 0
still (Fixed r) n e = refl
still (Moving m) n e = nat_abs-zero m.acceleration
    (eqb→eq (nat_abs m.acceleration) 0 (not-false-T (eqb (nat_abs m.acceleration) 0) e))

-- what refusal 6 leaves of its velocity
rest-slow : (x : Axis) (r : RestPoint) → T (rest_allowed x r) → nat_abs r.velocity ≤ speed_limit x
rest-slow x r t = leb→le (nat_abs r.velocity) (speed_limit x)
    (right (position_allowed r.position) (velocity_allowed x r.velocity) t)

target-slow : (x : Axis) (t : Target) → T (target_allowed x t) → nat_abs (speed_of t) ≤ speed_limit x
target-slow x (Fixed r) p = rest-slow x r p
target-slow x (Moving m) p =
    let r : RestPoint = record { position = m.position; velocity = m.velocity } in
    rest-slow x r (left (rest_allowed x r) (motion_allowed x m) p)

grid-slow : (f : ℕ) (v : ℤ) (l : ℕ) → nat_abs v ≤ l → nat_abs (pos f *ℤ (pos fine_steps *ℤ v)) ≤ f * (fine_steps * l)
grid-slow f v l h =
    let fine : nat_abs (pos fine_steps *ℤ v) ≤ fine_steps * l = rw nat_abs-* (omega arith) in
    let same-grid : f ≤ f = omega arith in
    rw nat_abs-* (mul-le-mul same-grid fine)

-- ---- twice the required sum: the target at p with velocity v and acceleration a, d ticks
-- after its own; the shift s; the planned start at q with velocity w; f grid steps in a fine
-- step, and what the position gains, 2ga

abbrev twice : ℤ → ℤ → ℤ → ℤ → ℤ → ℤ → ℤ → ℤ → ℤ → ℤ
twice f g s q w p v a d =
    ((f *ℤ (pos 256 *ℤ (pos 2 *ℤ p +ℤ pos 2 *ℤ (v *ℤ d) +ℤ a *ℤ (d *ℤ d)) +ℤ pos 2 *ℤ (s *ℤ (v +ℤ a *ℤ d)))
    +ℤ pos 2 *ℤ (g *ℤ a)) -ℤ q) -ℤ w
    -ℤ f *ℤ (pos 256 *ℤ (v +ℤ a *ℤ d) +ℤ s *ℤ a)

later : (f g s q w p v d j : ℤ)
    → twice f g s q w p v (pos 0) (d +ℤ j) ≡ twice f g s q w p v (pos 0) d +ℤ pos 2 *ℤ (j *ℤ (f *ℤ (pos 256 *ℤ v)))
later f g s q w p v d j = same (f ∷ g ∷ s ∷ q ∷ w ∷ p ∷ v ∷ d ∷ j ∷ []) (search pol depth 30 fits 9000) tt

before : (n h : ℕ) → h ≤ n → pos (n - h) -ℤ pos n ≡ neg_ℤ (pos h)
before n h p = simp whole (omega arith)

since : (k n h : ℕ) (t : ℤ) → h ≤ n → n ≤ k → pos (k - h) -ℤ t ≡ (pos (n - h) -ℤ t) +ℤ pos (k - n)
since k n h t p q =
    ap (λ (i : ℕ). pos i -ℤ t) {x = k - h} {y = n - h + (k - n)} (omega arith) ∙ swap (pos (n - h)) (pos (k - n)) t
  where
    swap : (x y t : ℤ) → (x +ℤ y) -ℤ t ≡ (x -ℤ t) +ℤ y
    swap x y t = same (x ∷ y ∷ t ∷ []) (search pol depth 20 fits 9000) tt

module _ (x : Axis) where
  abbrev h : ℕ
  h = delay x

  -- half of what the position gains, by the acceleration
  abbrev gained : ℤ
  gained =
      let b : ℤ = pos (second_weight x) in
      b *ℤ (pos (half_period x) *ℤ pos (half_period x)) *ℤ (b -ℤ pos 128)

  -- twice the required sum for a target in motion
  abbrev twice_of : ℤ → ℤ → ℤ → ℤ → ℤ
  twice_of = twice (pos (finer x)) gained (shift x) (start_position x) (start_velocity x)

  abbrev twice_for : Target → ℕ → ℤ
  twice_for t n =
      let m : State = as_moving t n in
      twice_of m.position m.velocity m.acceleration (pos (n - h) -ℤ m.tick)

  twice-later : (t : Target) → accelerates t ≡ false → (n k : ℕ) → h ≤ n → n ≤ k
      → twice_for t k ≡ twice_for t n +ℤ pos 2 *ℤ (pos (k - n) *ℤ on_grid x (drift_of t))
  twice-later (Fixed r) e n k p q =
      ap (twice_of r.position r.velocity (pos 0)) (before k h (omega arith) ∙ sym (before n h p))
      ∙ none (twice_for (Fixed r) n) (pos (k - n)) (pos (finer x))
    where
      none : (y j f : ℤ) → y ≡ y +ℤ pos 2 *ℤ (j *ℤ (f *ℤ pos 0))
      none y j f = same (y ∷ j ∷ f ∷ []) (search pol depth 20 fits 9000) tt
  twice-later (Moving m) e n k p q =
      let a = still (Moving m) n e in
      ap (λ (z : ℤ). twice_of m.position m.velocity z (pos (k - h) -ℤ m.tick)) a
      ∙ ap (twice_of m.position m.velocity (pos 0)) (since k n h m.tick p q)
      ∙ later (pos (finer x)) gained (shift x) (start_position x) (start_velocity x) m.position m.velocity
      (pos (n - h) -ℤ m.tick) (pos (k - n))
      ∙ ap (λ (z : ℤ). twice_of m.position m.velocity z (pos (n - h) -ℤ m.tick)
      +ℤ pos 2 *ℤ (pos (k - n) *ℤ on_grid x (drift_of (Moving m)))) (sym a)

  -- ---- an axis that passed

  module _ (passed : Passed x) where
    allowed : T (rest_allowed x x.start && target_allowed x x.target)
    allowed = not-false-T (rest_allowed x x.start && target_allowed x x.target) passed.values

    pub start-slow : nat_abs (start_velocity x) ≤ speed_steps x
    start-slow =
        let rest = left (rest_allowed x x.start) (target_allowed x x.target) allowed in
        grid-slow (finer x) x.start.velocity (speed_limit x) (rest-slow x x.start rest)

    pub speed-slow : nat_abs (speed_of x.target) ≤ speed_limit x
    speed-slow = target-slow x x.target (right (rest_allowed x x.start) (target_allowed x x.target) allowed)

  module _ (passed : Passed x) (steady : accelerates x.target ≡ false) where
    velocity-is : (n : ℕ) → landing_velocity x n ≡ on_grid x (pos fine_steps *ℤ speed_of x.target)
    velocity-is n =
        ap (on_grid x) (law (as_moving x.target n) (still x.target n steady)
        ∙ ap (λ (z : ℤ). pos fine_steps *ℤ z) (speed-is x.target n))
      where
        none : (v s d : ℤ) → pos 256 *ℤ (v +ℤ pos 0 *ℤ d) +ℤ s *ℤ pos 0 ≡ pos 256 *ℤ v
        none v s d = same (v ∷ s ∷ d ∷ []) (search pol depth 20 fits 9000) tt

        law : (m : State) → m.acceleration ≡ pos 0
            → pos fine_steps *ℤ velocity_at m (pos (landing_tick x n)) +ℤ shift x *ℤ m.acceleration
            ≡ pos fine_steps *ℤ m.velocity
        law m e =
            ap (λ (z : ℤ). pos 256 *ℤ (m.velocity +ℤ z *ℤ (pos (landing_tick x n) -ℤ m.tick)) +ℤ shift x *ℤ z) e
            ∙ none m.velocity (shift x) (pos (landing_tick x n) -ℤ m.tick)

    pub landing-slow : (n : ℕ) → nat_abs (landing_velocity x n) ≤ speed_steps x
    landing-slow n =
        subst (λ (z : ℤ). nat_abs z ≤ speed_steps x) (sym (velocity-is n))
        (grid-slow (finer x) (speed_of x.target) (speed_limit x) (speed-slow passed))

    arrival-is : (n : ℕ) → arrival_velocity x n ≡ landing_velocity x n
    arrival-is n =
        ap (λ (z : ℤ). landing_velocity x n +ℤ pos h *ℤ on_grid x (pos 256 *ℤ z)) (still x.target n steady)
        ∙ none (landing_velocity x n) (pos h) (pos (finer x))
      where
        none : (v h f : ℤ) → v +ℤ h *ℤ (f *ℤ (pos 256 *ℤ pos 0)) ≡ v
        none v h f = same (v ∷ h ∷ f ∷ []) (search pol depth 20 fits 9000) tt

    whole_sum : (n : ℕ) → nat_abs (twice_required (leg x n) (displacement x n)) % 2 ≡ 0
    whole_sum n = eqb→eq (nat_abs (twice_required (leg x n) (displacement x n)) % 2) 0 (true-T (sum-is-whole x n))

    module _ (n k : ℕ) (after : h < n) (from : n ≤ k) where
      leg-later : with_ticks (leg x n) (k - h) ≡ leg x k
      leg-later =
          λ i. record {
            ticks = k - h;
            start = start_velocity x;
            end = (velocity-is n ∙ sym (velocity-is k)) i;
            speed_limit = (leg x k).speed_limit;
            acceleration_limit = (leg x k).acceleration_limit;
          }

      sum-later : required_sum x n +ℤ pos (k - n) *ℤ drift x ≡ required_sum x k
      sum-later =
          sym (half_twice (required_sum x n +ℤ pos (k - n) *ℤ drift x))
          ∙ ap (λ (z : ℤ). shr_z z 2)
          (split (required_sum x n) (pos (k - n) *ℤ drift x)
          ∙ ap (λ (z : ℤ). z +ℤ pos 2 *ℤ (pos (k - n) *ℤ drift x)) (twice_half (twice_for x.target n) (whole_sum n))
          ∙ sym (twice-later x.target steady n k (omega arith) from))
        where
          split : (a b : ℤ) → pos 2 *ℤ (a +ℤ b) ≡ pos 2 *ℤ a +ℤ pos 2 *ℤ b
          split a b = same (a ∷ b ∷ []) (search pol depth 20 fits 9000) tt

      wanted-is : required_sum x n +ℤ pos (k - h - (n - h)) *ℤ drift x ≡ required_sum x k
      wanted-is = ap (λ (i : ℕ). required_sum x n +ℤ pos i *ℤ drift x) {x = k - h - (n - h)} {y = k - n} (omega arith)
          ∙ sum-later

      moves : between_at (leg x n) (required_sum x n) (drift x) (k - h) ≡ feasible (leg x k) (displacement x k)
      moves =
          (λ i. ends_allowed (leg-later i) && sum_between (leg-later i) (wanted-is i))
          ∙ ap (λ (b : Bool). ends_allowed (leg x k) && b)
          (and_yes (sum_is_whole (leg x k) (displacement x k))
          (sum_between (leg x k) (required_sum x k)) (sum-is-whole x k) refl)
          ∙ sym (feasible-parts (leg x k) (displacement x k))

      pub reach-later : between_at (leg x n) (required_sum x n) (drift x) (k - h) ≡ reachable x k
      reach-later =
          and_yes (ltb h k) _ (ltb_yes {m = h} {n = k} (omega arith))
          (and_yes (leb (nat_abs (landing_velocity x k)) (speed_steps x)) _ (leb_yes (landing-slow k))
          (and_yes (leb (nat_abs (arrival_velocity x k)) (speed_steps x)) _
          (leb_yes (subst (λ (z : ℤ). nat_abs z ≤ speed_steps x) (sym (arrival-is k)) (landing-slow k))) moves))

    pub always-slow : (n : ℕ) → Slow x n
    always-slow n =
        record {
          landed = landing-slow n;
          arrived = subst (λ (z : ℤ). nat_abs z ≤ speed_steps x) (sym (arrival-is n)) (landing-slow n);
        }

    -- what is reached stays reached
    pub lasts : (n : ℕ) → h < n → Lasting (between_at (leg x n) (required_sum x n) (drift x)) (n - h)
    lasts n after j k p q e =
        let here : j + h - h ≡ j = omega arith in
        let there : k + h - h ≡ k = omega arith in
        let reached = sym (reach-later n (j + h) after (omega arith))
        ∙ ap (between_at (leg x n) (required_sum x n) (drift x)) here ∙ e in
        sym (ap (between_at (leg x n) (required_sum x n) (drift x)) there)
        ∙ reach-later n (k + h) after (omega arith)
        ∙ reached-later x passed (j + h) (k + h) (k + h) (omega arith) (omega arith) (always-slow (k + h)) reached

  -- no arrival is reached that is not after the delay
  pub reach-after : (k : ℕ) → k ≤ h → reachable x k ≡ false
  reach-after k p = sym (and_no (ltb h k) _ (ltb_no p))

-- ---- the next arrival, from the first one that is after the delay

first_past : (n h k : ℕ) → n ≤ k → k < max n (suc h) → k ≤ h
first_past n h k p q = omega arith

pub none_after : (x : Axis) (n last : ℕ) → n ≤ suc last → last < max n (suc (delay x))
    → Next (reachable x) n last (last + 1)
none_after x n last p q =
    record {
      low = omega arith;
      high = omega arith;
      missed = λ k l r. reach-after x k (first_past n (delay x) k l (omega arith));
      passed = λ l. absurd (omega arith);
    }

pub next-arrival : (x : Axis) → Passed x → accelerates x.target ≡ false → (n last f t : ℕ)
    → f ≡ max n (suc (delay x)) → f ≤ last
    → Next (between_at (leg x f) (required_sum x f) (drift x)) (f - delay x) (last - delay x) t
    → Next (reachable x) n last (t + delay x)
next-arrival x passed steady n last f t e h w =
    record { low = omega (arith, w.low); high = omega (arith, w.high); missed = missed; passed = reached }
  where
    after : delay x < f
    after = omega arith

    missed : (k : ℕ) → n ≤ k → k < t + delay x → reachable x k ≡ false
    missed k p q = go (lt-or-le k f)
      where
        go : (k < f) ⊎ (f ≤ k) → reachable x k ≡ false
        go (inl l) = reach-after x k (first_past n (delay x) k p (omega arith))
        go (inr l) = sym (reach-later x passed steady f k after l) ∙ w.missed (k - delay x) (omega arith) (omega arith)

    reached : t + delay x ≤ last → reachable x (t + delay x) ≡ true
    reached l =
        sym (reach-later x passed steady f (t + delay x) after (omega (arith, w.low)))
        ∙ ap (between_at (leg x f) (required_sum x f) (drift x)) {x = t + delay x - delay x} {y = t} (omega arith)
        ∙ w.passed (omega arith)
