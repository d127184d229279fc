-- Reach is a threshold: an axis that reaches an arrival reaches every later one at which the
-- target is not too fast (`reach-goes-on`, `reach-is-a-threshold`), and the ticks at which it
-- is not are one run (`slow-between`).
use Prim.Native.Nat.{ℕ, zero, suc, ◌+◌, ◌-◌, ◌*◌, ◌≤◌, ◌<◌}
use mathlib.Core.Path.{◌≡◌, refl, sym, ap, subst, ◌∙◌}
use mathlib.Core.Bool.{true, false}
use mathlib.Core.List.{[], ◌∷◌}
use mathlib.Core.Logic.{◌↔◌, ◌⊎◌, inl, inr}
use native.Mathlib.Omega.{arith}
use native.Mathlib.Nat.{mul-le-mul}
use native.Mathlib.Numerals.{add-one}
use lib.Dec.{T, leb, eqb, eqb→eq}
use lib.IntN.{ℤ, pos, negsuc, nat_abs, ◌+ℤ◌, ◌-ℤ◌, ◌*ℤ◌}
use Rattle.whole.proofs.Differences.{whole, all₁}
use Rattle.whole.proofs.Laws.{nat_abs-zero, nat_abs-*}
use Rattle.whole.proofs.Ring.{pol, same}
use Rattle.whole.proofs.Tests.{T_true, T_false, true-T, not-false-T, choice-yes, choice-no, leb_yes, leb_no, lt-or-le}
use Rattle.model.specs.declared.Axis.{Axis}
use Rattle.model.specs.declared.RestPoint.{RestPoint}
use Rattle.model.specs.declared.State.{State}
use Rattle.model.specs.declared.Target.{Target}
use Rattle.model.specs.declared.Target.TheVariants.{Fixed, Moving}
use Rattle.model.specs.planning.Quantities.{fine_steps, acceleration_limit, half_period, second_weight, delay}
use Rattle.model.specs.planning.Quantities.{as_moving}
use Rattle.model.specs.planning.Quantities.{finer, speed_steps, acceleration_steps}
use Rattle.model.specs.planning.Leg.{Leg, Meets, Feasible, travelled}
use Rattle.model.specs.planning.Motion.{shift, start_position, start_velocity, landing_position, landing_velocity}
use Rattle.model.specs.planning.Motion.{landing_acceleration, arrival_velocity, leg, displacement, Reachable, reachable}
use Rattle.model.specs.planning.Refusals.{flies, Passed}
use Rattle.theorems.specs.Threshold.{Slow}
use Rattle.theorems.proofs.jobs.PassedAxis.{some-acceleration, speed-limit, target-acceleration}
use Rattle.theorems.proofs.motions.Reaches.{reachable-is}

-- ---- a list with one entry more

-- the list w up to tick t, and v after it
module _ (w : ℕ → ℤ) (t : ℕ) (v : ℤ) where
  abbrev further : ℕ → ℤ
  further k = elim (leb k t) as (λ _. ℤ) [ true ↦ w k | false ↦ v ]

  stays : (k : ℕ) → k ≤ t → further k ≡ w k
  stays k h = sym (choice-yes (leb k t) (w k) v (leb_yes h))

  comes : further (suc t) ≡ v
  comes = sym (choice-no (leb (suc t) t) (w (suc t)) v (leb_no {m = suc t} {n = t} (omega arith)))

travelled-same : (u w : ℕ → ℤ) (n : ℕ) → ((k : ℕ) → k ≤ n → u k ≡ w k) → travelled u n ≡ travelled w n
travelled-same u w zero e = refl
travelled-same u w (suc n) e =
    let t = travelled-same u w n (λ k h. e k (omega arith)) in
    let a = e n (omega arith) in
    let b = e (suc n) (omega arith) in
    λ i. t i +ℤ (pos 2 *ℤ a i +ℤ (b i -ℤ a i))

-- the leg with one tick more, at whose end the velocity is α more
abbrev one_tick_more : Leg → ℤ → Leg
one_tick_more g α =
    record {
      ticks = suc g.ticks;
      start = g.start;
      end = g.end +ℤ α;
      speed_limit = g.speed_limit;
      acceleration_limit = g.acceleration_limit;
    }

more-after : (e α : ℤ) → (e +ℤ α) -ℤ e ≡ α
more-after e α = same (e ∷ α ∷ []) (search pol depth 20 fits 9000) tt

module _ (g : Leg) (d α : ℤ) (w : ℕ → ℤ) (m : Meets g d w) (slow : nat_abs (g.end +ℤ α) ≤ g.speed_limit)
    (small : nat_abs α ≤ g.acceleration_limit) where
  abbrev u : ℕ → ℤ
  u = further w g.ticks (g.end +ℤ α)

  was : (k : ℕ) → k ≤ g.ticks → u k ≡ w k
  was = stays w g.ticks (g.end +ℤ α)

  ended : u g.ticks ≡ g.end
  ended = was g.ticks (omega arith) ∙ m.ends

  last : u (suc g.ticks) ≡ g.end +ℤ α
  last = comes w g.ticks (g.end +ℤ α)

  last-change : u (suc g.ticks) -ℤ u g.ticks ≡ α
  last-change = (λ i. last i -ℤ ended i) ∙ more-after g.end α

  one_more : Meets (one_tick_more g α) (d +ℤ (pos 2 *ℤ g.end +ℤ α)) u
  one_more =
      record {
        starts = was 0 (omega arith) ∙ m.starts;
        ends = last;
        speeds = speeds;
        changes = changes;
        travels = travels;
      }
    where
      speeds : (k : ℕ) → k ≤ suc g.ticks → nat_abs (u k) ≤ g.speed_limit
      speeds k h = go (lt-or-le g.ticks k)
        where
          go : (g.ticks < k) ⊎ (k ≤ g.ticks) → nat_abs (u k) ≤ g.speed_limit
          go (inl l) =
              let e : suc g.ticks ≡ k = omega arith in
              subst (λ (j : ℕ). nat_abs (u j) ≤ g.speed_limit) e
              (subst (λ (z : ℤ). nat_abs z ≤ g.speed_limit) (sym last) slow)
          go (inr l) = subst (λ (z : ℤ). nat_abs z ≤ g.speed_limit) (sym (was k l)) (m.speeds k l)

      changes : (k : ℕ) → k < suc g.ticks → nat_abs (u (suc k) -ℤ u k) ≤ g.acceleration_limit
      changes k h = go (lt-or-le k g.ticks)
        where
          go : (k < g.ticks) ⊎ (g.ticks ≤ k) → nat_abs (u (suc k) -ℤ u k) ≤ g.acceleration_limit
          go (inl l) =
              let a = was k (omega arith) in
              let b = was (suc k) l in
              subst (λ (z : ℤ). nat_abs z ≤ g.acceleration_limit) (sym (λ i. b i -ℤ a i)) (m.changes k l)
          go (inr l) =
              let e : g.ticks ≡ k = omega arith in
              subst (λ (j : ℕ). nat_abs (u (suc j) -ℤ u j) ≤ g.acceleration_limit) e
              (subst (λ (z : ℤ). nat_abs z ≤ g.acceleration_limit) (sym last-change) small)

      travels : travelled u (suc g.ticks) ≡ d +ℤ (pos 2 *ℤ g.end +ℤ α)
      travels = let t = travelled-same u w g.ticks was ∙ m.travels in
          λ i. t i +ℤ (pos 2 *ℤ ended i +ℤ last-change i)

feasible-on : (g : Leg) (d α : ℤ) → nat_abs (g.end +ℤ α) ≤ g.speed_limit → nat_abs α ≤ g.acceleration_limit
    → Feasible g d → Feasible (one_tick_more g α) (d +ℤ (pos 2 *ℤ g.end +ℤ α))
feasible-on g d α slow small p = (u g d α p.0 p.1 slow small, one_more g d α p.0 p.1 slow small)

-- ---- the landings of all arrivals lie on one uniformly accelerated motion: f grid steps
-- in a fine step, the shift s, the correction c, and a target at p with velocity v and
-- acceleration a, d ticks after its own

abbrev lands_at : ℤ → ℤ → ℤ → ℤ → ℤ → ℤ → ℤ → ℤ
lands_at f s c p v a d =
    f *ℤ (pos 256 *ℤ (pos 2 *ℤ p +ℤ pos 2 *ℤ (v *ℤ d) +ℤ a *ℤ (d *ℤ d)) +ℤ pos 2 *ℤ (s *ℤ (v +ℤ a *ℤ d))) +ℤ c

abbrev lands_with : ℤ → ℤ → ℤ → ℤ → ℤ → ℤ
lands_with f s v a d = f *ℤ (pos 256 *ℤ (v +ℤ a *ℤ d) +ℤ s *ℤ a)

moving-velocity : (f s v a d : ℤ) → lands_with f s v a (d +ℤ pos 1) ≡ lands_with f s v a d +ℤ f *ℤ (pos 256 *ℤ a)
moving-velocity f s v a d = same (f ∷ s ∷ v ∷ a ∷ d ∷ []) (search pol depth 30 fits 9000) tt

moving-position : (f s c p v a d : ℤ)
    → lands_at f s c p v a (d +ℤ pos 1) ≡ lands_at f s c p v a d
    +ℤ (pos 2 *ℤ lands_with f s v a d +ℤ f *ℤ (pos 256 *ℤ a))
moving-position f s c p v a d = same (f ∷ s ∷ c ∷ p ∷ v ∷ a ∷ d ∷ []) (search pol depth 30 fits 9000) tt

fixed-velocity : (f s v d e : ℤ) → lands_with f s v (pos 0) e ≡ lands_with f s v (pos 0) d +ℤ f *ℤ (pos 256 *ℤ pos 0)
fixed-velocity f s v d e = same (f ∷ s ∷ v ∷ d ∷ e ∷ []) (search pol depth 30 fits 9000) tt

resting-position : (f s c p d e : ℤ)
    → lands_at f s c p (pos 0) (pos 0) e
    ≡ lands_at f s c p (pos 0) (pos 0) d +ℤ (pos 2 *ℤ lands_with f s (pos 0) (pos 0) d +ℤ f *ℤ (pos 256 *ℤ pos 0))
resting-position f s c p d e = same (f ∷ s ∷ c ∷ p ∷ d ∷ e ∷ []) (search pol depth 30 fits 9000) tt

tick-on : (n h : ℕ) (t : ℤ) → h ≤ n → pos (suc n - h) -ℤ t ≡ (pos (n - h) -ℤ t) +ℤ pos 1
tick-on n h t p = ap (λ (i : ℕ). pos i -ℤ t) {x = suc n - h} {y = n - h + 1} (omega arith) ∙ swap (pos (n - h)) t
  where
    swap : (x t : ℤ) → (x +ℤ pos 1) -ℤ t ≡ (x -ℤ t) +ℤ pos 1
    swap x t = same (x ∷ t ∷ []) (search pol depth 20 fits 9000) tt

rests : (r : RestPoint) → flies (Fixed r) ≡ false → r.velocity ≡ pos 0
rests r e = nat_abs-zero r.velocity (eqb→eq (nat_abs r.velocity) 0 (not-false-T (eqb (nat_abs r.velocity) 0) e))

module _ (x : Axis) where
  abbrev F : ℤ
  F = pos (finer x)

  abbrev correction_of : ℤ → ℤ
  correction_of a =
      let h : ℤ = pos (half_period x) in
      let b : ℤ = pos (second_weight x) in
      pos 2 *ℤ (b *ℤ (h *ℤ h) *ℤ (b -ℤ pos 128) *ℤ a)

  abbrev position_of : Target → ℕ → ℤ
  position_of t n =
      let m : State = as_moving t n in
      lands_at F (shift x) (correction_of m.acceleration) m.position m.velocity m.acceleration
      (pos (n - delay x) -ℤ m.tick)

  abbrev velocity_of : Target → ℕ → ℤ
  velocity_of t n =
      let m : State = as_moving t n in
      lands_with F (shift x) m.velocity m.acceleration (pos (n - delay x) -ℤ m.tick)

  abbrev acceleration_of : Target → ℕ → ℤ
  acceleration_of t n = F *ℤ (pos 256 *ℤ (as_moving t n).acceleration)

  velocity-on : (t : Target) (n : ℕ) → delay x ≤ n → velocity_of t (suc n) ≡ velocity_of t n +ℤ acceleration_of t n
  velocity-on (Fixed r) n h =
      fixed-velocity F (shift x) r.velocity (pos (n - delay x) -ℤ pos n) (pos (suc n - delay x) -ℤ pos (suc n))
  velocity-on (Moving m) n h =
      ap (lands_with F (shift x) m.velocity m.acceleration) (tick-on n (delay x) m.tick h)
      ∙ moving-velocity F (shift x) m.velocity m.acceleration (pos (n - delay x) -ℤ m.tick)

  position-on : (t : Target) → flies t ≡ false → (n : ℕ) → delay x ≤ n
      → position_of t (suc n) ≡ position_of t n +ℤ (pos 2 *ℤ velocity_of t n +ℤ acceleration_of t n)
  position-on (Fixed r) e n h =
      let d : ℤ = pos (n - delay x) -ℤ pos n in
      let l : ℤ = pos (suc n - delay x) -ℤ pos (suc n) in
      subst (λ (v : ℤ). lands_at F (shift x) (correction_of (pos 0)) r.position v (pos 0) l
      ≡ lands_at F (shift x) (correction_of (pos 0)) r.position v (pos 0) d
      +ℤ (pos 2 *ℤ lands_with F (shift x) v (pos 0) d +ℤ F *ℤ (pos 256 *ℤ pos 0)))
      (sym (rests r e)) (resting-position F (shift x) (correction_of (pos 0)) r.position d l)
  position-on (Moving m) e n h =
      ap (lands_at F (shift x) (correction_of m.acceleration) m.position m.velocity m.acceleration)
      (tick-on n (delay x) m.tick h)
      ∙ moving-position F (shift x) (correction_of m.acceleration) m.position m.velocity m.acceleration
      (pos (n - delay x) -ℤ m.tick)

  same-acceleration : (t : Target) (n k : ℕ) → acceleration_of t n ≡ acceleration_of t k
  same-acceleration (Fixed r) n k = refl
  same-acceleration (Moving m) n k = refl

-- ---- what is within a limit at both ends of a uniform change is within it between them

line-up : (l a i k : ℕ) (u : ℤ) → i * a ≤ k * a → nat_abs u ≤ l → nat_abs (u +ℤ pos (k * a)) ≤ l
    → nat_abs (u +ℤ pos (i * a)) ≤ l
line-up l a i k = all₁ _ (λ b c. simp whole (omega arith))

line-down : (l a i k : ℕ) (u : ℤ) → i * a ≤ k * a → nat_abs u ≤ l → nat_abs (u -ℤ pos (k * a)) ≤ l
    → nat_abs (u -ℤ pos (i * a)) ≤ l
line-down l a i k = all₁ _ (λ b c. simp whole (omega arith))

line-between : (l i k : ℕ) (u α : ℤ) → i ≤ k → nat_abs u ≤ l → nat_abs (u +ℤ pos k *ℤ α) ≤ l
    → nat_abs (u +ℤ pos i *ℤ α) ≤ l
line-between l i k u (pos a) h p q = line-up l a i k u (mul-le-mul h (omega arith)) p q
line-between l i k u (negsuc a) h p q = line-down l (suc a) i k u (mul-le-mul h (omega arith)) p q

-- ---- an axis that passed: from an arrival after the delay to the next

module _ (x : Axis) (passed : Passed x) where
  small : (n : ℕ) → nat_abs (landing_acceleration x n) ≤ acceleration_steps x
  small n = go (finer x) (as_moving x.target n).acceleration (acceleration_limit x) (target-acceleration x passed n)
    where
      go : (f : ℕ) (a : ℤ) (m : ℕ) → nat_abs a ≤ m → nat_abs (pos f *ℤ (pos fine_steps *ℤ a)) ≤ f * (fine_steps * m)
      go f a m h =
          let fine : nat_abs (pos fine_steps *ℤ a) ≤ fine_steps * m = rw nat_abs-* (omega arith) in
          let same-grid : f ≤ f = omega arith in
          rw nat_abs-* (mul-le-mul same-grid fine)

  pub landing-on : (n : ℕ) → delay x ≤ n → landing_velocity x (suc n) ≡ landing_velocity x n +ℤ landing_acceleration x n
  landing-on n h = velocity-on x x.target n h

  pub acceleration-same : (n k : ℕ) → landing_acceleration x n ≡ landing_acceleration x k
  acceleration-same n k = same-acceleration x x.target n k

  leg-on : (n : ℕ) → delay x ≤ n → one_tick_more (leg x n) (landing_acceleration x n) ≡ leg x (suc n)
  leg-on n h =
      let t : suc (n - delay x) ≡ suc n - delay x = omega arith in
      let v = sym (landing-on n h) in
      λ i. record {
        ticks = t i;
        start = start_velocity x;
        end = v i;
        speed_limit = speed_steps x;
        acceleration_limit = acceleration_steps x;
      }

  way_on : (n : ℕ) → delay x ≤ n
      → displacement x n +ℤ (pos 2 *ℤ landing_velocity x n +ℤ landing_acceleration x n) ≡ displacement x (suc n)
  way_on n h =
      swap (landing_position x n) (start_position x) (pos 2 *ℤ landing_velocity x n +ℤ landing_acceleration x n)
      ∙ ap (λ (z : ℤ). z -ℤ start_position x) (sym (position-on x x.target passed.resting n h))
    where
      swap : (p q d : ℤ) → (p -ℤ q) +ℤ d ≡ (p +ℤ d) -ℤ q
      swap p q d = same (p ∷ q ∷ d ∷ []) (search pol depth 20 fits 9000) tt

  -- an axis that reaches arrival n reaches n + 1, where the target is not too fast by then
  pub reach-goes-on : (n : ℕ) → Slow x (suc n) → Reachable x n → Reachable x (suc n)
  reach-goes-on n s r =
      let h : delay x ≤ n = omega (arith, r.after) in
      record {
        after = omega (arith, r.after);
        landed = s.landed;
        arrived = s.arrived;
        moves =
            subst (λ (g : Leg). Feasible g (displacement x (suc n))) (leg-on n h)
            (subst (Feasible (one_tick_more (leg x n) (landing_acceleration x n))) (way_on n h)
            (feasible-on (leg x n) (displacement x n) (landing_acceleration x n)
            (subst (λ (z : ℤ). nat_abs z ≤ speed_steps x) (landing-on n h) s.landed) (small n) r.moves));
      }

  -- ---- the ticks at which the target is not too fast are one run

  pub landing-later : (n i : ℕ) → delay x ≤ n
      → landing_velocity x (n + i) ≡ landing_velocity x n +ℤ pos i *ℤ landing_acceleration x n
  landing-later n zero h =
      let e : n + 0 ≡ n = omega arith in
      ap (landing_velocity x) e ∙ none (landing_velocity x n) (landing_acceleration x n)
    where
      none : (v a : ℤ) → v ≡ v +ℤ pos 0 *ℤ a
      none v a = same (v ∷ a ∷ []) (search pol depth 20 fits 9000) tt
  landing-later n (suc i) h =
      let e : pos i +ℤ pos 1 ≡ pos (suc i) = ap pos (add-one i) in
      let k : n + suc i ≡ suc (n + i) = omega arith in
      ap (landing_velocity x) k
      ∙ landing-on (n + i) (omega arith)
      ∙ (λ j. landing-later n i h j +ℤ acceleration-same (n + i) n j)
      ∙ more (landing_velocity x n) (pos i) (landing_acceleration x n)
      ∙ ap (λ (z : ℤ). landing_velocity x n +ℤ z *ℤ landing_acceleration x n) e
    where
      more : (v i a : ℤ) → (v +ℤ i *ℤ a) +ℤ a ≡ v +ℤ (i +ℤ pos 1) *ℤ a
      more v i a = same (v ∷ i ∷ a ∷ []) (search pol depth 20 fits 9000) tt

  pub arrival-later : (n i : ℕ) → delay x ≤ n
      → arrival_velocity x (n + i) ≡ arrival_velocity x n +ℤ pos i *ℤ landing_acceleration x n
  arrival-later n i h =
      (λ j. landing-later n i h j +ℤ pos (delay x) *ℤ acceleration-same (n + i) n j)
      ∙ swap (landing_velocity x n) (pos i *ℤ landing_acceleration x n) (pos (delay x) *ℤ landing_acceleration x n)
    where
      swap : (v d e : ℤ) → (v +ℤ d) +ℤ e ≡ (v +ℤ e) +ℤ d
      swap v d e = same (v ∷ d ∷ e ∷ []) (search pol depth 20 fits 9000) tt

  pub slow-between : (n j k : ℕ) → delay x ≤ n → n ≤ j → j ≤ k → Slow x n → Slow x k → Slow x j
  slow-between n j k h p q s t =
      record {
        landed = part (landing_velocity x) (λ i. landing-later n i h) s.landed t.landed;
        arrived = part (arrival_velocity x) (λ i. arrival-later n i h) s.arrived t.arrived;
      }
    where
      part : (f : ℕ → ℤ) → ((i : ℕ) → f (n + i) ≡ f n +ℤ pos i *ℤ landing_acceleration x n)
          → nat_abs (f n) ≤ speed_steps x
          → nat_abs (f k) ≤ speed_steps x → nat_abs (f j) ≤ speed_steps x
      part f e a b =
          let j-is : n + (j - n) ≡ j = omega arith in
          let k-is : n + (k - n) ≡ k = omega arith in
          subst (λ (z : ℤ). nat_abs z ≤ speed_steps x) (sym (e (j - n)) ∙ ap f j-is)
          (line-between (speed_steps x) (j - n) (k - n) (f n) (landing_acceleration x n) (omega arith) a
          (subst (λ (z : ℤ). nat_abs z ≤ speed_steps x) (sym (ap f k-is) ∙ e (k - n)) b))

  -- where the target was not too fast to land, and is not too fast at a later arrival, it is
  -- not too fast to land then either
  pub slow-ahead : (n k : ℕ) → delay x ≤ n → n ≤ k → nat_abs (landing_velocity x n) ≤ speed_steps x
      → nat_abs (arrival_velocity x k) ≤ speed_steps x → Slow x k
  slow-ahead n k h p a b =
      record {
        landed = subst (λ (z : ℤ). nat_abs z ≤ speed_steps x) (sym at-k)
            (line-between (speed_steps x) i (i + delay x) v α (omega arith) a far);
        arrived = b;
      }
    where
      i : ℕ
      i = k - n

      v : ℤ
      v = landing_velocity x n

      α : ℤ
      α = landing_acceleration x n

      at-k : landing_velocity x k ≡ v +ℤ pos i *ℤ α
      at-k =
          let e : k ≡ n + i = omega arith in
          ap (landing_velocity x) e ∙ landing-later n i h

      more : (v i d α : ℤ) → (v +ℤ i *ℤ α) +ℤ d *ℤ α ≡ v +ℤ (i +ℤ d) *ℤ α
      more v i d α = same (v ∷ i ∷ d ∷ α ∷ []) (search pol depth 20 fits 9000) tt

      far : nat_abs (v +ℤ pos (i + delay x) *ℤ α) ≤ speed_steps x
      far =
          subst (λ (z : ℤ). nat_abs z ≤ speed_steps x)
          ((λ j. at-k j +ℤ pos (delay x) *ℤ acceleration-same k n j) ∙ more v (pos i) (pos (delay x)) α) b

  pub slow-of : (n : ℕ) → Reachable x n → Slow x n
  slow-of n r = record { landed = r.landed; arrived = r.arrived }

  -- within the run reach is a threshold
  reach-on : (n i : ℕ) → ((j : ℕ) → n ≤ j → j ≤ n + i → Slow x j) → Reachable x n → Reachable x (n + i)
  reach-on n zero s r =
      let e : n ≡ n + 0 = omega arith in
      subst (Reachable x) e r
  reach-on n (suc i) s r =
      let e : suc (n + i) ≡ n + suc i = omega arith in
      subst (Reachable x) e
      (reach-goes-on (n + i) (s (suc (n + i)) (omega arith) (omega arith))
      (reach-on n i (λ j p q. s j p (omega arith)) r))

  pub reach-is-a-threshold : (n j k : ℕ) → n ≤ j → j ≤ k → Slow x k → Reachable x n → Reachable x j
  reach-is-a-threshold n j k p q s r =
      let e : n + (j - n) ≡ j = omega arith in
      let h : delay x ≤ n = omega (arith, r.after) in
      subst (Reachable x) e (reach-on n (j - n) (λ i a b. slow-between n i k h a (omega arith) (slow-of n r) s) r)

  -- ---- the same of the decision

  decided : (n : ℕ) → Reachable x n ↔ T (reachable x n)
  decided n = reachable-is x n (some-acceleration x passed) (speed-limit x passed)

  pub reached-slow : (n : ℕ) → reachable x n ≡ true → Slow x n
  reached-slow n e = slow-of n ((decided n).1 (true-T e))

  pub reached-later : (n j k : ℕ) → n ≤ j → j ≤ k → Slow x k → reachable x n ≡ true → reachable x j ≡ true
  reached-later n j k p q s e =
      T_true (reachable x j) ((decided j).0 (reach-is-a-threshold n j k p q s ((decided n).1 (true-T e))))

  -- what is not reached was not reached before
  pub missed-before : (n j k : ℕ) → n ≤ j → j ≤ k → reachable x k ≡ true → reachable x j ≡ false → reachable x n ≡ false
  missed-before n j k p q r e =
      T_false (reachable x n) (λ t. clash (reached-later n j k p q (reached-slow k r) (T_true (reachable x n) t)))
    where
      clash : reachable x j ≡ true → ⊥
      clash y = subst T (sym y ∙ e) tt
