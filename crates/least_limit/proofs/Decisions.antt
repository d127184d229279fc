-- Rule 4 decided by the upper envelope alone: of a leg that goes at least as far as the straight
-- line between its ends, else of the leg mirrored; and so of an axis with any limits, by its task
-- (`task-ahead`, `task-behind`).
use Prim.Native.Nat.{ℕ, ◌+◌, ◌-◌, ◌*◌, ◌%◌, ◌^◌, ◌≤◌, ◌<◌, max}
use mathlib.Core.Path.{◌≡◌, refl, sym, ap, subst, ◌∙◌}
use mathlib.Core.Bool.{Bool, true, ◌&&◌}
use mathlib.Core.List.{[], ◌∷◌}
use native.Mathlib.Omega.{arith}
use native.Mathlib.Nat.{mul_assoc}
use lib.Dec.{T, leb, leb→le, le→leb, eqb, ltb}
use lib.IntN.{ℤ, pos, neg_ℤ, nat_abs, ◌+ℤ◌, ◌-ℤ◌, ◌*ℤ◌}
use lib.Signed.{le_z, shr_z, ◌≤ℤ◌, ◌<ℤ◌}
use Rattle.whole.specs.Integers.{sum_to}
use Rattle.whole.proofs.Differences.{whole, all₂}
use Rattle.whole.proofs.Laws.{nat_abs-neg}
use Rattle.whole.proofs.Bounds.{add_holds, neg-holds, shr-holds}
use Rattle.whole.proofs.Ring.{pol, same}
use Rattle.whole.proofs.Tests.{both, and, and_yes, true-T, ltb_yes}
use Rattle.model.specs.declared.Axis.{Axis}
use Rattle.model.specs.planning.Quantities.{fine_steps, delay, finer}
use Rattle.model.specs.planning.Leg.{Leg, upper, required, twice_required, sum_is_whole, tests, feasible}
use Rattle.model.specs.planning.Motion.{reachable, leg, displacement, start_velocity, landing_velocity}
use Rattle.model.specs.planning.Motion.{arrival_velocity}
use Rattle.model.specs.planning.Motion.{landing_tick}
use Rattle.model.specs.calls.Raises.{with_limits}
use Rattle.model.specs.planning.Refusals.{Passed, last_tick}
use Rattle.theorems.proofs.legs.Envelopes.{Joined}
use Rattle.theorems.proofs.legs.FeasibleTests.{every, feasible-joined, feasible-below}
use Rattle.theorems.proofs.motions.Grid.{finer-range, speed-range, acceleration-some}
use Rattle.theorems.proofs.jobs.PassedAxis.{speed-limit, some-acceleration, acceleration-limit}
use Rattle.theorems.proofs.legs.WholeSum.{sum-is-whole}
use Rattle.envelopes.proofs.EnvelopeSums.{mirrored}
use Rattle.least_limit.specs.Limits.{enough, TaskRanged}
use Rattle.least_limit.specs.Tasks.{task_with, fastest_of, TaskIs}
use Rattle.envelopes.proofs.Mirrors.{same_truth, feasible-mirrored}
use Rattle.envelopes.proofs.StraightLine.{above_lower}

-- ---- a leg, whose displacement is d and whose velocity at the arrival is w

-- rule 4 after its first test
abbrev reaches : Leg → ℤ → ℤ → Bool
reaches g d w = leb (nat_abs g.end) g.speed_limit && (leb (nat_abs w) g.speed_limit && feasible g d)

-- the same by the upper envelope alone
abbrev comes_up : Leg → ℤ → ℕ → Bool
comes_up g d fastest =
    leb fastest g.speed_limit
    && (leb (nat_abs (g.end -ℤ g.start)) (g.acceleration_limit * g.ticks)
    && le_z (required g d) (sum_to (upper g) (g.ticks - 1)))

module _ (g : Leg) (d w : ℤ) (some : 0 < g.ticks) where
  abbrev L : ℕ
  L = g.speed_limit

  ahead : (pos g.ticks *ℤ (g.start +ℤ g.end)) ≤ℤ d → sum_is_whole g d ≡ true
      → reaches g d w ≡ comes_up g d (fastest_of g.start g.end w)
  ahead far even = same_truth _ _ there back
    where
      e : Bool
      e = leb (nat_abs g.end) L

      a : Bool
      a = leb (nat_abs w) L

      f : Bool
      f = leb (fastest_of g.start g.end w) L

      n : Bool
      n = leb (nat_abs (g.end -ℤ g.start)) (g.acceleration_limit * g.ticks)

      u : Bool
      u = le_z (required g d) (sum_to (upper g) (g.ticks - 1))

      there : T (reaches g d w) → T (comes_up g d (fastest_of g.start g.end w))
      there t =
          let arrives = both a (feasible g d) (both e (a && feasible g d) t).1 in
          let j = feasible-joined g d arrives.1 in
          let slow = leb→le (nat_abs w) L arrives.0 in
          and f (n && u) (le→leb (fastest_of g.start g.end w) L (omega (arith, j.start, j.end, slow)))
          (and n u (le→leb (nat_abs (g.end -ℤ g.start)) (g.acceleration_limit * g.ticks) j.apart)
          (feasible-below g d arrives.1).le)

      back : T (comes_up g d (fastest_of g.start g.end w)) → T (reaches g d w)
      back t =
          let slow = leb→le (fastest_of g.start g.end w) L (both f (n && u) t).0 in
          let rest = both n u (both f (n && u) t).1 in
          let s : nat_abs g.start ≤ L = omega arith in
          let l : nat_abs g.end ≤ L = omega arith in
          let r : nat_abs w ≤ L = omega arith in
          let near = leb→le (nat_abs (g.end -ℤ g.start)) (g.acceleration_limit * g.ticks) rest.0 in
          let j : Joined g = record { start = s; end = l; apart = near } in
          and e (a && feasible g d) (le→leb (nat_abs g.end) L l)
          (and a (feasible g d) (le→leb (nat_abs w) L r)
          (every (tests g d) (
            le→leb (nat_abs g.start) L s,
            (
              le→leb (nat_abs g.end) L l,
              (rest.0, (true-T even, ((above_lower g j some d far).le, (rest.1, tt)))),
            ),
          )))

-- behind the line: the mirrored leg is ahead of it
behind : (g : Leg) (d w : ℤ) → 0 < g.ticks → 0 < g.acceleration_limit → g.speed_limit ≤ 2 ^ 37
    → d <ℤ (pos g.ticks *ℤ (g.start +ℤ g.end))
    → sum_is_whole g d ≡ true → reaches g d w ≡ comes_up (mirrored g) (neg_ℤ d) (fastest_of g.start g.end w)
behind g d w some strong slow far even =
    (λ i.
    leb (sym (nat_abs-neg g.end) i) g.speed_limit
    && (leb (sym (nat_abs-neg w) i) g.speed_limit && feasible-mirrored g d some strong slow i))
    ∙ ahead (mirrored g) (neg_ℤ d) (neg_ℤ w) some over even-too
    ∙ (λ i. comes_up (mirrored g) (neg_ℤ d)
    (max (nat_abs-neg g.start i) (max (nat_abs-neg g.end i) (nat_abs-neg w i))))
  where
    turned : (t s e : ℤ) → t *ℤ (neg_ℤ s +ℤ neg_ℤ e) ≡ neg_ℤ (t *ℤ (s +ℤ e))
    turned t s e = same (t ∷ s ∷ e ∷ []) (search pol depth 20 fits 9000) tt

    flip : (x y : ℤ) → x <ℤ y → neg_ℤ y ≤ℤ neg_ℤ x
    flip = all₂ _ (λ a b c d. simp whole (omega arith))

    over : (pos g.ticks *ℤ (neg_ℤ g.start +ℤ neg_ℤ g.end)) ≤ℤ neg_ℤ d
    over = subst (λ (z : ℤ). z ≤ℤ neg_ℤ d) (sym (turned (pos g.ticks) g.start g.end)) (flip d _ far)

    twice : (d s e : ℤ) → neg_ℤ d -ℤ neg_ℤ s -ℤ neg_ℤ e ≡ neg_ℤ (d -ℤ s -ℤ e)
    twice d s e = same (d ∷ s ∷ e ∷ []) (search pol depth 20 fits 9000) tt

    even-too : sum_is_whole (mirrored g) (neg_ℤ d) ≡ true
    even-too =
        ap (λ (z : ℤ). eqb (nat_abs z % 2) 0) (twice d g.start g.end)
        ∙ ap (λ (n : ℕ). eqb (n % 2) 0) (nat_abs-neg (twice_required g d))
        ∙ even

-- ---- an axis

-- the tests of a task, with the limits l and m, are those of the leg with these limits on a
-- grid of f steps in a fine step
on-grid : (x : Axis) (s e d : ℤ) (ticks fastest l m : ℕ)
    → enough (task_with x s e d ticks fastest) l m
    ≡ comes_up
    (record {
      ticks = ticks;
      start = s;
      end = e;
      speed_limit = finer x * (fine_steps * l);
      acceleration_limit = finer x * (fine_steps * m);
    }) d fastest
unfolding enough
on-grid x s e d ticks fastest l m =
    λ i.
    leb fastest (speed i)
    && (leb (nat_abs (e -ℤ s)) (near i)
    && le_z (shr_z (d -ℤ s -ℤ e) 2) (sum_to (upper (at (speed i) (strong i))) (ticks - 1)))
  where
    speed : finer x * fine_steps * l ≡ finer x * (fine_steps * l)
    speed = mul_assoc (finer x) fine_steps l

    strong : finer x * fine_steps * m ≡ finer x * (fine_steps * m)
    strong = mul_assoc (finer x) fine_steps m

    near : finer x * fine_steps * ticks * m ≡ finer x * (fine_steps * m) * ticks
    near = omega arith

    at : ℕ → ℕ → Leg
    at l a = record { ticks = ticks; start = s; end = e; speed_limit = l; acceleration_limit = a }

module _ (x : Axis) (n : ℕ) (after : delay x < n) where
  abbrev s : ℤ
  s = start_velocity x

  abbrev e : ℤ
  e = landing_velocity x n

  abbrev d : ℤ
  d = displacement x n

  abbrev w : ℤ
  w = arrival_velocity x n

  some-ticks : 0 < landing_tick x n
  some-ticks = omega arith

  -- with other limits the axis has the same grid, and so the same leg but for them
  opened : (l m : ℕ) → reachable (with_limits l m x) n
      ≡ reaches (leg (with_limits l m x) n) (displacement (with_limits l m x) n)
      (arrival_velocity (with_limits l m x) n)
  opened l m = sym (and_yes (ltb (delay x) n) _ (ltb_yes after) refl)

  decided-ahead : (pos (landing_tick x n) *ℤ (s +ℤ e)) ≤ℤ d → (l m : ℕ)
      → reachable (with_limits l m x) n ≡ enough (task_with x s e d (landing_tick x n) (fastest_of s e w)) l m
  unfolding finer
  decided-ahead far l m =
      opened l m
      ∙ ahead (leg (with_limits l m x) n) d w some-ticks far (sum-is-whole (with_limits l m x) n)
      ∙ sym (on-grid x s e d (landing_tick x n) (fastest_of s e w) l m)

  decided-behind : d <ℤ (pos (landing_tick x n) *ℤ (s +ℤ e)) → (l m : ℕ) → l ≤ 1048576 → 0 < m
      → reachable (with_limits l m x) n
      ≡ enough (task_with x (neg_ℤ s) (neg_ℤ e) (neg_ℤ d) (landing_tick x n) (fastest_of s e w)) l m
  unfolding finer
  decided-behind far l m slow strong =
      opened l m
      ∙ behind (leg (with_limits l m x) n) d w some-ticks (acceleration-some (with_limits l m x) strong)
      (speed-range (with_limits l m x) slow) far
      (sum-is-whole (with_limits l m x) n)
      ∙ sym (on-grid x (neg_ℤ s) (neg_ℤ e) (neg_ℤ d) (landing_tick x n) (fastest_of s e w) l m)

-- ---- ranges

-- s and e are the velocities of the ends, or both are negated
task-ranged : (x : Axis) (s e d : ℤ) (ticks fastest : ℕ) → Passed x → nat_abs s ≤ fastest
    → nat_abs e ≤ fastest → fastest ≤ 2 ^ 48
    → nat_abs d ≤ 2 ^ 60 → 0 < ticks → ticks ≤ 4096 → TaskRanged (task_with x s e d ticks fastest)
task-ranged x s e d ticks fastest p hs he hf hd some few =
    record {
      start = hs;
      end = he;
      fastest = hf;
      some = some;
      ticks = few;
      sum = record { within = shr-holds (d -ℤ s -ℤ e) 2 (2 ^ 61) (omega (arith, twice)) };
      one = omega (arith, (finer-range x).0);
      steps = omega (arith, (finer-range x).1);
      speed = speed-limit x p;
      stronger = some-acceleration x p;
      acceleration = acceleration-limit x p;
    }
  where
    twice : nat_abs (d -ℤ s -ℤ e) ≤ 2 ^ 60 + fastest + fastest
    twice = add_holds (d -ℤ s) (neg_ℤ e) (2 ^ 60 + fastest) fastest
        (add_holds d (neg_ℤ s) (2 ^ 60) fastest hd (neg-holds s fastest hs)) (neg-holds e fastest he)

-- ---- the task of an axis

module _ (x : Axis) (n : ℕ) (after : delay x < n) (p : Passed x) (last : n ≤ last_tick)
    (fast : fastest_of (start_velocity x) (landing_velocity x n) (arrival_velocity x n) ≤ 2 ^ 48)
    (far : nat_abs (displacement x n) ≤ 2 ^ 60) where
  abbrev fastest : ℕ
  fastest = fastest_of (start_velocity x) (landing_velocity x n) (arrival_velocity x n)

  pub task-ahead : (pos (landing_tick x n) *ℤ (start_velocity x +ℤ landing_velocity x n)) ≤ℤ displacement x n
      → TaskIs x n (task_with x (start_velocity x) (landing_velocity x n) (displacement x n) (landing_tick x n) fastest)
  task-ahead over =
      record {
        ranged =
            task-ranged x (start_velocity x) (landing_velocity x n) (displacement x n) (landing_tick x n) fastest p
            (omega arith) (omega arith) fast far
            (omega arith) (omega arith);
        speed = refl;
        acceleration = refl;
        decides = λ l m slow strong. decided-ahead x n after over l m;
      }

  pub task-behind : displacement x n <ℤ (pos (landing_tick x n) *ℤ (start_velocity x +ℤ landing_velocity x n))
      → TaskIs x n
      (task_with x (neg_ℤ (start_velocity x)) (neg_ℤ (landing_velocity x n))
      (neg_ℤ (displacement x n)) (landing_tick x n) fastest)
  task-behind under =
      record {
        ranged =
            task-ranged x (neg_ℤ (start_velocity x)) (neg_ℤ (landing_velocity x n))
            (neg_ℤ (displacement x n)) (landing_tick x n) fastest p
            (omega (arith, nat_abs-neg (start_velocity x))) (omega (arith, nat_abs-neg (landing_velocity x n))) fast
            (omega (arith, nat_abs-neg (displacement x n), far)) (omega arith) (omega arith);
        speed = refl;
        acceleration = refl;
        decides = decided-behind x n after under;
      }
