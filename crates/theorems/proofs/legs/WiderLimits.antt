-- An axis with limits at least as high keeps every arrival that it reaches: the same list meets
-- rule 4. And it passes the refusals of one axis.
use Prim.Native.Nat.{ℕ, ◌*◌, ◌≤◌, ◌<◌}
use mathlib.Core.Path.{◌≡◌, refl}
use mathlib.Core.Bool.{Bool, true, false, not, ◌&&◌}
use native.Mathlib.Omega.{arith}
use native.Mathlib.Nat.{le_trans, mul-le-mul_left}
use lib.Dec.{T, leb, leb→le, le→leb}
use lib.IntN.{ℤ, nat_abs}
use Rattle.whole.proofs.Tests.{both, and, not-false-T}
use Rattle.model.specs.declared.Axis.{Axis}
use Rattle.model.specs.declared.RestPoint.{RestPoint}
use Rattle.model.specs.declared.Target.{Target}
use Rattle.model.specs.declared.Target.TheVariants.{Fixed, Moving}
use Rattle.model.specs.planning.Quantities.{fine_steps, speed_limit, acceleration_limit, finer, speed_steps}
use Rattle.model.specs.planning.Quantities.{acceleration_steps}
use Rattle.model.specs.planning.Leg.{Leg, Feasible}
use Rattle.model.specs.planning.Motion.{Reachable, reachable, leg, displacement}
use Rattle.model.specs.calls.Raises.{with_limits}
use Rattle.model.specs.planning.Refusals.{within, last_tick, position_allowed, velocity_allowed, rest_allowed}
use Rattle.model.specs.planning.Refusals.{motion_allowed, target_allowed, Passed}
use Rattle.theorems.proofs.jobs.PassedAxis.{some-speed, some-acceleration}
use Rattle.theorems.proofs.motions.Reaches.{reachable-is}

-- a leg with other limits
abbrev limited : Leg → ℕ → ℕ → Leg
limited g l a = record { ticks = g.ticks; start = g.start; end = g.end; speed_limit = l; acceleration_limit = a }

wider : (g : Leg) (δ : ℤ) (l a : ℕ) → g.speed_limit ≤ l → g.acceleration_limit ≤ a
    → Feasible g δ → Feasible (limited g l a) δ
wider g δ l a hl ha (w, m) = (
  w,
  record {
    starts = m.starts;
    ends = m.ends;
    speeds = λ k h. le_trans (m.speeds k h) hl;
    changes = λ k h. le_trans (m.changes k h) ha;
    travels = m.travels;
  },
)

-- a test that holds in x holds in y, taken apart and put together again
both-follow : (a b c d : Bool) → (T a → T c) → (T b → T d) → T (a && b) → T (c && d)
both-follow a b c d f g t = and c d (f (both a b t).0) (g (both a b t).1)

not-refused : (b : Bool) → T b → not b ≡ false
not-refused true t = refl
not-refused false t = absurd t

follows : (m a b : ℕ) → a ≤ b → T (leb m a) → T (leb m b)
follows m a b h t = le→leb m b (le_trans (leb→le m a t) h)

in-range : (a b n : ℕ) → a ≤ n → n ≤ b → T (within a b n)
in-range a b n h k = and (leb a n) (leb n b) (le→leb a n h) (le→leb n b k)

module _ (x : Axis) (l a : ℕ) (faster : speed_limit x ≤ l) (stronger : acceleration_limit x ≤ a) where
  abbrev y : Axis
  y = with_limits l a x

  -- ---- arrivals

  pub wider-reaches : (n : ℕ) → Reachable x n → Reachable (with_limits l a x) n
  unfolding finer
  wider-reaches n r =
      record {
        after = r.after;
        landed = le_trans r.landed speeds;
        arrived = le_trans r.arrived speeds;
        moves = wider (leg x n) (displacement x n) (finer x * (fine_steps * l))
            (finer x * (fine_steps * a)) speeds changes r.moves;
      }
    where
      speeds : speed_steps x ≤ finer x * (fine_steps * l)
      speeds = mul-le-mul_left (finer x) (mul-le-mul_left fine_steps faster)

      changes : acceleration_steps x ≤ finer x * (fine_steps * a)
      changes = mul-le-mul_left (finer x) (mul-le-mul_left fine_steps stronger)

  -- the same of the decision
  pub wider-decided : (n : ℕ) → 0 < acceleration_limit x → l ≤ 1048576 → T (reachable x n)
      → T (reachable (with_limits l a x) n)
  wider-decided n some range t =
      (reachable-is y n (omega arith) range).0 (wider-reaches n ((reachable-is x n some (omega arith)).1 t))

  -- ---- refusals

  rest-follows : (p : RestPoint) → T (rest_allowed x p) → T (rest_allowed y p)
  rest-follows p =
      both-follow (position_allowed p.position) (velocity_allowed x p.velocity) (position_allowed p.position)
      (velocity_allowed y p.velocity)
      (λ t. t) (follows (nat_abs p.velocity) (speed_limit x) l faster)

  target-follows : (g : Target) → T (target_allowed x g) → T (target_allowed y g)
  target-follows (Fixed p) = rest-follows p
  target-follows (Moving m) =
      both-follow (rest_allowed x at) (motion_allowed x m) (rest_allowed y at) (motion_allowed y m) (rest-follows at)
      (both-follow (leb (nat_abs m.acceleration) (acceleration_limit x)) (leb (nat_abs m.tick) last_tick)
      (leb (nat_abs m.acceleration) a) (leb (nat_abs m.tick) last_tick)
      (follows (nat_abs m.acceleration) (acceleration_limit x) a stronger) (λ t. t))
    where
      at : RestPoint
      at = record { position = m.position; velocity = m.velocity }

  pub wider-passes : Passed x → l ≤ 1048576 → a ≤ 65536 → Passed (with_limits l a x)
  wider-passes p hl ha =
      record {
        limits =
            not-refused (within 1 1048576 l && within 1 65536 a)
            (and (within 1 1048576 l) (within 1 65536 a) (in-range 1 1048576 l (omega (arith, some-speed x p)) hl)
            (in-range 1 65536 a (omega (arith, some-acceleration x p)) ha));
        damping = p.damping;
        blend = p.blend;
        sway = p.sway;
        values =
            not-refused (rest_allowed y x.start && target_allowed y x.target)
            (both-follow (rest_allowed x x.start) (target_allowed x x.target)
            (rest_allowed y x.start) (target_allowed y x.target)
            (rest-follows x.start) (target-follows x.target)
            (not-false-T (rest_allowed x x.start && target_allowed x x.target) p.values));
        acceleration = p.acceleration;
        resting = p.resting;
      }
