use Prim.Native.Nat.{ℕ, ◌+◌, ◌%◌, ◌≤◌, ◌<◌}
use native.Mathlib.Omega.{arith}
use mathlib.Core.Path.{◌≡◌, refl, sym, ap, subst, ◌∙◌}
use mathlib.Core.Bool.{Bool, true}
use mathlib.Core.Logic.{◌⊎◌, inl, inr}
use lib.ListN.{length}
use lib.Seq.{get_or-take}
use Rattle.std.proofs.lemmas.List.{length-take-le}
use Rattle.whole.proofs.Tests.{lt-or-le}
use Rattle.whole.specs.Candidates.{Next}
use Rattle.reach.specs.Halving.{Loses}
use Rattle.model.specs.declared.Axis.{Axis}
use Rattle.model.specs.planning.Outcome.{all_reach}
use Rattle.model.specs.planning.Job.{set_axes, unset_axis}
use Rattle.model.specs.planning.Refusals.{Passed}
use Rattle.arrival.specs.Arrivals.{reached_by}
use Rattle.arrival.proofs.Leading.{bits-first, bits-later, reach, passed-at, reach_of, axis-misses}
use Rattle.arrival.proofs.Leading.{every-axis, reach-between, reach-loses}
use Rattle.arrival.proofs.Leading.{Led, turn-done, led-all, led-nowhere}
use Rattle.arrival.proofs.lead_on.least_reached.Goals as goal
use Rattle.arrival.proofs.lead_on.least_reached.Goals.{then-n-next, else-n-next, After-next_for-next, After-loop-number}
use Rattle.arrival.proofs.lead_on.least_reached.Goals.{After-drops_out}

one_more : (f : ℕ → Bool) (n : ℕ) → ((j : ℕ) → j < n → f j ≡ true) → f n ≡ true → (j : ℕ) → j < n + 1 → f j ≡ true
one_more f n e h j p = go (lt-or-le j n)
  where
    go : (j < n) ⊎ (n ≤ j) → f j ≡ true
    go (inl l) = e j l
    go (inr l) = ap f {x = j} {y = n} (omega arith) ∙ h

pub loop-number-init : goal.loop-number-init
loop-number-init c =
    record {
      bits = bits-first c.args.mask;
      inside = λ h. absurd (omega arith);
      led =
          record {
            low = omega arith;
            high = c.requires.first_bound;
            missed = λ k p q. absurd (omega arith);
            held = λ j p. absurd (omega arith);
            turned = λ j p. absurd (omega arith);
            few = omega arith;
            upper = λ j p q. absurd (omega arith);
          };
    }

pub next_for-next-requires-clause-passed : goal.next_for-next-requires-clause-passed
next_for-next-requires-clause-passed c =
    let l = c.loop-number in
    let a = c.args in
    passed-at a.mask a.axes c.requires.all_passed l.number l.bits l.invariant.bits (omega arith)

-- the turn of an axis, after which so many are asked again
turn : (c : After-next_for-next) (again : ℕ)
    → (c.loop-number.n < c.next_for-next.result → again ≡ c.loop-number.number)
    → (c.next_for-next.result ≤ c.loop-number.n → again ≡ c.loop-number.again)
    → Led (all_reach (set_axes 0 c.args.mask c.args.axes)) (reach c.args.mask c.args.axes) c.args.first c.args.last
    (c.loop-number.number + 1) again c.next_for-next.result
turn c again led-on left =
    let l = c.loop-number in
    let mask = c.args.mask in
    let axes = c.args.axes in
    let here : l.number < length axes = omega arith in
    turn-done (all_reach (set_axes 0 mask axes)) (reach mask axes) c.args.first c.args.last l.number l.again
    l.n l.invariant.led _
    (reach_of mask axes l.number l.bits l.n c.args.last _ l.invariant.bits c.next_for-next.ensures)
    (axis-misses mask axes l.number here)
    (λ i h. reach-between mask axes c.requires.all_passed i (omega (arith, here))) again led-on left

-- past the last
pub returns-then-last-next : goal.returns-then-last-next
returns-then-last-next c = go (lt-or-le c.loop-number.n c.next_for-next.result)
  where
    past : (again : ℕ)
        → Led (all_reach (set_axes 0 c.args.mask c.args.axes)) (reach c.args.mask c.args.axes) c.args.first c.args.last
        (c.loop-number.number + 1) again c.next_for-next.result
        → Next (all_reach (set_axes 0 c.args.mask c.args.axes)) c.args.first c.args.last c.next_for-next.result
    past again t =
        record {
          low = t.low;
          high = t.high;
          missed = t.missed;
          passed = λ h. absurd
              (omega (arith, c.if-last-next.true));
        }

    go : (c.loop-number.n < c.next_for-next.result) ⊎ (c.next_for-next.result ≤ c.loop-number.n)
        → Next (all_reach (set_axes 0 c.args.mask c.args.axes)) c.args.first c.args.last c.next_for-next.result
    go (inl u) = past _ (turn c.before c.loop-number.number (λ h. refl) (λ h. absurd (omega arith)))
    go (inr u) = past _ (turn c.before c.loop-number.again (λ h. absurd (omega arith)) (λ h. refl))

pub loop-number-preserved : goal.loop-number-preserved
loop-number-preserved c =
    let b = c.before.before in
    let l = c.loop-number in
    let again : (c.loop-number.n < c.next_for-next.result → c.if-n-next.again ≡ c.loop-number.number)
    × (c.next_for-next.result ≤ c.loop-number.n → c.if-n-next.again ≡ c.loop-number.again) =
    elim c.if-n-next.branch [
      | then-n-next w ↦ ((λ h. w.again-is), (λ h. absurd (omega (arith, h, w.if-n-next.true))))
      | else-n-next w ↦ ((λ h. absurd (omega (arith, h, w.if-n-next.false))), (λ h. w.again-is))
    ] in
    record {
      bits = bits-later c.args.mask l.number l.bits l.invariant.bits;
      inside = λ h. c.if-last-next.false;
      led = turn b c.if-n-next.again again.0 again.1;
    }

pub loop-axis-init : goal.loop-axis-init
loop-axis-init c = record { bits = bits-first c.args.mask; lower = λ j h. absurd (omega arith) }

pub drops_out-requires-clause-passed : goal.drops_out-requires-clause-passed
drops_out-requires-clause-passed c =
    let l = c.loop-axis in
    let a = c.args in
    let many = length-take-le c.loop-number.again a.axes (omega (arith, c.loop-number.invariant.led.few)) in
    subst (λ (x : Axis). l.left % 2 ≡ 1 → Passed x)
    (sym (get_or-take c.loop-number.again a.axes l.axis-index unset_axis (omega (arith, many))))
    (passed-at a.mask a.axes c.requires.all_passed l.axis-index l.left l.invariant.bits (omega arith))

-- an axis is asked again
asked : (c : After-drops_out)
    → Loses (reach c.args.mask c.args.axes c.loop-axis.axis-index) c.loop-number.n c.drops_out.result
asked c =
    let l = c.loop-axis in
    let a = c.args in
    let many = length-take-le c.loop-number.again a.axes (omega (arith, c.loop-number.invariant.led.few)) in
    let n = c.loop-number.n in
    reach-loses a.mask a.axes l.axis-index l.left n _ l.invariant.bits
    (subst (λ (x : Axis). Loses (reached_by l.left x) n c.drops_out.result)
    (get_or-take c.loop-number.again a.axes l.axis-index unset_axis (omega (arith, many))) c.drops_out.ensures)

pub returns-then-drops_out : goal.returns-then-drops_out
returns-then-drops_out c =
    let f = c.loop-number in
    let a = c.args in
    let many = length-take-le c.loop-number.again a.axes (omega (arith, c.loop-number.invariant.led.few)) in
    led-nowhere (all_reach (set_axes 0 a.mask a.axes)) (reach a.mask a.axes) a.first a.last f.number
    f.again f.n f.invariant.led
    (λ i h. axis-misses a.mask a.axes i (omega (arith, h)))
    (λ k e. every-axis a.mask a.axes k (λ j h. e j (omega (arith, h))))
    c.loop-axis.axis-index (omega (arith, many, f.invariant.led.few)) ((asked c.before).lost c.if-drops_out.true)

pub loop-axis-preserved : goal.loop-axis-preserved
loop-axis-preserved c =
    let l = c.loop-axis in
    let f = c.loop-number in
    let a = c.args in
    let many = length-take-le c.loop-number.again a.axes (omega (arith, c.loop-number.invariant.led.few)) in
    let few : l.axis-index < f.number = omega (arith, many, f.invariant.led.few) in
    let t = f.invariant.led.turned l.axis-index few (f.invariant.inside (omega arith)) in
    record {
      bits = bits-later a.mask l.axis-index l.left l.invariant.bits;
      lower = one_more (λ j. reach a.mask a.axes j f.n) l.axis-index l.invariant.lower
          ((asked c.before).kept c.if-drops_out.false t.0 t.1.0 t.1.1);
    }

pub returns : goal.returns
returns c =
    let l = c.loop-axis in
    let f = c.loop-number in
    let a = c.args in
    let many = length-take-le c.loop-number.again a.axes (omega (arith, c.loop-number.invariant.led.few)) in
    led-all (all_reach (set_axes 0 a.mask a.axes)) (reach a.mask a.axes) a.first a.last f.number
    f.again f.n f.invariant.led
    (λ i h. axis-misses a.mask a.axes i (omega (arith, h)))
    (λ k e. every-axis a.mask a.axes k (λ j h. e j (omega (arith, h))))
    (f.invariant.inside (omega arith)) (λ j h. l.invariant.lower j (omega (arith, h, many)))
