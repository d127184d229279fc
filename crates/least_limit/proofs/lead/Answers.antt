use Prim.Native.Nat.{ℕ, ◌+◌, ◌-◌, ◌*◌, ◌<◌}
use mathlib.Core.Path.{◌≡◌, sym, ap, subst, ◌∙◌}
use native.Mathlib.Omega.{arith}
use lib.IntN.{ℤ, pos, nat_abs, ◌+ℤ◌, ◌-ℤ◌}
use lib.Signed.{le_z, ◌<ℤ◌, yes_non_neg, pos-nat_abs}
use mir.Syntax.{w64}
use mir.Val.{to_z, of_z}
use Rattle.whole.specs.Integers.{sum_to}
use Rattle.whole.proofs.Laws.{add-sub, sub-nonneg, <ℤ-weaken}
use Rattle.whole.proofs.Bounds.{sfits, exactly, computed, le_is, le_left}
use Rattle.model.specs.planning.Leg.{Leg, upper}
use Rattle.areas.specs.Areas.{upper_parts}
use Rattle.model.specs.declared.Limit.{Limit}
use Rattle.least_limit.specs.declared.Task.{Task}
use Rattle.least_limit.specs.Limits.{gain_of, ProfileFor}
use Rattle.least_limit.proofs.FallsShort.{leg_with, upper_sum, falls-short, comes-up}
use Rattle.least_limit.proofs.lead.Goals as goal

-- the area, as it is computed of the profile r
sum_is : (t : Task) (q : Limit) (v : ℕ) (r : Leg) → ProfileFor q t v r
    → sum_to (upper r) (r.ticks - 1) ≡ upper_sum t q v
sum_is t q v r h = ap (λ (p : Leg). sum_to (upper p) (p.ticks - 1)) h.is

-- the sum is the area and what is missing
sum-above : (s u : ℤ) → u <ℤ s → s ≡ u +ℤ pos (nat_abs (s -ℤ u))
sum-above s u h =
    sym (add-sub u s) ∙ ap (λ (z : ℤ). u +ℤ z) (sym (pos-nat_abs (s -ℤ u) (yes_non_neg (sub-nonneg u s (<ℤ-weaken h)))))

pub returns-then-sum-reached : goal.returns-then-sum-reached
returns-then-sum-reached c =
    let a = c.args in
    let q = c.requires in
    let w = q.task_ranged.sum in
    let tested : le_z (to_z w64 (of_z w64 a.t.sum)) (to_z w64 (of_z w64 c.upper_area-area.result.sum))
    ≡ le_z a.t.sum (upper_sum a.t a.limit a.value) =
    le_is (search computed depth 9) tt
    ∙ ap (le_z a.t.sum) (sum_is a.t a.limit a.value c.profile_with-p.result c.profile_with-p.ensures) in
    record {
      low = omega arith;
      high = omega (arith, q.value_lt_after);
      here = λ e. comes-up a.t a.limit a.value q.allowed (sym tested ∙ c.if-sum-reached.true);
      short = λ h. absurd (omega arith);
    }

pub overflow_sub-sum : goal.overflow_sub-sum
overflow_sub-sum c = let w = c.requires.task_ranged.sum in sfits (search computed depth 20) tt

pub returns : goal.returns
returns c =
    let a = c.args in
    let q = c.requires in
    let w = q.task_ranged.sum in
    let reached = upper_sum a.t a.limit a.value in
    let is = sum_is a.t a.limit a.value c.profile_with-p.result c.profile_with-p.ensures in
    let left = a.t.sum -ℤ reached in
    let left_is : to_z w64
    (of_z w64 (to_z w64 (of_z w64 a.t.sum) -ℤ to_z w64 (of_z w64 c.upper_area-area.result.sum))) ≡ left =
    exactly (search computed depth 20) tt ∙ ap (λ (z : ℤ). a.t.sum -ℤ z) is in
    let falls : reached <ℤ a.t.sum =
    subst (λ (z : ℤ). z <ℤ a.t.sum) is (le_left c.if-sum-reached.false (search computed depth 9) tt) in
    let missing-is = ap nat_abs left_is in
    let r = c.next_lower_bound.ensures in
    let parts : c.upper_area-area.result.parts ≡ upper_parts (leg_with a.t a.limit a.value) =
    c.upper_area-area.ensures.parts ∙ ap (λ (p : Leg). upper_parts p) c.profile_with-p.ensures.is in
    let gained = c.gain.ensures.0 ∙ ap (gain_of a.limit) parts in
    let steps : ℕ → ℕ = λ n. a.t.steps * n in
    record {
      low = omega (arith, r.higher);
      high = r.most;
      here = λ e. absurd (omega (arith, r.higher));
      short = λ h n l.
          falls-short a.t a.limit a.value (nat_abs left) n q.task_ranged q.allowed (sum-above _ _ falls)
          (subst (λ (g : ℕ). n * g < a.value * g + nat_abs left) (ap steps gained)
          (subst (λ (m : ℕ). n * steps c.gain.result < a.value * steps c.gain.result + m) missing-is (r.short n l)));
    }
