use Prim.Native.Nat.{ℕ, ◌≤◌, ◌<◌}
use mathlib.Core.Path.{◌≡◌, sym, ap, subst, ◌∙◌}
use mathlib.Core.Bool.{◌&&◌}
use native.Mathlib.Omega.{arith}
use lib.Dec.{leb}
use lib.IntN.{nat_abs}
use mir.Syntax.{w64}
use mir.Val.{to_z, of_z}
use Rattle.whole.proofs.Bounds.{within, exactly, computed}
use Rattle.whole.proofs.Tests.{and_no, and_yes, leb_yes, leb_no}
use Rattle.model.specs.planning.Leg.{Leg, sum_is_whole, feasible}
use Rattle.reach.specs.Approaches.{end_later, arrived_later, travel_later, profile_later, reaches_later}
use Rattle.reach.proofs.approach.Approach.reaches_later.Goals as goal

pub end_later-requires : goal.end_later-requires
end_later-requires c =
    record {
      approach_ranged = c.requires.approaches.ranged;
      i_bound = omega (arith, c.requires.approaches.few, c.requires.i_le_most);
    }

pub arrived_later-requires : goal.arrived_later-requires
arrived_later-requires c =
    record {
      approach_ranged = c.requires.approaches.ranged;
      i_bound = omega (arith, c.requires.approaches.few, c.requires.i_le_most);
    }

pub profile_later-requires : goal.profile_later-requires
profile_later-requires c =
    let a = c.args.self in
    let landed : to_z w64 (of_z w64 c.end_later.result) ≡ end_later a c.args.i = exactly (search computed depth 9) tt in
    record {
      approach_ranged = c.requires.approaches.ranged;
      few = omega (arith, c.requires.approaches.few, c.requires.i_le_most);
      slow =
          subst (λ (n : ℕ). n ≤ a.speed_limit) (c.unsigned_abs.ensures.value ∙ ap nat_abs landed)
          c.if-unsigned_abs-self.false;
    }

pub travel_later-requires : goal.travel_later-requires
travel_later-requires c =
    record {
      approach_ranged = c.requires.approaches.ranged;
      i_bound = omega (arith, c.requires.approaches.few, c.requires.i_le_most);
    }

pub makes-requires : goal.makes-requires
makes-requires c =
    let a = c.args.self in
    let landed : to_z w64 (of_z w64 c.end_later.result) ≡ end_later a c.args.i = exactly (search computed depth 9) tt in
    let slow : nat_abs (end_later a c.args.i) ≤ a.speed_limit =
    subst (λ (n : ℕ). n ≤ a.speed_limit)
    (c.unsigned_abs.ensures.value ∙ ap nat_abs landed) c.if-unsigned_abs-self.false in
    let travelled : to_z w64 (of_z w64 c.travel_later.result) ≡ travel_later a c.args.i =
    exactly (search computed depth 9) tt in
    let r = c.requires.approaches.ranged in
    let e = c.profile_later.ensures in
    record {
      acceleration_limit_nonzero = subst (λ (p : Leg). 0 < p.acceleration_limit) (sym e) r.acceleration;
      ticks_nonzero = subst (λ (p : Leg). 0 < p.ticks) (sym e) (omega (arith, r.some));
      start_bound = subst (λ (p : Leg). nat_abs p.start ≤ p.speed_limit) (sym e) r.slow;
      end_bound = subst (λ (p : Leg). nat_abs p.end ≤ p.speed_limit) (sym e) slow;
      within = within (search computed depth 9) tt;
      displacement_value = (λ j. sum_is_whole (e j) (travelled j))
          ∙ c.requires.approaches.whole c.args.i c.requires.i_le_most;
    }

pub returns-then-unsigned_abs-self : goal.returns-then-unsigned_abs-self
unfolding reaches_later
returns-then-unsigned_abs-self c =
    let a = c.args.self in
    let landed : to_z w64 (of_z w64 c.end_later.result) ≡ end_later a c.args.i = exactly (search computed depth 9) tt in
    let fast : a.speed_limit < nat_abs (end_later a c.args.i) =
    subst (λ (n : ℕ). a.speed_limit < n)
    (c.unsigned_abs.ensures.value ∙ ap nat_abs landed) c.if-unsigned_abs-self.true in
    and_no _
    (leb (nat_abs (arrived_later a c.args.i)) a.speed_limit
    && feasible (profile_later a c.args.i) (travel_later a c.args.i))
    (leb_no fast)

pub returns-then-unsigned_abs-self-2 : goal.returns-then-unsigned_abs-self-2
unfolding reaches_later
returns-then-unsigned_abs-self-2 c =
    let a = c.args.self in
    let landed : to_z w64 (of_z w64 c.end_later.result) ≡ end_later a c.args.i = exactly (search computed depth 9) tt in
    let slow : nat_abs (end_later a c.args.i) ≤ a.speed_limit =
    subst (λ (n : ℕ). n ≤ a.speed_limit)
    (c.unsigned_abs.ensures.value ∙ ap nat_abs landed) c.if-unsigned_abs-self.false in
    let arrived : to_z w64 (of_z w64 c.arrived_later.result) ≡ arrived_later a c.args.i =
    exactly (search computed depth 9) tt in
    let fast : a.speed_limit < nat_abs (arrived_later a c.args.i) =
    subst (λ (n : ℕ). a.speed_limit < n) (c.unsigned_abs-2.ensures.value ∙ ap nat_abs arrived)
    c.if-unsigned_abs-self-2.true in
    and_yes _ _ (leb_yes slow)
    (and_no _ (feasible (profile_later a c.args.i) (travel_later a c.args.i)) (leb_no fast))

pub returns : goal.returns
unfolding reaches_later
returns c =
    let a = c.args.self in
    let landed : to_z w64 (of_z w64 c.end_later.result) ≡ end_later a c.args.i = exactly (search computed depth 9) tt in
    let slow : nat_abs (end_later a c.args.i) ≤ a.speed_limit =
    subst (λ (n : ℕ). n ≤ a.speed_limit)
    (c.unsigned_abs.ensures.value ∙ ap nat_abs landed) c.if-unsigned_abs-self.false in
    let arrived : to_z w64 (of_z w64 c.arrived_later.result) ≡ arrived_later a c.args.i =
    exactly (search computed depth 9) tt in
    let slow_too : nat_abs (arrived_later a c.args.i) ≤ a.speed_limit =
    subst (λ (n : ℕ). n ≤ a.speed_limit) (c.unsigned_abs-2.ensures.value ∙ ap nat_abs arrived)
    c.if-unsigned_abs-self-2.false in
    let travelled : to_z w64 (of_z w64 c.travel_later.result) ≡ travel_later a c.args.i =
    exactly (search computed depth 9) tt in
    and_yes _ _ (leb_yes slow)
    (and_yes _ _ (leb_yes slow_too)
    (c.makes.ensures ∙ (λ j. feasible (c.profile_later.ensures j) (travelled j))))
