use Prim.Native.Nat.{◌-◌, ◌/◌, ◌^◌}
use mathlib.Core.Path.{◌≡◌, refl, sym, ap, subst, ◌∙◌}
use native.Mathlib.Omega.{arith}
use lib.IntN.{pos, neg_ℤ}
use mir.Syntax.{w64}
use mir.Val.{to_z, of_z}
use Rattle.whole.specs.Ranges.{Within}
use Rattle.whole.proofs.Bounds.{exactly, computed, then_is}
use Rattle.whole.proofs.Laws.{nat_abs-negpos}
use Rattle.model.specs.planning.Leg.{Leg}
use Rattle.profile.specs.Profiles.{Ranged}
use Rattle.cruise.specs.Cruise.{climb_step}
use Rattle.cruise.proofs.ClimbSteps.{climb_from, bit-bound, halved, climb-start, climb-next, climb-end, climb-inside}
use Rattle.cruise.proofs.Required.climb.Goals as goal

pub loop-bit-init : goal.loop-bit-init
loop-bit-init g c =
    let p = c.args.self.now.profile in
    let s = c.args.self.now.sum in
    let first : to_z w64 (of_z w64 c.negative-c.result) ≡ neg_ℤ (pos p.speed_limit) =
    exactly (search computed depth 9) tt ∙ ap (λ (l : Leg). neg_ℤ (pos l.speed_limit)) c.p.view_is in
    let slow = (subst Ranged c.p.view_is c.p.invariant).speed_limit in
    record {
      near = subst (Within (2 ^ 37)) (sym first)
          (record { within = omega (arith, nat_abs-negpos p.speed_limit, slow) });
      small = subst (Within p.speed_limit) (sym first)
          (record { within = omega (arith, nat_abs-negpos p.speed_limit) });
      halved = refl;
      climbing = ap (climb_from p s 39) first ∙ climb-start p s;
    }

pub climb_step-c-requires-clause-step_bound : goal.climb_step-c-requires-clause-step_bound
climb_step-c-requires-clause-step_bound g c =
    let l = c.loop-bit in
    bit-bound {n = l._bit - 1} (omega arith) (halved {n = l._bit} (omega arith) l.invariant.halved)

pub loop-bit-preserved : goal.loop-bit-preserved
loop-bit-preserved g c =
    let l = c.loop-bit in
    let p = c.args.self.now.profile in
    let s = c.args.self.now.sum in
    let step = l.step / 2 in
    let is = halved {n = l._bit} {m = l._bit - 1} (omega arith) l.invariant.halved in
    let next : to_z w64 (of_z w64 c.climb_step-c.result) ≡ climb_step p s (to_z w64 l.c-bits) step =
    exactly (search computed depth 9) tt in
    record {
      near = subst (Within (2 ^ 37)) (sym next) (record { within = c.climb_step-c.ensures.within });
      small = subst (Within p.speed_limit) (sym next) (climb-inside p s (to_z w64 l.c-bits) step l.invariant.small);
      halved = is;
      climbing = ap (climb_from p s (l._bit - 1)) next
          ∙ climb-next p s (to_z w64 l.c-bits) (omega arith) is
          ∙ l.invariant.climbing;
    }

pub returns-clause-is : goal.returns-clause-is
returns-clause-is g c =
    let l = c.loop-bit in
    let p = c.args.self.now.profile in
    then_is (record {
      is = refl;
      within = l.invariant.near.within;
    })
    (sym (climb-end p c.args.self.now.sum (to_z w64 l.c-bits) (omega arith)) ∙ l.invariant.climbing)
