use mathlib.Core.Bool.{true}
use mathlib.Core.Path.{◌≡◌, sym, subst₂, ◌∙◌}
use native.Mathlib.Omega.{arith}
use lib.IntN.{ℤ}
use mir.Syntax.{w64}
use mir.Val.{to_z, of_z}
use Rattle.whole.proofs.Bounds.{within, exactly, computed}
use Rattle.reach.specs.Halving.{TicksWithin, LastPassing}
use Rattle.reach.specs.Approaches.{arrived_later, reaches_later}
use Rattle.reach.proofs.Approaching.{last-slow, lasting-to}
use Rattle.reach.proofs.Halves.{next-none, next-within}
use Rattle.std.proofs.Common.{rules}
use Rattle.reach.proofs.approach.Approach.next_later.Goals as goal

pub reaches_later-requires : goal.reaches_later-requires
reaches_later-requires c = record { approaches = c.requires; i_le_most = omega arith }

pub returns-then-reaches_later : goal.returns-then-reaches_later
returns-then-reaches_later c =
    record {
      low = omega arith;
      high = omega arith;
      missed = λ k h l. absurd (omega arith);
      passed = λ h. sym c.reaches_later.ensures ∙ c.if-reaches_later.true;
    }

pub arrived_later-requires : goal.arrived_later-requires
arrived_later-requires c = record { approach_ranged = c.requires.ranged; i_bound = omega arith }

pub ticks_within-high-requires : goal.ticks_within-high-requires
ticks_within-high-requires c =
    record { limit_bound = c.requires.ranged.speed_limit; within = within (search computed depth 9) tt }

pub reaches_later-requires-2 : goal.reaches_later-requires-2
reaches_later-requires-2 c = record { approaches = c.requires; i_le_most = c.ticks_within-high.ensures.high }

-- the last at which the target is slow enough
pub returns-then-not-reaches_later : goal.returns-then-not-reaches_later
returns-then-not-reaches_later c =
    let a = c.args.self in
    let r = c.requires.ranged in
    let v : to_z w64 (of_z w64 c.arrived_later.result) ≡ arrived_later a 0 =
    exactly (search computed depth 9) tt in
    let d : to_z w64 (of_z w64 a.change) ≡ a.change = exactly (search computed depth 9) tt in
    let l : LastPassing (reaches_later a) 0 c.args.last c.ticks_within-high.result =
    last-slow a c.args.last c.ticks_within-high.result c.requires
    (subst₂ (λ (x y : ℤ). TicksWithin a.speed_limit x y c.args.last c.ticks_within-high.result) v d
    c.ticks_within-high.ensures) in
    next-none (reaches_later a) 0 c.args.last c.ticks_within-high.result (omega arith) l
    (sym c.reaches_later-2.ensures ∙ c.if-not-reaches_later.true)

pub returns : goal.returns
returns c =
    let a = c.args.self in
    let r = c.requires.ranged in
    let high = c.ticks_within-high.result in
    let to = c.ticks_within-high.ensures.high in
    let v : to_z w64 (of_z w64 c.arrived_later.result) ≡ arrived_later a 0 =
    exactly (search computed depth 9) tt in
    let d : to_z w64 (of_z w64 a.change) ≡ a.change = exactly (search computed depth 9) tt in
    let l : LastPassing (reaches_later a) 0 c.args.last c.ticks_within-high.result =
    last-slow a c.args.last c.ticks_within-high.result c.requires
    (subst₂ (λ (x y : ℤ). TicksWithin a.speed_limit x y c.args.last c.ticks_within-high.result) v d
    c.ticks_within-high.ensures) in
    let reached : reaches_later a high ≡ true = sym c.reaches_later-2.ensures ∙ c.if-not-reaches_later.false in
    next-within (reaches_later a) 0 c.args.last high c.first_passing.result l reached
    (c.first_passing.ensures.next (reaches_later a) 0 (λ k b p q e. search rules)
    (sym c.reaches_later.ensures ∙ c.if-reaches_later.false) (omega arith)
    (lasting-to a c.args.last high c.requires to reached))
