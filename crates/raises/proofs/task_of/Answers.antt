use Prim.Native.Nat.{ℕ, ◌*◌, ◌^◌, ◌≤◌}
use mathlib.Core.Path.{◌≡◌, sym, ap, subst, subst₂, ◌∙◌}
use native.Mathlib.Omega.{arith}
use lib.IntN.{ℤ, pos, neg_ℤ, nat_abs, ◌+ℤ◌, ◌-ℤ◌, ◌*ℤ◌, +ℤ_idl}
use lib.Signed.{◌≤ℤ◌, ◌<ℤ◌}
use mir.Syntax.{w64}
use mir.Val.{to_z, of_z}
use Rattle.whole.specs.Ranges.{Is}
use Rattle.whole.proofs.Bounds.{sfits, within, exactly, exact, computed, cast-small, lt-taken, lt-left, add_holds}
use Rattle.whole.proofs.Bounds.{mul_holds}
use Rattle.model.specs.declared.Axis.{Axis}
use Rattle.model.specs.planning.Quantities.{delay}
use Rattle.model.specs.planning.Refusals.{Passed, last_tick}
use Rattle.model.specs.planning.Motion.{start_position, start_velocity, landing_velocity, landing_acceleration}
use Rattle.model.specs.planning.Motion.{arrival_velocity, landing_tick, displacement}
use Rattle.motion.specs.declared.Landing.{Landing}
use Rattle.motion.specs.Motions.{LandingIs}
use Rattle.motion.proofs.PassedRanges.{ranges-of}
use Rattle.least_limit.specs.Tasks.{task_with, fastest_of, TaskIs}
use Rattle.least_limit.proofs.Decisions.{task-ahead, task-behind}
use Rattle.raises.proofs.task_of.Goals as goal

-- the blend's delay is short
short : (x : Axis) → Passed x → delay x ≤ 512
short x p = let h = ranges-of p in omega (arith, h.half_period, h.second_half_period)

ticks-is : (x : Axis) (n k : ℕ) → n ≤ last_tick → k ≡ landing_tick x n → Is 4096 (to_z w64 k) (pos k)
ticks-is x n k h e = cast-small 4096 k (omega arith) tt

-- ---- the leg, as the definitions have it

travel-is : (x : Axis) (n : ℕ) (g : Landing) → LandingIs x n g → g.position -ℤ start_position x ≡ displacement x n
travel-is x n g l = ap (λ (z : ℤ). z -ℤ start_position x) l.position.is

line-is : (x : Axis) (n k : ℕ) → k ≡ landing_tick x n
    → pos k *ℤ (start_velocity x +ℤ landing_velocity x n)
    ≡ pos (landing_tick x n) *ℤ (start_velocity x +ℤ landing_velocity x n)
line-is x n k e = ap (λ (m : ℕ). pos m *ℤ (start_velocity x +ℤ landing_velocity x n)) e

abbrev fastest : Axis → ℕ → ℕ
fastest x n = fastest_of (start_velocity x) (landing_velocity x n) (arrival_velocity x n)

fastest-is : (x : Axis) (n : ℕ) (v : ℤ) (g : Landing) (d r : ℕ) → Is (2 ^ 36) v (start_velocity x) → LandingIs x n g
    → d ≡ delay x
    → r ≡ fastest_of (to_z w64 (of_z w64 v)) g.velocity (g.velocity +ℤ pos d *ℤ g.acceleration)
    → r ≡ fastest x n
fastest-is x n v g d r h l e q =
    let s : to_z w64 (of_z w64 v) ≡ start_velocity x = exactly (search exact depth 9) tt in
    q ∙ (λ i. fastest_of (s i) (l.velocity.is i) (l.velocity.is i +ℤ pos (e i) *ℤ l.acceleration.is i))

-- no speed and no displacement is too great
fast : (x : Axis) (n : ℕ) (v : ℤ) (g : Landing) → Passed x → Is (2 ^ 36) v (start_velocity x) → LandingIs x n g
    → fastest x n ≤ 2 ^ 48
fast x n v g p h l =
    let e : nat_abs (landing_velocity x n) ≤ 2 ^ 47 = l.velocity.within in
    let w = add_holds (landing_velocity x n) (pos (delay x) *ℤ landing_acceleration x n) (2 ^ 47) (512 * 2 ^ 32) e
    (mul_holds (pos (delay x)) (landing_acceleration x n) 512 (2 ^ 32) (short x p) l.acceleration.within) in
    omega (arith, h.within, e, w)

far : (x : Axis) (n : ℕ) (g : Landing) (r : ℤ) → LandingIs x n g → Is (2 ^ 60) r (g.position -ℤ start_position x)
    → nat_abs (displacement x n) ≤ 2 ^ 60
far x n g r l h = subst (λ (z : ℤ). nat_abs z ≤ 2 ^ 60) (travel-is x n g l) h.within

-- ---- the calls

pub delay_of-requires : goal.delay_of-requires
delay_of-requires c = ranges-of c.requires.passed

pub overflow_mul-line : goal.overflow_mul-line
overflow_mul-line c =
    let t = ticks-is c.args.x c.args.n c.landing_tick-ticks.result c.requires.n_le_last_tick
    c.landing_tick-ticks.ensures in
    sfits (search computed depth 20) tt

pub overflow_sub-end : goal.overflow_sub-end
overflow_sub-end c = sfits (search computed depth 9) tt

pub task_with-requires-clause-within : goal.task_with-requires-clause-within
task_with-requires-clause-within c = within (search computed depth 9) tt

pub task_with-requires-clause-within_2 : goal.task_with-requires-clause-within_2
task_with-requires-clause-within_2 c = within (search computed depth 9) tt

pub task_with-requires-clause-within_3 : goal.task_with-requires-clause-within_3
task_with-requires-clause-within_3 c = within (search computed depth 9) tt

-- ---- the two ways

pub returns-then-travel-line : goal.returns-then-travel-line
returns-then-travel-line c =
    let x = c.args.x in
    let n = c.args.n in
    let q = c.requires in
    let v = c.start_velocity-start.result in
    let g = c.landing_at-landing.result in
    let l = c.landing_at-landing.ensures in
    let r = c.displacement-travel.result in
    let k = c.landing_tick-ticks in
    let t = ticks-is x n k.result q.n_le_last_tick k.ensures in
    let travel = travel-is x n g l in
    let under : displacement x n <ℤ (pos (landing_tick x n) *ℤ (start_velocity x +ℤ landing_velocity x n)) =
    subst₂ (λ (y z : ℤ). y <ℤ z) travel (line-is x n k.result k.ensures)
    (lt-taken c.if-travel-line.true (search computed depth 20) tt) in
    let s : to_z w64 (of_z w64 (pos 0 -ℤ to_z w64 (of_z w64 v))) ≡ neg_ℤ (start_velocity x) =
    exactly (search computed depth 9) tt ∙ +ℤ_idl (neg_ℤ (start_velocity x)) in
    let e : to_z w64 (of_z w64 (pos 0 -ℤ to_z w64 (of_z w64 g.velocity))) ≡ neg_ℤ (landing_velocity x n) =
    exactly (search computed depth 9) tt ∙ +ℤ_idl (neg_ℤ (landing_velocity x n)) in
    let d : to_z w64 (of_z w64 (pos 0 -ℤ to_z w64 (of_z w64 r))) ≡ neg_ℤ (displacement x n) =
    exactly (search computed depth 9) tt ∙ +ℤ_idl _ ∙ ap neg_ℤ travel in
    let f = fastest-is x n v g c.delay_of.result c.fastest_of-fastest.result c.start_velocity-start.ensures l
    c.delay_of.ensures c.fastest_of-fastest.ensures in
    subst (TaskIs x n)
    (sym (c.task_with.ensures ∙ (λ i. task_with x (s i) (e i) (d i) (k.ensures i) (f i))))
    (task-behind x n q.x_bound q.passed q.n_le_last_tick (fast x n v g q.passed c.start_velocity-start.ensures l)
    (far x n g r l c.displacement-travel.ensures) under)

pub returns : goal.returns
returns c =
    let x = c.args.x in
    let n = c.args.n in
    let q = c.requires in
    let v = c.start_velocity-start.result in
    let g = c.landing_at-landing.result in
    let l = c.landing_at-landing.ensures in
    let r = c.displacement-travel.result in
    let k = c.landing_tick-ticks in
    let t = ticks-is x n k.result q.n_le_last_tick k.ensures in
    let travel = travel-is x n g l in
    let over : (pos (landing_tick x n) *ℤ (start_velocity x +ℤ landing_velocity x n)) ≤ℤ displacement x n =
    subst₂ (λ (y z : ℤ). y ≤ℤ z) (line-is x n k.result k.ensures) travel
    (lt-left c.if-travel-line.false (search computed depth 20) tt) in
    let s : to_z w64 (of_z w64 v) ≡ start_velocity x = exactly (search computed depth 9) tt in
    let e : to_z w64 (of_z w64 g.velocity) ≡ landing_velocity x n = exactly (search computed depth 9) tt in
    let d : to_z w64 (of_z w64 r) ≡ displacement x n = exactly (search computed depth 9) tt ∙ travel in
    let f = fastest-is x n v g c.delay_of.result c.fastest_of-fastest.result c.start_velocity-start.ensures l
    c.delay_of.ensures c.fastest_of-fastest.ensures in
    subst (TaskIs x n)
    (sym (c.task_with-2.ensures ∙ (λ i. task_with x (s i) (e i) (d i) (k.ensures i) (f i))))
    (task-ahead x n q.x_bound q.passed q.n_le_last_tick (fast x n v g q.passed c.start_velocity-start.ensures l)
    (far x n g r l c.displacement-travel.ensures) over)
