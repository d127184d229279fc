use mathlib.Core.Path.{◌≡◌, ◌∙◌}
use native.Mathlib.Omega.{arith}
use Prim.Native.Nat.{◌-◌}
use mir.Syntax.{w64}
use mir.Val.{to_z, of_z}
use Rattle.whole.proofs.Bounds.{exact, exactly}
use Rattle.planned.specs.Plans.{planned_at}
use Rattle.planned.proofs.PlannedRanges.{behind-is}
use Rattle.planned.proofs.Velocities.{back-before, back-late}
use Rattle.planned.proofs.velocity_back.Goals as goal

pub returns-then-k-d : goal.returns-then-k-d
returns-then-k-d c =
    let a = c.args in
    behind-is a.p c.requires.plan_ranges a.d a.k _ (omega arith)
    (exactly (search exact depth 9) tt ∙ back-before a.p a.d a.k c.if-k-d.true)

pub returns : goal.returns
returns c =
    let a = c.args in
    let e : to_z w64 (of_z w64 c.planned_velocity.result) ≡ planned_at a.p (a.k - a.d) =
    exactly (search exact depth 9) tt in
    behind-is a.p c.requires.plan_ranges a.d a.k _ (omega arith) (e ∙ back-late a.p a.d a.k c.if-k-d.false)
