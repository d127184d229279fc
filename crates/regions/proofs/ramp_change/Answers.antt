use Prim.Native.Nat.{◌^◌}
use mathlib.Core.Path.{◌∙◌}
use lib.IntN.{pos, neg_ℤ, +ℤ_idl}
use mir.Syntax.{w64}
use mir.Val.{to_z}
use Rattle.whole.specs.Ranges.{Is}
use Rattle.whole.proofs.Bounds.{is-of, exact, loose, then_is, cast-small, le-taken, le_left}
use Rattle.regions.proofs.ThreeRegions.{change-up, change-down}
use Rattle.regions.proofs.ramp_change.Goals as goal
use Rattle.regions.proofs.ramp_change.Goals.{Start}

-- the limit as a signed number
change : (a : Start) → Is (2 ^ 33) (to_z w64 a.args.limit) (pos a.args.limit)
change a = cast-small (2 ^ 33) a.args.limit a.requires tt

pub returns-then-v-c : goal.returns-then-v-c
returns-then-v-c c =
    let a = c.args in
    then_is (change c.before)
    (change-up a.limit a.v a.c (le-taken c.if-v-c.true (search loose depth 9) tt))

pub returns-else-v-c : goal.returns-else-v-c
returns-else-v-c c =
    let a = c.args in
    let l = change c.before in
    let above = le_left c.if-v-c.false (search loose depth 9) tt in
    then_is (is-of (search exact depth 9) tt)
    (+ℤ_idl (neg_ℤ (pos a.limit)) ∙ change-down a.limit a.v a.c above)
