use Prim.Native.Nat.{ℕ, ◌*◌, ◌/◌, ◌≤◌}
use mathlib.Core.Path.{◌≡◌, sym, ap, subst, ◌∙◌}
use lib.IntN.{ℤ, pos, nat_abs, ◌+ℤ◌, ◌-ℤ◌}
use lib.Signed.{◌≤ℤ◌}
use mir.Syntax.{w64}
use mir.Val.{to_z, of_z}
use Rattle.whole.proofs.Bounds.{sfits, exactly, exact, loose, back-id, cast-up, le-taken, le_left}
use Rattle.profile.specs.Profiles.{leg_of}
use Rattle.profile.proofs.FeasibleParts.{joined-by, steep-by}
use Rattle.regions.proofs.ThreeRegions.{meets-up, meets-down, up-some, down-some, up-late, down-late}
use Rattle.regions.proofs.meeting_tick.Goals as goal

-- half of it by the limit, which is at most t
halved_is : (x y a n t : ℕ) → x ≡ y → y / (2 * a) ≡ n → y / (2 * a) ≤ t → (x / (2 * a) ≡ n) × (x / (2 * a) ≤ t)
halved_is x y a n t e f h = (ap (λ (z : ℕ). z / (2 * a)) e ∙ f, subst (λ (z : ℕ). z / (2 * a) ≤ t) (sym e) h)

pub overflow_cast-result : goal.overflow_cast-result
overflow_cast-result c =
    let p = c.p.inside in
    let up : to_z w64 (of_z w64 (to_z w64 (of_z w64 p.end) -ℤ to_z w64 (of_z w64 p.start)))
    +ℤ to_z w64 (of_z w64 c.change_after-apart.result)
    ≡ p.end -ℤ p.start +ℤ pos (p.acceleration_limit * p.ticks) = exactly (search exact depth 20) tt in
    cast-up _ (sfits (search exact depth 20) tt)
    (subst (λ (z : ℤ). pos 0 ≤ℤ z) (sym up)
    (up-some (leg_of p) (joined-by c.p.view_is c.requires.p_value)
    (steep-by c.p.view_is c.requires.acceleration_limit_nonzero) c.args.c))

pub returns-then-p-c : goal.returns-then-p-c
returns-then-p-c c =
    let p = c.p.inside in
    let g = leg_of p in
    let joined = joined-by c.p.view_is c.requires.p_value in
    let steep = steep-by c.p.view_is c.requires.acceleration_limit_nonzero in
    let below = le-taken c.if-p-c.true (search loose depth 9) tt in
    let up : to_z w64 (of_z w64 (to_z w64 (of_z w64 p.end) -ℤ to_z w64 (of_z w64 p.start)))
    +ℤ to_z w64 (of_z w64 c.change_after-apart.result)
    ≡ p.end -ℤ p.start +ℤ pos (p.acceleration_limit * p.ticks) = exactly (search exact depth 20) tt in
    rw (← c.p.view_is) (halved_is _ _ _ _ _ (ap nat_abs (back-id (sfits (search exact depth 20) tt) ∙ up))
    (meets-up g joined steep c.args.c below)
    (up-late g joined steep c.args.c))

pub overflow_cast-result-else-p-c : goal.overflow_cast-result-else-p-c
overflow_cast-result-else-p-c c =
    let p = c.p.inside in
    let down : to_z w64 (of_z w64 (to_z w64 (of_z w64 p.start) -ℤ to_z w64 (of_z w64 p.end)))
    +ℤ to_z w64 (of_z w64 c.change_after-apart.result)
    ≡ p.start -ℤ p.end +ℤ pos (p.acceleration_limit * p.ticks) = exactly (search exact depth 20) tt in
    cast-up _ (sfits (search exact depth 20) tt)
    (subst (λ (z : ℤ). pos 0 ≤ℤ z) (sym down)
    (down-some (leg_of p) (joined-by c.p.view_is c.requires.p_value)
    (steep-by c.p.view_is c.requires.acceleration_limit_nonzero) c.args.c))

pub returns-else-p-c : goal.returns-else-p-c
returns-else-p-c c =
    let p = c.p.inside in
    let g = leg_of p in
    let joined = joined-by c.p.view_is c.requires.p_value in
    let steep = steep-by c.p.view_is c.requires.acceleration_limit_nonzero in
    let above = le_left c.if-p-c.false (search loose depth 9) tt in
    let down : to_z w64 (of_z w64 (to_z w64 (of_z w64 p.start) -ℤ to_z w64 (of_z w64 p.end)))
    +ℤ to_z w64 (of_z w64 c.change_after-apart.result)
    ≡ p.start -ℤ p.end +ℤ pos (p.acceleration_limit * p.ticks) = exactly (search exact depth 20) tt in
    rw (← c.p.view_is) (halved_is _ _ _ _ _ (ap nat_abs (back-id (sfits (search exact depth 20) tt) ∙ down))
    (meets-down g joined steep c.args.c above)
    (down-late g joined steep c.args.c))
