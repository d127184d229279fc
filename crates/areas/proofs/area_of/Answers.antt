use Prim.Native.Nat.{◌≤◌}
use mathlib.Core.Path.{◌≡◌, ap}
use native.Mathlib.Omega.{arith}
use lib.IntN.{pos, ◌+ℤ◌, ◌*ℤ◌}
use mir.Syntax.{w64}
use mir.Val.{to_z, of_z}
use Rattle.whole.specs.Ranges.{Is}
use Rattle.whole.proofs.Bounds.{sfits, exactly, exact, computed, is-of, then_is, cast-small}
use Rattle.areas.specs.declared.Parts.{Parts}
use Rattle.regions.specs.declared.Regions.{Regions}
use Rattle.areas.specs.Areas.{ramp_area, area_of, parts_of}
use Rattle.areas.proofs.area_of.Goals as goal

-- the level part has no more ticks than all
level-is : (r : Regions) (p : Parts) → p ≡ parts_of r → r.ticks ≤ 4096 → Is 4096 (to_z w64 p.level) (pos p.level)
level-is r p e h = cast-small 4096 p.level (omega (arith, ap (λ (q : Parts). q.level) e)) tt

pub overflow_mul-result : goal.overflow_mul-result
overflow_mul-result c =
    let l = level-is c.args.r c.parts_of-parts.result c.parts_of-parts.ensures c.requires.regions_ranged.ticks in
    sfits (search exact depth 9) tt

pub overflow_add-result : goal.overflow_add-result
overflow_add-result c =
    let l = level-is c.args.r c.parts_of-parts.result c.parts_of-parts.ensures c.requires.regions_ranged.ticks in
    sfits (search computed depth 20) tt

pub overflow_add-result-2 : goal.overflow_add-result-2
overflow_add-result-2 c =
    let l = level-is c.args.r c.parts_of-parts.result c.parts_of-parts.ensures c.requires.regions_ranged.ticks in
    sfits (search computed depth 20) tt

pub returns : goal.returns
unfolding area_of
returns c =
    let r = c.args.r in
    let p = c.parts_of-parts.ensures in
    let l = level-is r c.parts_of-parts.result p c.requires.regions_ranged.ticks in
    let s : to_z w64 (of_z w64 r.start) ≡ r.start = exactly (search exact depth 9) tt in
    let u : to_z w64 (of_z w64 r.up) ≡ r.up = exactly (search exact depth 9) tt in
    let e : to_z w64 (of_z w64 r.end) ≡ r.end = exactly (search exact depth 9) tt in
    let d : to_z w64 (of_z w64 r.down) ≡ r.down = exactly (search exact depth 9) tt in
    then_is (is-of (search exact depth 30 fits 9000) tt)
    (λ i. ramp_area (s i) (u i) (p i).rising +ℤ pos (p i).level *ℤ r.cruise +ℤ ramp_area (e i) (d i) (p i).falling)
