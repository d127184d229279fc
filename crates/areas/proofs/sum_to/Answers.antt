use Prim.Native.Nat.{ℕ, ◌≤◌, ◌<◌, min}
use mathlib.Core.Path.{◌≡◌, ap, ◌∙◌}
use native.Mathlib.Omega.{arith}
use lib.IntN.{pos, ◌+ℤ◌, ◌*ℤ◌}
use mir.Syntax.{w64}
use mir.Val.{to_z, of_z}
use Rattle.whole.specs.Ranges.{Is}
use Rattle.whole.proofs.Bounds.{sfits, exactly, exact, is-of, then_is, cast-small}
use Rattle.areas.specs.declared.Parts.{Parts}
use Rattle.regions.specs.declared.Regions.{Regions}
use Rattle.areas.specs.Areas.{ramp_area, last_level, parts_to, fall_area, area_to}
use Rattle.areas.proofs.PartSums.{parts_all, area-to-is-sum}
use Rattle.areas.proofs.sum_to.Goals as goal

-- the level part has no more ticks than all
module _ (r : Regions) (k : ℕ) (p : Parts) (e : p ≡ parts_to r k) (h : k < r.ticks) (few : r.ticks ≤ 4096) where
  level : p.level ≤ 4096
  level = omega (arith, ap (λ (q : Parts). q.level) e, parts_all r.rise k (last_level r))

  level-is : Is 4096 (to_z w64 p.level) (pos p.level)
  level-is = cast-small 4096 p.level level tt

  raised_is : (n : ℕ) → n ≡ min r.raised p.level → Is 4096 (to_z w64 n) (pos (min r.raised p.level))
  raised_is n q = then_is (cast-small 4096 n (omega (arith, level)) tt) (ap pos q)

pub overflow_mul-result : goal.overflow_mul-result
overflow_mul-result c =
    let p = c.parts_to-parts.result in
    let l = level-is c.args.r c.args.k p c.parts_to-parts.ensures c.requires.k_lt_ticks
    c.requires.regions_ranged.ticks in
    sfits (search exact depth 9) tt

pub overflow_add-result : goal.overflow_add-result
overflow_add-result c =
    let p = c.parts_to-parts.result in
    let l = level-is c.args.r c.args.k p c.parts_to-parts.ensures c.requires.k_lt_ticks
    c.requires.regions_ranged.ticks in
    let m = raised_is c.args.r c.args.k p c.parts_to-parts.ensures c.requires.k_lt_ticks c.requires.regions_ranged.ticks
    c.min-raised.result c.min-raised.ensures in
    sfits (search exact depth 20) tt

pub overflow_add-result-2 : goal.overflow_add-result-2
overflow_add-result-2 c =
    let p = c.parts_to-parts.result in
    let l = level-is c.args.r c.args.k p c.parts_to-parts.ensures c.requires.k_lt_ticks
    c.requires.regions_ranged.ticks in
    let m = raised_is c.args.r c.args.k p c.parts_to-parts.ensures c.requires.k_lt_ticks c.requires.regions_ranged.ticks
    c.min-raised.result c.min-raised.ensures in
    sfits (search exact depth 20) tt

pub overflow_add-result-3 : goal.overflow_add-result-3
overflow_add-result-3 c =
    let p = c.parts_to-parts.result in
    let l = level-is c.args.r c.args.k p c.parts_to-parts.ensures c.requires.k_lt_ticks
    c.requires.regions_ranged.ticks in
    let m = raised_is c.args.r c.args.k p c.parts_to-parts.ensures c.requires.k_lt_ticks c.requires.regions_ranged.ticks
    c.min-raised.result c.min-raised.ensures in
    sfits (search exact depth 20) tt

pub returns : goal.returns
unfolding area_to
returns c =
    let r = c.args.r in
    let k = c.args.k in
    let q = c.parts_to-parts.result in
    let p = c.parts_to-parts.ensures in
    let l = level-is r k q p c.requires.k_lt_ticks c.requires.regions_ranged.ticks in
    let m = raised_is r k q p c.requires.k_lt_ticks c.requires.regions_ranged.ticks
    c.min-raised.result c.min-raised.ensures in
    let s : to_z w64 (of_z w64 r.start) ≡ r.start = exactly (search exact depth 9) tt in
    let u : to_z w64 (of_z w64 r.up) ≡ r.up = exactly (search exact depth 9) tt in
    then_is (is-of (search exact depth 30 fits 9000) tt)
    ((λ i. ramp_area (s i) (u i) (p i).rising +ℤ (pos (p i).level *ℤ r.cruise +ℤ pos (min r.raised (p i).level))
    +ℤ fall_area r k (p i).falling)
    ∙ area-to-is-sum r k (omega arith))
