use Prim.Native.Nat.{◌^◌}
use mathlib.Core.Path.{◌≡◌, sym, ap, subst, ◌∙◌}
use native.Mathlib.Omega.{arith}
use mir.Syntax.{w64}
use mir.Val.{to_z, of_z}
use Rattle.whole.specs.Ranges.{Within}
use Rattle.whole.proofs.Bounds.{exactly, computed, is-of, then_is}
use Rattle.profile.specs.Profiles.{Ranged}
use Rattle.regions.specs.Regions.{regions_of, RegionsRanged}
use Rattle.areas.specs.Areas.{area_of}
use Rattle.profile.proofs.FeasibleParts.{ends-joined}
use Rattle.regions.proofs.ChosenRegions.{regions-ranged}
use Rattle.areas.proofs.AreaIsSum.{area-is-sum}
use Rattle.areas.proofs.area_at.Goals as goal

pub area_of-requires-clause-regions_ranged : goal.area_of-requires-clause-regions_ranged
area_of-requires-clause-regions_ranged c =
    let j = c.requires.joinable in
    let g = c.args.p in
    let ranged = subst Ranged c.p.view_is c.p.invariant in
    -- the cruise keeps to the speed limit, and the ends can be joined
    let w : Within (2 ^ 37) c.args.c = record { within = omega (arith, ranged.speed_limit) } in
    let x : to_z w64 (of_z w64 c.args.c) ≡ c.args.c = exactly (search computed depth 9) tt in
    let regions-are = c.regions_of.ensures ∙ ap (λ v. regions_of g v 0) x in
    subst RegionsRanged (sym regions-are)
    (regions-ranged g (ends-joined g j.ends) j.acceleration ranged.speed_limit
    ranged.acceleration_limit ranged.ticks c.args.c 0 w)

pub returns : goal.returns
returns c =
    let j = c.requires.joinable in
    let g = c.args.p in
    let ranged = subst Ranged c.p.view_is c.p.invariant in
    let w : Within (2 ^ 37) c.args.c = record { within = omega (arith, ranged.speed_limit) } in
    let x : to_z w64 (of_z w64 c.args.c) ≡ c.args.c = exactly (search computed depth 9) tt in
    let regions-are = c.regions_of.ensures ∙ ap (λ v. regions_of g v 0) x in
    then_is (is-of (search computed depth 9) tt)
    (ap area_of regions-are
    ∙ area-is-sum g (ends-joined g j.ends) j.acceleration c.args.c c.requires.within)
