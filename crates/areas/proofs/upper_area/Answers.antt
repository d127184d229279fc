use mathlib.Core.Path.{◌≡◌, sym, ap, subst, ◌∙◌}
use lib.IntN.{pos}
use mir.Syntax.{w64}
use mir.Val.{to_z, of_z}
use Rattle.whole.proofs.Bounds.{exactly, computed, is-of, then_is}
use Rattle.profile.specs.Profiles.{Ranged}
use Rattle.model.specs.planning.Leg.{Leg}
use Rattle.regions.specs.Regions.{regions_of, RegionsRanged}
use Rattle.areas.specs.Areas.{area_of, parts_of}
use Rattle.profile.proofs.FeasibleParts.{ends-joined}
use Rattle.regions.proofs.ChosenRegions.{regions-ranged}
use Rattle.areas.proofs.EnvelopeAreas.{highest-area}
use Rattle.areas.proofs.upper_area.Goals as goal

pub area_of-requires-clause-regions_ranged : goal.area_of-requires-clause-regions_ranged
area_of-requires-clause-regions_ranged c =
    let j = c.requires in
    let g = c.args.p in
    -- the highest cruise is the speed limit
    let cruise-is : to_z w64 (of_z w64 c.signed.result) ≡ pos g.speed_limit =
    exactly (search computed depth 9) tt ∙ ap (λ (l : Leg). pos l.speed_limit) c.p.view_is in
    let ranged = subst Ranged c.p.view_is c.p.invariant in
    let regions-are = c.regions_of-r.ensures ∙ ap (λ v. regions_of g v 0) cruise-is in
    subst RegionsRanged (sym regions-are)
    (regions-ranged g (ends-joined g j.ends) j.acceleration ranged.speed_limit
    ranged.acceleration_limit ranged.ticks (pos g.speed_limit) 0 (record { within = ranged.speed_limit }))

pub returns : goal.returns
returns c =
    let j = c.requires in
    let g = c.args.p in
    let cruise-is : to_z w64 (of_z w64 c.signed.result) ≡ pos g.speed_limit =
    exactly (search computed depth 9) tt ∙ ap (λ (l : Leg). pos l.speed_limit) c.p.view_is in
    let regions-are = c.regions_of-r.ensures ∙ ap (λ v. regions_of g v 0) cruise-is in
    let sum = ap area_of regions-are ∙ highest-area g j.acceleration j.ends in
    record {
      sum = then_is (is-of (search computed depth 9) tt) sum;
      parts = c.parts_of.ensures ∙ ap parts_of regions-are;
    }
