use Prim.Native.Nat.{◌^◌}
use mathlib.Core.Path.{ap, ◌∙◌}
use lib.IntN.{pos, ◌*ℤ◌}
use mir.Syntax.{w64}
use mir.Val.{to_z, of_z}
use Rattle.whole.specs.Ranges.{Is}
use Rattle.whole.proofs.Bounds.{exact, sfits, exactly}
use Rattle.motion.proofs.Converted.{from-small}
use Rattle.planned.specs.Plans.{total_weight}
use Rattle.blended.specs.BlendedStates.{lag_of}
use Rattle.blended.proofs.BlendedSteps.{state-0}
use Rattle.blended.proofs.BlendedRanges.{lag-small, lagging, origin-within}
use Rattle.blended.proofs.started.Goals as goal

pub overflow_mul-result-2 : goal.overflow_mul-result-2
overflow_mul-result-2 c =
    let e = c.from-lag.ensures ∙ ap pos c.lag_of.ensures in
    let l = from-small (2 ^ 25) (lag_of c.args.p) c.from-lag.result e (lag-small c.args.p c.requires) in
    let b : Is (2 ^ 54) (to_z w64 (of_z w64 c.from-lag.result) *ℤ to_z w64 (of_z w64 c.args.p.regions.start))
    (pos (lag_of c.args.p) *ℤ c.args.p.regions.start) = record {
      is = exactly (search exact depth 20) tt;
      within = lagging c.args.p c.requires;
    } in
    sfits (search exact depth 20) tt

pub overflow_mul-result-3 : goal.overflow_mul-result-3
overflow_mul-result-3 c =
    let e = c.from-lag.ensures ∙ ap pos c.lag_of.ensures in
    let l = from-small (2 ^ 25) (lag_of c.args.p) c.from-lag.result e (lag-small c.args.p c.requires) in
    let b : Is (2 ^ 54) (to_z w64 (of_z w64 c.from-lag.result) *ℤ to_z w64 (of_z w64 c.args.p.regions.start))
    (pos (lag_of c.args.p) *ℤ c.args.p.regions.start) = record {
      is = exactly (search exact depth 20) tt;
      within = lagging c.args.p c.requires;
    } in
    sfits (search exact depth 20) tt

pub overflow_sub-result : goal.overflow_sub-result
overflow_sub-result c =
    let e = c.from-lag.ensures ∙ ap pos c.lag_of.ensures in
    let l = from-small (2 ^ 25) (lag_of c.args.p) c.from-lag.result e (lag-small c.args.p c.requires) in
    let b : Is (2 ^ 54) (to_z w64 (of_z w64 c.from-lag.result) *ℤ to_z w64 (of_z w64 c.args.p.regions.start))
    (pos (lag_of c.args.p) *ℤ c.args.p.regions.start) = record {
      is = exactly (search exact depth 20) tt;
      within = lagging c.args.p c.requires;
    } in
    let f = c.from-weight.ensures ∙ ap pos c.total_weight.ensures in
    let w = from-small (2 ^ 16) (total_weight c.args.p) c.from-weight.result f c.requires.light in
    let q = origin-within c.args.p c.requires in
    let o : Is (2 ^ 60) (to_z w64 (of_z w64 c.from-weight.result) *ℤ to_z w64 (of_z w64 c.args.p.origin))
    (pos (total_weight c.args.p) *ℤ c.args.p.origin) = record {
      is = exactly (search exact depth 20) tt;
      within = c.requires.origin.within;
    } in
    sfits (search exact depth 20) tt

pub overflow_mul-result-4 : goal.overflow_mul-result-4
overflow_mul-result-4 c =
    let f = c.from-weight.ensures ∙ ap pos c.total_weight.ensures in
    let w = from-small (2 ^ 16) (total_weight c.args.p) c.from-weight.result f c.requires.light in
    sfits (search exact depth 20) tt

pub returns : goal.returns
returns c =
    let e = c.from-lag.ensures ∙ ap pos c.lag_of.ensures in
    let l = from-small (2 ^ 25) (lag_of c.args.p) c.from-lag.result e (lag-small c.args.p c.requires) in
    let b : Is (2 ^ 54) (to_z w64 (of_z w64 c.from-lag.result) *ℤ to_z w64 (of_z w64 c.args.p.regions.start))
    (pos (lag_of c.args.p) *ℤ c.args.p.regions.start) = record {
      is = exactly (search exact depth 20) tt;
      within = lagging c.args.p c.requires;
    } in
    let f = c.from-weight.ensures ∙ ap pos c.total_weight.ensures in
    let w = from-small (2 ^ 16) (total_weight c.args.p) c.from-weight.result f c.requires.light in
    let q = origin-within c.args.p c.requires in
    let o : Is (2 ^ 60) (to_z w64 (of_z w64 c.from-weight.result) *ℤ to_z w64 (of_z w64 c.args.p.origin))
    (pos (total_weight c.args.p) *ℤ c.args.p.origin) = record {
      is = exactly (search exact depth 20) tt;
      within = c.requires.origin.within;
    } in
    state-0 c.args.p _ _ (exactly (search exact depth 20) tt) (exactly (search exact depth 20) tt) c.requires.some
