use Prim.Native.Nat.{◌+◌, ◌^◌}
use mathlib.Core.Path.{refl}
use native.Mathlib.Omega.{arith}
use lib.IntN.{pos, ◌*ℤ◌}
use mir.Syntax.{w64}
use mir.Val.{to_z, of_z}
use Rattle.whole.specs.Integers.{sum_to}
use Rattle.whole.specs.Ranges.{Is}
use Rattle.whole.proofs.Bounds.{exact, sfits, exactly}
use Rattle.motion.proofs.Converted.{from-small}
use Rattle.planned.specs.Plans.{velocity_back}
use Rattle.blended.proofs.BlendedRanges.{weights-small}
use Rattle.blended.proofs.BlendedSums.{weighed-within, weights-light, blend-sum-is}
use Rattle.blended.proofs.blended_sum_back.Goals as goal

pub overflow_mul-result : goal.overflow_mul-result
overflow_mul-result c =
    let p = c.args.p in
    let r = c.requires.plan_ranges in
    let w = from-small (2 ^ 16) p.first_weight c.from.result c.from.ensures (omega (arith, weights-small p r)) in
    let x : Is (2 ^ 58) (to_z w64 (of_z w64 c.from.result) *ℤ to_z w64 (of_z w64 c.sum_back-ahead.result))
    (pos p.first_weight *ℤ sum_to (velocity_back p c.args.d) c.args.k) =
    record {
      is = exactly (search exact depth 20) tt;
      within =
          weighed-within p r c.args.k c.requires.k_bound p.first_weight c.args.d
          (weights-light p r c.args.k c.requires.k_bound).0;
    } in
    sfits (search exact depth 9) tt

pub overflow_mul-result-2 : goal.overflow_mul-result-2
overflow_mul-result-2 c =
    let p = c.args.p in
    let r = c.requires.plan_ranges in
    let w = from-small (2 ^ 16) p.second_weight c.from-2.result c.from-2.ensures (omega (arith, weights-small p r)) in
    let y : Is (2 ^ 58) (to_z w64 (of_z w64 c.from-2.result) *ℤ to_z w64 (of_z w64 c.sum_back-behind.result))
    (pos p.second_weight *ℤ sum_to (velocity_back p (c.args.d + p.half_period)) c.args.k) =
    record {
      is = exactly (search exact depth 20) tt;
      within =
          weighed-within p r c.args.k c.requires.k_bound p.second_weight (c.args.d + p.half_period)
          (weights-light p r c.args.k c.requires.k_bound).1;
    } in
    sfits (search exact depth 9) tt

pub overflow_add-result : goal.overflow_add-result
overflow_add-result c =
    let p = c.args.p in
    let r = c.requires.plan_ranges in
    let v = from-small (2 ^ 16) p.first_weight c.from.result c.from.ensures (omega (arith, weights-small p r)) in
    let w = from-small (2 ^ 16) p.second_weight c.from-2.result c.from-2.ensures (omega (arith, weights-small p r)) in
    let x : Is (2 ^ 58) (to_z w64 (of_z w64 c.from.result) *ℤ to_z w64 (of_z w64 c.sum_back-ahead.result))
    (pos p.first_weight *ℤ sum_to (velocity_back p c.args.d) c.args.k) =
    record {
      is = exactly (search exact depth 20) tt;
      within =
          weighed-within p r c.args.k c.requires.k_bound p.first_weight c.args.d
          (weights-light p r c.args.k c.requires.k_bound).0;
    } in
    let y : Is (2 ^ 58) (to_z w64 (of_z w64 c.from-2.result) *ℤ to_z w64 (of_z w64 c.sum_back-behind.result))
    (pos p.second_weight *ℤ sum_to (velocity_back p (c.args.d + p.half_period)) c.args.k) =
    record {
      is = exactly (search exact depth 20) tt;
      within =
          weighed-within p r c.args.k c.requires.k_bound p.second_weight (c.args.d + p.half_period)
          (weights-light p r c.args.k c.requires.k_bound).1;
    } in
    sfits (search exact depth 9) tt

pub returns : goal.returns
returns c =
    let p = c.args.p in
    let r = c.requires.plan_ranges in
    let v = from-small (2 ^ 16) p.first_weight c.from.result c.from.ensures (omega (arith, weights-small p r)) in
    let w = from-small (2 ^ 16) p.second_weight c.from-2.result c.from-2.ensures (omega (arith, weights-small p r)) in
    let x : Is (2 ^ 58) (to_z w64 (of_z w64 c.from.result) *ℤ to_z w64 (of_z w64 c.sum_back-ahead.result))
    (pos p.first_weight *ℤ sum_to (velocity_back p c.args.d) c.args.k) =
    record {
      is = exactly (search exact depth 20) tt;
      within =
          weighed-within p r c.args.k c.requires.k_bound p.first_weight c.args.d
          (weights-light p r c.args.k c.requires.k_bound).0;
    } in
    let y : Is (2 ^ 58) (to_z w64 (of_z w64 c.from-2.result) *ℤ to_z w64 (of_z w64 c.sum_back-behind.result))
    (pos p.second_weight *ℤ sum_to (velocity_back p (c.args.d + p.half_period)) c.args.k) =
    record {
      is = exactly (search exact depth 20) tt;
      within =
          weighed-within p r c.args.k c.requires.k_bound p.second_weight (c.args.d + p.half_period)
          (weights-light p r c.args.k c.requires.k_bound).1;
    } in
    blend-sum-is p r c.args.k c.requires.k_bound c.args.d _ _ _ (exactly (search exact depth 9) tt) refl refl
