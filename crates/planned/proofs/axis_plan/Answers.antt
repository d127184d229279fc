use Prim.Native.Nat.{◌≤◌}
use mathlib.Core.Path.{◌≡◌, ap, ◌∙◌}
use native.Mathlib.Omega.{arith}
use native.Mathlib.Nat.{mul-le-mul}
use lib.IntN.{ℤ, ◌-ℤ◌}
use mir.Syntax.{w64}
use mir.Val.{to_z, of_z}
use Rattle.whole.proofs.Bounds.{exact, exactly}
use Rattle.model.specs.planning.Motion.{start_position, displacement}
use Rattle.motion.proofs.PlannableAxis.{plannable-landed, plannable-ranges}
use Rattle.planned.proofs.Scale.{scale_small}
use Rattle.planned.proofs.PlannableAxis.{plan-feasible, plan-is}
use Rattle.planned.proofs.axis_plan.Goals as goal

pub profile_of-profile-requires-clause-n_bound : goal.profile_of-profile-requires-clause-n_bound
profile_of-profile-requires-clause-n_bound c = plannable-landed c.requires

pub chosen-requires-clause-displacement_value : goal.chosen-requires-clause-displacement_value
chosen-requires-clause-displacement_value c =
    let x = c.args.x in
    let l = c.landing_at-landing in
    -- the displacement, as the number that it is
    let e : to_z w64 (of_z w64 c.displacement.result) ≡ l.result.position -ℤ start_position x =
    exactly (search exact depth 9) tt in
    let way : to_z w64 (of_z w64 c.displacement.result) ≡ displacement x c.args.n =
    e ∙ ap (λ (z : ℤ). z -ℤ start_position x) l.ensures.position.is in
    plan-feasible x c.args.n c.profile_of-profile.result _ c.profile_of-profile.ensures.is way c.requires

pub overflow_sub-result : goal.overflow_sub-result
overflow_sub-result c =
    omega (arith, c.second_weight-second_weight.ensures, (plannable-ranges c.requires).second_weight)

pub overflow_mul-result-2 : goal.overflow_mul-result-2
overflow_mul-result-2 c =
    let light : c.second_weight-second_weight.result ≤ 128 =
    omega (arith, c.second_weight-second_weight.ensures, (plannable-ranges c.requires).second_weight) in
    let small : c.weight_scale-scale.result ≤ 256 = omega (arith, c.weight_scale-scale.ensures, scale_small c.args.x) in
    omega (arith, mul-le-mul small light)

pub returns : goal.returns
returns c =
    let x = c.args.x in
    let l = c.landing_at-landing in
    let e : to_z w64 (of_z w64 c.displacement.result) ≡ l.result.position -ℤ start_position x =
    exactly (search exact depth 9) tt in
    let way : to_z w64 (of_z w64 c.displacement.result) ≡ displacement x c.args.n =
    e ∙ ap (λ (z : ℤ). z -ℤ start_position x) l.ensures.position.is in
    plan-is x c.args.n c.profile_of-profile.result _ c.profile_of-profile.ensures.is way _ _ _ _ _ _
    (exactly (search exact depth 9) tt) (exactly (search exact depth 9) tt)
    c.chosen.ensures (exactly (search exact depth 9) tt)
    c.second_weight-second_weight.ensures c.weight_scale-scale.ensures
