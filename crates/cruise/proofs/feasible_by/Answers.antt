use mathlib.Core.Path.{◌≡◌, sym, ap, ap₂, ◌∙◌}
use mir.Syntax.{w64}
use mir.Val.{to_z, of_z}
use Rattle.whole.proofs.Bounds.{exactly, exact}
use Rattle.whole.proofs.Tests.{and_yes}
use Rattle.model.specs.planning.Leg.{required, sum_is_whole}
use Rattle.profile.specs.Profiles.{sum_between}
use Rattle.profile.proofs.FeasibleParts.{feasible-parts}
use Rattle.cruise.proofs.feasible_by.Goals as goal
use Rattle.cruise.proofs.feasible_by.Goals.{then-ends_allowed, else-ends_allowed}

pub returns-then-sum_is_whole : goal.returns-then-sum_is_whole
returns-then-sum_is_whole g c =
    let p = c.args.p in
    let d : to_z w64 (of_z w64 c.args.displacement) ≡ c.args.displacement = exactly (search exact depth 9) tt in
    elim c.if-ends_allowed.branch [
      | then-ends_allowed w ↦
          and_yes _ _ (sym c.ends_allowed.ensures ∙ w.if-ends_allowed.true)
          (and_yes _ _ (sym (w.sum_is_whole.ensures ∙ ap (sum_is_whole p) d) ∙ sym w.value-is ∙ c.if-sum_is_whole.true)
          (c.sum_between.ensures
          ∙ ap₂ sum_between c.of.ensures.profile (c.of.ensures.sum ∙ ap (required p) d)))
          ∙ sym (feasible-parts p c.args.displacement)
      | else-ends_allowed w ↦ cc
    ]
