use mathlib.Core.Path.{◌≡◌}
use Rattle.model.specs.planning.Damping.{largest_to, ratio_weight}
use Rattle.damping.proofs.ratio_weight.Given as goal

-- none above has met
abbrev pub invariant-loop-weight : goal.invariant-loop-weight
invariant-loop-weight l = largest_to l.ratio l.weight ≡ ratio_weight l.ratio
