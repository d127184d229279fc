-- Damping as measured, by computing the definitions.
use mathlib.Core.Path.{refl}
use lib.Ieee
use Rattle.model.specs.planning.Damping.{meets, largest_to}
use Rattle.model.specs.cases.DampingCases.{WeightsRounded}

pub weights-rounded : WeightsRounded
unfolding largest_to meets Ieee.le Ieee.mul Ieee.div Ieee.of_int
weights-rounded = refl
