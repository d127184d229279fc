-- The small tours, by computation.
use mathlib.Core.Path.{refl}
use Rattle.model.specs.planning.Quantities.{finer}
use Rattle.model.specs.planning.Outcome.{answer_of}
use Rattle.stops.specs.Cases.{Small}

pub small : Small
unfolding answer_of finer
small = refl
