-- Cases of positions past 28 bits, by computing the definitions.
use mathlib.Core.List.{flatten}
use mathlib.Core.Path.{refl}
use Rattle.model.specs.planning.Quantities.{finer}
use Rattle.model.specs.planning.Leg.{cruise}
use Rattle.model.specs.cases.LongCases.{LongCasesHold}

pub long-cases : LongCasesHold
unfolding cruise finer flatten
long-cases = (
  (refl, (refl, (refl, (refl, tt)))),
  (refl, (refl, (refl, (refl, (refl, (refl, (refl, (refl, (refl, tt))))))))),
)
