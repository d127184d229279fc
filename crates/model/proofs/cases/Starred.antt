-- The starred field cases A to J, cases of laser windows, of a second sway, of raises and of the
-- converter, by computing the definitions.
use mathlib.Core.Path.{refl}
use mathlib.Core.List.{flatten}
use Rattle.model.specs.planning.Quantities.{finer}
use Rattle.model.specs.planning.Leg.{cruise}
use Rattle.model.specs.planning.Outcome.{answer_of}
use Rattle.model.specs.calls.Raises.{raise_of, raises_call}
use Rattle.model.specs.cases.FieldCases.{Starred}
use Rattle.model.specs.cases.WindowCases.{WindowCasesHold, RunCasesHold}
use Rattle.model.specs.cases.SwayCases.{SwayCasesHold}
use Rattle.model.specs.cases.RaisesCases.{RaisesCasesHold}
use Rattle.model.specs.cases.ConverterCases.{ConversionsHold}

pub starred : Starred
unfolding cruise finer flatten
starred = (
  (refl, (refl, (refl, (refl, (refl, (refl, tt)))))),
  (refl, (refl, (refl, (refl, (refl, (refl, (refl, (refl, (refl, tt))))))))),
  (refl, (refl, (refl, (refl, (refl, (refl, tt)))))),
)

pub window-cases : WindowCasesHold
unfolding cruise finer
window-cases = (
  (refl, (refl, (refl, (refl, (refl, (refl, (refl, (refl, tt)))))))),
  (refl, (refl, (refl, (refl, (refl, (refl, (refl, tt))))))),
)

pub sway-cases : SwayCasesHold
unfolding cruise finer flatten
sway-cases = (refl, (refl, (refl, (refl, (refl, (refl, (refl, (refl, (refl, (refl, (refl, tt)))))))))))

pub raises-cases : RaisesCasesHold
unfolding finer answer_of raise_of raises_call
raises-cases = refl

pub conversions : ConversionsHold
conversions = refl

-- reach is not a threshold
pub no-threshold : RunCasesHold
unfolding cruise finer
no-threshold = (refl, (refl, (refl, (refl, (refl, tt)))))
