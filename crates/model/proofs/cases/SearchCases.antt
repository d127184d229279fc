-- Searches with a budget, by computing the definitions.
use mathlib.Core.Path.{refl}
use Rattle.model.specs.planning.Quantities.{finer}
use Rattle.model.specs.calls.Search.{search_from, search_call}
use Rattle.model.specs.cases.SearchCases.{SearchCasesHold}

pub search-cases : SearchCasesHold
unfolding finer search_from search_call
search-cases = refl
