-- What the calls for a search promise.
use Rattle.std.specs.Prelude.{ℕ, ◌≡◌}
use Rattle.model.specs.declared.SearchAnswer.{SearchAnswer}
use Rattle.model.specs.planning.Outcome.{Input}
use Rattle.search.specs.Promise.{SearchPromise}
use Rattle.layout.specs.declared.searches.PolgamirSearchAnswer.{PolgamirSearchAnswer}
use Rattle.layout.specs.Searches.{searched_of}

-- what a call promises: it gives back an answer that keeps the promise of the search, in C's layout
pub record SearchReturned (q : Input) (first budget : ℕ) (r : PolgamirSearchAnswer) : Type 0 where
  pub answer : SearchAnswer
  pub promise : SearchPromise q first budget answer
  pub is : r ≡ searched_of answer
