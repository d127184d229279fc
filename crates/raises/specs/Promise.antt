-- What the calls for raises promise, `raises_job` and `raises_words`. Neither asks anything of its
-- caller.
use Rattle.std.specs.Prelude.{◌≡◌}
use Rattle.model.specs.declared.RaisesAnswer.{RaisesAnswer}
use Rattle.model.specs.planning.Outcome.{Input, input_job}
use Rattle.model.specs.calls.Raises.{raises_call}
use Rattle.theorems.specs.Raises.{RaisesHold, RaisesCallVerdict}

-- q is what the call was given, r the answer
pub record RaisesPromise (q : Input) (r : RaisesAnswer) : Type 0 where
  -- the planning answer before 10 and every entry are those of the definitions
  pub is : r ≡ raises_call q
  -- the number comes only in its named case, said of the words or of the mask,
  -- and of the job that they bring
  pub verdict : RaisesCallVerdict q r
  -- By the existence of a list: where the number is 8, a raise that is reported of an axis that the
  -- mask names is enough and one less is not, and where none is reported no limit of the range is.
  -- No other entry, and with any other number no entry, has a raise.
  pub holds : RaisesHold (input_job q) r
