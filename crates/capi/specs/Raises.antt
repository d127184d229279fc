-- What the calls for raises promise.
use Rattle.std.specs.Prelude.{◌≡◌}
use Rattle.model.specs.planning.Outcome.{Input, input_job}
use Rattle.model.specs.calls.Raises.{raises_call}
use Rattle.theorems.specs.Raises.{RaisesHold, RaisesCallVerdict}
use Rattle.layout.specs.declared.limit_raises.PolgamirRaises.{PolgamirRaises}
use Rattle.layout.specs.Raises.{raises_in_c}

-- q is what a call was given, c what it gave back
pub record RaisesReturned (q : Input) (c : PolgamirRaises) : Type 0 where
  -- the planning answer before 10 and every entry are those of the definitions
  pub is : c ≡ raises_in_c (raises_call q)
  -- whose number comes only in its named case
  pub verdict : RaisesCallVerdict q (raises_call q)
  -- which say, by the existence of a list, what `RaisesPromise` (crate `raises`) says
  pub holds : RaisesHold (input_job q) (raises_call q)
