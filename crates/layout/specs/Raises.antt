-- The raises of limits as include/polgamir.h lays them out.
use Rattle.std.specs.Prelude.{Option, None, Some, map}
use Rattle.model.specs.declared.Answer.{Answer}
use Rattle.model.specs.declared.AxisRaises.{AxisRaises}
use Rattle.model.specs.declared.Raise.{Raise}
use Rattle.model.specs.declared.Raise.TheVariants.{AccelerationBy, SpeedBy}
use Rattle.model.specs.declared.RaisesAnswer.{RaisesAnswer}
use Rattle.layout.specs.declared.PolgamirAnswer.{PolgamirAnswer}
use Rattle.layout.specs.declared.limit_raises.PolgamirRaise.{PolgamirRaise}
use Rattle.layout.specs.declared.limit_raises.PolgamirAxisRaises.{PolgamirAxisRaises}
use Rattle.layout.specs.declared.limit_raises.PolgamirRaises.{PolgamirRaises}

abbrev pub answer_in_c : Answer → PolgamirAnswer
answer_in_c r = record { number = r.number; mask = r.mask; place = r.place; arrival = r.arrival }

-- limit 1 is M, limit 2 is L, and none is 0 in both fields
abbrev pub raise_in_c : Option Raise → PolgamirRaise
raise_in_c (Some (AccelerationBy m)) = record { limit = 1; by = m }
raise_in_c (Some (SpeedBy l)) = record { limit = 2; by = l }
raise_in_c None = record { limit = 0; by = 0 }

abbrev pub entry_in_c : AxisRaises → PolgamirAxisRaises
entry_in_c r = record { first = raise_in_c r.first; second = raise_in_c r.second }

abbrev pub raises_in_c : RaisesAnswer → PolgamirRaises
raises_in_c r = record { answer = answer_in_c r.answer; axes = map entry_in_c r.axes }
