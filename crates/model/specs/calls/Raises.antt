-- The smallest change that makes it (docs/METHOD.md, 8.2): the least raise of one limit alone,
-- within its range, for which an axis reaches an arrival; both raises of an axis in order; and the
-- call. The theorem `raises-hold` says what an answer claims, by the existence of a list.
use Rattle.std.specs.Prelude.{ℕ, ◌+◌, ◌-◌, true, false, List, [], ◌∷◌, eqb, leb, set, replicate}
use Rattle.std.specs.Prelude.{Option, None, Some}
use Rattle.model.specs.declared.Answer.{Answer}
use Rattle.model.specs.declared.Axis.{Axis}
use Rattle.model.specs.declared.Limit.{Limit}
use Rattle.model.specs.declared.Limit.TheVariants.{Acceleration, Speed}
use Rattle.model.specs.declared.Raise.TheVariants.{AccelerationBy, SpeedBy}
use Rattle.model.specs.declared.AxisRaises.{AxisRaises}
use Rattle.model.specs.declared.RaisesAnswer.{RaisesAnswer}
use Rattle.model.specs.planning.Quantities.{speed_limit, acceleration_limit}
use Rattle.model.specs.planning.Motion.{reachable}
use Rattle.model.specs.planning.Job.{Job, JobAxis}
use Rattle.model.specs.planning.Outcome.{least_from, Input, input_job, answer_of}

-- ---- an axis with other limits

-- L and M
abbrev pub with_limits : ℕ → ℕ → Axis → Axis
with_limits l m x =
    record {
      start = x.start;
      speed_limit = l;
      acceleration_limit = m;
      half_period = x.half_period;
      second_weight = x.second_weight;
      second_sway = x.second_sway;
      target = x.target;
    }

-- one limit alone: what it is, the highest of its range, and the axis with another
abbrev pub limit_of : Limit → Axis → ℕ
limit_of Acceleration x = acceleration_limit x
limit_of Speed x = speed_limit x

abbrev pub highest : Limit → ℕ
highest Acceleration = 65536
highest Speed = 1048576

abbrev pub with_limit : Limit → ℕ → Axis → Axis
with_limit Acceleration m x = with_limits (speed_limit x) m x
with_limit Speed l x = with_limits l (acceleration_limit x) x

-- ---- the least raise of one limit

-- from 1 on, within the range: the first for which the axis reaches n
unfoldable pub raise_of : Limit → Axis → ℕ → Option ℕ
raise_of q x n = least_from (λ r. reachable (with_limit q (limit_of q x + r) x) n) 1 (highest q - limit_of q x)

-- ---- both limits of an axis

abbrev pub no_raises : AxisRaises
no_raises = record { first = None; second = None }

-- the raise of M and that of L: the smaller first, M's if equal; one that does not exist is left
-- out
abbrev pub in_order : Option ℕ → Option ℕ → AxisRaises
in_order None None = no_raises
in_order (Some m) None = record { first = Some (AccelerationBy m); second = None }
in_order None (Some l) = record { first = Some (SpeedBy l); second = None }
in_order (Some m) (Some l) =
    elim (leb m l) [
      | true ↦ record { first = Some (AccelerationBy m); second = Some (SpeedBy l) }
      | false ↦ record { first = Some (SpeedBy l); second = Some (AccelerationBy m) }
    ]

abbrev pub raises_of : Axis → ℕ → AxisRaises
raises_of x n = in_order (raise_of Acceleration x n) (raise_of Speed x n)

-- ---- all axes of a job

-- those of the axes that do not reach n, lowest first, each put at its number; windows are not
-- asked
abbrev pub raises_from : ℕ → List JobAxis → List AxisRaises → List AxisRaises
raises_from n [] l = l
raises_from n (x ∷ xs) l =
    elim (reachable x.axis n) [
      | true ↦ raises_from n xs l
      | false ↦ raises_from n xs (set l x.number (raises_of x.axis n))
    ]

abbrev pub none_raised : List AxisRaises
none_raised = replicate 6 no_raises

-- ---- the call

-- 8 brings the raises of the axes that do not reach the asked arrival, and no other number brings
-- any
abbrev pub raises_with : Answer → Job → RaisesAnswer
raises_with a j =
    record {
      answer = a;
      axes = elim (eqb a.number 8) [ true ↦ raises_from j.asked j.axes none_raised | false ↦ none_raised ];
    }

-- the planning answer before 10, with its raises
unfoldable pub raises_call : Input → RaisesAnswer
raises_call q = raises_with (answer_of q) (input_job q)
