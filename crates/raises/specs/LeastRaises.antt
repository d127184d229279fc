-- The least raise of one limit, as the code gives it and as a search over the limit's range.
use Rattle.std.specs.Prelude.{ℕ, ◌+◌, ◌-◌}
use Rattle.std.specs.Prelude.{Option}
use Rattle.model.specs.declared.Limit.{Limit}
use Rattle.model.specs.planning.Outcome.{least_from}
use Rattle.model.specs.calls.Raises.{highest}
use Rattle.least_limit.specs.declared.Task.{Task}
use Rattle.least_limit.specs.Limits.{limit_in, enough_with}

-- the least that is added to a limit of a task, within the limit's range, for which it is enough
unfoldable pub least_raise : Limit → Task → Option ℕ
least_raise q t = least_from (λ r. enough_with q t (limit_in q t + r)) 1 (highest q - limit_in q t)
