use Rattle.model.specs.planning.Job.{set_axes}
use Rattle.arrival.specs.Arrivals.{arrives_in}
use Rattle.search.proofs.Reports.{found-late, found-out, spent-out, nothing-out}
use Rattle.search.proofs.search_from.Goals as goal

pub overflow_sub-result : goal.overflow_sub-result
overflow_sub-result c =
    let a = c.args in
    found-late (arrives_in a.windows (set_axes 0 a.mask a.axes)) a.first a.budget c.min-count.result
    c.min-count.ensures c.in-Some.tick c.in-Some.ensures

pub returns-in-Some : goal.returns-in-Some
returns-in-Some c =
    let a = c.args in
    found-out (arrives_in a.windows (set_axes 0 a.mask a.axes)) a.first a.budget c.min-count.result
    c.min-count.ensures c.in-Some.tick c.in-Some.ensures

pub returns-in-None : goal.returns-in-None
returns-in-None c =
    let a = c.args in
    spent-out (arrives_in a.windows (set_axes 0 a.mask a.axes)) a.first a.budget c.min-count.result
    c.min-count.ensures c.in-None.ensures c.if-budget-left.true

pub returns-in-None-2 : goal.returns-in-None-2
returns-in-None-2 c =
    let a = c.args in
    nothing-out (arrives_in a.windows (set_axes 0 a.mask a.axes)) a.first a.budget c.min-count.result
    c.min-count.ensures c.in-None.ensures c.if-budget-left.false
