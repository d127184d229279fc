use mathlib.Core.Path.{sym, subst}
use Rattle.model.specs.planning.Outcome.{typed}
use Rattle.planner.specs.Promise.{part_answer}
use Rattle.parts.specs.Promise.{PartPromise}
use Rattle.parts.proofs.Calls.{promise}
use Rattle.parts.proofs.plan_job_part.Goals as goal

pub returns : goal.returns
returns c =
    let a = c.args in
    let w = c.plan_job_in-planned in
    subst (λ r. PartPromise (typed a.job) a.first a.table.now r w.new.table) (sym c.part_answer.ensures)
    (promise (typed a.job) a.first a.table.now (part_answer w.result) w.new.table w.ensures)
