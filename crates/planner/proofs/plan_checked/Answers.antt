use Rattle.std.proofs.lemmas.Result.{err_from_is_err_and}
use Rattle.model.specs.planning.Job.{axes_of, job_with}
use Rattle.model.specs.planning.Outcome.{arrived}
use Rattle.planner.specs.Promise.{part_answer}
use Rattle.planner.proofs.Stages.{refuses, onward, none_found, found, found-not-ten}
use Rattle.planner.proofs.plan_checked.Goals as goal

pub returns-in_err-tick : goal.returns-in_err-tick
returns-in_err-tick c =
    let a = c.args in
    let f = c.arrival_of in
    let j = job_with a.mask a.asked a.axes a.windows in
    let x = c.in_err-tick.field-0.0 in
    let was = c.in_err-tick.was in
    let p = err_from_is_err_and c.from_residual.result c.from_residual.ensures.1 in
    rw (p.1, p.2) (refuses a.mask (axes_of j) a.table.now a.wanted x (arrived j a.asked a.table.now)
    (found-not-ten j f.result f.ensures.is x was) (none_found j a.table.now f.result f.ensures.is x was))

pub returns : goal.returns
returns c =
    let a = c.args in
    let f = c.arrival_of in
    let w = c.write_rows in
    let j = job_with a.mask a.asked a.axes a.windows in
    onward a.mask _ a.table.now a.wanted _ _ (part_answer w.result) w.new.table
    (found j a.table.now f.result f.ensures.is c.in_ok-tick.tick c.in_ok-tick.was) w.ensures
