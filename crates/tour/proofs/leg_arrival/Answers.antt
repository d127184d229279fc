use Rattle.std.proofs.Common.{Ok, Err}
use Rattle.std.proofs.lemmas.Result.{err_from_is_err_and}
use Rattle.tour.proofs.Legs.{leg-is}
use Rattle.tour.proofs.leg_arrival.Goals as goal

pub returns-in_err-planned : goal.returns-in_err-planned
returns-in_err-planned c =
    let a = c.args in
    let p = err_from_is_err_and c.from_residual.result c.from_residual.ensures.1 in
    rw (p.1, p.2)
    (leg-is a.settings a.here a.there 4097 _ _ c.leg_job-job.result c.leg_job-job.ensures
    (Err c.in_err-planned.field-0.0) c.in_err-planned.ensures)

pub returns : goal.returns
returns c =
    let a = c.args in
    leg-is a.settings a.here a.there 4097 _ _ c.leg_job-job.result c.leg_job-job.ensures
    (Ok c.in_ok-planned.planned) c.in_ok-planned.ensures
