use mathlib.Core.Path.{◌∙◌}
use Rattle.model.specs.planning.Admission.{typed}
use Rattle.search.proofs.Ways.{promise}
use Rattle.search.proofs.search_job.Goals as goal

pub returns-in-Ok : goal.returns-in-Ok
returns-in-Ok c =
    let a = c.args in
    promise (typed a.job) a.first a.budget c.answered.result (c.answered.ensures ∙ c.in-Ok.ensures)

pub returns-in-Err : goal.returns-in-Err
returns-in-Err c =
    let a = c.args in
    promise (typed a.job) a.first a.budget c.refused.result (c.refused.ensures ∙ c.in-Err.ensures)
