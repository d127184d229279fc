use mathlib.Core.Path.{◌∙◌}
use Rattle.model.specs.planning.Job.{set_axes}
use Rattle.rows.proofs.PlannableAxes.{all-plannable}
use Rattle.rows.proofs.JobTable.{fillable, plan-rows}
use Rattle.rows.proofs.fill_part.Goals as goal

pub fill-requires-clause-fillable : goal.fill-requires-clause-fillable
fill-requires-clause-fillable c =
    let a = c.args in
    -- each axis of the mask can be planned
    let plannable = all-plannable a.n
    (set_axes 0 a.mask a.axes) c.requires.all_passed c.requires.n_le_last_tick c.requires.n_value in
    let p = c.plan_for-plan in
    fillable a.mask a.n a.axes plannable p.result p.ensures

pub returns : goal.returns
returns c =
    let a = c.args in
    let plannable = all-plannable a.n
    (set_axes 0 a.mask a.axes) c.requires.all_passed c.requires.n_le_last_tick c.requires.n_value in
    let p = c.plan_for-plan in
    c.fill.ensures
    ∙ plan-rows a.mask a.n a.axes plannable p.result p.ensures a.order a.first a.rows a.table.now c.requires.rows_bound
