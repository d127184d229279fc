use mathlib.Core.Path.{◌≡◌, sym, ap, ◌∙◌}
use Rattle.std.proofs.lemmas.Result.{err_from_is_err_and}
use Rattle.std.specs.declared.result.Result.TheVariants.{Err}
use Rattle.model.specs.declared.Answer.{Answer}
use Rattle.model.specs.planning.Told.{number_of, place_of, answer_to, told}
use Rattle.model.specs.planning.Job.{set_axes}
use Rattle.model.specs.planning.Admission.{typed, planning_rules}
use Rattle.model.specs.planning.Outcome.{call, input_axes, outcome_of, outcome_after}
use Rattle.theorems.proofs.jobs.CheckingOrder.{clear-passed}
use Rattle.theorems.proofs.jobs.BeforeTen.{planning-numbered}
use Rattle.admission.specs.Admitting.{named_with_weight}
use Rattle.admission.proofs.Weights.{given-are, given-passed}
use Rattle.admission.proofs.Admitted.{refused, place-alone, passed}
use Rattle.planner.specs.Promise.{part_answer}
use Rattle.planner.proofs.Calls.{promise-in}
use Rattle.planner.proofs.Stages.{refuses, onward, given-arrives}
use Rattle.planner.proofs.plan_job_in.Goals as goal
use Rattle.planner.proofs.plan_job_in.Goals.{then-any_measured, else-any_measured}

pub returns-in_err-check : goal.returns-in_err-check
returns-in_err-check c =
    let a = c.args in
    let t = a.job in
    let lent = a.table.now in
    let k = c.check in
    let x = c.in_err-check.field-0.0 in
    let err = ap told c.in_err-check.was in
    let alone = place-alone planning_rules planning-numbered (typed t) (told k.result) k.ensures (answer_to x) err in
    let q = refused planning_rules planning-numbered (typed t) (told k.result) k.ensures (number_of x) (place_of x)
    (err ∙ ap Err alone) in
    let p = err_from_is_err_and c.from_residual.result c.from_residual.ensures.1 in
    rw (p.1, p.2) (promise-in a.wanted (typed t) lent (part_answer (Err x)) lent
    (refuses t.mask (input_axes (typed t)) lent a.wanted x (call (typed t) lent) q.not-10
    (ap (λ (b : Answer). outcome_of b lent) alone ∙ sym (ap (outcome_after lent) q.is))))

pub plan_checked-requires-clause-all_passed : goal.plan_checked-requires-clause-all_passed
plan_checked-requires-clause-all_passed c =
    let t = c.args.job in
    let k = c.check in
    -- worked out, or given already
    let given : c.if-any_measured.axes ≡ named_with_weight t.mask t.axes = elim c.if-any_measured.branch [
      | then-any_measured w ↦ w.axes-is ∙ w.with_weight-weighed.ensures
      | else-any_measured w ↦ w.axes-is
          ∙ given-are 0 t.mask t.axes (sym c.any_measured.ensures ∙ w.if-any_measured.false)
    ] in
    let q = passed planning_rules planning-numbered (typed t) (told k.result) k.ensures (ap told c.in_ok-check.was) in
    given-passed t.mask t.axes c.if-any_measured.axes given (clear-passed (set_axes 0 t.mask t.axes) q.clear)

pub returns : goal.returns
returns c =
    let w = c.plan_checked in
    let k = c.check in
    let a = c.args in
    let t = a.job in
    let lent = a.table.now in
    let exit = w.new.table in
    let given : c.if-any_measured.axes ≡ named_with_weight t.mask t.axes = elim c.if-any_measured.branch [
      | then-any_measured w ↦ w.axes-is ∙ w.with_weight-weighed.ensures
      | else-any_measured w ↦ w.axes-is
          ∙ given-are 0 t.mask t.axes (sym c.any_measured.ensures ∙ w.if-any_measured.false)
    ] in
    let q = passed planning_rules planning-numbered (typed t) (told k.result) k.ensures (ap told c.in_ok-check.was) in
    promise-in a.wanted (typed t) lent (part_answer w.result) exit
    (onward t.mask _ lent a.wanted _ _ (part_answer w.result) exit (sym (ap (outcome_after lent) q.is))
    (given-arrives t.mask t.asked t.axes c.if-any_measured.axes t.windows given lent
    (part_answer w.result) exit a.wanted w.ensures))
