use mathlib.Core.Path.{◌≡◌, sym, ap, ◌∙◌}
use Rattle.std.specs.Prelude.{Err}
use Rattle.std.proofs.lemmas.Result.{err_from_is_err_and}
use Rattle.model.specs.planning.Job.{set_axes}
use Rattle.model.specs.calls.Search.{search_answer}
use Rattle.theorems.proofs.jobs.CheckingOrder.{clear-passed}
use Rattle.admission.specs.Admitting.{named_with_weight}
use Rattle.admission.proofs.Weights.{given-are, given-passed}
use Rattle.search.specs.Promise.{answer_of}
use Rattle.search.proofs.Ways.{job-refused, goes, first-refused, searched}
use Rattle.search.proofs.report_of.Goals as goal
use Rattle.search.proofs.report_of.Goals.{then-any_measured, else-any_measured}
use Rattle.search.proofs.report_of.Goals.{After-first_allowed, Joined-any_measured}

pub returns-in_err-check : goal.returns-in_err-check
returns-in_err-check c =
    let a = c.args in
    let p = err_from_is_err_and c.from_residual.result c.from_residual.ensures.1 in
    ap (answer_of a.job.mask) (p.1 ∙ ap Err p.2)
    ∙ job-refused a.job a.first a.budget c.check.result c.check.ensures c.in_err-check.field-0.0 c.in_err-check.was

pub returns-then-not-first_allowed : goal.returns-then-not-first_allowed
returns-then-not-first_allowed c =
    let a = c.args in
    first-refused a.job a.first a.budget c.check.result c.check.ensures c.in_ok-check.was
    (sym c.first_allowed.ensures ∙ c.if-not-first_allowed.true)

pub search_from-requires-clause-all_passed : goal.search_from-requires-clause-all_passed
search_from-requires-clause-all_passed c =
    let a = c.args in
    let t = a.job in
    -- worked out, or given already
    let weighed : c.if-any_measured.given ≡ named_with_weight t.mask t.axes =
    elim c.if-any_measured.branch [
      | then-any_measured w ↦ (w.given-is ∙ w.with_weight-weighed.ensures)
      | else-any_measured w ↦
          (w.given-is ∙ given-are 0 t.mask t.axes (sym c.any_measured.ensures ∙ w.if-any_measured.false))
    ] in
    given-passed t.mask t.axes c.if-any_measured.given weighed
    (clear-passed (set_axes 0 t.mask t.axes)
    (goes t a.first a.budget c.check.result c.check.ensures c.in_ok-check.was).clear)

pub returns : goal.returns
returns c =
    let a = c.args in
    let t = a.job in
    -- worked out, or given already
    let weighed : c.if-any_measured.given ≡ named_with_weight t.mask t.axes =
    elim c.if-any_measured.branch [
      | then-any_measured w ↦ (w.given-is ∙ w.with_weight-weighed.ensures)
      | else-any_measured w ↦
          (w.given-is ∙ given-are 0 t.mask t.axes (sym c.any_measured.ensures ∙ w.if-any_measured.false))
    ] in
    ap (search_answer t.mask) c.search_from.ensures
    ∙ searched t a.first a.budget c.check.result c.check.ensures c.in_ok-check.was
    (sym c.first_allowed.ensures ∙ c.if-not-first_allowed.false) c.if-any_measured.given weighed
