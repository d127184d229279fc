use Rattle.std.proofs.Common.{ℕ, ◌≡◌, length, sym, ap, ◌∙◌, rules}
use Rattle.std.specs.declared.result.Result.{Result}
use Rattle.model.specs.declared.TourAnswer.{TourAnswer}
use Rattle.model.specs.calls.Tour.{tour_outcome_of}
use Rattle.stops.proofs.Promise.{row-promise}
use Rattle.tour.specs.Totals.{answered}
use Rattle.tour.proofs.tour_of_row.Goals as goal

pub returns-in-Ok : goal.returns-in-Ok
returns-in-Ok c =
    let a = c.args in
    let l = c.total_of.new.arrivals in
    let long : length a.row.stops ≡ 64 = search rules in
    row-promise a.settings a.arrivals.now c.accepted-in-Ok.result l a.row long
    (ap (λ (z : TourAnswer). tour_outcome_of z l) c.accepted-in-Ok.ensures
    ∙ ap (λ (z : Result ℕ TourAnswer). tour_outcome_of (answered a.settings z) l) (sym c.in-Ok.is)
    ∙ c.total_of.ensures)

pub returns-in-Err : goal.returns-in-Err
returns-in-Err c =
    let a = c.args in
    let l = c.total_of.new.arrivals in
    let long : length a.row.stops ≡ 64 = search rules in
    row-promise a.settings a.arrivals.now c.in-Err.refused l a.row long
    (ap (λ (z : Result ℕ TourAnswer). tour_outcome_of (answered a.settings z) l) (sym c.in-Err.is)
    ∙ c.total_of.ensures)
