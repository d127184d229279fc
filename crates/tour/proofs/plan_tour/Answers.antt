-- The row of a list stands for it, and what the call for the row promises is promised of the list.
use Rattle.std.proofs.Common.{subst}
use Rattle.stops.specs.declared.StopRow.{StopRow}
use Rattle.stops.specs.Rows.{row_stops}
use Rattle.stops.specs.Promise.{TourPromise}
use Rattle.stops.proofs.Promise.{list-promise}
use Rattle.tour.proofs.plan_tour.Goals as goal

pub returns : goal.returns
returns c =
    let a = c.args in
    let tour = c.tour_of_row in
    list-promise a.settings a.arrivals.now tour.result tour.new.arrivals a.stops.now
    (subst (λ (w : StopRow). TourPromise a.settings (row_stops w) a.arrivals.now tour.result tour.new.arrivals)
    c.stop_row-row.ensures tour.ensures)
