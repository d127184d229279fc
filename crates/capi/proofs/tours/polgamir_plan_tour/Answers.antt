-- `polgamir_plan_tour` meets its contract: a walk of its MIR, by hand, since no function over a
-- slice of structs is covered. `stop_row` gets a copy of the lent row, and `tour_by_value` the lent
-- list at its own lifetime, share and ghost name: the borrow is given up for good, and what the
-- callee says of its last list is what this function says.
-- Assumes nothing.
use Rattle.std.proofs.Common.{subst}
use Rattle.layout.specs.Tours.{settings_of}
use Rattle.stops.specs.declared.StopRow.{StopRow}
use Rattle.stops.specs.Rows.{row_stops}
use Rattle.stops.specs.Promise.{TourPromise}
use Rattle.stops.proofs.Promise.{list-promise}
use Rattle.capi.proofs.tours.polgamir_plan_tour.Goals as goal

pub returns : goal.returns
returns c =
    let a = c.args in
    let t = settings_of a.tour in
    let tour = c.tour_by_value in
    list-promise t a.arrivals.now tour.result tour.new.arrivals a.stops.now
    (subst (λ (w : StopRow). TourPromise t (row_stops w) a.arrivals.now tour.result tour.new.arrivals)
    c.stop_row-row.ensures tour.ensures)
