-- Single definitions and rows, by computing the definitions.
use mathlib.Core.Path.{refl}
use mathlib.Core.List.{[], ◌∷◌, flatten}
use lib.IntN.{pos}
use Rattle.model.specs.declared.Order.TheVariants.{Forwards, Backwards}
use Rattle.model.specs.planning.Quantities.{finer}
use Rattle.model.specs.planning.Leg.{cruise}
use Rattle.model.specs.cases.Case.{Hold}
use Rattle.model.specs.cases.RowCases.{TopSpeedCruised, MovedBefore, FinestGrid, row_cases, TableIs}
use Rattle.model.specs.cases.RowCases.{CellsStand, ExactD}

pub top-speed-cruised : TopSpeedCruised
unfolding cruise
top-speed-cruised = refl

pub moved_before : MovedBefore
unfolding finer
moved_before = refl

pub finest-grid : FinestGrid
unfolding finer
finest-grid = refl

pub row-cases : Hold row_cases
unfolding cruise finer flatten
row-cases = (refl, (refl, (refl, (refl, (refl, tt)))))

pub table-forwards : TableIs Forwards
unfolding cruise finer flatten
table-forwards = refl

pub table-backwards : TableIs Backwards
unfolding cruise finer flatten
table-backwards = refl

pub cells-forwards : CellsStand Forwards (pos 5 ∷ pos 11 ∷ [])
cells-forwards = refl

pub cells-backwards : CellsStand Backwards (pos 11 ∷ pos 5 ∷ [])
cells-backwards = refl

pub exact-D : ExactD
unfolding cruise finer
exact-D = refl
