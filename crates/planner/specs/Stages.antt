-- What the stages of a call give back to one another, for what the call wants.
use Rattle.std.specs.Prelude.{ℕ, suc, ◌≡◌, true, false, List, ltb, ℤ, Option, None, Some}
use Rattle.model.specs.declared.Answer.{Answer}
use Rattle.model.specs.declared.Axis.{Axis}
use Rattle.model.specs.declared.PartAnswer.{PartAnswer}
use Rattle.model.specs.declared.Order.TheVariants.{Forwards}
use Rattle.model.specs.planning.Job.{Job, axes_of}
use Rattle.model.specs.planning.Outcome.{Outcome, outcome_of, cells_needed, ordered, before_ten}
use Rattle.model.specs.calls.Parts.{part_rows, part_with}
use Rattle.planner.specs.declared.Choice.{Choice}
use Rattle.planner.specs.declared.Wanted.{Wanted}
use Rattle.planner.specs.declared.Wanted.TheVariants.{Whole, From}
use Rattle.planner.specs.Promise.{Fitted, part_outcome}

-- the rows that are wanted of so many axes with arrival n, in so many cells: all of them, in an
-- order, where the cells are enough; or as many as fit from row k on
abbrev pub choice_for : Wanted → ℕ → ℕ → ℕ → Option Choice
choice_for (Whole o) axes n cells =
    elim (ltb cells (cells_needed axes n)) [
      | true ↦ None
      | false ↦ Some (record { order = o; first = 0; rows = suc n })
    ]
choice_for (From k) axes n cells = Some (record { order = Forwards; first = k; rows = part_rows axes n k cells })

-- a stage that ends a call for all rows: the answer and the lent table are an outcome of the
-- definitions
pub record GivesAll (o : Outcome) (r : Answer) (exit : List ℤ) : Type 0 where
  pub outcome : outcome_of r exit ≡ o
  pub fitted : r.number ≡ 0 → Fitted r exit

-- a stage that ends a call for what is wanted, of the axes xs of mask m: o is what the forward call
-- for all rows gives from here on
abbrev pub Gives : Wanted → ℕ → List Axis → List ℤ → Outcome → PartAnswer → List ℤ → Type 0
Gives (Whole w) m xs lent o r exit = GivesAll (ordered w xs lent o) r.answer exit
Gives (From k) m xs lent o r exit = part_outcome r exit ≡ part_with (before_ten m o) xs k lent

-- the same of a job j, from a stage of the definitions on
abbrev pub GivesFrom : Wanted → Job → (Job → List ℤ → Outcome) → List ℤ → PartAnswer → List ℤ → Type 0
GivesFrom w j stage lent r exit = Gives w j.mask (axes_of j) lent (stage j lent) r exit
