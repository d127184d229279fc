-- A call with its rows in an order: its answer is that of the forward call; a refusal stays, and an
-- accepted job has its rows in the order.
use mathlib.Core.Path.{◌≡◌, refl}
use mathlib.Core.Bool.{Bool, true, false}
use mathlib.Core.List.{List}
use lib.IntN.{ℤ}
use lib.Dec.{eqb}
use borrow.Author.Tests.{eq-eqb, ne_eqb}
use Rattle.whole.proofs.Tests.{choice-yes, choice-no}
use Rattle.model.specs.declared.Axis.{Axis}
use Rattle.model.specs.declared.Order.{Order}
use Rattle.model.specs.declared.Order.TheVariants.{Forwards, Backwards}
use Rattle.model.specs.planning.Outcome.{Outcome, outcome_of, answer_in, table_over, ordered}

-- an accepted job's outcome with its rows backwards
abbrev pub turned : List Axis → List ℤ → Outcome → Outcome
turned xs lent r = outcome_of (answer_in r) (table_over Backwards xs r.arrival lent)

module _ (xs : List Axis) (lent : List ℤ) (r : Outcome) where
  pub answer-stays : (o : Order) → answer_in (ordered o xs lent r) ≡ answer_in r
  answer-stays Forwards = refl
  answer-stays Backwards = go (eqb r.number 0)
    where
      go : (b : Bool) → answer_in (elim b as (λ _. Outcome) [ true ↦ turned xs lent r | false ↦ r ]) ≡ answer_in r
      go true = refl
      go false = refl

  pub refusal-stays : (o : Order) → (r.number ≡ 0 → ⊥) → r ≡ ordered o xs lent r
  refusal-stays Forwards h = refl
  refusal-stays Backwards h = choice-no (eqb r.number 0) (turned xs lent r) r (ne_eqb r.number 0 h)

  pub rows-turn : r.number ≡ 0 → turned xs lent r ≡ ordered Backwards xs lent r
  rows-turn z = choice-yes (eqb r.number 0) (turned xs lent r) r (eq-eqb r.number 0 z)
