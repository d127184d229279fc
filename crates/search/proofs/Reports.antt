-- The ways out of the search with a budget.
use Prim.Native.Nat.{ℕ, ◌+◌, ◌-◌, ◌<◌, ◌≤◌}
use native.Mathlib.Omega.{arith}
use mathlib.Core.Path.{◌≡◌, refl, sym, ap, ◌∙◌}
use mathlib.Core.Bool.{Bool, true, false}
use Rattle.std.specs.Prelude.{Option, None, Some, min}
use lib.Dec.{ltb}
use borrow.Author.Tests.{lt-ltb, le-ltb, ltb-true, ltb-false}
use Rattle.model.specs.declared.Report.TheVariants.{Found, Spent, Nothing}
use Rattle.model.specs.planning.Outcome.{least_from}
use Rattle.model.specs.calls.Search.{candidates, within_budget, not_found, report_of, search_from}
use Rattle.theorems.proofs.jobs.LeastTick.{least-is}

least-of : (budget left : ℕ) → min budget left ≡ elim (ltb budget left) [ true ↦ budget | false ↦ left ]
least-of budget left = go (ltb budget left) (ltb-true budget left) (ltb-false budget left)
  where
    go : (b : Bool) → (b ≡ true → budget < left) → (b ≡ false → left ≤ budget)
        → min budget left ≡ (elim b as (λ _. ℕ) [ true ↦ budget | false ↦ left ])
    go true f g = omega (arith, f refl)
    go false f g = omega (arith, g refl)

-- the search tries count candidates, and finds a tick or none
module _ (test : ℕ → Bool) (first budget count : ℕ) (is : count ≡ min budget (candidates first)) where
  tried : first + count - first ≡ within_budget budget first
  tried = omega (arith, is, least-of budget (candidates first))

  by-least : (o : Option ℕ) → o ≡ least_from test first (first + count - first)
      → report_of first budget o ≡ search_from test first budget
  unfolding search_from
  by-least o e = ap (report_of first budget) (e ∙ ap (least_from test first) tried)

  module _ (n : ℕ) (e : Some n ≡ least_from test first (first + count - first)) where
    pub found-late : first ≤ n
    found-late = (least-is test first (first + count - first) n (sym e)).first

    pub found-out : record { report = Found n; tried = n - first + 1 } ≡ search_from test first budget
    found-out = by-least (Some n) e

  module _ (e : None ≡ least_from test first (first + count - first)) where
    none_found : (b : Bool) → ltb budget (candidates first) ≡ b
        → not_found first budget b ≡ search_from test first budget
    none_found b f = sym (ap (not_found first budget) f) ∙ by-least None e

    pub spent-out : budget < candidates first
        → record { report = Spent (first + budget); tried = budget } ≡ search_from test first budget
    spent-out h = none_found true (lt-ltb budget (candidates first) h)

    pub nothing-out : candidates first ≤ budget
        → record { report = Nothing; tried = candidates first } ≡ search_from test first budget
    nothing-out h = none_found false (le-ltb budget (candidates first) h)
