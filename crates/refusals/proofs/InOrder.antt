-- The tests one after the other, and the axes one after the other.
use Prim.Native.Nat.{ℕ, ◌+◌, ◌/◌, ◌%◌, ◌<◌}
use mathlib.Core.Path.{◌≡◌, ap, ◌∙◌}
use mathlib.Core.Bool.{Bool, true, false}
use Rattle.std.specs.Prelude.{Option, Some}
use Rattle.std.specs.declared.result.Result.{Result}
use mathlib.Core.List.{List, map}
use lib.ListN.{length}
use borrow.Author.Tests.{ne_eqb, eq-eqb}
use Rattle.model.specs.declared.Answer.{Answer}
use Rattle.model.specs.declared.Axis.{Axis}
use Rattle.model.specs.declared.Windows.{Windows}
use Rattle.model.specs.declared.refusal.AxisTest.{AxisTest}
use Rattle.model.specs.planning.Job.{JobAxis}
use Rattle.model.specs.planning.Told.{test_number}
use Rattle.model.specs.planning.Admission.{first_axis, Tests}
use Rattle.model.proofs.SetAxes.{pick, from, axis_at, from_more}
use Rattle.refusals.specs.Checks.{first_refusal, refuses}

-- ---- the tests

abbrev numbered : List AxisTest → Tests
numbered ts = map (λ t. (test_number t, refuses t)) ts

-- the first refusal of the tests from one on
abbrev pub left : List AxisTest → List JobAxis → Option Windows → Result Unit Answer
left ts xs w = first_refusal (numbered ts) xs w

-- ---- the axes

module _ (f : Axis → Bool) (six : List Axis) (i m : ℕ) (h : i < length six) where
  on : Bool → Option ℕ
  on b = first_axis f (pick b i (axis_at six i) (from (i + 1) (m / 2) six))

  pub axis_passed : m % 2 ≡ 1 → f (axis_at six i) ≡ false
      → first_axis f (from i m six) ≡ first_axis f (from (i + 1) (m / 2) six)
  unfolding on
  axis_passed e t =
      ap (first_axis f) (from_more i m six h)
      ∙ ap on (eq-eqb (m % 2) 1 e)
      ∙ ap
      (λ (b : Bool). elim b as (λ _. Option ℕ) [ true ↦ Some i | false ↦ first_axis f (from (i + 1) (m / 2) six) ]) t

  pub axis_unnamed : (m % 2 ≡ 1 → ⊥) → first_axis f (from i m six) ≡ first_axis f (from (i + 1) (m / 2) six)
  unfolding on
  axis_unnamed e = ap (first_axis f) (from_more i m six h) ∙ ap on (ne_eqb (m % 2) 1 e)
