-- The plans of the axes that a mask names, put at the front one after the other.
use mathlib.Core.Path.{◌≡◌, sym, ap, subst, ◌∙◌}
use mathlib.Core.Bool.{Bool, true, false}
use mathlib.Core.List.{List, [], ◌∷◌, ◌++◌, append_assoc, append-nil}
use Prim.Native.Nat.{ℕ, zero, suc, ◌+◌, ◌/◌, ◌%◌, ◌<◌, ◌≤◌}
use native.Mathlib.Omega.{arith}
use native.Mathlib.Numerals.{add-one}
use lib.Dec.{eqb}
use lib.ListN.{length, get_or, set, take, drop}
use lib.Seq.{take-suc-set, drop-cons, drop-length, length-take-le, get_or-take}
use Rattle.model.specs.declared.Axis.{Axis}
use Rattle.model.specs.planning.Job.{JobAxis, set_axes, unset_axis}
use Rattle.planned.specs.declared.AxisPlan.{AxisPlan}
use Rattle.planned.specs.Plans.{plan_of}
use Rattle.rows.specs.Plans.{unset_plan, plans_for, Each}

-- the plans of the axes from number i on, m being the bits from there on
abbrev pub plans_from : ℕ → ℕ → ℕ → List Axis → List AxisPlan
plans_from n i m axes = plans_for n (set_axes i m (drop i axes))

-- one more axis is looked at: its plan is put after the others where its bit is set
module _ (n i m : ℕ) (axes : List Axis) (here : i < length axes) where
  abbrev p : AxisPlan
  p = plan_of n (get_or axes i unset_axis)

  abbrev rest : List AxisPlan
  rest = plans_from n (i + 1) (m / 2) axes

  more : plans_from n i m axes ≡ (elim (eqb (m % 2) 1) as (λ _. List AxisPlan) [ true ↦ p ∷ rest | false ↦ rest ])
  more =
      ap (λ (l : List Axis). plans_for n (set_axes i m l)) (drop-cons axes i unset_axis here)
      ∙ go (eqb (m % 2) 1)
      ∙ ap (λ (k : ℕ). both (eqb (m % 2) 1) (plans_for n (set_axes k (m / 2) (drop k axes)))) (sym (add-one i))
    where
      later : List JobAxis
      later = set_axes (suc i) (m / 2) (drop (suc i) axes)

      both : Bool → List AxisPlan → List AxisPlan
      both b ps = elim b [ true ↦ p ∷ ps | false ↦ ps ]

      go : (b : Bool)
          → plans_for n
          (elim b as (λ _. List JobAxis) [
            | true ↦ record { number = i; axis = get_or axes i unset_axis } ∷ later
            | false ↦ later
          ])
          ≡ both b (plans_for n later)
      go true = λ j. p ∷ plans_for n later
      go false = λ j. plans_for n later

  pub plan-put : (plans : List AxisPlan) (count : ℕ) → count < length plans → eqb (m % 2) 1 ≡ true
      → take (count + 1) (set plans count p) ++ rest ≡ take count plans ++ plans_from n i m axes
  plan-put plans count l e =
      ap (λ (k : ℕ). take k (set plans count p) ++ rest) (add-one count)
      ∙ ap (λ (t : List AxisPlan). t ++ rest) (take-suc-set plans count p l)
      ∙ append_assoc (take count plans) (p ∷ []) rest
      ∙ ap (λ (b : Bool). take count plans ++ (elim b as (λ _. List AxisPlan) [ true ↦ p ∷ rest | false ↦ rest ]))
      (sym e)
      ∙ ap (λ (ps : List AxisPlan). take count plans ++ ps) (sym more)

  pub plan-left-out : (plans : List AxisPlan) → eqb (m % 2) 1 ≡ false → plans ++ rest ≡ plans ++ plans_from n i m axes
  plan-left-out plans e =
      ap (λ (b : Bool). plans ++ (elim b as (λ _. List AxisPlan) [ true ↦ p ∷ rest | false ↦ rest ])) (sym e)
      ∙ ap (λ (ps : List AxisPlan). plans ++ ps) (sym more)

-- all of them are
pub plans-put : (n i m : ℕ) (axes : List Axis) (plans : List AxisPlan) → i ≡ length axes
    → plans ++ plans_from n i m axes ≡ plans
plans-put n i m axes plans e =
    ap (λ (l : List Axis). plans ++ plans_for n (set_axes i m l)) (ap (λ (k : ℕ). drop k axes) e ∙ drop-length axes)
    ∙ append-nil plans

-- ---- what holds of each of them holds of one

each_at : (Q : AxisPlan → Type 0) (ps : List AxisPlan) (i : ℕ) → Each Q ps → i < length ps → Q (get_or ps i unset_plan)
each_at Q [] i r h = absurd (omega arith)
each_at Q (p ∷ ps) zero r h = r.0
each_at Q (p ∷ ps) (suc i) r h = each_at Q ps i r.1 (omega arith)

pub each_of : (Q : AxisPlan → Type 0) (axes : List AxisPlan) (count i : ℕ) → Each Q (take count axes)
    → count ≤ length axes → i < count
    → Q (get_or axes i unset_plan)
each_of Q axes count i r h l =
    let long = length-take-le count axes h in
    subst Q (get_or-take count axes i unset_plan l) (each_at Q (take count axes) i r (omega arith))
