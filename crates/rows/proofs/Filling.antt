-- One more axis of a row is written, one more row, and all of them.
use mathlib.Core.Path.{◌≡◌, sym, ap, ap₂, subst, ◌∙◌}
use Rattle.whole.proofs.Lists.{over-front, over-nil, over-over}
use mathlib.Core.List.{List, ◌++◌}
use Prim.Native.Nat.{ℕ, suc, ◌+◌, ◌*◌, ◌<◌, ◌≤◌}
use native.Mathlib.Omega.{arith}
use native.Mathlib.Nat.{mul-le-mul_left, mul-suc, zero-add}
use lib.IntN.{ℤ}
use lib.ListN.{length, get_or, drop, length-append}
use lib.Seq.{length-take-le}
use Rattle.model.specs.declared.Order.{Order}
use Rattle.model.specs.planning.Rows.{row_at}
use Rattle.planned.specs.declared.AxisPlan.{AxisPlan}
use Rattle.rows.specs.declared.Plan.{Plan}
use Rattle.blended.specs.declared.BlendedState.{BlendedState}
use Rattle.rows.specs.Plans.{unset_plan, plans_of, Each, Fillable}
use Rattle.blended.specs.BlendedStates.{blended_state_at, cells_of, axis_cells}
use Rattle.rows.specs.Table.{plan_row, rows_over}
use Rattle.whole.specs.Lists.{over}
use Rattle.rows.proofs.FrontPlans.{each_of}
use Rattle.rows.proofs.Cells.{row_to, row-none, row_more, row-all, row-long, rows_to, rows_none, rows_more}
use Rattle.rows.proofs.Cells.{rows-length, rows_all}

-- ---- a plan whose rows can be written, and a table that has room for them

-- c rows from place j on
pub record Front (plan : Plan) (j c : ℕ) (t₀ : List ℤ) : Type 0 where
  pub can : Fillable plan
  pub six : length plan.axes ≡ 6
  pub inside : j + c ≤ suc plan.arrival
  pub fits : 3 * plan.count * c ≤ length t₀

module _ {plan : Plan} {j c : ℕ} {t₀ : List ℤ} (f : Front plan j c t₀) where
  pub long : length (plans_of plan) ≡ plan.count
  long = length-take-le plan.count plan.axes (omega (arith, f.can.few, f.six))

  -- what holds of each of its plans holds of plan i
  pub of-each : (Q : AxisPlan → Type 0) (i : ℕ) → Each Q (plans_of plan) → i < plan.count
      → Q (get_or plan.axes i unset_plan)
  of-each Q i r h = each_of Q plan.axes plan.count i r (omega (arith, f.can.few, f.six)) h

  -- the cells of row k of them have their place in the table, and in them those of axis i
  pub row_fits : (o : Order) (k : ℕ) → k < c
      → length (rows_to o (plans_of plan) plan.arrival j k) + 3 * length (plans_of plan) ≤ length t₀
  row_fits o k h =
      omega (arith, rows-length o (plans_of plan) plan.arrival j k, mul-suc row k, mul-le-mul_left row later, room)
    where
      row : ℕ
      row = 3 * length (plans_of plan)

      later : suc k ≤ c
      later = omega arith

      room : row * c ≤ length t₀
      room = subst (λ (n : ℕ). 3 * n * c ≤ length t₀) (sym long) f.fits

  pub axis-fits : (o : Order) (k i : ℕ) → k < c → i < plan.count
      → length (rows_to o (plans_of plan) plan.arrival j k) + 3 * i + 3 ≤ length t₀
  axis-fits o k i h l = omega (arith, row_fits o k h, long)

-- ---- in row k, from the place at₁ of the list t₁ on
module _ (ps : List AxisPlan) (k : ℕ) (t₁ : List ℤ) (at₁ : ℕ) where
  pub row-starts : at₁ ≤ length t₁ → t₁ ≡ over t₁ at₁ (row_to ps k 0)
  row-starts h = sym (ap (over t₁ at₁) (row-none ps k) ∙ over-nil t₁ at₁ h)

  pub row-goes-on : (i at : ℕ) (t t' : List ℤ) (u v : BlendedState) → i < length ps → at₁ + 3 * i + 3 ≤ length t₁
      → at ≡ at₁ + 3 * i → t ≡ over t₁ at₁ (row_to ps k i)
      → u ≡ blended_state_at (get_or ps i unset_plan) k → v ≡ blended_state_at (get_or ps i unset_plan) (suc k)
      → t' ≡ over t at (cells_of u v) → t' ≡ over t₁ at₁ (row_to ps k (i + 1))
  row-goes-on i at t t' u v l h p c e f w =
      w
      ∙ (λ j. over (c j) ((p ∙ place) j) (cells_of (e j) (f j)))
      ∙ over-over t₁ at₁ (row_to ps k i) (axis_cells k (get_or ps i unset_plan))
      (omega (
        arith,
        row-long ps k i (omega arith),
        length-append (row_to ps k i)
            (axis_cells k (get_or ps i unset_plan)),
      ))
      ∙ ap (over t₁ at₁) (row_more ps k i l)
    where
      place : at₁ + 3 * i ≡ at₁ + length (row_to ps k i)
      place = omega (arith, row-long ps k i (omega arith))

-- ---- the rows from place j on, from the front of the list t₀ on
module _ (o : Order) (ps : List AxisPlan) (n j : ℕ) (t₀ : List ℤ) where
  pub rows_start : t₀ ≡ over t₀ 0 (rows_to o ps n j 0)
  rows_start = sym (ap (over t₀ 0) (rows_none o ps n j) ∙ over-nil t₀ 0 (omega arith))

  -- row k of them, of tick l
  module _ (k l i at₁ at : ℕ) (t₁ t : List ℤ) (tick : l ≡ row_at o n (j + k)) (all : i ≡ length ps)
      (p₁ : at₁ ≡ length (rows_to o ps n j k)) where
    more : rows_to o ps n j k ++ plan_row ps l ≡ rows_to o ps n j (k + 1)
    more = ap (λ (m : ℕ). rows_to o ps n j k ++ plan_row ps m) tick ∙ rows_more o ps n j k

    pub place-goes-on : at ≡ at₁ + 3 * i → at ≡ length (rows_to o ps n j (k + 1))
    place-goes-on p =
        p
        ∙ ap₂ ◌+◌ p₁ (sym (row-long ps l i (omega arith)) ∙ ap length (row-all ps l i all))
        ∙ sym (length-append (rows_to o ps n j k) (plan_row ps l))
        ∙ ap length more

    pub rows-go-on : length (rows_to o ps n j k) + 3 * length ps ≤ length t₀
        → t₁ ≡ over t₀ 0 (rows_to o ps n j k) → t ≡ over t₁ at₁ (row_to ps l i)
        → t ≡ over t₀ 0 (rows_to o ps n j (k + 1))
    rows-go-on h c w =
        w
        ∙ (λ m. over (c m) ((p₁ ∙ sym (zero-add (length (rows_to o ps n j k)))) m) (row-all ps l i all m))
        ∙ over-over t₀ 0 (rows_to o ps n j k) (plan_row ps l)
        (omega (arith, long, length-append (rows_to o ps n j k) (plan_row ps l)))
        ∙ ap (over t₀ 0) more
      where
        long : length (plan_row ps l) ≡ 3 * i
        long = ap length (sym (row-all ps l i all)) ∙ row-long ps l i (omega arith)

-- all of them
pub rows_end : (o : Order) (plan : Plan) (j c : ℕ) (t₀ t : List ℤ) (k : ℕ) → k ≡ c
    → t ≡ over t₀ 0 (rows_to o (plans_of plan) plan.arrival j k) → t ≡ rows_over o plan j c t₀
rows_end o plan j c t₀ t k q w =
    w
    ∙ over-front t₀ (rows_to o (plans_of plan) n j k)
    ∙ ap₂ (λ (l : List ℤ) (m : ℕ). l ++ drop m t₀) (rows_all o (plans_of plan) n j c k q) long
  where
    n : ℕ
    n = plan.arrival

    long : length (rows_to o (plans_of plan) n j k) ≡ 3 * length (plans_of plan) * c
    long = rows-length o (plans_of plan) n j k ∙ ap (λ (i : ℕ). 3 * length (plans_of plan) * i) q
