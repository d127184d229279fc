-- The row of one axis, from the state that comes to it and a segment that has its tick.
use mathlib.Core.Path.{◌≡◌, sym, subst}
use Prim.Native.Nat.{ℕ, suc, ◌^◌, ◌≤◌}
use native.Mathlib.Omega.{arith}
use Rattle.whole.specs.Ranges.{Within}
use Rattle.model.specs.declared.Order.{Order}
use Rattle.planned.specs.declared.AxisPlan.{AxisPlan}
use Rattle.planned.specs.Plans.{arrival_of, PlanRanges}
use Rattle.blended.specs.declared.BlendedState.{BlendedState}
use Rattle.blended.specs.BlendedStates.{blended_state_at}
use Rattle.blended.proofs.BlendedRanges.{velocity-within, position-within}
use Rattle.segments.specs.declared.Segment.{Segment}
use Rattle.cells.specs.declared.RowStates.{RowStates}
use Rattle.cells.specs.Rows.{comes_at, row_states, changed}
use Rattle.cells.proofs.OneRow.{Kept, change-within, row_is}
use Rattle.rows.proofs.Tracks.{comes-late}

-- the states of an axis in a row, from the one that comes to it and a segment that has its tick
abbrev pub states_in : Order → BlendedState → Segment → RowStates
states_in o t q = changed o t q.change

-- whose ranges let them be worked out and written
pub record Writable (o : Order) (t : BlendedState) (q : Segment) : Type 0 where
  pub position : Within (2 ^ 61) t.position
  pub velocity : Within (2 ^ 46) t.velocity
  pub change : Within (2 ^ 47) q.change
  pub written : Within (2 ^ 61) (states_in o t q).now.position
  pub now : Within (2 ^ 46) (states_in o t q).now.velocity
  pub next : Within (2 ^ 46) (states_in o t q).next.velocity

module _ {p : AxisPlan} {k : ℕ} {q : Segment} (a : Kept p k q) (o : Order) (t : BlendedState)
    (e : t ≡ blended_state_at p (comes_at o k)) where
  -- its states are those of the plan
  pub row-planned : states_in o t q ≡ row_states o p k
  row-planned = row_is a o t e

  -- and can be written
  pub row-writable : PlanRanges p → k ≤ arrival_of p → Writable o t q
  row-writable r l =
      let m = comes_at o k in
      let late : m ≤ suc (arrival_of p) = omega (arith, l, comes-late o k) in
      let here = sym row-planned in
      record {
        position =
            subst (λ (u : BlendedState). Within (2 ^ 61) u.position) (sym e) (position-within p r m late);
        velocity =
            subst (λ (u : BlendedState). Within (2 ^ 46) u.velocity) (sym e) (velocity-within p r m late);
        change = change-within a r l;
        written =
            subst (λ (z : RowStates). Within (2 ^ 61) z.now.position) here (position-within p r k (omega arith));
        now = subst (λ (z : RowStates). Within (2 ^ 46) z.now.velocity) here (velocity-within p r k (omega arith));
        next =
            subst (λ (z : RowStates). Within (2 ^ 46) z.next.velocity) here
            (velocity-within p r (suc k) (omega arith));
      }
