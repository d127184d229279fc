-- The states of a row of one axis, by the segment of its velocity after the blends.
use mathlib.Core.Path.{◌≡◌, sym, ap, subst, ◌∙◌}
use mathlib.Core.Bool.{true}
use mathlib.Core.List.{[], ◌∷◌}
use Prim.Native.Nat.{ℕ, suc, ◌^◌, ◌<◌, ◌≤◌}
use native.Mathlib.Omega.{arith}
use lib.Dec.{T, leb, ltb, leb→le, ltb→lt}
use lib.IntN.{ℤ, ◌+ℤ◌, ◌-ℤ◌}
use Rattle.whole.specs.Ranges.{Within}
use Rattle.whole.proofs.Ring.{pol, same}
use Rattle.whole.proofs.Bounds.{exact, within}
use Rattle.whole.proofs.Tests.{left, right, true-T}
use Rattle.model.specs.declared.Order.{Order}
use Rattle.model.specs.declared.Order.TheVariants.{Forwards, Backwards}
use Rattle.planned.specs.declared.AxisPlan.{AxisPlan}
use Rattle.segments.specs.declared.Segment.{Segment}
use Rattle.blended.specs.declared.BlendedState.{BlendedState}
use Rattle.cells.specs.declared.RowStates.{RowStates}
use Rattle.planned.specs.Plans.{arrival_of, PlanRanges}
use Rattle.blended.specs.BlendedStates.{blended_velocity, blended_position, blended_state_at}
use Rattle.cells.specs.Rows.{comes_at, row_states, kept_at, changed}
use Rattle.segments.specs.Segments.{SegmentOf}
use Rattle.blended.proofs.BlendedSteps.{state-next, state-before}
use Rattle.blended.proofs.BlendedRanges.{velocity-within}

back : (v c : ℤ) → v +ℤ c -ℤ v ≡ c
back v c = same (v ∷ c ∷ []) (search pol depth 20 fits 9000) tt

-- a segment of the velocity after the blends that has tick k
pub record Kept (p : AxisPlan) (k : ℕ) (q : Segment) : Type 0 where
  pub segment : SegmentOf (blended_velocity p) q
  pub from : q.from ≤ k
  pub until : k < q.until

module _ {p : AxisPlan} {k : ℕ} {q : Segment} (a : Kept p k q) where
  -- the change of tick k
  pub changes : blended_velocity p (suc k) ≡ blended_velocity p k +ℤ q.change
  changes = a.segment.even k a.from a.until

  pub change-within : PlanRanges p → k ≤ arrival_of p → Within (2 ^ 47) q.change
  change-within s h =
      let v = velocity-within p s k (omega arith) in
      let w = velocity-within p s (suc k) (omega arith) in
      subst (Within (2 ^ 47))
      (ap (λ (z : ℤ). z -ℤ blended_velocity p k) changes ∙ back (blended_velocity p k) q.change)
      (within (search exact depth 9) tt)

  -- the states of the row of tick k, from the one that comes to it
  pub row_is : (o : Order) (t : BlendedState) → t ≡ blended_state_at p (comes_at o k)
      → changed o t q.change ≡ row_states o p k
  row_is Forwards t e = ap (λ (u : BlendedState). changed Forwards u q.change) e
      ∙ (λ i. record { now = blended_state_at p k; next = next i; onward = next i })
    where
      next : ◌≡◌ {A = BlendedState} (changed Forwards (blended_state_at p k) q.change).next (blended_state_at p (suc k))
      next = state-next p k _ _
          (ap (λ (v : ℤ). blended_position p k +ℤ blended_velocity p k +ℤ v) (sym changes)) (sym changes)
  row_is Backwards t e =
      ap (λ (u : BlendedState). changed Backwards u q.change) e
      ∙ (λ i. record { now = now i; next = blended_state_at p (suc k); onward = now i })
    where
      undone : (v c : ℤ) → v +ℤ c -ℤ c ≡ v
      undone v c = same (v ∷ c ∷ []) (search pol depth 20 fits 9000) tt

      slower : blended_velocity p (suc k) -ℤ q.change ≡ blended_velocity p k
      slower = ap (λ (v : ℤ). v -ℤ q.change) changes ∙ undone (blended_velocity p k) q.change

      now : ◌≡◌ {A = BlendedState} (changed Backwards (blended_state_at p (suc k)) q.change).now (blended_state_at p k)
      now = state-before p k _ _
          (ap (λ (v : ℤ). blended_position p (suc k) -ℤ blended_velocity p (suc k) -ℤ v) slower) slower

-- ---- the states of a row, written out

pub forwards-is : (t : BlendedState) (c x y : ℤ)
    → x ≡ t.position +ℤ t.velocity +ℤ (t.velocity +ℤ c) → y ≡ t.velocity +ℤ c
    → let next : BlendedState = record { position = x; velocity = y } in
    ◌≡◌ {A = RowStates} (record { now = t; next = next; onward = next }) (changed Forwards t c)
forwards-is t c x y e f =
    λ i. record {
      now = t;
      next = record { position = e i; velocity = f i };
      onward = record { position = e i; velocity = f i };
    }

pub backwards-is : (t : BlendedState) (c x y : ℤ)
    → x ≡ t.position -ℤ t.velocity -ℤ (t.velocity -ℤ c) → y ≡ t.velocity -ℤ c
    → let now : BlendedState = record { position = x; velocity = y } in
    ◌≡◌ {A = RowStates} (record { now = now; next = t; onward = now }) (changed Backwards t c)
backwards-is t c x y e f =
    λ i. record {
      now = record { position = e i; velocity = f i };
      next = t;
      onward = record { position = e i; velocity = f i };
    }

-- a segment that is held has tick k where its test says so
pub kept : (p : AxisPlan) (k : ℕ) (q : Segment) → SegmentOf (blended_velocity p) q → kept_at q k ≡ true → Kept p k q
kept p k q e t =
    let b : T (kept_at q k) = true-T t in
    record {
      segment = e;
      from = leb→le q.from k (left (leb q.from k) (ltb k q.until) b);
      until = ltb→lt k q.until (right (leb q.from k) (ltb k q.until) b);
    }
