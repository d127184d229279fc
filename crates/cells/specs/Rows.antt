-- A row of one axis, in an order: the states at its tick and one tick on, by the change of velocity
-- in its tick (docs/METHOD.md, section 4).
use Rattle.std.specs.Prelude.{ℕ, suc, Bool, ◌&&◌, leb, ltb, ℤ, ◌+ℤ◌, ◌-ℤ◌}
use Rattle.model.specs.declared.Order.{Order}
use Rattle.model.specs.declared.Order.TheVariants.{Forwards, Backwards}
use Rattle.planned.specs.declared.AxisPlan.{AxisPlan}
use Rattle.blended.specs.BlendedStates.{blended_state_at}
use Rattle.segments.specs.declared.Segment.{Segment}
use Rattle.blended.specs.declared.BlendedState.{BlendedState}
use Rattle.cells.specs.declared.RowStates.{RowStates}

-- ---- a row, in an order: forwards the state at tick k comes to the row of tick k, and that one
-- tick on goes on to the next row; backwards that one tick on comes, and that at tick k goes on

abbrev pub comes_at : Order → ℕ → ℕ
comes_at Forwards k = k
comes_at Backwards k = suc k

abbrev pub goes_on_at : Order → ℕ → ℕ
goes_on_at Forwards k = suc k
goes_on_at Backwards k = k

abbrev pub row_states : Order → AxisPlan → ℕ → RowStates
row_states o p k =
    record {
      now = blended_state_at p k;
      next = blended_state_at p (suc k);
      onward = blended_state_at p (goes_on_at o k);
    }

-- whether tick k is one of a segment's
abbrev pub kept_at : Segment → ℕ → Bool
kept_at q k = leb q.from k && ltb k q.until

-- the states of a row, from the one that comes to it and the change of velocity in the row's tick
abbrev pub changed : Order → BlendedState → ℤ → RowStates
changed Forwards t c =
    let v : ℤ = t.velocity +ℤ c in
    let next : BlendedState = record { position = t.position +ℤ t.velocity +ℤ v; velocity = v } in
    record { now = t; next = next; onward = next }
changed Backwards t c =
    let v : ℤ = t.velocity -ℤ c in
    let now : BlendedState = record { position = t.position -ℤ t.velocity -ℤ v; velocity = v } in
    record { now = now; next = t; onward = now }
