use mathlib.Core.Path.{◌≡◌, refl, sym, ap, subst, ◌∙◌}
use Prim.Native.Nat.{ℕ, suc, ◌+◌, ◌*◌, ◌≤◌}
use native.Mathlib.Omega.{arith}
use native.Mathlib.Nat.{add-zero}
use lib.ListN.{length, get_or, take, length-set}
use lib.Seq.{get_or-take, length-take-le}
use Rattle.theorems.proofs.tables.CellPlaces.{row-place}
use Rattle.planned.specs.declared.AxisPlan.{AxisPlan}
use Rattle.planned.specs.Plans.{arrival_of, PlanRanges}
use Rattle.blended.specs.BlendedStates.{blended_state_at, comes_to, LandsAt}
use Rattle.cells.specs.Rows.{comes_at, goes_on_at}
use Rattle.rows.specs.Plans.{unset_plan, plans_of}
use Rattle.rows.proofs.Cells.{rows_none}
use Rattle.rows.proofs.Tracks.{no_track, At, Tracks, own-track, track-of, row-begins, row_ends, next-track}
use Rattle.rows.proofs.Tracks.{first-tracks}
use Rattle.rows.proofs.Tracks.{front-tracks, more-tracks}
use Rattle.rows.proofs.Tracks.{steps, comes, goes_on}
use Rattle.rows.proofs.Filling.{Front, long, of-each, axis-fits, row_fits}
use Rattle.rows.proofs.Filling.{row-starts, row-goes-on, rows_start, place-goes-on, rows-go-on, rows_end}
use Rattle.rows.proofs.fill.Goals as goal

pub first_track-requires-clause-plan_ranges : goal.first_track-requires-clause-plan_ranges
first_track-requires-clause-plan_ranges c =
    let a = c.args in
    let f : Front a.plan a.first a.rows a.table.now =
    record {
      can = c.requires.fillable;
      six = omega arith;
      inside = c.requires.rows_bound;
      fits = c.requires.rows_in_bounds;
    } in
    of-each f PlanRanges c.loop-set.set f.can.ranged (omega arith)

pub first_track-requires-clause-n_bound : goal.first_track-requires-clause-n_bound
first_track-requires-clause-n_bound c =
    let a = c.args in
    let f : Front a.plan a.first a.rows a.table.now =
    record {
      can = c.requires.fillable;
      six = omega arith;
      inside = c.requires.rows_bound;
      fits = c.requires.rows_in_bounds;
    } in
    of-each f (λ p. a.plan.arrival ≤ arrival_of p) c.loop-set.set f.can.arrive (omega arith)

pub first_track-requires-clause-lands_at : goal.first_track-requires-clause-lands_at
first_track-requires-clause-lands_at c =
    let a = c.args in
    let f : Front a.plan a.first a.rows a.table.now =
    record {
      can = c.requires.fillable;
      six = omega arith;
      inside = c.requires.rows_bound;
      fits = c.requires.rows_in_bounds;
    } in
    of-each f (LandsAt a.plan.arrival) c.loop-set.set f.can.land (omega arith)

pub loop-place-init : goal.loop-place-init
loop-place-init c =
    let a = c.args in
    let axes = a.plan.axes in
    let count = a.plan.count in
    let ps = plans_of a.plan in
    let l = c.loop-set in
    record {
      low = omega arith;
      same = refl;
      written = sym (ap length (rows_none a.order ps a.plan.arrival a.first));
      cells = rows_start a.order ps a.plan.arrival a.first a.table.now;
      tracks =
          subst (λ (m : ℕ). At axes count (comes_to a.order a.plan.arrival m) l.tracks) (sym (add-zero a.first))
          (λ j q. l.invariant.each j (omega arith));
    }

pub loop-i-init : goal.loop-i-init
loop-i-init c =
    let a = c.args in
    let s = a.plan in
    let f : Front s a.first a.rows a.table.now =
    record {
      can = c.requires.fillable;
      six = omega arith;
      inside = c.requires.rows_bound;
      fits = c.requires.rows_in_bounds;
    } in
    let h = c.loop-place in
    let k = c.row_at-k.result in
    let o = a.order in
    -- a row has room
    let room : h.at ≤ length h.table =
    omega (arith, h.invariant.written, h.invariant.same, row_fits f o h.place (omega arith)) in
    let comes-here = comes o s.arrival (a.first + h.place) (omega arith) ∙ ap (comes_at o) (sym c.row_at-k.ensures) in
    record {
      low = omega arith;
      same = refl;
      long = length-take-le s.count h.tracks (omega (arith, f.can.few, c.row_at-k.array_long));
      cells = row-starts (plans_of s) k h.table h.at room;
      tracks =
          row-begins s.axes s.count (comes_at o k) (goes_on_at o k) (take s.count h.tracks)
          (front-tracks s.axes s.count (comes_at o k) h.tracks
          (subst (λ (m : ℕ). At s.axes s.count m h.tracks) comes-here h.invariant.tracks));
    }

pub write_axis-requires-clause-plan_ranges : goal.write_axis-requires-clause-plan_ranges
write_axis-requires-clause-plan_ranges c =
    let a = c.args in
    let o = a.order in
    let k = c.row_at-k.result in
    let f : Front a.plan a.first a.rows a.table.now =
    record {
      can = c.requires.fillable;
      six = omega arith;
      inside = c.requires.rows_bound;
      fits = c.requires.rows_in_bounds;
    } in
    let h = c.loop-i in
    let t = next-track a.plan.axes a.plan.count (comes_at o k) (goes_on_at o k) h.i h.track-items
    h.invariant.tracks (omega arith) in
    subst PlanRanges (sym t.plan) (of-each f PlanRanges h.i f.can.ranged (omega arith))

-- the row's tick is one of the axis's ticks
pub write_axis-requires-clause-k_bound : goal.write_axis-requires-clause-k_bound
write_axis-requires-clause-k_bound c =
    let a = c.args in
    let o = a.order in
    let k = c.row_at-k.result in
    let f : Front a.plan a.first a.rows a.table.now =
    record {
      can = c.requires.fillable;
      six = omega arith;
      inside = c.requires.rows_bound;
      fits = c.requires.rows_in_bounds;
    } in
    let h = c.loop-i in
    let t = next-track a.plan.axes a.plan.count (comes_at o k) (goes_on_at o k) h.i h.track-items
    h.invariant.tracks (omega arith) in
    let arrives : k ≤ arrival_of (get_or a.plan.axes h.i unset_plan) =
    omega (
      arith,
      c.row_at-k.ensures,
      row-place o a.plan.arrival (a.first + c.loop-place.place) (omega arith),
      of-each f (λ p. a.plan.arrival ≤ arrival_of p) h.i f.can.arrive (omega arith),
    ) in
    subst (λ (p : AxisPlan). k ≤ arrival_of p) (sym t.plan) arrives

pub write_axis-requires-clause-on_track : goal.write_axis-requires-clause-on_track
write_axis-requires-clause-on_track c =
    let a = c.args in
    let o = a.order in
    let k = c.row_at-k.result in
    let h = c.loop-i in
    own-track
    (next-track a.plan.axes a.plan.count (comes_at o k) (goes_on_at o k) h.i h.track-items
    h.invariant.tracks (omega arith))

pub write_axis-requires-clause-at_in_bounds : goal.write_axis-requires-clause-at_in_bounds
write_axis-requires-clause-at_in_bounds c =
    let a = c.args in
    let f : Front a.plan a.first a.rows a.table.now =
    record {
      can = c.requires.fillable;
      six = omega arith;
      inside = c.requires.rows_bound;
      fits = c.requires.rows_in_bounds;
    } in
    let v = c.loop-place in
    let h = c.loop-i in
    omega (
      arith,
      axis-fits f a.order v.place h.i (omega arith) (omega arith),
      v.invariant.written,
      v.invariant.same,
      h.invariant.same,
    )

pub loop-set-preserved : goal.loop-set-preserved
loop-set-preserved c =
    let l = c.loop-set in
    record {
      low = omega arith;
      long = length-set l.tracks l.set _ ∙ l.invariant.long;
      each =
          first-tracks c.args.plan.axes _ l.set l.tracks c.first_track.result
          (omega (arith, l.invariant.long, c.requires.fillable.few)) c.first_track.ensures l.invariant.each;
    }

pub loop-i-preserved : goal.loop-i-preserved
loop-i-preserved c =
    let a = c.args in
    let axes = a.plan.axes in
    let count = a.plan.count in
    let o = a.order in
    let f : Front a.plan a.first a.rows a.table.now =
    record {
      can = c.requires.fillable;
      six = omega arith;
      inside = c.requires.rows_bound;
      fits = c.requires.rows_in_bounds;
    } in
    let v = c.loop-place in
    let h = c.loop-i in
    let i = h.i in
    let k = c.row_at-k.result in
    let b = c.write_axis in
    let room : v.at + 3 * i + 3 ≤ length v.table =
    omega (arith, axis-fits f o v.place i (omega arith) (omega arith), v.invariant.written, v.invariant.same) in
    let t = next-track axes count (comes_at o k) (goes_on_at o k) i h.track-items h.invariant.tracks (omega arith) in
    let p = (get_or h.track-items i no_track).plan in
    let same : p ≡ get_or (take count axes) i unset_plan =
    t.plan ∙ sym (get_or-take count axes i unset_plan (omega arith)) in
    record {
      low = omega arith;
      same = b.auto.table ∙ h.invariant.same;
      long = length-set h.track-items i _ ∙ h.invariant.long;
      cells =
          row-goes-on (take count axes) k v.table v.at i (v.at + 3 * i) h.table b.new.table
          (blended_state_at p k) (blended_state_at p (suc k))
          (omega (arith, long f)) room refl h.invariant.cells
          (ap (λ (p : AxisPlan). blended_state_at p k) same)
          (ap (λ (p : AxisPlan). blended_state_at p (suc k)) same)
          b.ensures.cells;
      tracks =
          steps axes count (comes_at o k) (goes_on_at o k) i h.track-items b.new.track
          (omega arith) (omega (arith, h.invariant.long))
          (track-of t.plan b.ensures.goes_on) h.invariant.tracks;
    }

pub overflow_add-at : goal.overflow_add-at
overflow_add-at c =
    let a = c.args in
    let f : Front a.plan a.first a.rows a.table.now =
    record {
      can = c.requires.fillable;
      six = omega arith;
      inside = c.requires.rows_bound;
      fits = c.requires.rows_in_bounds;
    } in
    let v = c.loop-place in
    let h = c.loop-i in
    omega (
      arith,
      axis-fits f a.order v.place h.i (omega arith) (omega arith),
      v.invariant.written,
      v.invariant.same,
      h.invariant.same,
    )

pub overflow_add-at-in-loop-place : goal.overflow_add-at-in-loop-place
overflow_add-at-in-loop-place c =
    let a = c.args in
    let f : Front a.plan a.first a.rows a.table.now =
    record {
      can = c.requires.fillable;
      six = omega arith;
      inside = c.requires.rows_bound;
      fits = c.requires.rows_in_bounds;
    } in
    let v = c.loop-place in
    omega (arith, row_fits f a.order v.place (omega arith), long f, v.invariant.written, v.invariant.same)

pub loop-place-preserved : goal.loop-place-preserved
loop-place-preserved c =
    let a = c.args in
    let axes = a.plan.axes in
    let count = a.plan.count in
    let t₀ = a.table.now in
    let n = a.plan.arrival in
    let j = a.first in
    let o = a.order in
    let k = c.row_at-k.result in
    let is = c.row_at-k.ensures in
    let f : Front a.plan a.first a.rows a.table.now =
    record {
      can = c.requires.fillable;
      six = omega arith;
      inside = c.requires.rows_bound;
      fits = c.requires.rows_in_bounds;
    } in
    let v = c.loop-place in
    let h = c.loop-i in
    let end : h.i ≡ count =
    omega (arith, h.invariant.low, length-take-le count v.tracks (omega (arith, f.can.few, c.row_at-k.array_long))) in
    let all : h.i ≡ length (take count axes) = omega (arith, end, long f) in
    let next : j + v.place + 1 ≡ j + (v.place + 1) = omega arith in
    let onward = ap (goes_on_at o) is ∙ goes_on o n (j + v.place) (omega arith) ∙ ap (comes_to o n) next in
    record {
      low = omega arith;
      same = h.invariant.same ∙ v.invariant.same;
      written =
          place-goes-on o (take count axes) n j t₀ v.place k h.i v.at (v.at + 3 * count) v.table h.table is all
          v.invariant.written (omega (arith, end));
      cells =
          rows-go-on o (take count axes) n j t₀ v.place k h.i v.at (v.at + 3 * count) v.table
          h.table is all v.invariant.written
          (row_fits f o v.place (omega arith)) v.invariant.cells h.invariant.cells;
      tracks =
          more-tracks axes count (comes_to o n (j + (v.place + 1))) h.track-items _ h.invariant.long
          (subst (λ (m : ℕ). At axes count m h.track-items) onward
          (row_ends axes count (comes_at o k) (goes_on_at o k) h.track-items
          (subst (λ (m : ℕ). Tracks axes count (comes_at o k) (goes_on_at o k) m h.track-items) end
          h.invariant.tracks)));
    }

pub returns : goal.returns
returns c =
    let a = c.args in
    let h = c.loop-place in
    rows_end a.order a.plan a.first a.rows a.table.now h.table h.place (omega arith) h.invariant.cells
