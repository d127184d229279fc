use mathlib.Core.Path.{◌≡◌}
use Prim.Native.Nat.{◌+◌, ◌≤◌}
use lib.ListN.{length, take}
use Rattle.blended.specs.BlendedStates.{comes_to}
use Rattle.cells.specs.Rows.{comes_at, goes_on_at}
use Rattle.whole.specs.Lists.{over}
use Rattle.rows.proofs.Cells.{row_to, rows_to}
use Rattle.rows.proofs.Tracks.{At, Tracks}
use Rattle.rows.proofs.fill.Given as goal

-- the tracks at the first row are set for the axes before this one
abbrev pub invariant-loop-set : goal.invariant-loop-set
invariant-loop-set l =
    record {
      low : l.set ≤ l.count;
      long : length l.tracks ≡ 6;
      each : At l.fn.plan.axes l.set (comes_to l.order l.fn.plan.arrival l.first) l.tracks;
    }

-- in the row of tick k: axes before axis i are written, and their tracks go on
abbrev pub invariant-loop-i : goal.invariant-loop-i
invariant-loop-i l =
    record {
      low : l.i ≤ l.count;
      same : length l.table ≡ length l.initial.table;
      long : length l.track-items ≡ l.count;
      cells : l.table ≡ over l.initial.table l.at (row_to (take l.count l.fn.plan.axes) l.k l.i);
      tracks : Tracks l.fn.plan.axes l.count (comes_at l.order l.k) (goes_on_at l.order l.k) l.i l.track-items;
    }

-- the rows before this place are written, and the tracks stand at it
abbrev pub invariant-loop-place : goal.invariant-loop-place
invariant-loop-place l =
    record {
      low : l.place ≤ l.rows;
      same : length l.table ≡ length l.initial.table;
      written : l.at ≡ length (rows_to l.order (take l.count l.fn.plan.axes) l.fn.plan.arrival l.first l.place);
      cells : l.table
          ≡ over l.initial.table 0
          (rows_to l.order (take l.count l.fn.plan.axes) l.fn.plan.arrival l.first l.place);
      tracks : At l.fn.plan.axes l.count (comes_to l.order l.fn.plan.arrival (l.first + l.place)) l.tracks;
    }
