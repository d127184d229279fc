use native.Mathlib.Omega.{arith}
use mathlib.Core.Path.{◌≡◌, ◌∙◌}
use lib.ListN.{length}
use Rattle.text.proofs.lines.Laws.{tick-room, cells-room, end-index, row_done}
use Rattle.text.proofs.lines.put_row.Goals as goal
use Rattle.text.proofs.lines.put_row.Goals.{After-slice_known-3-1}

-- the length is that of the buffer at entry
long : (c : After-slice_known-3-1)
    → length c.put_cells-after_cells.new.out
    ≡ length c.args.out.now
long c = c.put_cells-after_cells.auto.out ∙ c.put_number-after_tick.auto.out

pub put_number-after_tick-requires : goal.put_number-after_tick-requires
put_number-after_tick-requires c =
    tick-room c.args.tick c.args.cells.now c.requires.cells_in_bounds c.requires.tick_le_last_tick

pub put_cells-after_cells-requires : goal.put_cells-after_cells-requires
put_cells-after_cells-requires c =
    cells-room c.args.tick c.args.cells.now c.requires.cells_in_bounds c.requires.tick_le_last_tick
    c.put_number-after_tick.ensures c.put_number-after_tick.auto.out

pub bounds-out-after_cells : goal.bounds-out-after_cells
bounds-out-after_cells c =
    let a = c.args in
    end-index a.tick a.cells.now c.requires.cells_in_bounds c.requires.tick_le_last_tick c.put_number-after_tick.ensures
    c.put_cells-after_cells.ensures (long c)

pub overflow_add-result : goal.overflow_add-result
overflow_add-result c =
    omega (
      arith,
      bounds-out-after_cells c,
      long c,
      c.well_formed,
    )

pub returns : goal.returns
returns c =
    let a = c.args in
    row_done a.tick a.cells.now c.requires.cells_in_bounds c.requires.tick_le_last_tick c.put_number-after_tick.ensures
    c.put_cells-after_cells.ensures (long c)
