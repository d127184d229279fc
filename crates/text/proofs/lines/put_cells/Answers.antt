use native.Mathlib.Omega.{arith}
use mathlib.Core.Path.{refl, ◌∙◌}
use lib.IntN.{pos}
use lib.ListN.{get_or}
use mir.Syntax.{w64}
use mir.Val.{SFits}
use Rattle.whole.proofs.Lists.{within-nil}
use Rattle.text.proofs.lines.Laws.{cell_at, cell_room, cell-turn, cells-done}
use Rattle.text.proofs.lines.put_cells.Goals as goal

pub loop-i-init : goal.loop-i-init
loop-i-init c =
    record {
      long = refl;
      text = within-nil (cell_at c.args.cells.now) 21 (omega (arith, c.requires));
    }

pub put_cell-next-requires : goal.put_cell-next-requires
put_cell-next-requires c =
    let l = c.loop-i in
    cell_room c.args.cells.now c.requires c.loop-i-test.true l.invariant.text
    (record { sfits = c.x-1.given }) l.invariant.long

pub loop-i-preserved : goal.loop-i-preserved
loop-i-preserved c =
    let w = c.put_cell-next in
    let l = c.loop-i in
    let f : SFits w64 (get_or c.args.cells.now l.i (pos 0)) =
    record { sfits = c.x-1.given } in
    record {
      long = w.auto.out ∙ l.invariant.long;
      text = cell-turn c.args.cells.now c.requires c.loop-i-test.true l.invariant.text f w.ensures;
    }

pub returns : goal.returns
returns c = cells-done c.args.cells.now c.loop-i.i
    (omega arith) c.loop-i.invariant.text
