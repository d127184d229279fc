use native.Mathlib.Omega.{arith}
use mathlib.Core.Path.{refl, ◌∙◌}
use Rattle.whole.proofs.Lists.{within-nil}
use Rattle.text.specs.Printed.{printed_row}
use Rattle.text.specs.Enough.{row_bytes}
use Rattle.text.proofs.lines.Laws.{part-next, row-turn}
use Rattle.text.proofs.lines.put_rows.Goals as goal

pub loop-k-init : goal.loop-k-init
loop-k-init c =
    record {
      place = omega arith;
      long = refl;
      text = within-nil (printed_row c.args.width c.args.table.now) (row_bytes c.args.width)
          (omega (arith, c.requires.n_in_bounds_2));
    }

pub loop-k-preserved : goal.loop-k-preserved
loop-k-preserved c =
    let w = c.put_row-next in
    let l = c.loop-k in
    let a = c.args in
    record {
      place = part-next a.width l.first l.k l.invariant.place;
      long = w.auto.out ∙ l.invariant.long;
      text = row-turn a.width a.n a.table.now c.requires.n_in_bounds_2 (omega arith) l.invariant.text
          c.requires.n_in_bounds l.invariant.place w.ensures;
    }
