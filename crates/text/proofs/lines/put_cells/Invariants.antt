use Prim.Native.Nat.{◌*◌}
use mathlib.Core.Path.{◌≡◌}
use lib.ListN.{length}
use Rattle.whole.specs.Lists.{up_to, WrittenWithin}
use Rattle.text.proofs.lines.Laws.{cell_at}
use Rattle.text.proofs.lines.put_cells.Given as goal

abbrev pub invariant-loop-i : goal.invariant-loop-i
invariant-loop-i l =
    record {
      long : length l.out ≡ length l.initial.out;
      text : WrittenWithin (21 * l.i) l.initial.out l.fn.at (up_to (cell_at l.fn.cells) l.i) l.out l.next;
    }
