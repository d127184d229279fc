use Prim.Native.Nat.{◌*◌}
use mathlib.Core.Path.{◌≡◌}
use lib.ListN.{length}
use Rattle.whole.specs.Lists.{up_to, WrittenWithin}
use Rattle.text.specs.Printed.{printed_row}
use Rattle.text.specs.Enough.{row_bytes}
use Rattle.text.proofs.lines.put_rows.Given as goal

abbrev pub invariant-loop-k : goal.invariant-loop-k
invariant-loop-k l =
    record {
      place : l.first ≡ l.fn.width * l.k;
      long : length l.out ≡ length l.initial.out;
      text : WrittenWithin (row_bytes l.fn.width * l.k) l.initial.out l.fn.at
          (up_to (printed_row l.fn.width l.fn.table) l.k) l.out l.next;
    }
