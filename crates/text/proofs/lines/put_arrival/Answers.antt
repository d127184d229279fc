use Prim.Native.Nat.{◌<◌}
use native.Mathlib.Omega.{arith}
use lib.ListN.{length}
use Rattle.whole.proofs.Lists.{room-front, room-then, written_one, written_then}
use Rattle.text.specs.Printed.{ascii, arrival_line}
use Rattle.text.proofs.lines.put_arrival.Goals as goal
use Rattle.text.proofs.lines.put_arrival.Goals.{After-slice_known-2-1}

-- the index of the line feed
index : (c : After-slice_known-2-1)
    → c.put_labelled-next.result < length c.put_labelled-next.new.out
unfolding arrival_line
index c =
    omega (
      arith,
      (room-then {m = ascii "\n"} c.requires
          c.put_labelled-next.ensures).room,
    )

pub put_labelled-next-requires : goal.put_labelled-next-requires
unfolding arrival_line
put_labelled-next-requires c = room-front _ _ c.requires

pub bounds-out-next : goal.bounds-out-next
bounds-out-next c = index c

pub overflow_add-result : goal.overflow_add-result
overflow_add-result c =
    omega (arith, index c, c.put_labelled-next.auto.out, c.well_formed)

pub returns : goal.returns
unfolding arrival_line
returns c =
    written_then c.requires
    c.put_labelled-next.ensures (written_one (index c))
