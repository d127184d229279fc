use Prim.Native.Nat.{◌+◌, ◌*◌, ◌-◌, ◌≤◌}
use mathlib.Core.Path.{◌≡◌}
use Rattle.std.specs.declared.result.Result.TheVariants.{Ok}
use Rattle.words.specs.ByIndex.{read_all, begun}
use Rattle.words.proofs.read_axes.Given as goal

abbrev pub invariant-loop-slot : goal.invariant-loop-slot
invariant-loop-slot l =
    record {
      within : l.at ≤ 2 + 13 * l.slot-index;
      reads : read_all l.fn.words (6 - l.slot-index) l.slot-index l.bits (Ok (l.slot-items, l.at))
          ≡ read_all l.fn.words 6 0 l.fn.mask begun;
    }
