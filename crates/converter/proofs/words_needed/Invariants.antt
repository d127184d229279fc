use Prim.Native.Nat.{◌+◌, ◌*◌, ◌≤◌}
use mathlib.Core.Path.{◌≡◌}
use lib.ListN.{length, drop}
use Rattle.model.specs.calls.Converter.{converted}
use Rattle.converter.specs.Pieces.{needed_for}
use Rattle.converter.proofs.words_needed.Given as goal

abbrev pub invariant-loop-i : goal.invariant-loop-i
invariant-loop-i l =
    record {
      few : l.needed ≤ 3 * l.i;
      counted : l.needed + length (converted 0 (drop l.i l.fn.words)) ≡ needed_for l.fn.words;
    }
