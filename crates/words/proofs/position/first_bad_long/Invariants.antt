use Prim.Native.Nat.{◌-◌}
use mathlib.Core.Path.{◌≡◌}
use Rattle.words.specs.ByIndex.{bad_long_in}
use Rattle.words.proofs.position.first_bad_long.Given as goal

abbrev pub invariant-loop-i : goal.invariant-loop-i
invariant-loop-i l = bad_long_in l.fn.words (l.fn.end - l.i) l.i ≡ bad_long_in l.fn.words l.fn.end 0
