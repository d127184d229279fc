use Prim.Native.Nat.{◌<◌}
use Rattle.engines.proofs.sum_over.Given as goal

abbrev pub invariant-loop-i : goal.invariant-loop-i
invariant-loop-i g l = l.sum < 2147483647
