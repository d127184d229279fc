use Prim.Native.Nat.{◌<◌}
use Rattle.fieldcases.proofs.sum_of.Given as goal

abbrev pub invariant-loop-x : goal.invariant-loop-x
invariant-loop-x l = l.sum < 2147483647
