use lib.ListN.{length, take, drop, length-drop}
use mathlib.Core.Path.{◌≡◌}
use lib.Seq.{length-take-le}
use native.Mathlib.Omega.{arith}
use Prim.Native.Nat.{◌-◌, ◌≤◌}
use borrow.Author.Rules.{rules}
use Rattle.fieldcases.proofs.run_cases.Given as goal

abbrev pub invariant-loop-at : goal.invariant-loop-at
invariant-loop-at l = l.at ≤ length l.fn.cases

abbrev pub decreases-loop-at : goal.decreases-loop-at
decreases-loop-at l = length l.fn.cases - l.at
