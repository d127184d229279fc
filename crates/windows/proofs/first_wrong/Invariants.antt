-- `first_wrong`: the first wrong one of the windows that are left is that of all.
use mathlib.Core.Path.{◌≡◌}
use lib.ListN.{drop}
use Rattle.model.specs.planning.Windows.{first_wrong_window}
use Rattle.windows.proofs.first_wrong.Given as goal

abbrev pub invariant-loop-i : goal.invariant-loop-i
invariant-loop-i l = first_wrong_window l.i l.closed (drop l.i l.windows) ≡ first_wrong_window 0 0 l.windows
