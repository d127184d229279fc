-- `fits_one`: one of the windows that are left fits where one of all does.
use mathlib.Core.Path.{◌≡◌}
use lib.ListN.{drop}
use Rattle.std.specs.List.{list_any}
use Rattle.model.specs.planning.Windows.{fits_window}
use Rattle.windows.proofs.fits_one.Given as goal

abbrev pub invariant-loop-window : goal.invariant-loop-window
invariant-loop-window l =
    list_any (fits_window l.tick l.dwell) (drop l.window-index l.windows)
    ≡ list_any (fits_window l.tick l.dwell) l.windows
