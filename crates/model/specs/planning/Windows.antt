-- The windows of a job (docs/METHOD.md, 3.8): which arrivals fit them, and which windows are
-- refused.
use Rattle.std.specs.Prelude.{ℕ, suc, ◌+◌, Bool, true, false, ◌&&◌, List, [], ◌∷◌, eqb, leb, ltb, take}
use Rattle.std.specs.Prelude.{Option, None, Some}
use Rattle.model.specs.declared.Window.{Window}
use Rattle.model.specs.declared.Windows.{Windows}

-- the most windows, and the longest dwell
abbrev pub most_windows : ℕ
most_windows = 32

abbrev pub longest_dwell : ℕ
longest_dwell = 4096

-- the windows that are brought: the first `count` of the list
abbrev pub brought : Windows → List Window
brought w = take w.count w.list

-- a job without windows
abbrev pub no_windows : Option Windows
no_windows = None

-- arrival n fits a window: at its opening or later, below its closing, and n + dwell not above its
-- closing
abbrev pub fits_window : ℕ → ℕ → Window → Bool
fits_window n dwell w = leb w.opening n && (ltb n w.closing && leb (n + dwell) w.closing)

abbrev pub fits_one : ℕ → ℕ → List Window → Bool
fits_one n dwell [] = false
fits_one n dwell (w ∷ ws) = elim (fits_window n dwell w) [ true ↦ true | false ↦ fits_one n dwell ws ]

-- a job without windows may arrive at any tick
abbrev pub in_windows : Option Windows → ℕ → Bool
in_windows None n = true
in_windows (Some w) n = fits_one n w.dwell (brought w)

-- ---- 13: an empty list (place 0); more than 32 windows, or then a dwell above 4,096 (place 32);
-- then the first window, from index i on, whose closing is not above its opening or that opens
-- before the previous one closes, at tick c (place its index)

abbrev pub in_order_after : ℕ → Window → Bool
in_order_after c w = ltb w.opening w.closing && leb c w.opening

abbrev pub first_wrong_window : ℕ → ℕ → List Window → Option ℕ
first_wrong_window i c [] = None
first_wrong_window i c (w ∷ ws) =
    elim (in_order_after c w) [ true ↦ first_wrong_window (suc i) w.closing ws | false ↦ Some i ]

abbrev pub windows_refused : Windows → Option ℕ
windows_refused w =
    elim (eqb w.count 0) [
      | true ↦ Some 0
      | false ↦ elim (leb w.count most_windows && leb w.dwell longest_dwell) [
        | true ↦ first_wrong_window 0 0 (brought w)
        | false ↦ Some most_windows
      ]
    ]

-- the place that 13 names, of a job that brings windows
abbrev pub refused13 : Option Windows → Option ℕ
refused13 None = None
refused13 (Some w) = windows_refused w
