-- The ticks from a first one on and before another that fit one window, as a first one and the one
-- after the last (`ticks-fit` in proofs/Ticks.antt).
use Rattle.std.specs.Prelude.{ℕ, ◌-◌, ◌+◌, min, max, cond, eqb, ltb}
use Rattle.model.specs.declared.Window.{Window}

abbrev pub first_tick : ℕ → Window → ℕ
first_tick first w = max first w.opening

-- an arrival ends at the closing at the latest, and also with dwell 0 it is before it
abbrev pub after_last : ℕ → ℕ → Window → ℕ
after_last dwell after w =
    cond (eqb dwell 0) (min w.closing after) (cond (ltb w.closing dwell) 0 (min (w.closing - dwell + 1) after))
