-- The stops of a tour by value: how many are lent, and a row of 64 with the first of them.
use Rattle.std.specs.Prelude.{ℕ, zero, suc, ◌-◌, List, ◌++◌, min, pos, length, replicate, set, get_or}
use Rattle.std.specs.Prelude.{take}
use Rattle.model.specs.declared.Stop.{Stop}
use Rattle.stops.specs.declared.StopRow.{StopRow}

abbrev pub no_stop : Stop
no_stop = record { positions = replicate 6 (pos 0); dwell = 0 }

abbrev pub empty_row : ℕ → StopRow
empty_row lent = record { stops = replicate 64 no_stop; lent = lent }

abbrev pub with_stop : StopRow → ℕ → Stop → StopRow
with_stop r i s = record { stops = set r.stops i s; lent = r.lent }

-- The list that a row stands for. More than 64 stops are refused unread, so any stops will do for
-- those that the row has no place for.
abbrev pub row_stops : StopRow → List Stop
row_stops r = take r.lent r.stops ++ replicate (r.lent - 64) no_stop

-- ---- the row of a list

-- how many of the lent stops it holds
abbrev pub held_of : ℕ → ℕ
held_of lent = min lent 64

-- the row with the first k stops of a list
unfoldable pub row_to : List Stop → ℕ → StopRow
row_to l zero = empty_row (length l)
row_to l (suc k) = with_stop (row_to l k) k (get_or l k no_stop)

abbrev pub row_of : List Stop → StopRow
row_of l = row_to l (held_of (length l))
