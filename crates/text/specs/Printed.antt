-- The text that the table program prints (docs/METHOD.md, 6.4): the arrival and the rows of an
-- accepted job, or one line for a refusal. A text is the list of its bytes. Numbers are in decimal,
-- one space stands between two of them, and a line feed ends each line. Assumes nothing.
use Rattle.std.specs.Prelude.{ℕ, zero, suc, ◌+◌, ◌*◌, ◌/◌, ◌%◌, true, false, eqb, ltb, ℤ, pos, negsuc, length, take}
use Rattle.std.specs.Prelude.{drop}
use Prim.Native.Char.{code}
use Prim.Native.String.{String}
use mathlib.Core.List.{List, [], ◌∷◌, ◌++◌, map, flatten}
use Rattle.whole.specs.Lists.{up_to}
use Rattle.model.specs.planning.Job.{set_bits}
use Rattle.model.specs.planning.Outcome.{Outcome}

-- the bytes of an ASCII text
abbrev pub ascii : String → List ℕ
ascii String.[] = []
ascii (String.◌∷◌ c s) = code c ∷ ascii s

-- ---- numbers

-- the digit d
abbrev pub digit : ℕ → List ℕ
digit d = (48 + d) ∷ []

-- the digits of n, the most significant first; the first argument, above n, only ends the recursion
abbrev pub decimal_digits : ℕ → ℕ → List ℕ
decimal_digits zero n = []
decimal_digits (suc k) n = elim (ltb n 10) [ true ↦ digit n | false ↦ decimal_digits k (n / 10) ++ digit (n % 10) ]

unfoldable pub decimal : ℕ → List ℕ
decimal n = decimal_digits (suc n) n

unfoldable pub printed_number : ℤ → List ℕ
printed_number (pos n) = decimal n
printed_number (negsuc n) = ascii "-" ++ decimal (suc n)

-- a number after a label
unfoldable pub labelled : List ℕ → ℕ → List ℕ
labelled label n = label ++ decimal n

-- ---- lines

-- a cell, after the number before it
unfoldable pub cell_text : ℤ → List ℕ
cell_text z = ascii " " ++ printed_number z

abbrev pub cells_text : List ℤ → List ℕ
cells_text cells = flatten (map cell_text cells)

-- a row: its tick and its cells
unfoldable pub row_line : ℕ → List ℤ → List ℕ
row_line tick cells = decimal tick ++ cells_text cells ++ ascii "\n"

unfoldable pub arrival_line : ℕ → List ℕ
arrival_line n = labelled (ascii "arrival ") n ++ ascii "\n"

unfoldable pub refusal_line : ℕ → ℕ → ℕ → ℕ → List ℕ
refusal_line number place mask arrival =
    labelled (ascii "refused ") number
    ++ labelled (ascii " place ") place
    ++ labelled (ascii " axes ") mask
    ++ labelled (ascii " arrival ") arrival
    ++ ascii "\n"

-- ---- the text of an outcome

-- the cells of a row: three for each axis of the mask
abbrev pub row_width : ℕ → ℕ
row_width mask = 3 * length (set_bits mask)

-- row k of a table with w cells in a row
abbrev pub printed_row : ℕ → List ℤ → ℕ → List ℕ
printed_row w cells k = row_line k (take w (drop (w * k) cells))

-- the rows of ticks 0 to n
abbrev pub row_lines : ℕ → List ℤ → ℕ → List ℕ
row_lines w cells n = up_to (printed_row w cells) (suc n)

-- an accepted job: its arrival and its rows
abbrev pub table_lines : ℕ → ℕ → List ℤ → List ℕ
table_lines mask n cells = arrival_line n ++ row_lines (row_width mask) cells n

unfoldable pub printed : Outcome → List ℕ
printed o =
    elim (eqb o.number 0) [
      | true ↦ table_lines o.mask o.arrival o.cells
      | false ↦ refusal_line o.number o.place o.mask o.arrival
    ]
