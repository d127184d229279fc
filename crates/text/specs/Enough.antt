-- How many bytes a text can have, and buffers that are long enough for it. Assumes nothing.
use Rattle.std.specs.Prelude.{ℕ, suc, ◌+◌, ◌*◌, Bool, true, false, ◌&&◌, List, [], eqb, ltb, leb, ℤ, length}
use Rattle.model.specs.planning.Job.{set_bits}
use Rattle.model.specs.planning.Refusals.{last_tick}
use Rattle.model.specs.planning.Outcome.{Outcome, cells_needed}
use Rattle.text.specs.Printed.{row_width, table_lines, printed}

-- a refusal has at most 81 bytes: 30 of words, spaces and line feed, and numbers of
-- at most 10, 20, 10 and 10 digits
abbrev pub refusal_bytes : ℕ
refusal_bytes = 81

-- a cell has at most 21: a space, a sign and 19 digits
abbrev pub cells_bytes : ℕ → ℕ
cells_bytes w = 21 * w

-- a row has at most 5 more: its tick, of at most 4 digits, and its line feed
abbrev pub row_bytes : ℕ → ℕ
row_bytes w = 5 + cells_bytes w

-- and the arrival line has at most 13
abbrev pub table_bytes : ℕ → ℕ → ℕ
table_bytes w n = 13 + row_bytes w * suc n

-- a text, or nothing
abbrev pub only_if : Bool → List ℕ → List ℕ
only_if true l = l
only_if false l = []

-- whether rows 0 to n of the axes of a mask are within the given cells, and a buffer of the
-- given bytes is long enough for them
abbrev pub table_fits : ℕ → ℕ → ℕ → ℕ → Bool
table_fits mask n cells bytes =
    (ltb mask 64 && leb n last_tick)
    && (leb (cells_needed (length (set_bits mask)) n) cells && leb (table_bytes (row_width mask) n) bytes)

abbrev pub text_fits : Outcome → ℕ → Bool
text_fits o bytes =
    elim (eqb o.number 0) [
      | true ↦ table_fits o.mask o.arrival (length o.cells) bytes
      | false ↦ leb refusal_bytes bytes
    ]

-- what is put into a buffer of the given bytes for an accepted job, and for any outcome: its text,
-- or nothing where it may not fit
abbrev pub table_within : ℕ → ℕ → List ℤ → ℕ → List ℕ
table_within mask n cells bytes = only_if (table_fits mask n (length cells) bytes) (table_lines mask n cells)

unfoldable pub text_within : Outcome → ℕ → List ℕ
text_within o bytes = only_if (text_fits o bytes) (printed o)
