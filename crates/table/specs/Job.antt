-- The job of the program's input and the text that it prints (docs/METHOD.md, section 6).
use Rattle.std.specs.Prelude.{ℕ, List, ℤ, pos, take, replicate}
use Rattle.model.specs.calls.Bytes.{words_of}
use Rattle.model.specs.planning.Outcome.{Input, words, call}
use Rattle.text.specs.Printed.{printed}

-- at most 512 bytes are read
abbrev pub input_of : List ℕ → Input
input_of bytes = words (words_of (take 512 bytes))

-- the program's table has 8,192 cells, all 0
abbrev pub lent_table : List ℤ
lent_table = replicate 8192 (pos 0)

unfoldable pub job_text : List ℕ → List ℕ
job_text bytes = printed (call (input_of bytes) lent_table)
