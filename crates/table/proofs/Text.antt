-- The program's buffer holds the text of every answer, so what it prints is the whole text.
use Prim.Native.Nat.{ℕ, ◌+◌, ◌*◌, ◌≤◌}
use native.Mathlib.Omega.{arith}
use native.Mathlib.Nat.{add-mul, mul_assoc}
use mathlib.Core.Path.{◌≡◌, ap, ◌∙◌}
use mathlib.Core.List.{List}
use lib.IntN.{ℤ}
use lib.ListN.{length, take}
use Rattle.whole.specs.Lists.{WrittenAtStart}
use Rattle.whole.proofs.Lists.{start-taken}
use Rattle.model.specs.planning.Outcome.{Outcome, outcome_of}
use Rattle.text.specs.Printed.{row_width, printed}
use Rattle.text.specs.Enough.{table_bytes, text_within}
use Rattle.text.proofs.Enough.{TableFits, whole-text}
use Rattle.planner.specs.Promise.{Fitted}
use Rattle.model.specs.declared.Answer.{Answer}

-- 24 bytes for a cell are enough
bytes-enough : (w n : ℕ) → n ≤ 4096 → w * (n + 1) ≤ 8192 → table_bytes w n ≤ 196608
bytes-enough w n h q = omega (arith, add-mul 5 (21 * w) (n + 1), mul_assoc 21 w (n + 1))

fitted-fits : (r : Answer) (cells : List ℤ) (bytes : ℕ) → length cells ≤ 8192 → 196608 ≤ bytes → Fitted r cells
    → TableFits r.mask r.arrival (length cells) bytes
fitted-fits r cells bytes e h f =
    record {
      mask = f.mask;
      last = f.last;
      rows = f.room;
      text = omega (arith, bytes-enough (row_width r.mask) r.arrival f.last (omega (arith, f.room)));
    }

pub whole-printed : (r : Answer) (cells : List ℤ) {t u : List ℕ} {n : ℕ} (o : Outcome)
    → length cells ≤ 8192 → 196608 ≤ length t → (r.number ≡ 0 → Fitted r cells)
    → outcome_of r cells ≡ o → WrittenAtStart t (text_within (outcome_of r cells) (length t)) u n → take n u ≡ printed o
whole-printed r cells {t} o e h f p w =
    start-taken w
    ∙ whole-text (outcome_of r cells) (length t) (omega arith) (λ z. fitted-fits r cells (length t) e h (f z))
    ∙ ap printed p
