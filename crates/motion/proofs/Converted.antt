-- A small number as a signed one.
use Prim.Native.Nat.{ℕ, ◌≤◌}
use mathlib.Core.Path.{◌≡◌}
use lib.IntN.{ℤ, pos}
use Rattle.whole.specs.Ranges.{Is}

pub from-small : (b n : ℕ) (z : ℤ) → z ≡ pos n → n ≤ b → Is b z (pos n)
from-small b n z e h = record { is = e; within = h }
