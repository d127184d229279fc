-- What the code that reads words from bytes computes at one place. Assumes nothing.
use Rattle.std.specs.Prelude.{ℕ, List, [], ◌∷◌}
use Rattle.model.specs.calls.Bytes.{little_endian}

-- the first of the words of the bytes
unfoldable pub first_word : List ℕ → ℕ
first_word [] = 0
first_word (a ∷ []) = 0
first_word (a ∷ b ∷ []) = 0
first_word (a ∷ b ∷ c ∷ []) = 0
first_word (a ∷ b ∷ c ∷ d ∷ bytes) = little_endian a b c d
