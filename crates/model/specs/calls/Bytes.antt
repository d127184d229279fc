-- The job words of a program's input bytes (docs/METHOD.md, section 6): little-endian, and one to
-- three bytes left over are one word of kind 0, which is wrong at every place. Assumes nothing.
use Rattle.std.specs.Prelude.{ℕ, ◌+◌, ◌*◌, List, [], ◌∷◌}

-- the word of four bytes, the lowest first
abbrev pub little_endian : ℕ → ℕ → ℕ → ℕ → ℕ
little_endian a b c d = a + 256 * b + 65536 * c + 16777216 * d

unfoldable pub words_of : List ℕ → List ℕ
words_of [] = []
words_of (a ∷ []) = 0 ∷ []
words_of (a ∷ b ∷ []) = 0 ∷ []
words_of (a ∷ b ∷ c ∷ []) = 0 ∷ []
words_of (a ∷ b ∷ c ∷ d ∷ bytes) = little_endian a b c d ∷ words_of bytes
