-- What becomes of one word of an old job, by its index.
use Rattle.std.specs.Prelude.{ℕ, ◌+◌, Bool, true, false, not, ◌&&◌, List, [], ◌∷◌, eqb, get_or, length}
use Rattle.model.specs.planning.Words.{word}
use Rattle.model.specs.calls.Converter.{converted}
use Rattle.words.specs.ByIndex.{is_kind, payload_at}

-- word i is the velocity of a fixed target that flies
unfoldable pub flying_at : List ℕ → ℕ → Bool
flying_at ws i = is_kind ws i 10 && (not (eqb (payload_at ws i) 0) && not (is_kind ws (i + 1) 11))

-- the words that word i becomes
unfoldable pub piece_by : Bool → ℕ → ℕ → List ℕ
piece_by true asked w = w ∷ word 11 0 ∷ word 12 asked ∷ []
piece_by false asked w = w ∷ []

abbrev pub piece_at : List ℕ → ℕ → ℕ → List ℕ
piece_at ws asked i = piece_by (flying_at ws i) asked (get_or ws i 0)

-- the number of converted words, the same for every asked arrival
abbrev pub needed_for : List ℕ → ℕ
needed_for ws = length (converted 0 ws)
