-- Positions past 28 bits, as one table: the words of an axis at rest where it starts,
-- which arrives at tick 1 (docs/METHOD.md, 6.3). The theorem `long-cases` proves them
-- all, by computing the definitions.
use Rattle.std.specs.Prelude.{ℕ, ◌*◌, ◌-◌, ◌^◌, List, [], ◌∷◌, ◌++◌, pos, negsuc}
use Rattle.model.specs.planning.Outcome.{Input, words}
use Rattle.model.specs.planning.Words.{word}
use Rattle.model.specs.cases.Case.{Case, case, positions, Hold, accepted, refused}

-- one axis, from its words of kinds 3 and 9 and the words after kind 10
abbrev pub rail : ℕ → List ℕ → List ℕ → List ℕ → Input
rail asked start target end =
    words
    (0x10000001 ∷ word 2 asked
    ∷ (start ++ (0x40000000 ∷ 0x5000000A ∷ 0x60000001 ∷ 0x70000000 ∷ 0x80000080 ∷ (target ++ (0xA0000000 ∷ end)))))

abbrev pub two_words : ℕ → ℕ → ℕ → List ℕ
two_words k high low = word 14 high ∷ word k low ∷ []

abbrev pub end_word : List ℕ
end_word = 0xF0000000 ∷ []

-- start and target spelled by two payloads
abbrev pub stay : ℕ → ℕ → Input
stay high low = rail 0 (two_words 3 high low) (two_words 9 high low) end_word

-- the payload of −n
abbrev pub negative : ℕ → ℕ
negative n = 2 ^ 28 - n

abbrev pub long_cases : List Case
long_cases =
    -- the low payload is unsigned: the first position past a single word, on both
    -- sides, and the ends of the range
    case (stay 0 (2 ^ 27)) 6 (positions ∷ []) (accepted 1 1 ((pos (256 * 134217728) ∷ pos (256 * 134217728) ∷ []) ∷ []))
    ∷ case (stay (negative 1) (2 ^ 27 - 1)) 6 (positions ∷ [])
    (accepted 1 1 ((negsuc (256 * 134217729 - 1) ∷ negsuc (256 * 134217729 - 1) ∷ []) ∷ []))
    ∷ case (stay 63 (2 ^ 28 - 1)) 6 (positions ∷ [])
    (accepted 1 1 ((pos (256 * 17179869183) ∷ pos (256 * 17179869183) ∷ []) ∷ []))
    ∷ case (stay (negative 64) 0) 6 (positions ∷ [])
    (accepted 1 1 ((negsuc (256 * 17179869184 - 1) ∷ negsuc (256 * 17179869184 - 1) ∷ []) ∷ []))
    ∷ []

abbrev pub long_refusals : List Case
long_refusals =
    -- 14: a position that fits a single word, a payload outside −64 to 63
    case (stay 0 (2 ^ 27 - 1)) 6 [] (refused 14 2 0 0)
    ∷ case (stay (negative 1) (2 ^ 27)) 6 [] (refused 14 2 0 0)
    ∷ case (stay 64 0) 6 [] (refused 14 2 0 0)
    ∷ case (stay (negative 65) 0) 6 [] (refused 14 2 0 0)
    -- the place is the first wrong word of kind 14, here the target's
    ∷ case (rail 0 (two_words 3 1 0) (two_words 9 64 0) end_word) 6 [] (refused 14 9 0 0)
    -- 14 after all of 2, and before 3
    ∷ case (rail 0 (two_words 3 64 0) (two_words 9 64 0) []) 6 [] (refused 2 12 0 0)
    ∷ case (rail 0 (two_words 3 64 0) (two_words 10 64 0) end_word) 6 [] (refused 2 10 0 0)
    ∷ case (rail 5000 (two_words 3 64 0) (two_words 9 64 0) end_word) 6 [] (refused 14 2 0 0)
    ∷ case (rail 5000 (two_words 3 1 0) (two_words 9 1 0) end_word) 6 [] (refused 3 1 0 0)
    ∷ []

-- each call gives what the method says
abbrev pub LongCasesHold : Type 0
LongCasesHold = Hold long_cases × Hold long_refusals
